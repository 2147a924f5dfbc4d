-- `tally` meets its contract: each count goes on by itself.
use Prim.Native.Nat.{◌+◌}
use Rattle.night_rows.specs.Report.{with_row}
use Rattle.nightly.proofs.counts.tally.Goals as goal

pub returns : goal.returns
unfolding with_row
returns c =
    (λ i. record {
      accepted = c.one_more.ensures i;
      text = c.one_more-2.ensures i;
      ways = c.one_more-3.ensures i;
      limit = c.one_more-4.ensures i;
      tracked = c.one_more-5.ensures i;
      accesses = c.one_more-6.ensures i;
      graph = c.one_more-7.ensures i;
      aside = c.args.report.aside + c.args.row.aside;
    })
