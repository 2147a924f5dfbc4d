-- `build_all` meets its contract: the rows are written and reported on, zeros are put behind them, and the working room is cleared.
use mathlib.Core.Path.{ap, ◌∙◌}
use Prim.Native.Nat.{ℕ}
use native.Mathlib.Omega.{arith}
use borrow.Author.Rules.{rules}
use lib.ListN.{replicate}
use Rattle.nightly.proofs.Calls.{built}
use Rattle.nightly.proofs.build_all.Goals as goal

pub work_graphs-report-requires : goal.work_graphs-report-requires
work_graphs-report-requires c =
    (c.requires.0, omega (arith, c.requires.1, c.requires.2), search rules, c.requires.3)

pub returns : goal.returns
returns c =
    built c.args.numbers.now c.args.allowance c.args.rows.now c.args.work.now _ c.requires.1 _ c.work_graphs-report.new.rows _ _
    c.work_graphs-report.ensures.value
    c.work_graphs-report.auto.rows
    c.work_graphs-report.ensures.rows_after
    (c.fill.ensures.after (λ y p. p))
    ((c.fill-2.ensures.after (λ y p. p)) ∙ ap (λ (n : ℕ). replicate n 0) c.work_graphs-report.auto.work)
