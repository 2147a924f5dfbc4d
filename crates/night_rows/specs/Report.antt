-- The report: graphs accepted, graphs refused under each number, and the sum of the set-aside counts, which does not stop at WHOLE.
use Rattle.std.specs.Prelude.{cond, List, ℕ, ◌+◌, eqb}
use Rattle.basics.specs.Sums.{sum_over}
use Rattle.night_rows.specs.declared.Report.{Report}
use Rattle.night_rows.specs.declared.Row.{Row}

-- 1 for a row with the number k, 0 for any other
abbrev pub one_of : ℕ → Row → ℕ
one_of k r = cond (eqb r.refusal k) 1 0

-- the rows with the number k
abbrev pub under : ℕ → List Row → ℕ
under k rows = sum_over (one_of k) rows

-- of all rows
unfoldable pub report_of : List Row → Report
report_of rows =
    record {
      accepted = under 0 rows;
      text = under 9 rows;
      ways = under 1 rows;
      limit = under 2 rows;
      tracked = under 3 rows;
      accesses = under 4 rows;
      graph = under 5 rows;
      aside = sum_over (λ r. r.aside) rows;
    }

-- ---- for the pass over the graphs

-- a report with one row more
unfoldable pub with_row : Report → Row → Report
with_row a r =
    record {
      accepted = a.accepted + one_of 0 r;
      text = a.text + one_of 9 r;
      ways = a.ways + one_of 1 r;
      limit = a.limit + one_of 2 r;
      tracked = a.tracked + one_of 3 r;
      accesses = a.accesses + one_of 4 r;
      graph = a.graph + one_of 5 r;
      aside = a.aside + r.aside;
    }
