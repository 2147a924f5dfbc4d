-- The report: one row more, and that no count is above the number of rows.
use mathlib.Core.Path.{◌≡◌}
use mathlib.Core.Bool.{Bool, true, false, cond}
use mathlib.Core.List.{List, [], ◌∷◌}
use Prim.Native.Nat.{ℕ, ◌+◌, ◌≤◌}
use native.Mathlib.Nat.{add_assoc, zero-add, add-zero}
use native.Mathlib.Omega.{arith}
use lib.Dec.{eqb}
use lib.ListN.{length}
use Rattle.basics.specs.Sums.{sum_over}
use Rattle.night_rows.specs.declared.Report.{Report}
use Rattle.night_rows.specs.declared.Row.{Row}
use Rattle.night_rows.specs.Report.{one_of, under, report_of, with_row}

-- ---- one row more

-- two reports as one
abbrev pub together : Report → Report → Report
together a b =
    record {
      accepted = a.accepted + b.accepted;
      text = a.text + b.text;
      ways = a.ways + b.ways;
      limit = a.limit + b.limit;
      tracked = a.tracked + b.tracked;
      accesses = a.accesses + b.accesses;
      graph = a.graph + b.graph;
      aside = a.aside + b.aside;
    }

-- of no rows
abbrev pub nothing : Report
nothing = record { accepted = 0; text = 0; ways = 0; limit = 0; tracked = 0; accesses = 0; graph = 0; aside = 0 }

pub together_none : (a : Report) → together a (report_of []) ≡ a
unfolding report_of
together_none a =
    (λ i. record {
      accepted = add-zero a.accepted i;
      text = add-zero a.text i;
      ways = add-zero a.ways i;
      limit = add-zero a.limit i;
      tracked = add-zero a.tracked i;
      accesses = add-zero a.accesses i;
      graph = add-zero a.graph i;
      aside = add-zero a.aside i;
    })

pub none_together : (a : Report) → together nothing a ≡ a
none_together a =
    (λ i. record {
      accepted = zero-add a.accepted i;
      text = zero-add a.text i;
      ways = zero-add a.ways i;
      limit = zero-add a.limit i;
      tracked = zero-add a.tracked i;
      accesses = zero-add a.accesses i;
      graph = zero-add a.graph i;
      aside = zero-add a.aside i;
    })

pub together_row : (a : Report) (r : Row) (rs : List Row) → together (with_row a r) (report_of rs) ≡ together a (report_of (r ∷ rs))
unfolding report_of with_row
together_row a r rs =
    (λ i. record {
      accepted = add_assoc a.accepted (one_of 0 r) (under 0 rs) i;
      text = add_assoc a.text (one_of 9 r) (under 9 rs) i;
      ways = add_assoc a.ways (one_of 1 r) (under 1 rs) i;
      limit = add_assoc a.limit (one_of 2 r) (under 2 rs) i;
      tracked = add_assoc a.tracked (one_of 3 r) (under 3 rs) i;
      accesses = add_assoc a.accesses (one_of 4 r) (under 4 rs) i;
      graph = add_assoc a.graph (one_of 5 r) (under 5 rs) i;
      aside = add_assoc a.aside r.aside (sum_over (λ q. q.aside) rs) i;
    })

-- ---- how large the numbers are

one_most : (b : Bool) → cond b 1 0 ≤ 1
one_most true = omega arith
one_most false = omega arith

pub under_most : (k : ℕ) (rs : List Row) → under k rs ≤ length rs
under_most k [] = omega arith
under_most k (r ∷ rs) = omega (arith, under_most k rs, one_most (eqb r.refusal k))
