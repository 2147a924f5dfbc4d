-- How large the numbers of the report are: no count is above 256 and no sum above 256 × WHOLE, since no graph sets more than WHOLE aside.
use mathlib.Core.Path.{◌≡◌, ap}
use mathlib.Core.List.{List, [], ◌∷◌, map}
use Prim.Native.Nat.{ℕ, ◌+◌, ◌*◌, ◌≤◌}
use native.Mathlib.Omega.{arith}
use lib.ListN.{length, length-map}
use Rattle.basics.specs.Sums.{sum_over}
use Rattle.rules.specs.Units.{whole}
use Rattle.night_rows.specs.declared.Report.{Report}
use Rattle.night_rows.specs.Report.{under, report_of}
use Rattle.night_rows.proofs.Reporting.{together, under_most}
use Rattle.nightly.specs.Rows.{row_of}
use Rattle.nightly.proofs.OneRow.{aside_most}

pub sum_most : (u : ℕ) (gs : List (List ℕ)) → sum_over (λ r. r.aside) (map (row_of u) gs) ≤ length gs * whole
sum_most u [] = omega arith
sum_most u (g ∷ gs) = omega (arith, aside_most u g, sum_most u gs)

module _ (u : ℕ) (gs : List (List ℕ)) (few : length gs ≤ 256) (a b : Report) (all : together a b ≡ report_of (map (row_of u) gs)) where
  most : (k : ℕ) → under k (map (row_of u) gs) ≤ 256
  most k = omega (arith, under_most k (map (row_of u) gs), length-map gs (row_of u), few)

  pub counts_small : (a.accepted ≤ 256) × (a.text ≤ 256) × (a.ways ≤ 256) × (a.limit ≤ 256) × (a.tracked ≤ 256) × (a.accesses ≤ 256) × (a.graph ≤ 256)
  unfolding report_of
  counts_small = (
    omega (arith, most 0, ap (λ (q : Report). q.accepted) all),
    omega (arith, most 9, ap (λ (q : Report). q.text) all),
    omega (arith, most 1, ap (λ (q : Report). q.ways) all),
    omega (arith, most 2, ap (λ (q : Report). q.limit) all),
    omega (arith, most 3, ap (λ (q : Report). q.tracked) all),
    omega (arith, most 4, ap (λ (q : Report). q.accesses) all),
    omega (arith, most 5, ap (λ (q : Report). q.graph) all),
  )

  pub aside_small : a.aside + b.aside ≤ 72057594037927936
  unfolding report_of
  aside_small = omega (arith, sum_most u gs, few, ap (λ (q : Report). q.aside) all)
