-- A join by any pairing that uses each state's units exactly, and document 01's walk from the front, which is such a pairing, of any two tables of equal
-- totals: the laws of every kind of table (Pairings, AnyTable), for document 01's states.
use mathlib.Core.Path.{◌≡◌}
use mathlib.Core.List.{List}
use Prim.Native.Nat.{ℕ, ◌+◌, ◌*◌, ◌≤◌}
use lib.ListN.{length}
use Rattle.basics.specs.Sums.{sum_over}
use Rattle.rules.specs.Units.{whole}
use Rattle.rules.specs.Table.{State, listing, total, state_at}
use Rattle.rules.specs.Fold.{states}
use Rattle.rules.specs.Join.{Match, matched, paired, from_front, join}
use Rattle.rules.specs.Shape.{Every, Shaped}
use Rattle.rules.proofs.Fold.{states_keep}
use Rattle.rules.proofs.Table.{states_lawful, weigh_weight, Rising, Weight, weight_of, worth_of, worth}
use Rattle.rules.proofs.Pairings.{Uses as UsesOf, matched_worth as matched_worth_any, front_uses as front_uses_any}
use Rattle.rules.proofs.AnyTable.{paired_worth as paired_worth_any, join_total as join_total_any, rising_join as rising_join_any, length_join as length_join_any, shaped_join as shaped_join_any}

-- every place exists, and each state's units are used exactly
abbrev pub Uses : (Match → ℕ) → List Match → List State → Type 0
Uses side P T = UsesOf listing side P T

-- a table is worth what its matched units are
pub matched_worth : (side : Match → ℕ) (P : List Match) (T : List State) → Uses side P T → (f : Weight)
    → worth f T ≡ sum_over (λ m. m.units * weight_of f (state_at T (side m))) P
matched_worth side P T u f = matched_worth_any listing side P T u (weight_of f)

module _ (P : List Match) (S T : List State) (uses : Uses (λ m. m.left) P S) (full : total S ≤ whole) where
  pub paired_worth : (f : Weight) → worth f (paired P S T) ≡ sum_over (λ m. worth_of f (matched S T m)) P
  paired_worth f = paired_worth_any states states_lawful P S T uses full (weight_of f) (weigh_weight f)

-- document 01's pairing uses the units of both tables exactly
pub front_uses : (S T : List State) → total S ≡ total T → Uses (λ m. m.left) (from_front S T) S × Uses (λ m. m.right) (from_front S T) T
front_uses S T e = front_uses_any listing states_lawful S T e

-- ---- the join

pub join_total : (S T : List State) → total S ≡ total T → total S ≤ whole → total (join S T) ≡ total S
join_total S T e full = join_total_any states states_lawful S T e full

pub rising_join : (S T : List State) → Rising (join S T)
rising_join S T = rising_join_any states states_lawful S T

pub length_join : (S T : List State) → length (join S T) ≤ length S + length T
length_join S T = length_join_any states S T

pub shaped_join : (N Z : ℕ) (ts : List ℕ) (M : ℕ) (S T : List State) → Every (Shaped N Z ts M) S → Every (Shaped N Z ts M) T → Every (Shaped N Z ts M) (join S T)
shaped_join N Z ts M S T a b = shaped_join_any (states_keep N Z ts) M S T a b
