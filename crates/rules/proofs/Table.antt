-- States added to a table: the laws of every kind of table (Listings), for document 01's states. Its weights go with the contents, the misses and the
-- filled numbers of a state: with the weight 1 the worth of a table is its total, with others it is what a promise is about.
use mathlib.Core.Path.{◌≡◌, refl}
use mathlib.Core.Logic.{◌≢◌}
use mathlib.Core.Bool.{true}
use mathlib.Core.List.{List, ◌++◌}
use Prim.Native.Nat.{ℕ, ◌+◌, ◌≤◌}
use lib.ListN.{length}
use Rattle.rules.specs.Units.{whole}
use Rattle.rules.specs.Filling.{Filled}
use Rattle.rules.specs.Table.{State, units_of, order, rising, listing, plus, present, add, total}
use Rattle.rules.specs.Shape.{Every}
use Rattle.rules.proofs.Ordered.{InOrder, in_order_rises, rises_in_order, order_same, states_sort}
use Rattle.rules.proofs.Listings.{Lawful, Weight as WeightAny, worth_of as worth_of_any, worth as worth_any, length_present as length_present_any, length_present_append as length_present_append_any, length_add as length_add_any, length_add_all as length_add_all_any, every_add as every_add_any, add_append as add_append_any, rising_add as rising_add_any, worth_total as worth_total_any, worth_add as worth_add_any, total_add as total_add_any}

pub states_lawful : Lawful listing
unfolding order
states_lawful =
    record {
      counts = λ s u. refl;
      empty = refl;
      onward = states_sort.onward;
      turned = states_sort.turned;
      left = λ s u t. refl;
      right = λ t s u. refl;
    }

-- ---- states of 0 units vanish

pub length_present : (S : List State) → length (present S) ≤ length S
length_present S = length_present_any listing S

pub length_present_append : (S T : List State) → length (present (S ++ T)) ≡ length (present S) + length (present T)
length_present_append S T = length_present_append_any listing S T

-- ---- adding

abbrev pub Rising : List State → Type 0
Rising T = InOrder order T

pub rising_is : (T : List State) → Rising T → rising T ≡ true
rising_is T h = in_order_rises order T h

pub rising_so : (T : List State) → rising T ≡ true → Rising T
rising_so T h = rises_in_order order states_sort.onward T h

pub rising_add : (S T : List State) → Rising T → Rising (add S T)
rising_add S T h = rising_add_any listing states_lawful S T h

pub length_add : (S T : List State) → length (add S T) ≤ length (present S) + length T
length_add S T = length_add_any listing S T

pub length_add_all : (S T : List State) → length (add S T) ≤ length S + length T
length_add_all S T = length_add_all_any listing S T

pub every_add : (P : State → Type 0) → ((t s : State) → P t → P (plus t s)) → (S T : List State)
    → Every (λ s. units_of s ≢ 0 → P s) S → Every P T → Every P (add S T)
every_add P lasts S T h a = every_add_any listing P lasts S T h a

-- one list after the other
pub add_append : (S S' T : List State) → add (S ++ S') T ≡ add S' (add S T)
add_append S S' T = add_append_any listing S S' T

-- ---- worth

-- a weight: of contents, misses and filled numbers
abbrev pub Weight : Type 0
Weight = ℕ → ℕ → Filled → ℕ

-- of a state
abbrev pub weight_of : Weight → State → ℕ
weight_of f s = f s.mask s.misses s.filled

pub weigh_weight : (f : Weight) → WeightAny listing (weight_of f)
weigh_weight f = record { blind = λ s u. refl; alike = λ s t e. let (p, q, r) = order_same s t e in rw (p, q, r) }

abbrev pub worth_of : Weight → State → ℕ
worth_of f s = worth_of_any listing (weight_of f) s

abbrev pub worth : Weight → List State → ℕ
worth f T = worth_any listing (weight_of f) T

-- the weight 1 gives the total
abbrev pub one : Weight
one C m F = 1

pub worth_total : (T : List State) → worth one T ≡ total T
worth_total T = worth_total_any listing T

-- where there are no more units than WHOLE, no sum stops
pub worth_add : (f : Weight) (S T : List State) → total S + total T ≤ whole → worth f (add S T) ≡ worth f S + worth f T
worth_add f S T h = worth_add_any listing states_lawful (weight_of f) (weigh_weight f) S T h

pub total_add : (S T : List State) → total S + total T ≤ whole → total (add S T) ≡ total S + total T
total_add S T h = total_add_any listing states_lawful S T h
