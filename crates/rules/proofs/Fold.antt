-- A fold, of any two places, of document 01's states: the laws of every kind of table (AnyTable), what it sets aside, and the shape of what two states
-- become. Document 01's choice of places makes the table shorter, so that folds end at K states.
use mathlib.Core.Path.{◌≡◌, refl}
use mathlib.Core.List.{List}
use Prim.Native.Nat.{ℕ, ◌+◌, ◌*◌, ◌≤◌, ◌<◌, zero-le}
use native.Mathlib.Nat.{le_trans, max-le}
use lib.ListN.{length}
use lib.Pow.{pow_pos}
use Rattle.rules.specs.declared.Pair.{Pair}
use Rattle.rules.specs.AnyTable.{fold_at as fold_at_of}
use Rattle.rules.specs.Table.{State, no_state, units_of, initial, listing, total, state_at, Work}
use Rattle.rules.specs.Units.{whole, more}
use Rattle.rules.specs.Fold.{states, meet, changed, fold_at, folded}
use Rattle.rules.specs.Shape.{Every, Loose, Shaped}
use Rattle.rules.specs.Filling.{Filled, filled_at}
use Rattle.rules.proofs.Splitting.{more_most}
use Rattle.rules.proofs.Lists.{every_at, every_weaker}
use Rattle.rules.proofs.Contents.{shared_lt}
use Rattle.rules.proofs.Sets.{room_zero, room_shared}
use Rattle.rules.proofs.Filling.{none_at}
use Rattle.rules.proofs.Table.{states_lawful, weigh_weight, Rising, Weight, weight_of, worth_of, worth}
use Rattle.rules.proofs.AnyTable.{Keeps, Starts, shaped_fold as shaped_fold_any, first_of as first_of_any, second_of as second_of_any, others_of as others_of_any, meet_of as meet_of_any, fold_before as fold_before_any, fold_after as fold_after_any, fold_total as fold_total_any, folded_keeps as folded_keeps_any, folded_total as folded_total_any, rising_folded as rising_folded_any, length_folded as length_folded_any}

-- ---- the parts of a fold

module _ (p : Pair) (T : List State) where
  -- the two states, the others, and what the two become
  abbrev pub first_of : State
  first_of = first_of_any states p T

  abbrev pub second_of : State
  second_of = second_of_any states p T

  abbrev pub others_of : List State
  others_of = others_of_any states p T

  abbrev pub meet_of : State
  meet_of = meet_of_any states p T

  -- before: both states and the others
  pub fold_before : (f : Weight) → worth_of f first_of + (worth_of f second_of + worth f others_of) ≡ worth f T
  fold_before f = fold_before_any states states_lawful p T (weight_of f)

  -- after: the units of both, at what they become, and the others
  pub fold_after : total T ≤ whole → (f : Weight) (a : ℕ)
      → worth f (fold_at p (record { table = T; aside = a })).table
      ≡ (units_of first_of + units_of second_of) * weight_of f meet_of + worth f others_of
  fold_after h f a = fold_after_any states states_lawful p T h (weight_of f) (weigh_weight f) a

  -- what it sets aside
  abbrev pub aside_of : ℕ
  aside_of = changed first_of meet_of + changed second_of meet_of

  pub fold_aside : (a : ℕ) → (fold_at p (record { table = T; aside = a })).aside ≡ more a aside_of
  unfolding fold_at_of
  fold_aside a = refl

pub fold_total : (p : Pair) (w : Work) → total w.table ≤ whole → total (fold_at p w).table ≡ total w.table
fold_total p w h = fold_total_any states states_lawful p w h

-- ---- its shape

module _ (N Z : ℕ) (ts : List ℕ) (M : ℕ) where
  pub loose_none : Loose N Z ts M no_state
  loose_none = record { masked = pow_pos (length ts); few = zero-le; small = room_zero N Z ts no_state.filled (λ j. rw (none_at j) zero-le) }

  pub loose_meet : (s t : State) (u : ℕ) → Loose N Z ts M s → Loose N Z ts M t → Loose N Z ts M (meet s t u)
  loose_meet s t u p q =
      record {
        masked = shared_lt (length ts) s.mask t.mask p.masked;
        few = max-le p.few q.few;
        small = room_shared N Z ts s.mask t.mask s.filled t.filled p.small q.small;
      }

  -- the state at a place, or none
  pub loose_at : (i : ℕ) (T : List State) → Every (Shaped N Z ts M) T → Loose N Z ts M (state_at T i)
  loose_at i T h = every_at (Loose N Z ts M) no_state loose_none i T (every_weaker (Shaped N Z ts M) (Loose N Z ts M) (λ s p. p.0) T h)

-- ---- folds

-- what a fold of any two places keeps, they keep
pub folded_keeps : (Q : Work → Type 0) → ((p : Pair) (w : Work) → Q w → Q (fold_at p w)) → (K : ℕ) (w : Work) → Q w → Q (folded K w)
folded_keeps Q keep K w h = folded_keeps_any states Q keep K w h

pub folded_total : (K : ℕ) (w : Work) → total w.table ≤ whole → total (folded K w).table ≡ total w.table
folded_total K w h = folded_total_any states states_lawful K w h

-- the count stays one that has not passed WHOLE
pub folded_aside : (K : ℕ) (w : Work) → w.aside ≤ whole → (folded K w).aside ≤ whole
folded_aside K w h = folded_keeps (λ v. v.aside ≤ whole) (λ p v l. rw (fold_aside p v.table v.aside) (more_most _ _)) K w h

pub rising_folded : (K : ℕ) (w : Work) → Rising w.table → Rising (folded K w).table
rising_folded K w h = rising_folded_any states states_lawful K w h

-- ---- to K states

pub length_folded : (K : ℕ) (w : Work) → 0 < K → length (folded K w).table ≤ K
length_folded K w h = length_folded_any states K w h

-- ---- each state in shape

module _ (N Z : ℕ) (ts : List ℕ) where
  pub states_keep : Keeps states (Loose N Z ts)
  states_keep =
      record {
        laws = states_lawful;
        wider = λ M L s l h. record { masked = h.masked; few = le_trans h.few l; small = h.small };
        blind = λ M s u h. record { masked = h.masked; few = h.few; small = h.small };
        none = loose_none N Z ts;
        folds = λ M s t p q. loose_meet N Z ts M s t 0 p q;
        joins = λ M s t p q. loose_meet N Z ts M s t 0 p q;
      }

  -- a start where F may be filled
  pub states_start : (F : Filled) → ((j : ℕ) → filled_at F j ≤ N) → Starts listing (Loose N Z ts) (initial F)
  states_start F most = record { shape = record { masked = pow_pos (length ts); few = zero-le; small = room_zero N Z ts F most }; all = refl }

  pub shaped_fold : (M : ℕ) (p : Pair) (w : Work) → Every (Shaped N Z ts M) w.table → Every (Shaped N Z ts M) (fold_at p w).table
  shaped_fold M p w h = shaped_fold_any states_keep M p w h
