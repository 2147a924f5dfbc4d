-- Whether what two states become in a fold is a third state of the table. It has the shared blocks of both, so that it would share as many with the
-- state of fewest units as the partner does, and it is no further away in misses: as it is not the partner, it stands behind it, and then it has the
-- partner's mask and misses (`third_alike`). Where the filled numbers are the same too there is none (`no_third`). So where all states have the same filled
-- numbers, as in every table of the first revision, each fold takes away exactly one state (`fold_one`), and folds of n states end at n or K, whichever is less
-- (`folded_length`). In the second revision there may be a third state: with two sets,
-- of three states without blocks and with 1 miss, filled (0,1), (1,0) and (1,1), the second one having the fewest units, the first is its partner and the
-- third is what the two become (`a_third`).
use mathlib.Core.Path.{◌≡◌, refl, sym, ap, ◌∙◌}
use mathlib.Core.Logic.{◌≢◌, ◌⊎◌, inl, inr}
use mathlib.Core.Bool.{Bool, true, false, true≢false}
use mathlib.Core.List.{List, [], ◌∷◌}
use Prim.Native.Nat.{ℕ, zero, suc, ◌^◌, ◌≤◌, ◌<◌, max, min, suc-le-suc}
use native.Mathlib.Nat.{le_antisymm, le_refl, not-suc-le-zero, le_of_suc-le-suc, pos_of_ne-zero}
use native.Mathlib.Decide.{dec_lt}
use native.Mathlib.Omega.{arith}
use lib.Bits.{and_le_r}
use lib.Dec.{leb}
use lib.ListN.{length, get_or}
use borrow.Author.Tests.{le-ltb, eq-eqb, ne_eqb, ltb-false, leb-true, leb-false}
use Rattle.rules.specs.Contents.{places, bit, held_below, held, size, shared}
use Rattle.rules.specs.Ordered.{Order, before, same, after, is_before, inserted, insert, insert_all, remove, best}
use Rattle.rules.specs.Table.{State, state, units_of, order, plus, listing, no_state, state_at, Work}
use Rattle.rules.specs.Fold.{fewer, sharing, apart, closer, meet, fold, folds_of, folded, states}
use Rattle.rules.specs.AnyTable.{add as add_any, choice as choice_any, fold_at as fold_at_any, fold as fold_any, folded as folded_any}
use Rattle.rules.specs.Shape.{Every, Present}
use Rattle.rules.specs.Units.{more}
use Rattle.rules.specs.Filling.{Filled, bytes_of, word_from, numbers_of, filled_from, of_sets, fullest}
use Rattle.rules.proofs.Bits.{bit_and_lem}
use Rattle.rules.proofs.Contents.{size_sub, sub_shared_left, sub_shared_right}
use Rattle.rules.proofs.Lists.{every_remove, length_remove, best_lt}
use Rattle.rules.proofs.Listings.{every_add, shaped_plus}
use Rattle.rules.proofs.Filling.{fullest_same}
use Rattle.rules.proofs.Ordered.{in_order_remove, turned, state_orders, order_same}
use Rattle.rules.proofs.Table.{states_lawful, Rising}
use Rattle.rules.proofs.AnyTable.{rising_fold}
use Rattle.rules.proofs.Partners.{Best, past, past_other, past_within, others_at, partner_found, in_order_at, before_says}

-- what the two share, s shares with it too
shares_again : (C D : ℕ) → size (shared C (shared C D)) ≡ size (shared C D)
unfolding shared
shares_again C D =
    le_antisymm (size_sub (shared C (shared C D)) (shared C D) (sub_shared_right C (shared C D)))
    (size_sub (shared C D) (shared C (shared C D)) within)
  where
    within : (i : ℕ) → bit (shared C D) i ≡ true → bit (shared C (shared C D)) i ≡ true
    within i h = bit_and_lem i C (shared C D) ∙ rw (sub_shared_left C D i h, h)

-- R are the others than s, its partner is the one at place k, and the one at place x is what s and the partner become
module _ (s : State) (R : List State) (k x u : ℕ) (rises : Rising R) (b : Best (closer s) no_state R k) (l : x < length R) (other : x ≢ k)
    (third : order (meet s (state_at R k) u) (state_at R x) ≡ same) where
  abbrev t : State
  t = state_at R k

  abbrev made : State
  made = state_at R x

  made_mask : made.mask ≡ shared s.mask t.mask
  made_mask = sym (order_same (meet s t u) made third).0

  made_misses : made.misses ≡ max s.misses t.misses
  made_misses = sym (order_same (meet s t u) made third).1

  as_many : sharing s made ≡ sharing s t
  as_many = rw made_mask (shares_again s.mask t.mask)

  no_further : apart s made ≤ apart s t
  no_further = rw made_misses (omega arith)

  third_alike : (made.mask ≡ t.mask) × (made.misses ≡ t.misses)
  unfolding shared
  third_alike = go (dec_lt x k)
    where
      go : Dec (x < k) → (made.mask ≡ t.mask) × (made.misses ≡ t.misses)
      go (yes q) =
          absurd
          (true≢false
          (sym (b.ahead x q) ∙ rw (as_many, le-ltb (sharing s t) (sharing s t) (omega arith), eq-eqb (sharing s t) (sharing s t) refl, le-ltb (apart s t) (apart s made) no_further)))
      go (no q) = (same_mask (before_says t made (in_order_at order no_state R rises k x later l)), same_misses)
        where
          later : k < x
          later = omega (arith, q, other)

          as_near : apart s t ≤ apart s made
          as_near =
              ltb-false (apart s made) (apart s t)
              (sym (rw (as_many, le-ltb (sharing s t) (sharing s t) (omega arith), eq-eqb (sharing s t) (sharing s t) refl)) ∙ b.behind x later l)

          same_misses : made.misses ≡ t.misses
          same_misses = omega (arith, as_near, made_misses)

          same_mask : (t.mask < made.mask) ⊎ ((t.mask ≡ made.mask) × (t.misses ≤ made.misses)) → made.mask ≡ t.mask
          same_mask (inl d) = absurd (omega (arith, d, made_mask, and_le_r s.mask t.mask))
          same_mask (inr d) = sym d.0

  -- with the same filled numbers it would be the partner itself
  no_third : made.filled ≡ t.filled → ⊥
  unfolding order
  no_third e = go (dec_lt x k)
    where
      itself : order t t ≡ before → ⊥
      itself h = true≢false (ap is_before (sym h ∙ state_orders.turn t t ∙ ap turned h))

      go : Dec (x < k) → ⊥
      go (yes q) = itself (rw (third_alike.0, third_alike.1, e) at (in_order_at order no_state R rises x k q b.within))
      go (no q) = itself (rw (third_alike.0, third_alike.1, e) at (in_order_at order no_state R rises k x (omega (arith, q, other)) l))

-- ---- the same filled numbers

-- one that stands in no other's place comes in beside them
module _ {A : Type 0} (o : A → A → Order) (plus : A → A → A) (z : A) where
  length_new : (s : A) (T : List A) → ((x : ℕ) → x < length T → o s (get_or T x z) ≢ same) → length (insert o plus s T) ≡ suc (length T)
  unfolding insert
  length_new s [] h = refl
  length_new s (t ∷ T) h = go (o s t) refl (length_new s T (λ x l. h (suc x) (suc-le-suc l)))
    where
      go : (p : Order) → o s t ≡ p → length (insert o plus s T) ≡ suc (length T) → length (inserted o plus p s t T (insert o plus s T)) ≡ suc (suc (length T))
      go before e d = refl
      go same e d = absurd (h 0 (omega arith) e)
      go after e d = ap suc d

module _ {A : Type 0} (P : A → Type 0) (z : A) where
  every_within : (i : ℕ) (T : List A) → i < length T → Every P T → P (get_or T i z)
  every_within i [] l h = absurd (not-suc-le-zero l)
  every_within zero (t ∷ T) l h = h.0
  every_within (suc i) (t ∷ T) l h = every_within i T (le_of_suc-le-suc l) h.1

-- the filled numbers are F, two words
module _ (F : Filled) (front : F.front < 256 ^ 8) (back : F.back < 256 ^ 8) where
  abbrev Filling : State → Type 0
  Filling s = s.filled ≡ F

  -- a table in which all states have them, each with at least 1 unit
  pub record Even (T : List State) : Type 0 where
    pub rises : Rising T
    pub each : Every (Present listing Filling) T

  module _ (w : Work) (even : Even w.table) (many : 1 < length w.table) where
    abbrev i : ℕ
    i = best fewer w.table

    abbrev small : State
    small = state_at w.table i

    abbrev others : List State
    others = remove i w.table

    abbrev k : ℕ
    k = best (closer small) others

    abbrev partner : State
    partner = state_at others k

    abbrev become : State
    become = meet small partner (more (units_of small) (units_of partner))

    within : i < length w.table
    within = best_lt fewer w.table (omega arith)

    fewer_by_one : suc (length others) ≡ length w.table
    fewer_by_one = length_remove i w.table within

    within_others : k < length others
    within_others = best_lt (closer small) others (omega (arith, fewer_by_one))

    each_other : Every (Present listing Filling) others
    each_other = every_remove (Present listing Filling) i w.table even.each

    first : Present listing Filling small
    first = every_within (Present listing Filling) no_state i w.table within even.each

    second : Present listing Filling partner
    second = every_within (Present listing Filling) no_state k others within_others each_other

    some : units_of become ≢ 0
    unfolding more
    some e = absurd (omega (arith, e, first.1))

    folded_so : (fold w).table ≡ insert order plus become (remove k others)
    unfolding fold_any fold_at_any choice_any add_any insert_all
    folded_so = rw (ne_eqb (units_of become) 0 some)

    alone : (x : ℕ) → x < length (remove k others) → order become (state_at (remove k others) x) ≢ same
    alone x l e =
        no_third small others k (past k x) (more (units_of small) (units_of partner)) (in_order_remove order i w.table even.rises)
        (partner_found small others (omega (arith, within_others))) there (past_other k x) (rw (← others_at no_state k x others) e)
        ((every_within (Present listing Filling) no_state (past k x) others there each_other).0 ∙ sym second.0)
      where
        there : past k x < length others
        there = past_within k x (length others) (omega (arith, l, length_remove k others within_others))

    -- each fold takes away exactly one state
    pub fold_one : suc (length (fold w).table) ≡ length w.table
    fold_one =
        ap suc (ap length folded_so ∙ length_new order plus no_state become (remove k others) alone)
        ∙ ap suc (length_remove k others within_others)
        ∙ fewer_by_one

    fold_even : Even (fold w).table
    unfolding fold_any fold_at_any choice_any
    fold_even =
        record {
          rises = rising_fold states states_lawful (record { fewest = i; partner = k }) w even.rises;
          each =
              every_add listing (Present listing Filling) (shaped_plus listing states_lawful Filling (λ x u h. h)) (become ∷ []) (remove k others)
              ((λ n. (fills, pos_of_ne-zero n)), tt)
              (every_remove (Present listing Filling) k others each_other);
        }
      where
        fills : fullest small.filled partner.filled ≡ F
        fills =
            rw (first.0, second.0)
            (sym (fullest_same F F front back (rw (eq-eqb F.front F.front refl, eq-eqb F.back F.back refl))))

  -- folds of n states end at n or K, whichever is less
  length_folds : (n K : ℕ) (w : Work) → 0 < K → Even w.table → length w.table ≤ n
      → length (folds_of n (leb (length w.table) K) K w).table ≡ min (length w.table) K
  length_folds zero K w h e l = omega arith
  length_folds (suc n) K w h e l = go (leb (length w.table) K) refl (length_folds n K (fold w) h)
    where
      go : (b : Bool) → leb (length w.table) K ≡ b
          → (Even (fold w).table → length (fold w).table ≤ n
          → length (folds_of n (leb (length (fold w).table) K) K (fold w)).table ≡ min (length (fold w).table) K)
          → length (folds_of (suc n) b K w).table ≡ min (length w.table) K
      go true d ih = omega (arith, leb-true (length w.table) K d)
      go false d ih =
          let many : K < length w.table = leb-false (length w.table) K d in
          let one = fold_one w e (omega arith) in
          ih (fold_even w e (omega arith)) (omega (arith, one)) ∙ omega (arith, one)

  pub folded_length : (K : ℕ) (w : Work) → 0 < K → Even w.table → length (folded K w).table ≡ min (length w.table) K
  unfolding folded_any
  folded_length K w h e = length_folds (length w.table) K w h e (le_refl _)

-- the second revision, two sets: three states become one
pub a_third : fold (record { table = state 0 1 (of_sets (0 ∷ 1 ∷ [])) 2 ∷ state 0 1 (of_sets (1 ∷ 0 ∷ [])) 1 ∷ state 0 1 (of_sets (1 ∷ 1 ∷ [])) 2 ∷ []; aside = 0 })
    ≡ record { table = state 0 1 (of_sets (1 ∷ 1 ∷ [])) 5 ∷ []; aside = 3 }
unfolding more places bit shared held_below held size bytes_of word_from numbers_of filled_from of_sets fullest insert insert_all remove best order add_any choice_any fold_at_any fold_any
a_third = refl
