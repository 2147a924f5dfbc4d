-- Folding a table: how a search finds the best state place by place, and so the state of fewest units; how the states move down where one is taken out; and that one
-- fold after the other comes to the state limit. Tables are the first n states of a list, of any kind.
use mathlib.Core.Path.{◌≡◌, refl, sym, ap, ◌∙◌}
use mathlib.Core.Bool.{Bool, true, false, cond}
use mathlib.Core.List.{List, [], ◌∷◌}
use Prim.Native.Nat.{ℕ, zero, suc, ◌+◌, ◌-◌, ◌≤◌, ◌<◌}
use native.Mathlib.Nat.{le_of_suc-le-suc, le_refl}
use native.Mathlib.Numerals.{add-one}
use native.Mathlib.Omega.{arith}
use lib.Dec.{ltb, leb}
use lib.ListN.{length, set, take, drop}
use lib.Seq.{take-nil, take-suc, drop-cons, get_or-take, get_or-drop, length-take-le, take-suc-set, drop-set-lt, drop-drop, drop-length}
use borrow.Author.Tests.{lt-ltb, le-ltb, le-leb, lt-leb, leb-false}
use Rattle.rules.specs.declared.Pair.{Pair}
use Rattle.rules.specs.Ordered.{remove, best, best_from, rises}
use Rattle.rules.specs.AnyTable.{Listing, Kind, Work, at, fewer, choice, fold, folds_of, folded}
use Rattle.rules.proofs.Lists.{length_remove, best_lt}
use Rattle.rules.proofs.Ordered.{in_order_rises, rises_in_order}
use Rattle.rules.proofs.Listings.{Lawful}
use Rattle.rules.proofs.Partners.{others_behind}
use Rattle.rules.proofs.AnyTable.{fold_shorter, rising_fold}
use Rattle.tables.specs.Rooms.{Stands}

-- the place of the one at place j among the others than the one at place i; with another behind it, that is a place of the table
pub other_within : (i j p n : ℕ) → p ≡ cond (ltb j i) j (suc j) → suc j < n → p < n
other_within i j p n e l = rw e (go (ltb j i))
  where
    go : (b : Bool) → cond b j (suc j) < n
    go true = omega arith
    go false = l

-- the first n states of T, and the set-aside count a
abbrev pub work_of : {A : Type 0} → ℕ → ℕ → List A → Work A
work_of n a T = record { table = take n T; aside = a }

module _ {A : Type 0} (states : Listing A) where
  open states use {none}

  abbrev state_at : List A → ℕ → A
  state_at T i = at states T i

  -- ---- the search for the best, over any list of states

  module _ (better : A → A → Bool) (R : List A) where
    -- the search has come to place j, and the best so far stands at place k
    abbrev pub Searched : ℕ → ℕ → Type 0
    Searched k j = best better R ≡ best_from better (state_at R k) k j (drop j R)

    -- the clause for one more state, as an equation to rewrite by
    best_cons : (s : A) (k j : ℕ) (t : A) (S : List A)
        → best_from better s k j (t ∷ S) ≡ best_from better (cond (better t s) t s) (cond (better t s) j k) (suc j) S
    best_cons s k j t S = refl

    -- the state at place j takes over where it is better
    pub search_turn : (k j : ℕ) (b : Bool) → j < length R → better (state_at R j) (state_at R k) ≡ b → Searched k j
        → Searched (cond b j k) (j + 1)
    search_turn k j true l e h = h ∙ rw (drop-cons R j none l, best_cons, e, add-one j)
    search_turn k j false l e h = h ∙ rw (drop-cons R j none l, best_cons, e, add-one j)

  pub search_start : (better : A → A → Bool) (R : List A) → 0 < length R → Searched better R 0 1
  unfolding best
  search_start better [] l = absurd (omega arith)
  search_start better (t ∷ R) l = refl

  pub search_end : (better : A → A → Bool) (R : List A) (k j : ℕ) → j ≡ length R → Searched better R k j → best better R ≡ k
  search_end better R k j e h = h ∙ rw (e, drop-length R)

  -- ---- taking out: the states behind the place move down by one place

  -- before the place nothing moves
  take_before : (i : ℕ) (T : List A) → take i T ≡ take i (remove i T)
  unfolding remove
  take_before i [] = refl
  take_before zero (t ∷ T) = refl
  take_before (suc i) (t ∷ T) = ap (t ∷◌) (take_before i T)

  -- the first n of the others are the others of the first n + 1
  take_remove : (i n : ℕ) (T : List A) → i ≤ n → take n (remove i T) ≡ remove i (take (suc n) T)
  unfolding remove
  take_remove i n [] l = take-nil n
  take_remove zero n (t ∷ T) l = refl
  take_remove (suc i) zero (t ∷ T) l = absurd (omega arith)
  take_remove (suc i) (suc n) (t ∷ T) l = ap (t ∷◌) (take_remove i n T (le_of_suc-le-suc l))

  -- up to place j the table t is without the state at place i, and behind place j it is as it was
  pub record Closing (i j : ℕ) (t w : List A) : Type 0 where
    pub front : take j w ≡ take j (remove i t)
    pub back : drop (suc j) w ≡ drop (suc j) t

  module _ (i : ℕ) (t : List A) where
    pub closing_none : Closing i i t t
    closing_none = record { front = take_before i t; back = refl }

    -- the state x behind place j moves down
    pub closing_turn : (j : ℕ) (w w' : List A) (x : A) → i ≤ j → suc j < length t → j < length w
        → Closing i j t w → x ≡ state_at w (j + 1) → w' ≡ set w j x → Closing i (j + 1) t w'
    closing_turn j w w' x a l k h p q =
        rw (add-one j)
        record {
          front = ap (take (suc j)) q ∙ take-suc-set w j x k ∙ rw (h.front, is) (sym (take-suc (remove i t) j none long));
          back =
              ap (drop (suc (suc j))) q ∙ drop-set-lt (suc (suc j)) w j x (omega arith)
              ∙ one_further w ∙ ap (drop 1) h.back ∙ sym (one_further t);
        }
      where
        one_further : (u : List A) → drop (suc (suc j)) u ≡ drop 1 (drop (suc j) u)
        one_further u = let e : suc j + 1 ≡ suc (suc j) = omega arith in sym (drop-drop 1 (suc j) u ∙ rw e)

        behind : (u : List A) → state_at u (j + 1) ≡ state_at (drop (suc j) u) 0
        behind u = let e : suc j + 0 ≡ j + 1 = omega arith in sym (get_or-drop (suc j) u 0 none ∙ rw e)

        is : x ≡ state_at (remove i t) j
        is = p ∙ behind w ∙ ap (λ (u : List A). state_at u 0) h.back ∙ sym (behind t) ∙ rw (add-one j) (sym (others_behind none i j t a))

        long : j < length (remove i t)
        long = omega (arith, length_remove i t (omega arith))

    pub closing_end : (j n : ℕ) (w : List A) → i < n → j + 1 ≡ n → Closing i j t w → take (n - 1) w ≡ remove i (take n t)
    closing_end j n w l e h =
        let last : n - 1 ≡ j = omega arith in
        let all : n ≡ suc j = omega arith in
        rw (last, all) (h.front ∙ take_remove i j t (omega arith))

module _ {A : Type 0} (kind : Kind A) where
  open kind use {closer, listing}
  open kind.listing use {units, order, none}

  -- ---- the state of fewest units among the first n

  -- the search has come to place i; the fewest so far are u units, at place k
  pub record Fewest (R : List A) (k u i : ℕ) : Type 0 where
    pub search : Searched listing (fewer kind) R k i
    pub units : u ≡ units (at listing R k)

  module _ (T : List A) (n : ℕ) (room : n ≤ length T) where
    -- a state of the list at a place below n stands in the table
    here : (i : ℕ) (s : A) → i < n → s ≡ at listing T i → s ≡ at listing (take n T) i
    here i s l e = e ∙ sym (get_or-take n T i none l)

    pub fewest_start : (s : A) → 0 < n → s ≡ at listing T 0 → Fewest (take n T) 0 (units s) 1
    fewest_start s l e =
        record { search = search_start listing (fewer kind) (take n T) (omega (arith, length-take-le n T room)); units = ap units (here 0 s l e) }

    module _ (k u i : ℕ) (s : A) (l : i < n) (e : s ≡ at listing T i) (h : Fewest (take n T) k u i) where
      fewest_turn : (b : Bool) → ltb (units s) u ≡ b → Searched listing (fewer kind) (take n T) (cond b i k) (i + 1)
      fewest_turn b q = search_turn listing (fewer kind) (take n T) k i b (omega (arith, length-take-le n T room)) (rw (← here i s l e, ← h.units) q) h.search

      pub fewest_less : units s < u → Fewest (take n T) i (units s) (i + 1)
      fewest_less q = record { search = fewest_turn true (lt-ltb _ _ q); units = ap units (here i s l e) }

      pub fewest_more : u ≤ units s → Fewest (take n T) k u (i + 1)
      fewest_more q = record { search = fewest_turn false (le-ltb _ _ q); units = h.units }

    pub fewest_end : (k u i : ℕ) → i ≡ n → Fewest (take n T) k u i → best (fewer kind) (take n T) ≡ k
    fewest_end k u i e h = search_end listing (fewer kind) (take n T) k i (e ∙ sym (length-take-le n T room)) h.search

  -- ---- the two places that are chosen

  module _ (X : List A) (n : ℕ) (long : length X ≡ n) (some : 2 ≤ n) (p : Pair) (chosen : p ≡ choice kind X) where
    pub fewest_within : p.fewest < n
    unfolding choice
    fewest_within = rw chosen (omega (arith, best_lt (fewer kind) X (omega arith)))

    one_left : suc (length (remove p.fewest X)) ≡ n
    one_left = length_remove p.fewest X (omega (arith, fewest_within)) ∙ long

    pub partner_within : p.partner < n - 1
    unfolding choice
    partner_within =
        let found : p.partner ≡ best (closer (at listing X p.fewest)) (remove p.fewest X) = rw chosen refl in
        rw found (omega (arith, one_left, best_lt (closer (at listing X p.fewest)) (remove p.fewest X) (omega (arith, one_left))))

  -- ---- folds one after the other

  module _ (K : ℕ) (some : 1 ≤ K) where
    -- more folds than states change nothing
    folds_enough : (m n : ℕ) (w : Work A) → length w.table ≤ m → length w.table ≤ n
        → folds_of kind m (leb (length w.table) K) K w ≡ folds_of kind n (leb (length w.table) K) K w
    folds_enough zero zero w k l = refl
    folds_enough zero (suc n) w k l = rw (le-leb (length w.table) K (omega arith))
    folds_enough (suc m) zero w k l = rw (le-leb (length w.table) K (omega arith))
    folds_enough (suc m) (suc n) w k l = go (leb (length w.table) K) refl (folds_enough m n (fold kind w))
      where
        go : (b : Bool) → leb (length w.table) K ≡ b
            → (length (fold kind w).table ≤ m → length (fold kind w).table ≤ n
            → folds_of kind m (leb (length (fold kind w).table) K) K (fold kind w) ≡ folds_of kind n (leb (length (fold kind w).table) K) K (fold kind w))
            → folds_of kind (suc m) b K w ≡ folds_of kind (suc n) b K w
        go true e ih = refl
        go false e ih =
            let many = leb-false (length w.table) K e in
            let shorter = fold_shorter kind w (omega arith) in
            ih (omega arith) (omega arith)

    -- with more than K states, one fold and then the rest
    folded_on : (w : Work A) → K < length w.table → folded kind K w ≡ folded kind K (fold kind w)
    unfolding folded
    folded_on w l = go (length w.table) refl
      where
        go : (n : ℕ) → length w.table ≡ n → folds_of kind n (leb n K) K w ≡ folded kind K (fold kind w)
        go zero e = absurd (omega arith)
        go (suc n) e =
            rw (lt-leb (suc n) K (omega arith))
            (folds_enough n (length (fold kind w).table) (fold kind w) (omega (arith, fold_shorter kind w (omega arith))) (le_refl _))

  -- with no more than K states nothing is folded
  folded_enough : (K : ℕ) (w : Work A) → length w.table ≤ K → folded kind K w ≡ w
  unfolding folded
  folded_enough K w l = go (length w.table) (le-leb (length w.table) K l)
    where
      go : (n : ℕ) → leb n K ≡ true → folds_of kind n (leb n K) K w ≡ w
      go zero e = refl
      go (suc n) e = rw e

  stands_is : (w : Work A) (n a : ℕ) (T : List A) → Stands w n a T → work_of n a T ≡ w
  stands_is w n a T h = rw (h.table, h.aside)

  -- a turn of the loop that folds: more than K states, n, become r
  module _ (K n r a b : ℕ) (T T' : List A) (room : n ≤ length T) (some : 1 ≤ K) (many : K < n)
      (h : Stands (fold kind (work_of n a T)) r b T') where
    pub folding_less : r < n
    folding_less =
        omega (arith, h.count, length-take-le n T room, fold_shorter kind (work_of n a T) (omega (arith, length-take-le n T room)))

    pub folding_rises : Lawful kind.listing → rises order (take n T) ≡ true → rises order (take r T') ≡ true
    unfolding fold
    folding_rises laws q =
        rw h.table
        (in_order_rises order (fold kind (work_of n a T)).table
        (rising_fold kind laws (choice kind (take n T)) (work_of n a T) (rises_in_order order laws.onward (take n T) q)))

    pub folding_turn : (w : Work A) → folded kind K w ≡ folded kind K (work_of n a T) → folded kind K w ≡ folded kind K (work_of r b T')
    folding_turn w e =
        e
        ∙ folded_on K some (work_of n a T) (omega (arith, length-take-le n T room))
        ∙ ap (folded kind K) (sym (stands_is (fold kind (work_of n a T)) r b T' h))

  -- no more than K are left
  pub folding_end : (K n a : ℕ) (T : List A) → n ≤ length T → n ≤ K → (w : Work A) → folded kind K w ≡ folded kind K (work_of n a T)
      → Stands (folded kind K w) n a T
  folding_end K n a T room l w e =
      rw (e, folded_enough K (work_of n a T) (omega (arith, length-take-le n T room)))
      record { count = sym (length-take-le n T room); table = refl; aside = refl }
