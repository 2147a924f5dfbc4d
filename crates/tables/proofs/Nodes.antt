-- The slots: a table with no states behind it is found again, whatever was there before. For any kind of state.
use mathlib.Core.Path.{◌≡◌, refl, sym, ap, ap₂, ◌∙◌}
use mathlib.Core.Bool.{Bool, true, false, cond}
use mathlib.Core.Logic.{◌⊎◌, inl, inr}
use mathlib.Core.List.{List, [], ◌∷◌, ◌++◌, append_assoc}
use Prim.Native.Nat.{ℕ, zero, suc, ◌+◌, ◌-◌, ◌*◌, ◌≤◌, ◌<◌}
use native.Mathlib.Nat.{zero-add, suc-add, not-suc-le-zero, le_of_suc-le-suc, eq-or-lt_of_le}
use native.Mathlib.Numerals.{add-one}
use native.Mathlib.Omega.{arith}
use lib.Dec.{eqb}
use lib.ListN.{length, get_or, set, take, drop, replicate, length-append, length-drop, length-take, length-replicate, replicate-append-replicate, get_or-append, drop_of_length-le}
use lib.Seq.{paste, paste-suc, length_paste_head, get_or-take, get_or-drop, get_or_at, get_or-append-add, length-take-le, take_at, take-take, take-nil, take-append-le, drop_at, drop-append-le, drop-cons}
use borrow.Author.Tests.{eq-eqb, ne_eqb}
use Rattle.rules.specs.AnyTable.{Listing, at as at_of}
use Rattle.rules.specs.Shape.{Every}
use Rattle.rules.proofs.Listings.{Lawful}
use Rattle.tables.specs.Rooms.{filled, slot_of, table_in, tables_in}
use Rattle.tables.proofs.Scratch.{stretch_kept, stretch_long}

-- ---- a copy within a list

module _ {A : Type 0} where
  -- the first k states are as they were
  pub paste_take : (T S : List A) (to n k : ℕ) → to ≤ length T → k ≤ to → take k (paste T to S n) ≡ take k T
  paste_take T S to n k h l =
      ap (take k) (append_assoc (take to T) (take n S) (drop (to + n) T))
      ∙ take-append-le k (take to T) (take n S ++ drop (to + n) T) (omega (arith, length-take-le to T h))
      ∙ take-take k to T l

  -- and from place p on: those up to where is pasted, what is pasted, and the others
  paste_drop : (T S : List A) (p n m : ℕ) → p + n ≤ length T → drop p (paste T (p + n) S m) ≡ take n (drop p T) ++ (take m S ++ drop (p + n + m) T)
  paste_drop T S p n m h =
      ap (drop p) (append_assoc (take (p + n) T) (take m S) (drop (p + n + m) T))
      ∙ drop-append-le p (take (p + n) T) (take m S ++ drop (p + n + m) T) (omega (arith, length-take-le (p + n) T h))
      ∙ ap (◌++ (take m S ++ drop (p + n + m) T)) (part p T)
    where
      part : (p : ℕ) (T : List A) → drop p (take (p + n) T) ≡ take n (drop p T)
      part zero T = ap (λ (k : ℕ). take k T) (zero-add n)
      part (suc p) [] = rw (suc-add p n) (sym (take-nil n))
      part (suc p) (t ∷ T) = rw (suc-add p n) (part p T)

  -- what is pasted is there
  pub paste_there : (T S : List A) (to n : ℕ) → to ≤ length T → n ≤ length S → take n (drop to (paste T to S n)) ≡ take n S
  paste_there T S to n h l =
      ap (λ (U : List A). take n (drop to U)) (append_assoc (take to T) (take n S) (drop (to + n) T))
      ∙ ap (take n) (drop_at (take to T) (take n S ++ drop (to + n) T) to (length-take-le to T h))
      ∙ take_at (take n S) (drop (to + n) T) n (length-take-le n S l)

module _ {A : Type 0} (states : Listing A) where
  open states use {units, none}

  abbrev state_at : List A → ℕ → A
  state_at T i = at_of states T i

  -- what is pasted does not change what is read elsewhere
  paste_before : (T S : List A) (to n k : ℕ) → to ≤ length T → k < to → state_at (paste T to S n) k ≡ state_at T k
  paste_before T S to n k h l =
      ap (λ (U : List A). state_at U k) (append_assoc (take to T) (take n S) (drop (to + n) T))
      ∙ get_or-append (take to T) (take n S ++ drop (to + n) T) none k (omega (arith, length-take-le to T h))
      ∙ get_or-take to T k none l

  paste_behind : (T S : List A) (to n k : ℕ) → to ≤ length T → n ≤ length S → to + n ≤ k → state_at (paste T to S n) k ≡ state_at T k
  paste_behind T S to n k h m l =
      ap (state_at (paste T to S n)) at
      ∙ get_or-append-add (take to T ++ take n S) (drop (to + n) T) (k - (to + n)) none
      ∙ get_or-drop (to + n) T (k - (to + n)) none
      ∙ ap (state_at T) (omega arith)
    where
      at : k ≡ length (take to T ++ take n S) + (k - (to + n))
      at = omega (arith, length_paste_head T to S n h m)

  -- a turn of the loop that copies; what is copied from reads as it did, since the two stretches do not meet
  module _ (T : List A) (from to n i : ℕ) (here : from + n ≤ length T) (there : to + n ≤ length T) (apart : (to + n ≤ from) ⊎ (from + n ≤ to)) (l : i < n) where
    copy_reads : state_at (paste T to (drop from T) i) (from + i) ≡ state_at (drop from T) i
    copy_reads = go apart ∙ sym (get_or-drop from T i none)
      where
        go : (to + n ≤ from) ⊎ (from + n ≤ to) → state_at (paste T to (drop from T) i) (from + i) ≡ state_at T (from + i)
        go (inl h) = paste_behind T (drop from T) to i (from + i) (omega arith) (omega (arith, length-drop from T)) (omega arith)
        go (inr h) = paste_before T (drop from T) to i (from + i) (omega arith) (omega arith)

    pub copy_turn : (U U' : List A) (s : A) → U ≡ paste T to (drop from T) i → s ≡ state_at U (from + i) → U' ≡ set U (to + i) s
        → U' ≡ paste T to (drop from T) (i + 1)
    copy_turn U U' s p q r =
        r ∙ rw (add-one i, q, p, copy_reads) (paste-suc T to (drop from T) i none (omega arith) (omega (arith, length-drop from T)))

  -- ---- how many states stand before the first of 0 units

  -- all of the first n states at place `at` have units, so that the rest tells
  abbrev pub FilledTo : List A → ℕ → ℕ → Type 0
  FilledTo T at n = filled states (take 64 (drop at T)) ≡ n + filled states (drop n (take 64 (drop at T)))

  module _ (T : List A) (at : ℕ) (room : at + 64 ≤ length T) (n : ℕ) where
    long : length (take 64 (drop at T)) ≡ 64
    long = length-take-le 64 (drop at T) (omega (arith, length-drop at T))

    rest : n < 64 → drop n (take 64 (drop at T)) ≡ state_at T (at + n) ∷ drop (suc n) (take 64 (drop at T))
    rest l =
        drop-cons (take 64 (drop at T)) n none (omega (arith, long))
        ∙ ap (◌∷ drop (suc n) (take 64 (drop at T))) (get_or-take 64 (drop at T) n none l ∙ get_or-drop at T n none)

    pub filled_here : n < 64 → units (state_at T (at + n)) ≡ 0 → FilledTo T at n → n ≡ filled states (take 64 (drop at T))
    unfolding filled
    filled_here l e h = sym (h ∙ rw (rest l, eq-eqb (units (state_at T (at + n))) 0 e) (omega arith))

    pub filled_next : n < 64 → (units (state_at T (at + n)) ≡ 0 → ⊥) → FilledTo T at n → FilledTo T at (n + 1)
    unfolding filled
    filled_next l e h = h ∙ rw (rest l, ne_eqb (units (state_at T (at + n))) 0 e, add-one n) (omega arith)

    pub filled_end : n ≡ 64 → FilledTo T at n → n ≡ filled states (take 64 (drop at T))
    unfolding filled
    filled_end e h = sym (h ∙ rw (drop_of_length-le (take 64 (drop at T)) {i = n} (omega (arith, long))) (omega arith))

  -- ---- a table with no states behind it

  -- behind a table whose states have units, blanks end it
  filled_padded : Lawful states → (X : List A) (k : ℕ) → Every (λ s. 1 ≤ units s) X → filled states (X ++ replicate k none) ≡ length X
  unfolding filled
  filled_padded laws [] zero h = refl
  filled_padded laws [] (suc k) h = rw laws.empty refl
  filled_padded laws (s ∷ X) k h = rw (ne_eqb (units s) 0 (λ e. absurd (omega (arith, h.0)))) (ap suc (filled_padded laws X k h.1))

  module _ (T T' X : List A) (j n : ℕ) (room : j * 64 + 64 ≤ length T) (few : n ≤ 64) (count : n ≡ length X) (table : take n (drop (j * 64) T) ≡ X)
      (sealed : T' ≡ paste T (j * 64 + n) (replicate 64 none) (64 - n)) where
    pub seal_before : take (j * 64) T' ≡ take (j * 64) T
    seal_before = ap (take (j * 64)) sealed ∙ paste_take T (replicate 64 none) (j * 64 + n) (64 - n) (j * 64) (omega arith) (omega arith)

    padded : slot_of j T' ≡ X ++ replicate (64 - n) none
    padded =
        ap (λ (U : List A). take 64 (drop (j * 64) U)) sealed
        ∙ ap (take 64) (paste_drop T (replicate 64 none) (j * 64) n (64 - n) (omega arith)
        ∙ ap₂ (λ (U W : List A). U ++ (W ++ drop (j * 64 + n + (64 - n)) T)) table blanks
        ∙ sym (append_assoc X (replicate (64 - n) none) (drop (j * 64 + n + (64 - n)) T)))
        ∙ take_at (X ++ replicate (64 - n) none) (drop (j * 64 + n + (64 - n)) T) 64 long
      where
        blanks : take (64 - n) (replicate 64 none) ≡ replicate (64 - n) none
        blanks =
            ap (λ (k : ℕ). take (64 - n) (replicate k none)) all
            ∙ ap (take (64 - n)) (sym (replicate-append-replicate (64 - n) n none))
            ∙ take_at (replicate (64 - n) none) (replicate n none) (64 - n) (length-replicate (64 - n) none)
          where
            all : 64 ≡ 64 - n + n
            all = omega arith

        long : length (X ++ replicate (64 - n) none) ≡ 64
        long = omega (arith, length-append X (replicate (64 - n) none), length-replicate (64 - n) none)

    pub seal_table : Lawful states → Every (λ s. 1 ≤ units s) X → table_in states j T' ≡ X
    unfolding table_in
    seal_table laws h = rw (padded, filled_padded laws X (64 - n) h) (take_at X (replicate (64 - n) none) (length X) refl)

  -- ---- the tables in the first slots

  pub length_tables_in : (j : ℕ) (T : List A) → length (tables_in states j T) ≡ j
  unfolding tables_in
  length_tables_in zero T = refl
  length_tables_in (suc j) T = omega (arith, length-append (tables_in states j T) (table_in states j T ∷ []), length_tables_in j T)

  pub tables_in_at : (j : ℕ) (T : List A) (a : ℕ) → a < j → get_or (tables_in states j T) a [] ≡ table_in states a T
  unfolding tables_in
  tables_in_at zero T a l = absurd (not-suc-le-zero l)
  tables_in_at (suc j) T a l = go (eq-or-lt_of_le (le_of_suc-le-suc l)) (tables_in_at j T a)
    where
      go : (a ≡ j) ⊎ (a < j) → (a < j → get_or (tables_in states j T) a [] ≡ table_in states a T) → get_or (tables_in states j T ++ (table_in states j T ∷ [])) a [] ≡ table_in states a T
      go (inl e) ih = rw e (get_or_at (tables_in states j T) (table_in states j T) [] [] j (length_tables_in j T))
      go (inr k) ih = get_or-append (tables_in states j T) (table_in states j T ∷ []) [] a (omega (arith, length_tables_in j T)) ∙ ih k

  pub table_in_kept : (a p : ℕ) (T T' : List A) → a * 64 + 64 ≤ p → take p T' ≡ take p T → table_in states a T' ≡ table_in states a T
  unfolding table_in
  table_in_kept a p T T' l e = ap (λ (U : List A). take (filled states U) U) (stretch_kept (a * 64) 64 p T T' l e)

  pub tables_in_kept : (j p : ℕ) (T T' : List A) → j * 64 ≤ p → take p T' ≡ take p T → tables_in states j T' ≡ tables_in states j T
  unfolding tables_in
  tables_in_kept zero p T T' l e = refl
  tables_in_kept (suc j) p T T' l e =
      ap₂ (λ (U : List (List A)) (X : List A). U ++ (X ∷ [])) (tables_in_kept j p T T' (omega arith) e) (table_in_kept j p T T' (omega arith) e)

  filled_most : (T : List A) → filled states T ≤ length T
  unfolding filled
  filled_most [] = omega arith
  filled_most (s ∷ T) = go (eqb (units s) 0) (filled_most T)
    where
      go : (b : Bool) → filled states T ≤ length T → cond b 0 (suc (filled states T)) ≤ suc (length T)
      go true h = omega arith
      go false h = omega arith

  module _ (p m : ℕ) (T : List A) (count : m ≡ filled states (slot_of p T)) where
    pub counted_few : m ≤ 64
    counted_few = omega (arith, filled_most (slot_of p T), length-take 64 (drop (p * 64) T))

    pub counted : take m (drop (p * 64) T) ≡ table_in states p T
    unfolding table_in
    counted = sym (take-take m 64 (drop (p * 64) T) counted_few) ∙ ap (λ (k : ℕ). take k (slot_of p T)) count

    pub table_long : p * 64 + 64 ≤ length T → m ≡ length (table_in states p T)
    table_long long = sym (ap length (sym counted) ∙ stretch_long (p * 64) m T (omega (arith, counted_few)))
