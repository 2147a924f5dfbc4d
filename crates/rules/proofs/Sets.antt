-- The tracked blocks of a set: the mask of those that pass a test, bit by bit; a place belongs to one set only, so a block that comes in
-- takes room in its own set alone; what a miss can evict; and with one set every block is in it.
use Rattle.std.specs.Prelude.{Some}
use mathlib.Core.Path.{◌≡◌, refl, sym, ap, ◌∙◌}
use mathlib.Core.Logic.{◌≢◌, ◌⊎◌, inl, inr}
use mathlib.Core.Bool.{Bool, true, false, cond, true≢false}
use mathlib.Core.List.{List, [], ◌∷◌, ◌++◌, map}
use Prim.Native.Nat.{ℕ, zero, suc, ◌+◌, ◌-◌, ◌*◌, ◌/◌, ◌%◌, ◌^◌, ◌≤◌, ◌<◌}
use native.Mathlib.Nat.{le_trans, le_of_suc-le-suc, not-suc-le-zero, le-max_left, max-le, mod-lt, mod-one}
use native.Mathlib.Decide.{ℕ_discrete}
use native.Mathlib.Omega.{arith}
use lib.Dec.{eqb, ltb}
use lib.ListN.{length, get_or}
use borrow.Author.Tests.{eqb-true, eq-eqb, ne_eqb, ltb-true, ltb-false, lt-ltb, le-ltb}
use Rattle.basics.proofs.Bools.{both, same_test}
use Rattle.rules.specs.Contents.{places, Target, Last, bit, with, without, shared, held, size, mask_of, of_set, target_of}
use Rattle.rules.specs.Filling.{Filled, filled_at, fill_one, fullest}
use Rattle.rules.specs.Table.{State, units_of}
use Rattle.rules.specs.Step.{at_risk, missed, rest_of, miss}
use Rattle.rules.specs.Shape.{Aimed, Room}
use Rattle.rules.proofs.Bits.{bit_low, bit_rest, bit_and_lem, bit_zero, bit_below, bits_same}
use Rattle.rules.proofs.Contents.{Sub, with_keeps, with_cases, with_new, without_keeps, without_gone, sub_without, size_zero, size_sub, size_with, size_moved, sub_shared_left, sub_shared_right, shared_lt}
use Rattle.rules.proofs.Lookup.{find_at}
use Rattle.rules.proofs.Filling.{one_more_lem, no_more, one_other, most_filled, fullest_at}

-- ---- the mask of the blocks that pass a test

low_half : (n : ℕ) (b : Bool) → (n * 2 + cond b 1 0) / 2 ≡ n
low_half n true = omega arith
low_half n false = omega arith

low_digit : (n : ℕ) (b : Bool) → eqb ((n * 2 + cond b 1 0) % 2) 1 ≡ b
low_digit n true = let e : (n * 2 + 1) % 2 ≡ 1 = omega arith in rw e
low_digit n false = let e : (n * 2 + 0) % 2 ≡ 0 = omega arith in rw e

module _ (test : ℕ → Bool) where
  -- bit i is whether the block at place i passes
  pub bit_mask : (ts : List ℕ) (i : ℕ) → i < length ts → bit (mask_of test ts) i ≡ test (get_or ts i 0)
  unfolding mask_of
  bit_mask [] i l = absurd (not-suc-le-zero l)
  bit_mask (t ∷ ts) zero l = bit_low (mask_of test (t ∷ ts)) ∙ low_digit (mask_of test ts) (test t)
  bit_mask (t ∷ ts) (suc i) l =
      bit_rest (mask_of test (t ∷ ts)) i ∙ ap (λ (n : ℕ). bit n i) (low_half (mask_of test ts) (test t)) ∙ bit_mask ts i (le_of_suc-le-suc l)

  pub mask_lt : (ts : List ℕ) → mask_of test ts < 2 ^ length ts
  unfolding mask_of
  mask_lt [] = omega arith
  mask_lt (t ∷ ts) = go (test t) (mask_lt ts)
    where
      go : (b : Bool) → mask_of test ts < 2 ^ length ts → mask_of test ts * 2 + cond b 1 0 < 2 ^ suc (length ts)
      go true h = omega arith
      go false h = omega arith

-- ---- the blocks of a set

module _ (Z : ℕ) (ts : List ℕ) where
  pub bit_set : (j i : ℕ) → i < length ts → bit (of_set Z ts j) i ≡ eqb (get_or ts i 0 % Z) j
  unfolding of_set
  bit_set j i l = bit_mask (λ t. eqb (t % Z) j) ts i l

  -- a place of set j is one of a block that belongs to it
  pub in_set : (j i : ℕ) → bit (of_set Z ts j) i ≡ true → (i < length ts) × (get_or ts i 0 % Z ≡ j)
  unfolding of_set
  in_set j i h =
      let l : i < length ts = bit_below (length ts) (of_set Z ts j) i (mask_lt (λ t. eqb (t % Z) j) ts) h in
      (l, eqb-true (get_or ts i 0 % Z) j (sym (bit_set j i l) ∙ h))

  -- so no place is one of two sets
  one_set_only : (j k i : ℕ) → bit (of_set Z ts j) i ≡ true → bit (of_set Z ts k) i ≡ true → j ≡ k
  one_set_only j k i p q = sym (in_set j i p).1 ∙ (in_set k i q).1

  pub aimed : 0 < Z → Z ≤ 16 → (l : Last) (b : ℕ) → Aimed Z ts (target_of Z ts l b)
  unfolding target_of
  aimed some few l b =
      record {
        near = le_trans (mod-lt b some) few;
        placed = λ i e. (find_at ts b i e).0;
        own = λ i e. let (k, g) = find_at ts b i e in bit_set (b % Z) i k ∙ eq-eqb _ _ (ap (◌% Z) g);
        beside = refl;
      }

-- ---- what two masks share

pub both_shared : (C D i : ℕ) → bit C i ≡ true → bit D i ≡ true → bit (shared C D) i ≡ true
unfolding shared
both_shared C D i p q = bit_and_lem i C D ∙ both (bit C i) (bit D i) p q

pub sub_shared : (C D E : ℕ) → Sub C D → Sub (shared C E) (shared D E)
sub_shared C D E s i h = both_shared D E i (s i (sub_shared_left C E i h)) (sub_shared_right C E i h)

-- ---- what a miss can evict

module _ (N : ℕ) (x : Target) where
  -- nothing while not every way of the set may be filled, then the held blocks of the set
  pub risk_none : (F : Filled) (C : ℕ) → filled_at F x.set < N → at_risk N x F C ≡ 0
  unfolding at_risk
  risk_none F C l = rw (lt-ltb (filled_at F x.set) N l)

  pub risk_set : (F : Filled) (C : ℕ) → N ≤ filled_at F x.set → at_risk N x F C ≡ shared C x.mates
  unfolding at_risk
  risk_set F C l = rw (le-ltb (filled_at F x.set) N l)

  -- so where a block can be evicted every way may be filled, and it is a held block of the set
  pub risk_full : (F : Filled) (C e : ℕ) → bit (at_risk N x F C) e ≡ true → (N ≤ filled_at F x.set) × (bit (shared C x.mates) e ≡ true)
  unfolding at_risk
  risk_full F C e = go (ltb (filled_at F x.set) N) refl
    where
      go : (b : Bool) → ltb (filled_at F x.set) N ≡ b → bit (cond b 0 (shared C x.mates)) e ≡ true
          → (N ≤ filled_at F x.set) × (bit (shared C x.mates) e ≡ true)
      go true q h = absurd (true≢false (sym h ∙ bit_zero e))
      go false q h = (ltb-false (filled_at F x.set) N q, h)

  pub risk_sub : (F : Filled) (C : ℕ) → Sub (at_risk N x F C) C
  risk_sub F C e h = sub_shared_left C x.mates e (risk_full F C e h).1

-- ---- room in each set

module _ (N Z : ℕ) (ts : List ℕ) where
  pub room_zero : (F : Filled) → ((j : ℕ) → filled_at F j ≤ N) → Room N Z ts 0 F
  room_zero F most j = (omega (arith, size_sub _ 0 (sub_shared_left 0 (of_set Z ts j)), size_zero), most j)

  -- what two share, where the larger number of each set may be filled
  pub room_shared : (C D : ℕ) (F G : Filled) → Room N Z ts C F → Room N Z ts D G → Room N Z ts (shared C D) (fullest F G)
  room_shared C D F G r q j =
      rw (fullest_at F G j) (
        le_trans (size_sub _ _ (sub_shared (shared C D) C (of_set Z ts j) (sub_shared_left C D))) (le_trans (r j).0 (le-max_left (filled_at F j) (filled_at G j))),
        max-le (r j).1 (q j).1,
      )

  module _ (few : N ≤ 16) (x : Target) (aim : Aimed Z ts x) where
    abbrev more : Filled → Filled
    more F = fill_one N x.set F

    pub room_risk : (C : ℕ) (F : Filled) → Room N Z ts C F → size (at_risk N x F C) ≤ N
    unfolding at_risk
    room_risk C F r = go (ltb (filled_at F x.set) N)
      where
        go : (b : Bool) → size (cond b 0 (shared C x.mates)) ≤ N
        go true = omega (arith, size_zero)
        go false = rw aim.beside (le_trans (r x.set).0 (r x.set).1)

    -- a set other than the block's has what it had
    elsewhere : (C D j : ℕ) (F : Filled) → j ≢ x.set → Sub C D → Room N Z ts D F
        → (size (shared (with C x.place) (of_set Z ts j)) ≤ filled_at (more F) j) × (filled_at (more F) j ≤ N)
    elsewhere C D j F n s r = rw (one_other N few x.set aim.near F j n) (le_trans (size_sub _ _ inside) (r j).0, (r j).1)
      where
        inside : Sub (shared (with C x.place) (of_set Z ts j)) (shared D (of_set Z ts j))
        inside i h = go (with_cases C x.place i (sub_shared_left _ _ i h))
          where
            there : bit (of_set Z ts j) i ≡ true
            there = sub_shared_right _ _ i h

            go : (bit C i ≡ true) ⊎ (x.place ≡ Some i) → bit (shared D (of_set Z ts j)) i ≡ true
            go (inl e) = both_shared D _ i (s i e) there
            go (inr e) = absurd (n (one_set_only Z ts j x.set i there (rw aim.beside at (aim.own i e))))

    -- the block comes in where its set has room for it
    pub room_joined : (C : ℕ) (F : Filled) → Room N Z ts C F → size (at_risk N x F C) < N → Room N Z ts (with C x.place) (more F)
    room_joined C F r l j = go (ℕ_discrete j x.set) (ltb (filled_at F x.set) N) refl
      where
        G : ℕ
        G = of_set Z ts j

        here : Sub (shared (with C x.place) G) (with (shared C G) x.place)
        here i h = pick (with_cases C x.place i (sub_shared_left _ _ i h))
          where
            pick : (bit C i ≡ true) ⊎ (x.place ≡ Some i) → bit (with (shared C G) x.place) i ≡ true
            pick (inl e) = with_keeps (shared C G) x.place i (both_shared C G i e (sub_shared_right _ _ i h))
            pick (inr e) = rw e (with_new (shared C G) i)

        one : size (shared (with C x.place) G) ≤ suc (size (shared C G))
        one = le_trans (size_sub _ _ here) (size_with (shared C G) x.place)

        most : filled_at (more F) j ≤ N
        most = most_filled N few x.set aim.near F j (r j).1

        go : Dec (j ≡ x.set) → (b : Bool) → ltb (filled_at F x.set) N ≡ b
            → (size (shared (with C x.place) G) ≤ filled_at (more F) j) × (filled_at (more F) j ≤ N)
        go (yes e) true q =
            let up : filled_at (more F) j ≡ suc (filled_at F j) = rw e (one_more_lem N few x.set aim.near F (ltb-true (filled_at F x.set) N q)) in
            (omega (arith, one, (r j).0, up), most)
        go (yes e) false q =
            let full : N ≤ filled_at F x.set = ltb-false (filled_at F x.set) N q in
            let same : shared C G ≡ at_risk N x F C = ap (shared C) (ap (of_set Z ts) e ∙ sym aim.beside) ∙ sym (risk_set N x F C full) in
            let stays : filled_at (more F) j ≡ filled_at F x.set = rw (no_more N few x.set aim.near F full, e) in
            (omega (arith, one, ap size same, full, stays), most)
        go (no n) b q = elsewhere C C j F n (λ i e. e) r

    -- or for a block of its set that goes
    pub room_moved : (C e : ℕ) (F : Filled) → Room N Z ts C F → e < places → bit (at_risk N x F C) e ≡ true
        → Room N Z ts (with (without C e) x.place) (more F)
    room_moved C e F r l h j = go (ℕ_discrete j x.set)
      where
        G : ℕ
        G = of_set Z ts j

        full : N ≤ filled_at F x.set
        full = (risk_full N x F C e h).0

        held_there : bit C e ≡ true
        held_there = risk_sub N x F C e h

        here : Sub (shared (with (without C e) x.place) G) (with (without (shared C G) e) x.place)
        here i t = pick (with_cases (without C e) x.place i (sub_shared_left _ _ i t))
          where
            pick : (bit (without C e) i ≡ true) ⊎ (x.place ≡ Some i) → bit (with (without (shared C G) e) x.place) i ≡ true
            pick (inl q) =
                with_keeps (without (shared C G) e) x.place i
                (without_keeps (shared C G) e i (λ s. true≢false (sym q ∙ ap (bit (without C e)) (sym s) ∙ without_gone C e held_there))
                (both_shared C G i (sub_without C e held_there i q) (sub_shared_right _ _ i t)))
            pick (inr q) = rw q (with_new (without (shared C G) e) i)

        go : Dec (j ≡ x.set) → (size (shared (with (without C e) x.place) G) ≤ filled_at (more F) j) × (filled_at (more F) j ≤ N)
        go (yes q) =
            let there : bit (shared C G) e ≡ true = rw (q, ← aim.beside) (risk_full N x F C e h).1 in
            rw (no_more N few x.set aim.near F full)
            (le_trans (size_sub _ _ here) (le_trans (size_moved (shared C G) e x.place l there) (r j).0), (r j).1)
        go (no n) = elsewhere (without C e) C j F n (sub_without C e held_there) r

    -- nothing held but the block
    pub room_alone : 0 < N → (C : ℕ) (F : Filled) → Room N Z ts C F → Room N Z ts (with 0 x.place) (more F)
    room_alone some C F r =
        room_joined 0 F (room_zero F (λ j. (r j).1)) (omega (arith, size_sub _ 0 (risk_sub N x F 0), size_zero))

-- ---- one set, every way of which may be filled, as in the first revision

-- every held block can be evicted
pub one_set_risk : (N : ℕ) (ts : List ℕ) (l : Last) (b C : ℕ) (F : Filled) → N ≤ filled_at F 0 → C < 2 ^ length ts
    → at_risk N (target_of 1 ts l b) F C ≡ C
unfolding target_of
one_set_risk N ts l b C F full h =
    risk_set N (target_of 1 ts l b) F C (rw (mod-one b) full)
    ∙ bits_same (length ts) _ C (shared_lt (length ts) C _ h) h
    (λ i k. same_test _ _ (sub_shared_left C _ i)
    (λ e. both_shared C _ i e (bit_set 1 ts (b % 1) i k ∙ eq-eqb _ _ (mod-one (get_or ts i 0) ∙ sym (mod-one b)))))

-- so that a miss is document 01's: each held block is lost with q units, the rest of the N ways lose none, and the units that are left
-- over go to the accessed block only (where nothing is held, that is with the others)
pub one_set_miss : (N : ℕ) (ts : List ℕ) (l : Last) (b : ℕ) (s : State) → N ≤ filled_at s.filled 0 → s.mask < 2 ^ length ts
    → miss N (target_of 1 ts l b) s
    ≡ map (λ e. missed N (target_of 1 ts l b) s (without s.mask e) (units_of s / N)) (held s.mask)
    ++ missed N (target_of 1 ts l b) s s.mask ((N - size s.mask) * (units_of s / N))
    ∷ missed N (target_of 1 ts l b) s 0 (units_of s % N)
    ∷ []
unfolding miss
one_set_miss N ts l b s full h = rw (one_set_risk N ts l b s.mask s.filled full h, none s.mask)
  where
    none : (C : ℕ) → rest_of C C ≡ 0
    none zero = refl
    none (suc C) = rw (ne_eqb (suc C) 0 (λ e. omega arith))
