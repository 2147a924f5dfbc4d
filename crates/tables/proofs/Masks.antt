-- Masks as 64-bit numbers: a shifted 1, and the count of set bits. Looking up a block from the front of the list on, and the mask of a set
-- from its end.
use mathlib.Core.Path.{◌≡◌, refl, sym, ap, ap₂, ◌∙◌}
use mathlib.Core.Bool.{Bool, true, false, cond, ◌&&◌, not}
use mathlib.Core.List.{List, [], ◌∷◌}
use Prim.Native.Nat.{ℕ, zero, suc, ◌+◌, ◌-◌, ◌*◌, ◌/◌, ◌%◌, ◌^◌, ◌≤◌, ◌<◌}
use native.Mathlib.Nat.{one-mul, le_refl, lt_of_lt_of_le, mod-one, pow-succ'}
use native.Mathlib.Numerals.{add-one}
use native.Mathlib.Omega.{arith}
use lib.Bits.{bit_and, and_mask}
use lib.Count.{ones, ones_step, ones-le}
use lib.Dec.{lit<, eqb, leb, ltb}
use lib.ListN.{length, get_or, drop, length-drop, drop_of_length-le}
use lib.Pow.{shl_exact, field, mod-mod-pow, pow_mono, pow_pos}
use lib.Seq.{drop-cons}
use borrow.Author.Tests.{leb-true, le-leb, lt-ltb, le-ltb, ltb-true, ltb-false}
use Rattle.std.specs.Prelude.{Option, Some, None, position}
use Rattle.std.specs.List.{position_or_len}
use Rattle.basics.proofs.Bools.{and_left, and_right}
use Rattle.basics.proofs.Sums.{sum_on}
use Rattle.rules.specs.declared.Target.{Target}
use Rattle.rules.specs.Contents.{among, bit, has, with, without, size, find, further, mask_of, of_set, is_last, target_of, Last, Place}
use Rattle.rules.specs.Refusals.{set_counts}
use Rattle.rules.specs.Shape.{Listed}
use Rattle.rules.proofs.Bits.{bit_low, bit_rest}
use Rattle.rules.proofs.Contents.{size_sum, sixteen_places}
use Rattle.rules.proofs.Lookup.{among_every}
use Rattle.rules.proofs.Sets.{mask_lt}
use Rattle.tables.specs.Aim.{in_word, nothing, aimed_at}

pub one_shifted : (i : ℕ) → i < 64 → (1 * 2 ^ i) % 2 ^ 64 ≡ 2 ^ i
one_shifted i h = shl_exact 1 i 64 (lit< tt) (omega arith) ∙ one-mul (2 ^ i)

-- ---- the count of set bits

-- the lowest bit first
sum_low : (k C : ℕ) → sum_on (suc k) (bit C) (λ i. 1) ≡ C % 2 + sum_on k (bit (C / 2)) (λ i. 1)
sum_low zero C = rw (bit_low C) (digit (C % 2) (omega arith))
  where
    digit : (d : ℕ) → d < 2 → 0 + cond (eqb d 1) 1 0 ≡ d + 0
    digit zero h = refl
    digit (suc zero) h = refl
    digit (suc (suc d)) h = absurd (omega arith)
sum_low (suc k) C = rw (bit_rest C k) (omega (arith, sum_low k C))

ones_low : (k C : ℕ) → ones (C % 2 ^ k) ≡ sum_on k (bit C) (λ i. 1)
ones_low zero C = omega (arith, ones-le 0 (C % 2 ^ 0) (omega arith))
ones_low (suc k) C =
    ones_step (C % 2 ^ suc k)
    ∙ ap (λ (n : ℕ). C % 2 ^ suc k % 2 + ones n) half
    ∙ omega (arith, ones_low k (C / 2), sum_low k C, low)
  where
    half : C % 2 ^ suc k / 2 ≡ C / 2 % 2 ^ k
    half = rw (add-one k) at (field C k 1)

    low : C % 2 ^ suc k % 2 ≡ C % 2
    low = rw (add-one k) at (mod-mod-pow C k 1)

pub size_ones : (C : ℕ) → ones (C % 65536) ≡ size C
size_ones C = ones_low 16 C ∙ ap (λ (k : ℕ). sum_on k (bit C) (λ i. 1)) (sym sixteen_places) ∙ sym (size_sum C)

-- ---- looking up

-- a place in the list, or none
abbrev pub as_place : Option ℕ → Place
as_place (Some i) = Some i
as_place None = None

one_on : (p n : ℕ) (x : Place) → as_place (cond (ltb p n) (Some p) None) ≡ x → as_place (cond (ltb (1 + p) (suc n)) (Some (1 + p)) None) ≡ further x
one_on p n x = go (ltb p n) refl
  where
    go : (c : Bool) → ltb p n ≡ c → as_place (cond c (Some p) None) ≡ x → as_place (cond (ltb (1 + p) (suc n)) (Some (1 + p)) None) ≡ further x
    go true q e = rw (lt-ltb (1 + p) (suc n) (omega (arith, ltb-true p n q))) (ap Some (omega arith) ∙ ap further e)
    go false q e = rw (le-ltb (1 + p) (suc n) (omega (arith, ltb-false p n q))) (ap further e)

-- the first place at which the list has the block is where it is found
pub find_first : (b : ℕ) (ts : List ℕ) → as_place (position (λ t. eqb t b) ts) ≡ find ts b
unfolding find
find_first b [] = refl
find_first b (t ∷ ts) = go (eqb t b) (find_first b ts)
  where
    go : (c : Bool)
        → as_place (position (λ t. eqb t b) ts) ≡ find ts b
        → as_place (cond (ltb (cond (not c) (1 + position_or_len (λ t. eqb t b) ts) 0) (suc (length ts))) (Some (cond (not c) (1 + position_or_len (λ t. eqb t b) ts) 0)) None)
        ≡ cond c (Some 0) (further (find ts b))
    go true e = rw (lt-ltb 0 (suc (length ts)) (omega arith))
    go false e = one_on (position_or_len (λ t. eqb t b) ts) (length ts) (find ts b) e

-- ---- the blocks of a set

-- a set count is a power of two, so that a number's low bits are what is left of it
pub low_bits : (Z n : ℕ) → among set_counts Z ≡ true → bit_and n (Z - 1) ≡ n % Z
low_bits Z n h =
    among_every (λ m. bit_and n (m - 1) ≡ n % m) set_counts Z h
    (and_mask n 0, (and_mask n 1, (and_mask n 2, (and_mask n 3, (and_mask n 4, tt)))))

-- the mask of the blocks behind place i
abbrev pub set_from : ℕ → List ℕ → ℕ → ℕ → ℕ
set_from Z ts j i = of_set Z (drop i ts) j

module _ (Z : ℕ) (ts : List ℕ) (j : ℕ) where
  pub set_end : 0 ≡ set_from Z ts j (length ts)
  unfolding of_set mask_of
  set_end = rw (drop_of_length-le ts (le_refl (length ts)))

  -- one block more, the one before them
  pub set_next : (i m d : ℕ) → 0 < i → i ≤ length ts → m ≡ set_from Z ts j i → d ≡ cond (eqb (get_or ts (i - 1) 0 % Z) j) 1 0 → m * 2 + d ≡ set_from Z ts j (i - 1)
  unfolding of_set mask_of
  set_next i m d some l e q =
      ap₂ (λ (n k : ℕ). n * 2 + k) (e ∙ ap (set_from Z ts j) (sym next)) q
      ∙ sym (ap (λ (us : List ℕ). of_set Z us j) (drop-cons ts (i - 1) 0 (omega arith)))
    where
      next : suc (i - 1) ≡ i
      next = omega arith

  pub set_small : (i : ℕ) → length ts ≤ 16 → set_from Z ts j i < 65536
  unfolding of_set
  set_small i few = lt_of_lt_of_le (mask_lt (λ t. eqb (t % Z) j) (drop i ts)) (pow_mono {j = 16} short)
    where
      short : length (drop i ts) ≤ 16
      short = omega (arith, length-drop i ts)

-- where there is one set only, all tracked blocks belong to it
pub all_mates : (ts : List ℕ) → 2 ^ length ts - 1 ≡ of_set 1 ts 0
unfolding of_set mask_of
all_mates [] = refl
all_mates (t ∷ ts) = rw (mod-one t, ← all_mates ts) (omega (arith, pow_pos (length ts), pow-succ' 2 (length ts)))

-- ---- what an access is after

module _ (Z : ℕ) (ts : List ℕ) (r : Bool) (e : r ≡ (leb (length ts) 16 && among set_counts Z)) where
  -- where the sets and the tracked blocks are in range
  module _ (h : r ≡ true) where
    pub few : length ts ≤ 16
    few = leb-true (length ts) 16 (and_left (leb (length ts) 16) (among set_counts Z) (sym e ∙ h))

    pub known : among set_counts Z ≡ true
    known = and_right (leb (length ts) 16) (among set_counts Z) (sym e ∙ h)

    -- it is found out in parts
    pub aimed_at_lem : (l : Last) (b : ℕ) (x : Place) (a : Bool) (j m : ℕ) → x ≡ find ts b → a ≡ is_last l b → j ≡ bit_and b (Z - 1) → m ≡ of_set Z ts j
        → record { place = x; again = a; set = j; mates = m } ≡ aimed_at Z ts l b
    unfolding target_of aimed_at
    aimed_at_lem l b x a j m p o q r = rw (← e, h, r, q, low_bits Z b known, p, o) refl

  pub aimed_none : r ≡ false → (l : Last) (b : ℕ) → nothing ≡ aimed_at Z ts l b
  unfolding aimed_at
  aimed_none h l b = rw (← e, h)

-- ---- what the documents say, where the arguments are in range

pub aimed_so : (Z : ℕ) (ts : List ℕ) → length ts ≤ 16 → among set_counts Z ≡ true → (l : Last) (b : ℕ) (x : Target) → x ≡ aimed_at Z ts l b → x ≡ target_of Z ts l b
unfolding aimed_at
aimed_so Z ts few known l b x e = e ∙ rw (le-leb (length ts) 16 few, known)

-- one of sixteen places
in_mask : (i : ℕ) → i < 16 → i % 64 ≡ i
in_mask i l = omega arith

module _ (C i : ℕ) (l : i < 16) where
  pub has_there : (r : Bool) → r ≡ bit C (i % 64) → r ≡ bit C i
  has_there r e = e ∙ ap (bit C) (in_mask i l)

  pub without_there : (D : ℕ) → D ≡ without C (i % 64) → D ≡ without C i
  without_there D e = e ∙ ap (without C) (in_mask i l)

-- a block that was looked up among sixteen
pub in_word_lem : (x : Place) → Listed 16 x → in_word x ≡ x
in_word_lem (Some i) h = ap Some (in_mask i (h i refl))
in_word_lem None h = refl

module _ (C : ℕ) (x : Place) (h : Listed 16 x) where
  pub has_listed : (a r : Bool) → r ≡ has C a (in_word x) → r ≡ has C a x
  has_listed a r e = e ∙ ap (has C a) (in_word_lem x h)

  pub with_listed : (D : ℕ) → D ≡ with C (in_word x) → D ≡ with C x
  with_listed D e = e ∙ ap (with C) (in_word_lem x h)
