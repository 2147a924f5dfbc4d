-- The accesses of a block copied, one by one; and of the blocks of a trace that has no damaged one.
use mathlib.Core.Path.{◌≡◌, refl, sym, ap, ◌∙◌}
use mathlib.Core.Bool.{Bool, true, false, cond}
use mathlib.Core.List.{List, [], ◌∷◌, ◌++◌, append-nil}
use Prim.Native.Nat.{ℕ, zero, suc, ◌+◌, ◌-◌, ◌*◌, ◌/◌, ◌≤◌, ◌<◌}
use native.Mathlib.Nat.{add-zero, sub-zero}
use native.Mathlib.Omega.{arith}
use borrow.Author.Tests.{leb-true}
use lib.Dec.{eqb, leb}
use lib.ListN.{length, set, take, drop, length-append}
use lib.Seq.{get_or-drop, drop-drop, length-take-le}
use Rattle.basics.proofs.Bools.{and_left, and_right}
use Rattle.trace_blocks.specs.Blocks.{four_at, fours, number_in, count_in, accesses_in, unused_in, all_zero, check_in, check_of, is_sound}
use Rattle.recorder.specs.Traces.{blocks_of, gathered, damage_at}
use Rattle.recorder.specs.Fronts.{Front}
use Rattle.trace_blocks.proofs.Prefixes.{stored_next}
use Rattle.recorder.proofs.Traces.{lent, gathered_next}
use Rattle.recorder.proofs.Fronts.{front_ends}

-- ---- one block

pub four_drop : (b : List ℕ) (p : ℕ) → four_at (drop p b) 0 ≡ four_at b p
unfolding four_at
four_drop b p = rw (get_or-drop p b 0 0, get_or-drop p b 1 0, get_or-drop p b 2 0, get_or-drop p b 3 0, add-zero p)

pub length_fours : (n : ℕ) (b : List ℕ) → length (fours n b) ≡ n
unfolding fours
length_fours zero b = refl
length_fours (suc n) b = ap suc (length_fours n (drop 4 b))

fours_suc : (n m p q : ℕ) (b : List ℕ) → n ≡ suc m → q ≡ p + 4 → fours n (drop p b) ≡ four_at b p ∷ fours m (drop q b)
unfolding fours
fours_suc n m p q b e f = rw (e, f, ← four_drop b p, ← drop-drop 4 p b)

module _ (block xs w : List ℕ) (at i n : ℕ) (rest : take (at + i) xs ++ fours (n - i) (drop (6 + i * 4) block) ≡ w) where
  pub copied_next : i < n → at + i < length xs → (v : ℕ) → v ≡ four_at block (6 + i * 4)
      → take (at + (i + 1)) (set xs (at + i) v) ++ fours (n - (i + 1)) (drop (6 + (i + 1) * 4) block) ≡ w
  copied_next h l v e =
      let further : at + (i + 1) ≡ at + i + 1 = omega arith in
      let next : fours (n - i) (drop (6 + i * 4) block) ≡ four_at block (6 + i * 4) ∷ fours (n - (i + 1)) (drop (6 + (i + 1) * 4) block)
      = fours_suc (n - i) (n - (i + 1)) (6 + i * 4) (6 + (i + 1) * 4) block (omega arith) (omega arith) in
      rw (further, e) (stored_next xs (fours (n - (i + 1)) (drop (6 + (i + 1) * 4) block)) w (at + i) (four_at block (6 + i * 4)) l (rw next at rest))

  pub copied_end : n ≤ i → at + i ≤ length xs → Front w (at + i) xs
  unfolding fours
  copied_end h l =
      let none : n - i ≡ 0 = omega arith in
      record { within = l; stands = sym (append-nil (take (at + i) xs)) ∙ rw none at rest }

pub copied_start : (block xs : List ℕ) (at n : ℕ) → n ≡ count_in block → take (at + 0) xs ++ fours (n - 0) (drop 6 block) ≡ take at xs ++ accesses_in block
unfolding accesses_in
copied_start block xs at n e = rw (add-zero at, sub-zero n, e)

-- ---- a trace

pub sound_few : (k : ℕ) (b : List ℕ) → is_sound k b ≡ true → count_in b ≤ 125
unfolding is_sound
sound_few k b h =
    let a = eqb (number_in b) k in
    let t = leb (count_in b) 125 in
    leb-true (count_in b) 125 (and_right a t (and_left _ (all_zero (unused_in b)) (and_left _ (eqb (check_in b) (check_of (take 510 b))) h)))

module _ (trace : List ℕ) (k : ℕ) (none : gathered damage_at k (drop k (blocks_of trace)) ≡ []) (h : k < length trace / 512) where
  pub sound_left : (is_sound k (lent trace k) ≡ true) × (gathered damage_at (k + 1) (drop (k + 1) (blocks_of trace)) ≡ [])
  sound_left = go (is_sound k (lent trace k)) (gathered_next damage_at trace k [] [] none h)
    where
      go : (t : Bool) → cond t [] (k ∷ []) ++ gathered damage_at (k + 1) (drop (k + 1) (blocks_of trace)) ≡ [] → (t ≡ true) × (gathered damage_at (k + 1) (drop (k + 1) (blocks_of trace)) ≡ [])
      go true e = (refl, e)
      go false e = absurd (omega (arith, ap length e))

-- no more than 125 accesses for each block that was copied
pub copied_most : (k : ℕ) (b xs xs' : List ℕ) (at r : ℕ) → Front (take at xs ++ accesses_in b) r xs' → count_in b ≤ 125 → at ≤ k * 125
    → at ≤ length xs → r ≤ (k + 1) * 125
unfolding accesses_in
copied_most k b xs xs' at r f few h l =
    omega (arith, front_ends (take at xs ++ accesses_in b) xs' r f, length-append (take at xs) (accesses_in b), length-take-le at xs l, length_fours (count_in b) (drop 6 b))
