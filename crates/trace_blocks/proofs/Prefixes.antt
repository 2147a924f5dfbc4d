-- A list filled from the front, one store a turn: what stands before a place, with what is still to come behind it, stays the same.
use mathlib.Core.Path.{◌≡◌, ap}
use mathlib.Core.List.{List, [], ◌∷◌, ◌++◌, append-nil, append_assoc}
use Prim.Native.Nat.{ℕ, ◌+◌, ◌-◌, ◌/◌, ◌%◌, ◌≤◌, ◌<◌}
use native.Mathlib.Numerals.{add-one}
use native.Mathlib.Omega.{arith}
use lib.ListN.{length, set, take, drop, replicate, length-append, length-drop, drop_of_length-le}
use lib.Seq.{append_snoc, take-suc-set, length-take-le, take_at}
use Rattle.std.specs.Int.{w16, w32, to_le_bytes}
use Rattle.trace_blocks.specs.Written.{pair_bytes, four_bytes}

-- v is stored at place i, where it was the next to come
pub stored_next : (xs rest w : List ℕ) (i v : ℕ) → i < length xs → take i xs ++ (v ∷ rest) ≡ w → take (i + 1) (set xs i v) ++ rest ≡ w
stored_next xs rest w i v h e = rw (add-one i, take-suc-set xs i v h, append_snoc (take i xs) v rest) e

-- ---- zeros up to the end

-- the part of a room from place i on, which is lent; and the room when it comes back as ys
abbrev pub rest_from : ℕ → List ℕ → List ℕ
rest_from i room = take (length room - i) (drop i room)

abbrev pub with_rest : ℕ → List ℕ → List ℕ → List ℕ
with_rest i room ys = take i room ++ (ys ++ drop (length room - i) (drop i room))

pub cleared_rest : (room ys : List ℕ) (i : ℕ) → ys ≡ replicate (length (rest_from i room)) 0 → with_rest i room ys ≡ take i room ++ replicate (length room - i) 0
cleared_rest room ys i zeros =
    let left : length (drop i room) ≡ length room - i = length-drop i room in
    let part : length (rest_from i room) ≡ length room - i = length-take-le (length room - i) (drop i room) (omega arith) in
    let none : drop (length room - i) (drop i room) ≡ [] = drop_of_length-le (drop i room) {i = length room - i} (omega arith) in
    rw (none, append-nil ys, zeros, part)

-- ---- a number's bytes stored

-- the bytes zs put into a room at a place: what stands before their end
pub part_stored : (b ys zs rest : List ℕ) (at n : ℕ) → ys ≡ zs → length zs ≡ n → at ≤ length b → take (at + n) (take at b ++ (ys ++ rest)) ≡ take at b ++ zs
part_stored b ys zs rest at n e long h =
    let size : length (take at b ++ zs) ≡ at + n = omega (arith, length-append (take at b) zs, length-take-le at b h, long) in
    rw (e, ← append_assoc (take at b) zs rest) (take_at (take at b ++ zs) rest (at + n) size)

-- a number's bytes, the lowest first, are those of the definition
pub pair_low_first : (x : ℕ) → x < 65536 → to_le_bytes w16 x ≡ pair_bytes x
unfolding pair_bytes
pair_low_first x h =
    let high : x / 256 % 256 ≡ x / 256 = omega arith in
    ap (λ n. x % 256 ∷ n ∷ []) high

pub four_low_first : (x : ℕ) → x < 4294967296 → to_le_bytes w32 x ≡ four_bytes x
unfolding four_bytes
four_low_first x h =
    let high : x / 16777216 % 256 ≡ x / 16777216 = omega arith in
    ap (λ n. x % 256 ∷ x / 256 % 256 ∷ x / 65536 % 256 ∷ n ∷ []) high
