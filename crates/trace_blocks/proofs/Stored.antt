-- The bytes of a block stored, one part behind the other.
use mathlib.Core.Path.{◌≡◌, refl, sym, ap, ◌∙◌}
use mathlib.Core.List.{List, [], ◌∷◌, ◌++◌, append-nil, append_assoc}
use Prim.Native.Nat.{ℕ, ◌+◌, ◌-◌, ◌*◌, ◌%◌, ◌≤◌, ◌<◌}
use native.Mathlib.Omega.{arith}
use lib.ListN.{length, get_or, take, drop, replicate, length-append, length-replicate, replicate-append-replicate}
use lib.Seq.{length-take-le, take_all, take_at}
use Rattle.basics.proofs.Lists.{list_next, list_end}
use Rattle.trace_blocks.specs.Blocks.{weighed, check_of}
use Rattle.trace_blocks.specs.Written.{pair_bytes, four_bytes, fours_bytes, head_of, block_of}

-- ---- the accesses of a block

module _ (xs b w : List ℕ) (i : ℕ) (rest : take (6 + i * 4) b ++ fours_bytes (drop i xs) ≡ w) where
  pub put_next : i < length xs → (b' : List ℕ) → take (6 + i * 4 + 4) b' ≡ take (6 + i * 4) b ++ four_bytes (get_or xs i 0)
      → take (6 + (i + 1) * 4) b' ++ fours_bytes (drop (i + 1) xs) ≡ w
  unfolding fours_bytes
  put_next h b' e =
      let further : 6 + (i + 1) * 4 ≡ 6 + i * 4 + 4 = omega arith in
      rw (further, e, append_assoc (take (6 + i * 4) b) (four_bytes (get_or xs i 0)) (fours_bytes (drop (i + 1) xs)))
      (list_next (λ ys. take (6 + i * 4) b ++ fours_bytes ys) xs i w rest 0 h)

  pub put_end : length xs ≤ i → i ≤ length xs → take (6 + length xs * 4) b ≡ w
  unfolding fours_bytes
  put_end h l =
      let all : i ≡ length xs = omega arith in
      rw (← all) (sym (append-nil (take (6 + i * 4) b)) ∙ list_end (λ ys. take (6 + i * 4) b ++ fours_bytes ys) xs i w rest h)

-- ---- a block

-- number, count and accesses are stored, and the rest is cleared: bytes 0 to 509 are those of the definition
module _ (k : ℕ) (xs b₀ b₁ b₂ b₃ b₄ : List ℕ) (few : length xs ≤ 125) (long : length b₃ ≡ 512)
    (number : take 4 b₁ ≡ take 0 b₀ ++ four_bytes k)
    (count : take 6 b₂ ≡ take 4 b₁ ++ pair_bytes (length xs))
    (accesses : take (6 + length xs * 4) b₃ ≡ take 6 b₂ ++ fours_bytes xs)
    (zeros : b₄ ≡ take (6 + length xs * 4) b₃ ++ replicate (length b₃ - (6 + length xs * 4)) 0) where
  used : List ℕ
  used = four_bytes k ++ pair_bytes (length xs) ++ fours_bytes xs

  used_stands : take (6 + length xs * 4) b₃ ≡ used
  unfolding used
  used_stands = accesses ∙ rw (count, number)

  pub head_stored : take 510 b₄ ≡ head_of k xs
  unfolding used head_of
  head_stored =
      let n : ℕ = 504 - length xs * 4 in
      let two : length b₃ - (6 + length xs * 4) ≡ n + 2 = omega arith in
      let size : length used ≡ 6 + length xs * 4 = ap length (sym used_stands) ∙ length-take-le (6 + length xs * 4) b₃ (omega arith) in
      let size510 : length (used ++ replicate n 0) ≡ 510 = omega (arith, length-append used (replicate n 0), length-replicate {A = ℕ} n 0, size) in
      let parted : b₄ ≡ (used ++ replicate n 0) ++ replicate 2 0
      = zeros ∙ rw (used_stands, two, ← replicate-append-replicate {A = ℕ} n 2 0, ← append_assoc used (replicate n 0) (replicate 2 0)) in
      rw parted (take_at (used ++ replicate n 0) (replicate 2 0) 510 size510)

-- and the check behind them
pub block_stored : (k : ℕ) (xs b b' : List ℕ) (sum : ℕ) → take 510 b ≡ head_of k xs → sum ≡ weighed 1 (take 510 b) → take 512 b' ≡ take 510 b ++ pair_bytes (sum % 65521)
    → length b' ≡ 512 → b' ≡ block_of k xs
unfolding block_of check_of
block_stored k xs b b' sum head e h long = sym (take_all 512 b' (omega arith)) ∙ h ∙ rw (e, head)

pub length_fours_bytes : (xs : List ℕ) → length (fours_bytes xs) ≡ length xs * 4
unfolding fours_bytes four_bytes
length_fours_bytes [] = refl
length_fours_bytes (x ∷ xs) = omega (arith, length_fours_bytes xs)

pub length_head : (k : ℕ) (xs : List ℕ) → length xs ≤ 125 → length (head_of k xs) ≡ 510
unfolding head_of four_bytes pair_bytes
length_head k xs few =
    let n : ℕ = 504 - length xs * 4 in
    let rest = length-append (fours_bytes xs) (replicate n 0) in
    omega (arith, rest, length_fours_bytes xs, length-replicate {A = ℕ} n 0)

pub length_block : (k : ℕ) (xs : List ℕ) → length xs ≤ 125 → length (block_of k xs) ≡ 512
unfolding block_of pair_bytes
length_block k xs few = omega (arith, length-append (head_of k xs) (pair_bytes (check_of (head_of k xs))), length_head k xs few)
