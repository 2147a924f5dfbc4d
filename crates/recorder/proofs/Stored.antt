-- The blocks of a trace stored, one behind the other.
use mathlib.Core.Path.{◌≡◌, sym, ap, ◌∙◌}
use mathlib.Core.List.{List, ◌++◌, append-nil, append_assoc}
use Prim.Native.Nat.{ℕ, suc, ◌+◌, ◌-◌, ◌*◌, ◌≤◌, ◌<◌, min}
use native.Mathlib.Numerals.{add-one}
use native.Mathlib.Omega.{arith}
use native.Mathlib.Decide.{dec_le}
use native.Mathlib.Nat.{sub-zero}
use lib.ListN.{length, take, drop, length-append, length-take, length-drop}
use lib.Seq.{length-take-le, take_all, take_at, drop-drop}
use Rattle.trace_blocks.specs.Written.{block_of, block_put}
use Rattle.trace_blocks.proofs.Stored.{length_block}
use Rattle.trace_blocks.proofs.AnyBytes.{block_put_lem}
use Rattle.recorder.specs.Written.{blocks_for, trace_from, trace_of}

-- a block lent from a trace, handed back
pub put_back : (k : ℕ) (xs t b rest : List ℕ) (at : ℕ) → length xs ≤ 125 → at + 512 ≤ length t → b ≡ block_put k xs (take (at + 512 - at) (drop at t))
    → take (at + 512) (take at t ++ (b ++ rest)) ≡ take at t ++ block_of k xs
put_back k xs t b rest at few h put =
    let part : length (take (at + 512 - at) (drop at t)) ≡ 512 = omega (arith, length-take (at + 512 - at) (drop at t), length-drop at t) in
    let e : b ≡ block_of k xs = put ∙ sym (block_put_lem (take (at + 512 - at) (drop at t)) part k xs few) in
    let size : length (take at t ++ b) ≡ at + 512 = omega (arith, length-append (take at t) b, length-take-le at t (omega arith), ap length e, length_block k xs few) in
    ap (take (at + 512)) (sym (append_assoc (take at t) b rest)) ∙ take_at (take at t ++ b) rest (at + 512) size ∙ ap (take at t ++◌) e

-- ---- a trace

-- the accesses that are lent for a block, from `from` up to `end`: at most 125 of those that are left
module _ (xs : List ℕ) (from end : ℕ) (e : end ≡ min (from + 125) (length xs)) where
  pub part_few : length (take (end - from) (drop from xs)) ≤ 125
  part_few = omega (arith, length-take (end - from) (drop from xs))

  pub part_same : from ≤ length xs → take (end - from) (drop from xs) ≡ take 125 (drop from xs)
  part_same h = go (dec_le (from + 125) (length xs))
    where
      go : Dec (from + 125 ≤ length xs) → take (end - from) (drop from xs) ≡ take 125 (drop from xs)
      go (yes l) =
          let full : end - from ≡ 125 = omega arith in
          rw full
      go (no l) =
          let left = length-drop from xs in
          take_all (end - from) (drop from xs) (omega arith) ∙ sym (take_all 125 (drop from xs) (omega arith))

written_suc : (n m k from next : ℕ) (xs : List ℕ) → n ≡ suc m → next ≡ from + 125
    → trace_from n k (drop from xs) ≡ block_of k (take 125 (drop from xs)) ++ trace_from m (suc k) (drop next xs)
unfolding trace_from
written_suc n m k from next xs e f = rw (e, f, ← drop-drop 125 from xs)

module _ (xs t w : List ℕ) (k n : ℕ) (rest : take (k * 512) t ++ trace_from (n - k) k (drop (k * 125) xs) ≡ w) where
  pub written_next : k < n → k * 125 ≤ length xs → (end : ℕ) → end ≡ min (k * 125 + 125) (length xs) → (t' : List ℕ)
      → take (k * 512 + 512) t' ≡ take (k * 512) t ++ block_of k (take (end - k * 125) (drop (k * 125) xs))
      → take ((k + 1) * 512) t' ++ trace_from (n - (k + 1)) (k + 1) (drop ((k + 1) * 125) xs) ≡ w
  written_next h l end e t' f =
      let further : (k + 1) * 512 ≡ k * 512 + 512 = omega arith in
      let ys : List ℕ = take 125 (drop (k * 125) xs) in
      let zs : List ℕ = trace_from (n - (k + 1)) (suc k) (drop ((k + 1) * 125) xs) in
      let next : trace_from (n - k) k (drop (k * 125) xs) ≡ block_of k ys ++ zs
      = written_suc (n - k) (n - (k + 1)) k (k * 125) ((k + 1) * 125) xs (omega arith) (omega arith) in
      let stands : take ((k + 1) * 512) t' ≡ take (k * 512) t ++ block_of k ys = rw further (f ∙ rw (part_same xs (k * 125) end e l)) in
      let whole : take (k * 512) t ++ (block_of k ys ++ zs) ≡ w = rw next at rest in
      ap (λ (j : ℕ). take ((k + 1) * 512) t' ++ trace_from (n - (k + 1)) j (drop ((k + 1) * 125) xs)) (add-one k)
      ∙ ap (◌++ zs) stands ∙ append_assoc (take (k * 512) t) (block_of k ys) zs ∙ whole

  pub written_end : n ≤ k → k ≤ n → take (n * 512) t ≡ w
  unfolding trace_from
  written_end h l =
      let none : n - k ≡ 0 = omega arith in
      let all : k ≡ n = omega arith in
      rw (← all) (sym (append-nil (take (k * 512) t)) ∙ rw none at rest)

pub written_start : (xs : List ℕ) → trace_from (blocks_for (length xs) - 0) 0 xs ≡ trace_of xs
unfolding trace_of
written_start xs = rw (sub-zero (blocks_for (length xs)))
