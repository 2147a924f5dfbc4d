-- What is written, read back: numbers from their bytes, a block's fields, and the accesses of a whole trace.
use mathlib.Core.Path.{◌≡◌, refl, sym, ap, ◌∙◌}
use mathlib.Core.Bool.{true}
use mathlib.Core.List.{List, [], ◌∷◌, ◌++◌, append_assoc}
use Prim.Native.Nat.{ℕ, zero, suc, ◌+◌, ◌-◌, ◌*◌, ◌/◌, ◌%◌, ◌≤◌, ◌<◌, min}
use native.Mathlib.Nat.{add-zero}
use native.Mathlib.Omega.{arith}
use borrow.Author.Tests.{eq-eqb, le-leb}
use lib.ListN.{length, get_or, take, drop, replicate, length-append, length-take, length-drop, length-replicate, take-append-drop}
use lib.Seq.{take_at, drop_at, drop-drop, get_or-append-add}
use Rattle.trace_blocks.specs.Blocks.{pair_at, four_at, fours, number_in, count_in, accesses_in, unused_in, check_in, check_of, all_zero, is_sound}
use Rattle.recorder.specs.Traces.{blocks_in, blocks_of, gathered, said_at, damage_at, said, damaged_places}
use Rattle.trace_blocks.specs.Written.{pair_bytes, four_bytes, fours_bytes, head_of, block_of}
use Rattle.recorder.specs.Written.{blocks_for, trace_from, trace_of}
use Rattle.trace_blocks.proofs.Stored.{length_fours_bytes, length_head, length_block}

-- ---- numbers from their bytes

pair_back : (x : ℕ) → x % 256 + x / 256 * 256 ≡ x
pair_back x = omega arith

bytes_back : (x : ℕ) → get_or (pair_bytes x) 0 0 + get_or (pair_bytes x) 1 0 * 256 ≡ x
unfolding pair_bytes
bytes_back x = pair_back x

four_back : (x : ℕ) → x % 256 + x / 256 % 256 * 256 + x / 65536 % 256 * 65536 + x / 16777216 * 16777216 ≡ x
four_back x = omega arith

fours_back : (xs rest : List ℕ) → fours (length xs) (fours_bytes xs ++ rest) ≡ xs
unfolding fours fours_bytes four_bytes four_at
fours_back [] rest = refl
fours_back (x ∷ xs) rest = rw (four_back x, fours_back xs rest)

zeros_back : (n : ℕ) → all_zero (replicate n 0) ≡ true
unfolding all_zero
zeros_back zero = refl
zeros_back (suc n) = zeros_back n

-- ---- the fields of a block

module _ (k : ℕ) (xs : List ℕ) where
  number_back : number_in (block_of k xs) ≡ k
  unfolding block_of head_of four_bytes four_at
  number_back = four_back k

  count_back : count_in (block_of k xs) ≡ length xs
  unfolding block_of head_of four_bytes pair_bytes pair_at
  count_back = pair_back (length xs)

  zeros : List ℕ
  zeros = replicate (504 - length xs * 4) 0

  check : List ℕ
  check = pair_bytes (check_of (head_of k xs))

  -- behind byte 5
  behind : drop 6 (block_of k xs) ≡ fours_bytes xs ++ (zeros ++ check)
  unfolding block_of head_of four_bytes pair_bytes zeros check
  behind = append_assoc (fours_bytes xs) zeros check

  pub accesses_back : accesses_in (block_of k xs) ≡ xs
  unfolding accesses_in
  accesses_back = rw (count_back, behind) (fours_back xs (zeros ++ check))

  unused_back : all_zero (unused_in (block_of k xs)) ≡ true
  unfolding zeros
  unused_back =
      let n : ℕ = length xs * 4 in
      let rest : drop (6 + length xs * 4) (block_of k xs) ≡ zeros ++ check
      = sym (drop-drop (length xs * 4) 6 (block_of k xs)) ∙ ap (drop (length xs * 4)) behind ∙ drop_at (fours_bytes xs) (zeros ++ check) (length xs * 4) (length_fours_bytes xs) in
      let size : length zeros ≡ 510 - (6 + length xs * 4) = length-replicate {A = ℕ} (504 - length xs * 4) 0 ∙ omega arith in
      rw (count_back, rest, take_at zeros check (510 - (6 + length xs * 4)) size) (zeros_back (504 - length xs * 4))

  module _ (few : length xs ≤ 125) where
    head_back : take 510 (block_of k xs) ≡ head_of k xs
    unfolding block_of
    head_back = take_at (head_of k xs) (pair_bytes (check_of (head_of k xs))) 510 (length_head k xs few)

    check_back : check_in (block_of k xs) ≡ check_of (head_of k xs)
    unfolding block_of pair_at
    check_back =
        let h : List ℕ = head_of k xs in
        let c : ℕ = check_of (head_of k xs) in
        let low : get_or (h ++ pair_bytes c) 510 0 ≡ get_or (pair_bytes c) 0 0
        = ap (λ (j : ℕ). get_or (h ++ pair_bytes c) j 0) (omega (arith, length_head k xs few)) ∙ get_or-append-add h (pair_bytes c) 0 0 in
        let high : get_or (h ++ pair_bytes c) 511 0 ≡ get_or (pair_bytes c) 1 0
        = ap (λ (j : ℕ). get_or (h ++ pair_bytes c) j 0) (omega (arith, length_head k xs few)) ∙ get_or-append-add h (pair_bytes c) 1 0 in
        rw (low, high) (bytes_back c)

    pub written_sound : is_sound k (block_of k xs) ≡ true
    unfolding is_sound
    written_sound =
        rw (
          eq-eqb (number_in (block_of k xs)) k number_back,
          le-leb (count_in (block_of k xs)) 125 (omega (arith, count_back)),
          unused_back,
          eq-eqb (check_in (block_of k xs)) (check_of (take 510 (block_of k xs))) (check_back ∙ ap check_of (sym head_back)),
        )

-- ---- a trace

full_few : (xs : List ℕ) → length (take 125 xs) ≤ 125
full_few xs = omega (arith, length-take 125 xs)

-- the first block of a trace, and those behind it
blocks_behind : (n : ℕ) (b rest : List ℕ) → length b ≡ 512 → blocks_in (suc n) (b ++ rest) ≡ b ∷ blocks_in n rest
unfolding blocks_in
blocks_behind n b rest h = rw (take_at b rest 512 h, drop_at b rest 512 h)

module _ (f : ℕ → List ℕ → List ℕ) (n k : ℕ) (xs : List ℕ) where
  gathered_written : gathered f k (blocks_in (suc n) (trace_from (suc n) k xs))
      ≡ f k (block_of k (take 125 xs)) ++ gathered f (suc k) (blocks_in n (trace_from n (suc k) (drop 125 xs)))
  unfolding gathered trace_from
  gathered_written = ap (gathered f k) (blocks_behind n (block_of k (take 125 xs)) (trace_from n (suc k) (drop 125 xs)) (length_block k (take 125 xs) (full_few xs)))

said_from : (n k : ℕ) (xs : List ℕ) → length xs ≤ n * 125 → gathered said_at k (blocks_in n (trace_from n k xs)) ≡ xs
unfolding gathered blocks_in
said_from zero k [] h = refl
said_from zero k (x ∷ xs) h = absurd (omega arith)
said_from (suc n) k xs h =
    let left = length-drop 125 xs in
    gathered_written said_at n k xs ∙ rw (accesses_back k (take 125 xs), said_from n (suc k) (drop 125 xs) (omega arith)) (take-append-drop 125 xs)

none_from : (n k : ℕ) (xs : List ℕ) → gathered damage_at k (blocks_in n (trace_from n k xs)) ≡ []
unfolding gathered blocks_in
none_from zero k xs = refl
none_from (suc n) k xs = gathered_written damage_at n k xs ∙ rw (written_sound k (take 125 xs) (full_few xs)) (none_from n (suc k) (drop 125 xs))

length_from : (n k : ℕ) (xs : List ℕ) → length (trace_from n k xs) ≡ n * 512
unfolding trace_from
length_from zero k xs = refl
length_from (suc n) k xs =
    omega (arith, length-append (block_of k (take 125 xs)) (trace_from n (suc k) (drop 125 xs)), length_block k (take 125 xs) (full_few xs), length_from n (suc k) (drop 125 xs))

block_from : (n k j : ℕ) (xs : List ℕ) → j < n → get_or (blocks_in n (trace_from n k xs)) j [] ≡ block_of (k + j) (take 125 (drop (j * 125) xs))
unfolding trace_from
block_from zero k j xs h = absurd (omega arith)
block_from (suc n) k zero xs h =
    rw (blocks_behind n (block_of k (take 125 xs)) (trace_from n (suc k) (drop 125 xs)) (length_block k (take 125 xs) (full_few xs)), add-zero k)
block_from (suc n) k (suc j) xs h =
    let place : k + suc j ≡ suc k + j = omega arith in
    let further : suc j * 125 ≡ 125 + j * 125 = omega arith in
    rw (blocks_behind n (block_of k (take 125 xs)) (trace_from n (suc k) (drop 125 xs)) (length_block k (take 125 xs) (full_few xs)), place, further, ← drop-drop (j * 125) 125 xs)
    (block_from n (suc k) j (drop 125 xs) (omega arith))

module _ (xs : List ℕ) where
  pub length_written : length (trace_of xs) ≡ blocks_for (length xs) * 512
  unfolding trace_of
  length_written = length_from (blocks_for (length xs)) 0 xs

  blocks_written : blocks_of (trace_of xs) ≡ blocks_in (blocks_for (length xs)) (trace_of xs)
  unfolding blocks_of
  blocks_written = ap (λ (n : ℕ). blocks_in n (trace_of xs)) (omega (arith, length_written))

  pub said_written : said (trace_of xs) ≡ xs
  unfolding said trace_of
  said_written = rw blocks_written (said_from (blocks_for (length xs)) 0 xs (omega arith))

  pub none_written : damaged_places (trace_of xs) ≡ []
  unfolding damaged_places trace_of
  none_written = rw blocks_written (none_from (blocks_for (length xs)) 0 xs)

  pub count_written : (j : ℕ) → j < blocks_for (length xs) → count_in (get_or (blocks_of (trace_of xs)) j []) ≡ min 125 (length xs - j * 125)
  unfolding trace_of
  count_written j h =
      ap (λ (bs : List (List ℕ)). count_in (get_or bs j [])) blocks_written
      ∙ ap count_in (block_from (blocks_for (length xs)) 0 j xs h)
      ∙ count_back (0 + j) (take 125 (drop (j * 125) xs))
      ∙ length-take 125 (drop (j * 125) xs)
      ∙ ap (min 125) (length-drop (j * 125) xs)
