-- What is asked of any bytes: where they are a block, it is asked of the block, and otherwise nothing is said or written.
use mathlib.Core.Path.{◌≡◌}
use mathlib.Core.Logic.{◌≢◌}
use mathlib.Core.Bool.{false}
use mathlib.Core.List.{List}
use Prim.Native.Nat.{ℕ, ◌+◌, ◌*◌, ◌≤◌, ◌<◌}
use borrow.Author.Tests.{eq-eqb, ne_eqb, lt-ltb, le-ltb, le-leb, lt-leb}
use lib.ListN.{length}
use Rattle.trace_blocks.specs.Blocks.{four_at, count_in, is_sound, is_block, count_of, access_of}
use Rattle.trace_blocks.specs.Written.{block_of, block_put}

module _ (b : List ℕ) (no : length b ≢ 512) where
  pub no_block : (k : ℕ) → false ≡ is_block k b
  unfolding is_block
  no_block k = rw (ne_eqb (length b) 512 no)

  pub none_counted : 0 ≡ count_of b
  unfolding count_of
  none_counted = rw (ne_eqb (length b) 512 no)

  pub none_there : (i : ℕ) → 0 ≡ access_of b i
  unfolding access_of
  none_there i = rw (ne_eqb (length b) 512 no)

  pub not_put : (k : ℕ) (xs : List ℕ) → b ≡ block_put k xs b
  unfolding block_put
  not_put k xs = rw (ne_eqb (length b) 512 no)

module _ (b : List ℕ) (whole : length b ≡ 512) where
  pub judged_block : (k : ℕ) → is_sound k b ≡ is_block k b
  unfolding is_block
  judged_block k = rw (eq-eqb (length b) 512 whole)

  pub counted_block : count_in b ≡ count_of b
  unfolding count_of
  counted_block = rw (eq-eqb (length b) 512 whole)

  pub past_places : (i : ℕ) → 125 ≤ i → 0 ≡ access_of b i
  unfolding access_of
  past_places i h = rw (eq-eqb (length b) 512 whole, le-ltb i 125 h)

  pub access_there : (i : ℕ) → i < 125 → four_at b (6 + i * 4) ≡ access_of b i
  unfolding access_of
  access_there i h = rw (eq-eqb (length b) 512 whole, lt-ltb i 125 h)

  pub too_many_put : (k : ℕ) (xs : List ℕ) → 125 < length xs → b ≡ block_put k xs b
  unfolding block_put
  too_many_put k xs h = rw (eq-eqb (length b) 512 whole, lt-leb (length xs) 125 h)

  pub block_put_lem : (k : ℕ) (xs : List ℕ) → length xs ≤ 125 → block_of k xs ≡ block_put k xs b
  unfolding block_put
  block_put_lem k xs h = rw (eq-eqb (length b) 512 whole, le-leb (length xs) 125 h)
