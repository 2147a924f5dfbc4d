-- Where the parts of a list of numbers end: a count at a place, and behind it the numbers that it counts.
use Rattle.std.specs.Prelude.{◌≡◌, cond, List, ℕ, suc, ◌+◌, ◌*◌, leb, ltb, length, get_or}

-- where the part that begins at place `at` ends; past the end of the list where there are not enough numbers
unfoldable pub end_of : ℕ → List ℕ → ℕ → ℕ
end_of width ns at =
    cond (ltb at (length ns)) (let e = at + 1 + get_or ns at 0 * width in cond (leb e (length ns)) e (suc (length ns))) (suc (length ns))

-- the tracked blocks end at `first`, the run lengths at `second`, the accesses at `third`, and the edges with the list
pub record Ends (ns : List ℕ) (first second third : ℕ) : Type 0 where
  pub tracked : first ≡ end_of 1 ns 2
  pub runs : second ≡ end_of 1 ns first
  pub accesses : third ≡ end_of 1 ns second
  pub edges : end_of 2 ns third ≡ length ns
