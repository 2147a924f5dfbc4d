-- What inner functions leave at the front of a room; no public contract rests on it.
use Rattle.std.specs.Prelude.{◌≡◌, List, ℕ, ◌≤◌, length, take}

-- xs stand at the front of the room, and end at place r
pub record Front (xs : List ℕ) (r : ℕ) (room : List ℕ) : Type 0 where
  pub within : r ≤ length room
  pub stands : take r room ≡ xs
