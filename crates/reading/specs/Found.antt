-- What is found in a text: whether it is well formed, and then its numbers, at the front of the room.
use Rattle.std.specs.Prelude.{◌≡◌, List, ◌++◌, ℕ, length, drop, Option, Some, is_some}
use Rattle.reading.specs.Reading.{well_formed, numbers_in}

-- r is how many numbers were read, or None, at the end of the text, and room' the room then, which was `room`
pub record Found (text room : List ℕ) (r : Option ℕ) (room' : List ℕ) : Type 0 where
  pub good : is_some r ≡ well_formed text
  pub count : (n : ℕ) → r ≡ Some n → n ≡ length (numbers_in text)
  pub numbers : (n : ℕ) → r ≡ Some n → room' ≡ numbers_in text ++ drop (length (numbers_in text)) room
