-- Of one word behind another: its digits, and the number that they say.
use mathlib.Core.Path.{◌≡◌, refl}
use mathlib.Core.Bool.{◌&&◌, and_assoc}
use mathlib.Core.List.{List, [], ◌∷◌, ◌++◌}
use Prim.Native.Nat.{ℕ, ◌+◌, ◌-◌, ◌*◌}
use Rattle.reading.specs.Reading.{is_digit, all_digits, value_from}

pub digits_append : (v w : List ℕ) → all_digits (v ++ w) ≡ (all_digits v && all_digits w)
digits_append [] w = refl
digits_append (b ∷ v) w = rw (digits_append v w, and_assoc (is_digit b) (all_digits v) (all_digits w))

pub value_append : (a : ℕ) (v w : List ℕ) → value_from a (v ++ w) ≡ value_from (value_from a v) w
value_append a [] w = refl
value_append a (b ∷ v) w = value_append (a * 10 + (b - 48)) v w
