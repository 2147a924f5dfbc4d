-- Lists walked from the front, and lists put flat.
use mathlib.Core.Path.{◌≡◌, refl, sym}
use mathlib.Core.List.{List, [], ◌∷◌, ◌++◌, flat_map, append_assoc}
use Prim.Native.Nat.{ℕ, ◌+◌, ◌≤◌, ◌<◌}
use native.Mathlib.Numerals.{add-one}
use lib.ListN.{length, get_or, drop, drop_of_length-le}
use lib.Seq.{drop-cons}

-- what is computed of the rest at place i, w, is computed of the next element and the rest behind it
module _ {A B : Type 0} (f : List B → A) (xs : List B) (i : ℕ) (w : A) (rest : f (drop i xs) ≡ w) where
  -- z stands for what is past the end
  pub list_next : (z : B) → i < length xs → f (get_or xs i z ∷ drop (i + 1) xs) ≡ w
  list_next z h = rw (add-one i, ← drop-cons xs i z h) rest

  pub list_end : length xs ≤ i → f [] ≡ w
  list_end h = rw (drop_of_length-le xs h) at rest

-- two lists put flat, one behind the other
pub flat_append : {A B : Type 0} (f : A → List B) (xs ys : List A) → flat_map f (xs ++ ys) ≡ flat_map f xs ++ flat_map f ys
unfolding flat_map
flat_append f [] ys = refl
flat_append f (x ∷ xs) ys = rw (flat_append f xs ys) (sym (append_assoc (f x) (flat_map f xs) (flat_map f ys)))
