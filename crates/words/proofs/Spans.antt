-- The first states of a table in words are the table of the first words, whatever a state of five words is.
use mathlib.Core.Path.{◌≡◌, refl, sym, ap, ◌∙◌}
use mathlib.Core.Bool.{Bool, true, false}
use mathlib.Core.List.{List}
use Prim.Native.Nat.{ℕ, ◌*◌, ◌/◌}
use native.Mathlib.Nat.{le_of_eq}
use native.Mathlib.Omega.{arith}
use borrow.Author.Tests.{leb-true, leb-false}
use lib.Dec.{leb}
use lib.ListN.{length, take}
use lib.Seq.{length-take-le, take_all}
use Rattle.words.specs.Span.{span_of}

-- the first k states end at word e
module _ (ws : List ℕ) (k e : ℕ) (ends : e ≡ span_of (length ws) k) where
  pub span_within : e ≡ length (take e ws)
  span_within = go (leb (length ws / 5) k) refl
    where
      go : (b : Bool) → leb (length ws / 5) k ≡ b → e ≡ length (take e ws)
      go true h = let all : e ≡ length ws = ends ∙ rw h in all ∙ sym (ap length (take_all e ws (le_of_eq (sym all))))
      go false h =
          let some : e ≡ k * 5 = ends ∙ rw h in
          sym (length-take-le e ws (omega (arith, leb-false (length ws / 5) k h)))

  pub first_states : {A : Type 0} (table_of : List ℕ → List A) → length (table_of ws) ≡ length ws / 5 → table_of (take (k * 5) ws) ≡ take k (table_of ws)
      → table_of (take e ws) ≡ take k (table_of ws)
  first_states table_of many first = go (leb (length ws / 5) k) refl
    where
      go : (b : Bool) → leb (length ws / 5) k ≡ b → table_of (take e ws) ≡ take k (table_of ws)
      go true h =
          let all : e ≡ length ws = ends ∙ rw h in
          ap table_of (take_all e ws (le_of_eq (sym all))) ∙ sym (take_all k (table_of ws) (omega (arith, many, leb-true (length ws / 5) k h)))
      go false h = let some : e ≡ k * 5 = ends ∙ rw h in rw some first
