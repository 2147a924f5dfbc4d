-- What the tests say of the places of two tables and of their pairs.
use mathlib.Core.Path.{◌≡◌}
use mathlib.Core.Logic.{◌⊎◌, inl, inr, ⊎_elim}
use mathlib.Core.Bool.{true, ◌&&◌}
use mathlib.Core.List.{List}
use Prim.Native.Nat.{ℕ, ◌+◌, ◌*◌, ◌≤◌}
use lib.Dec.{leb}
use lib.ListN.{length}
use borrow.Author.Tests.{leb-true, le-leb}
use Rattle.basics.proofs.Bools.{and_left, and_right, both, three, or_cases, or_left, or_right}
use Rattle.tight_pairs.specs.declared.Side.{Side}
use Rattle.tight_pairs.specs.declared.Sides.{Sides}
use Rattle.tight_pairs.specs.Matching.{is_side, are_apart, has_room, is_placed, Placed}

module _ (p : Sides) (xs : List ℕ) where
  pub placed_told : is_placed p (length xs) ≡ true → Placed p xs
  placed_told e =
      let (sides, apart, room) = three (is_side p.left p.pairs && is_side p.right p.pairs) (are_apart p) (has_room p (length xs)) e in
      let left = and_left (is_side p.left p.pairs) (is_side p.right p.pairs) sides in
      let right = and_right (is_side p.left p.pairs) (is_side p.right p.pairs) sides in
      record {
        left = leb-true _ _ (and_left (leb (p.left.masks + p.left.rows) p.left.units) _ left);
        right = leb-true _ _ (and_left (leb (p.right.masks + p.right.rows) p.right.units) _ right);
        apart =
            ⊎_elim (λ h. inl (leb-true (p.left.units + p.left.rows) p.right.masks h)) (λ h. inr (leb-true (p.right.units + p.right.rows) p.left.masks h))
            (or_cases (leb (p.left.units + p.left.rows) p.right.masks) (leb (p.right.units + p.right.rows) p.left.masks) apart);
        before = leb-true _ _ (and_right (leb (p.left.masks + p.left.rows) p.left.units) _ left);
        behind = leb-true _ _ (and_right (leb (p.right.masks + p.right.rows) p.right.units) _ right);
        end = leb-true (p.pairs + 3 * (p.left.rows + p.right.rows)) (length xs) room;
      }

  pub placed_tells : Placed p xs → is_placed p (length xs) ≡ true
  placed_tells h =
      both (is_side p.left p.pairs && is_side p.right p.pairs && are_apart p) (has_room p (length xs))
      (both (is_side p.left p.pairs && is_side p.right p.pairs) (are_apart p)
      (both (is_side p.left p.pairs) (is_side p.right p.pairs) (side p.left h.left h.before) (side p.right h.right h.behind)) (apart h.apart))
      (le-leb (p.pairs + 3 * (p.left.rows + p.right.rows)) (length xs) h.end)
    where
      side : (s : Side) → s.masks + s.rows ≤ s.units → s.units + s.rows ≤ p.pairs → is_side s p.pairs ≡ true
      side s l m = both (leb (s.masks + s.rows) s.units) (leb (s.units + s.rows) p.pairs) (le-leb (s.masks + s.rows) s.units l) (le-leb (s.units + s.rows) p.pairs m)

      apart : (p.left.units + p.left.rows ≤ p.right.masks) ⊎ (p.right.units + p.right.rows ≤ p.left.masks) → are_apart p ≡ true
      apart (inl l) = or_left (leb (p.left.units + p.left.rows) p.right.masks) _ (le-leb (p.left.units + p.left.rows) p.right.masks l)
      apart (inr l) = or_right (leb (p.left.units + p.left.rows) p.right.masks) _ (le-leb (p.right.units + p.right.rows) p.left.masks l)
