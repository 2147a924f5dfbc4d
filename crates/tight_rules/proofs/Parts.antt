-- What takes blocks away takes nothing else: contents that lose their highest place, once or again and again, are part of what they were, and keep the block that is held back. Nothing else is asked of a
-- reduction: what each emptying of contents keeps, the whole of it keeps, whoever is emptied and in whatever order.
use Rattle.std.specs.Prelude.{Some}
use mathlib.Core.Path.{◌≡◌, refl, sym, ap, ◌∙◌}
use mathlib.Core.Bool.{Bool, true, false, cond, ◌&&◌, not, true≢false}
use mathlib.Core.List.{List, [], ◌∷◌}
use Prim.Native.Nat.{ℕ, zero, suc, ◌-◌, ◌<◌, ◌^◌}
use borrow.Author.Tests.{eq-eqb}
use Rattle.basics.proofs.Bools.{and_left, and_right}
use Rattle.rules.specs.Contents.{places, among, bit, without, Place}
use Rattle.rules.specs.Table.{Work}
use Rattle.rules.proofs.Contents.{Sub, sub_without, without_lt, without_keeps}
use Rattle.tight_rules.specs.Rows.{moved}
use Rattle.tight_rules.specs.Reduction.{is_at, lowered, lands, relabel, Reducing, emptied, crowded, light, level, levels, reduced}

-- D is part of C, is no longer, and holds the block at y if C does
pub record Part (y : Place) (D C : ℕ) : Type 0 where
  pub inside : Sub D C
  pub short : (k : ℕ) → C < 2 ^ k → D < 2 ^ k
  pub holds : (i : ℕ) → y ≡ Some i → bit C i ≡ true → bit D i ≡ true

pub part_same : (y : Place) (C : ℕ) → Part y C C
part_same y C = record { inside = λ i h. h; short = λ k h. h; holds = λ i e h. h }

part_trans : (y : Place) (E D C : ℕ) → Part y E D → Part y D C → Part y E C
part_trans y E D C p q =
    record { inside = λ i h. q.inside i (p.inside i h); short = λ k h. p.short k (q.short k h); holds = λ i e h. p.holds i e (q.holds i e h) }

pub lowered_part : (k : ℕ) (y : Place) (C : ℕ) → Part y (lowered k y C) C
unfolding lowered
lowered_part zero y C = part_same y C
lowered_part (suc k) y C = go (bit C k && not (is_at y k)) refl (lowered_part k y C)
  where
    go : (b : Bool) → (bit C k && not (is_at y k)) ≡ b → Part y (lowered k y C) C → Part y (cond b (without C k) (lowered k y C)) C
    go true e rest =
        let h : bit C k ≡ true = and_left (bit C k) (not (is_at y k)) e in
        record {
          inside = sub_without C k h;
          short = λ j l. without_lt j C k l h;
          holds = λ i q t. without_keeps C k i (λ s. true≢false (sym (and_right (bit C k) (not (is_at y k)) e) ∙ ap not (ap (λ (z : Place). is_at z k) q ∙ eq-eqb i k (sym s)))) t;
        }
    go false e rest = rest

pub lands_part : (n : ℕ) (y : Place) (gone : List ℕ) (C : ℕ) → Part y (lands n y gone C) C
unfolding lands
lands_part zero y gone C = part_same y C
lands_part (suc n) y gone C = go (among gone C) (lands_part n y gone (lowered places y C))
  where
    go : (b : Bool) → Part y (lands n y gone (lowered places y C)) (lowered places y C) → Part y (cond b (lands n y gone (lowered places y C)) C) C
    go true rest = part_trans y _ _ C rest (lowered_part places y C)
    go false rest = part_same y C

module _ (Q : Work → Type 0) (y : Place) (keep : (C D : ℕ) (w : Work) → Part y D C → Q w → Q (moved (relabel C D) w)) where
  pub level_keeps : (K j n : ℕ) (r : Reducing) → Q r.work → Q (level K j y n r).work
  unfolding level emptied
  level_keeps K j zero r h = h
  level_keeps K j (suc n) r h = level_keeps K j n _ (go (crowded K r && light j y (suc n) r.work.table))
    where
      go : (b : Bool) → Q (cond b (emptied y (suc n) r) r).work
      go true = keep (suc n) _ r.work (lands_part places y (suc n ∷ r.gone) (suc n)) h
      go false = h

  levels_keep : (K k n : ℕ) (more : Bool) (j : ℕ) (r : Reducing) → Q r.work → Q (levels K k y n more j r).work
  levels_keep K k zero more j r h = h
  levels_keep K k (suc n) false j r h = h
  levels_keep K k (suc n) true j r h = levels_keep K k n _ (suc j) _ (level_keeps K j (2 ^ k - 1) r h)

  pub reduced_keeps : (K k : ℕ) (w : Work) → Q w → Q (reduced K k y w)
  unfolding reduced
  reduced_keeps K k w h = let r : Reducing = record { work = w; gone = [] } in levels_keep K k 49 (crowded K r) 1 r h
