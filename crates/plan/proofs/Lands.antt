-- Where the units of contents go, by the list of those that are emptied. Each step takes a place away, so that sixteen steps are enough, and one more that is emptied changes the end of those only that went to it.
use mathlib.Core.Path.{◌≡◌, refl, sym, ap, ◌∙◌}
use mathlib.Core.Logic.{◌≢◌}
use mathlib.Core.Bool.{Bool, true, false, cond, ◌||◌, ◌&&◌, not, true≢false}
use mathlib.Core.List.{List, ◌∷◌}
use Prim.Native.Nat.{ℕ, zero, suc, ◌+◌, ◌^◌, ◌≤◌, ◌<◌}
use native.Mathlib.Nat.{le_refl}
use native.Mathlib.Omega.{arith}
use lib.Dec.{eqb, ltb}
use lib.ListN.{get_or}
use borrow.Author.Tests.{eqb-true, eqb-false, eq-eqb, ne_eqb, lt-ltb, le-ltb}
use Rattle.basics.proofs.Bools.{and_left}
use Rattle.basics.proofs.Sums.{sum_le, sum_const, part_most}
use Rattle.rules.specs.Contents.{places, among, bit, without, size, Place}
use Rattle.rules.proofs.Contents.{size_sum, size_without}
use Rattle.tight_rules.specs.Reduction.{is_at, lowered, lands}
use Rattle.tight_rules.proofs.Parts.{lowered_part}
use Rattle.tight_rules.proofs.Few.{sub_le}
use Rattle.plan.specs.Plan.{onward}
use Rattle.plan.proofs.Tables.{only_to}

-- a place that is lost makes one block fewer
lowered_size : (k : ℕ) (y : Place) (C : ℕ) → k ≤ places → lowered k y C ≢ C → suc (size (lowered k y C)) ≡ size C
unfolding lowered
lowered_size zero y C l q = absurd (q refl)
lowered_size (suc k) y C l q = go (bit C k && not (is_at y k)) refl q (lowered_size k y C (omega arith))
  where
    go : (b : Bool) → (bit C k && not (is_at y k)) ≡ b → cond b (without C k) (lowered k y C) ≢ C → (lowered k y C ≢ C → suc (size (lowered k y C)) ≡ size C)
        → suc (size (cond b (without C k) (lowered k y C))) ≡ size C
    go true e q ih = size_without C k l (and_left (bit C k) (not (is_at y k)) e)
    go false e q ih = ih q

size_most : (C : ℕ) → size C ≤ places
size_most C =
    let l = sum_le places (λ i. cond (bit C i) 1 0) (λ i. 1) (λ i k. part_most (bit C i) 1) in
    omega (arith, l, size_sum C, sum_const places 1)

-- what is lost makes a smaller number
pub lowered_less : (k : ℕ) (y : Place) (C : ℕ) → C < 2 ^ k → lowered places y C ≢ C → lowered places y C < C
lowered_less k y C l q =
    let p = lowered_part places y C in
    omega (arith, sub_le k (lowered places y C) C (p.short k l) l p.inside, q)

-- each of those listed has a place to lose
abbrev pub Lowers : Place → List ℕ → Type 0
Lowers y gone = (C : ℕ) → among gone C ≡ true → lowered places y C ≢ C

module _ (y : Place) (gone : List ℕ) (lowers : Lowers y gone) where
  fewer : (C : ℕ) → among gone C ≡ true → suc (size (lowered places y C)) ≡ size C
  fewer C h = lowered_size places y C (le_refl places) (lowers C h)

  stays : (f C : ℕ) → size C ≤ 0 → C ≡ lands f y gone C
  unfolding lands
  stays zero C l = refl
  stays (suc f) C l = go (among gone C) refl
    where
      go : (b : Bool) → among gone C ≡ b → C ≡ cond b (lands f y gone (lowered places y C)) C
      go true e = absurd (omega (arith, fewer C e))
      go false e = refl

  -- as many steps as there are blocks are enough
  enough : (f h C : ℕ) → size C ≤ f → size C ≤ h → lands f y gone C ≡ lands h y gone C
  unfolding lands
  enough zero h C l m = stays h C l
  enough (suc f) zero C l m = sym (stays (suc f) C m)
  enough (suc f) (suc h) C l m = go (among gone C) refl (λ e. enough f h (lowered places y C) (omega (arith, fewer C e)) (omega (arith, fewer C e)))
    where
      go : (b : Bool) → among gone C ≡ b → (among gone C ≡ true → lands f y gone (lowered places y C) ≡ lands h y gone (lowered places y C))
          → cond b (lands f y gone (lowered places y C)) C ≡ cond b (lands h y gone (lowered places y C)) C
      go true e ih = ih e
      go false e ih = refl

  -- the end of contents is never emptied
  not_gone : (f C : ℕ) → size C ≤ f → among gone (lands f y gone C) ≡ false
  unfolding lands
  not_gone zero C l = go (among gone C) refl
    where
      go : (b : Bool) → among gone C ≡ b → b ≡ false
      go true e = absurd (omega (arith, fewer C e))
      go false e = refl
  not_gone (suc f) C l = go (among gone C) refl (λ e. not_gone f (lowered places y C) (omega (arith, fewer C e)))
    where
      go : (b : Bool) → among gone C ≡ b → (among gone C ≡ true → among gone (lands f y gone (lowered places y C)) ≡ false) → among gone (cond b (lands f y gone (lowered places y C)) C) ≡ false
      go true e ih = ih e
      go false e ih = e

  pub lands_out : (C D : ℕ) → among gone D ≡ true → lands places y gone C ≢ D
  lands_out C D h e = true≢false (sym h ∙ ap (among gone) (sym e) ∙ not_gone places C (size_most C))

  -- the words say it, one step at a time
  module _ (k : ℕ) (vs : List ℕ) (goes : (C : ℕ) → C < 2 ^ k → (d : ℕ) → get_or vs (2 ^ k + C) d ≡ cond (among gone C) (lowered places y C) C) where
    pub onward_lands : (f C : ℕ) → C < 2 ^ k → onward f (2 ^ k) vs C ≡ lands f y gone C
    unfolding onward lands
    onward_lands zero C l = refl
    onward_lands (suc f) C l = rw (goes C l C) (go (among gone C) refl (λ h. onward_lands f (lowered places y C) ((lowered_part places y C).short k l)))
      where
        go : (b : Bool) → among gone C ≡ b → (among gone C ≡ true → onward f (2 ^ k) vs (lowered places y C) ≡ lands f y gone (lowered places y C))
            → cond (ltb (cond b (lowered places y C) C) C) (onward f (2 ^ k) vs (cond b (lowered places y C) C)) C ≡ cond b (lands f y gone (lowered places y C)) C
        go true e ih = rw (lt-ltb (lowered places y C) C (lowered_less k y C l (lowers C e))) (ih e)
        go false e ih = rw (le-ltb C C (le_refl C)) refl

module _ (y : Place) (gone : List ℕ) (X : ℕ) (lowers : Lowers y (X ∷ gone)) where
  -- where the units of X go
  abbrev D : ℕ
  D = lands places y (X ∷ gone) X

  first : among (X ∷ gone) X ≡ true
  first = rw (eq-eqb X X refl) refl

  one_more_lem : (f C : ℕ) → size C ≤ f → lands f y (X ∷ gone) C ≡ only_to X D (lands f y gone C)
  unfolding lands
  one_more_lem zero C l = go (eqb C X) refl
    where
      go : (b : Bool) → eqb C X ≡ b → C ≡ cond b D C
      go true e = absurd (let s : size X ≤ 0 = rw (← eqb-true C X e) l in omega (arith, fewer y (X ∷ gone) lowers X first))
      go false e = refl
  one_more_lem (suc f) C l =
      go (eqb X C) refl (among gone C) refl (λ h. one_more_lem f (lowered places y C) (omega (arith, fewer y (X ∷ gone) lowers C h)))
    where
      go : (a : Bool) → eqb X C ≡ a → (b : Bool) → among gone C ≡ b
          → (among (X ∷ gone) C ≡ true → lands f y (X ∷ gone) (lowered places y C) ≡ only_to X D (lands f y gone (lowered places y C)))
          → cond (a || b) (lands f y (X ∷ gone) (lowered places y C)) C ≡ only_to X D (cond b (lands f y gone (lowered places y C)) C)
      go true e true h ih = ih (rw e refl)
      go true e false h ih =
          let same : X ≡ C = eqb-true X C e in
          rw (eq-eqb C X (sym same)) (reach same (rw e refl))
        where
          reach : X ≡ C → among (X ∷ gone) C ≡ true → lands f y (X ∷ gone) (lowered places y C) ≡ D
          reach same at = step at ∙ enough y (X ∷ gone) lowers (suc f) places C l (size_most C) ∙ ap (lands places y (X ∷ gone)) (sym same)
            where
              step : among (X ∷ gone) C ≡ true → lands f y (X ∷ gone) (lowered places y C) ≡ lands (suc f) y (X ∷ gone) C
              step at = rw at refl
      go false e true h ih = ih (rw (e, h) refl)
      go false e false h ih = rw (ne_eqb C X (λ s. eqb-false X C e (sym s))) refl

  -- X is emptied after those that are listed
  pub lands_more : (C : ℕ) → only_to X D (lands places y gone C) ≡ lands places y (X ∷ gone) C
  lands_more C = sym (one_more_lem places C (size_most C))
