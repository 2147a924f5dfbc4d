-- What the loops come to, where it isn't found by unfolding a definition: what each has done and what it has yet to do give the whole. Where no contents are light a level does nothing, and so
-- do all levels below the one at which the lightest contents are. A level passes over masks with no or too many units: it goes from one mask with few to the next.
use mathlib.Core.Path.{◌≡◌, refl, ap, ◌∙◌, subst}
use mathlib.Core.Logic.{◌≢◌, ◌⊎◌, inl, inr}
use mathlib.Core.Bool.{Bool, true, false, cond, ◌&&◌, not, true≢false}
use mathlib.Core.List.{List, [], ◌∷◌}
use Prim.Native.Nat.{ℕ, zero, suc, ◌+◌, ◌-◌, ◌*◌, ◌^◌, ◌≤◌, ◌<◌}
use native.Mathlib.Nat.{le_refl, le_trans, eq-or-lt_of_le, le_of_suc-le-suc, not-suc-le-zero, pow-succ'}
use native.Mathlib.Numerals.{add-one}
use native.Mathlib.Omega.{arith}
use lib.Dec.{eqb, ltb}
use lib.ListN.{length, get_or, set, length-set, get_or-eq_default}
use borrow.Author.Tests.{ltb-true, ltb-false, lt-ltb, le-ltb, le-leb, eqb-true, eqb-false}
use Rattle.basics.proofs.Sums.{part_most}
use Rattle.rules.specs.Contents.{places, Place}
use Rattle.tight_rules.specs.Reduction.{lowered}
use Rattle.plan.specs.Plan.{Plan, units_at, onward, itself, some, present_in, start, light, emptied, level, levels, all_levels, planned, NoneBelow, lightest}
use Rattle.plan.specs.Next.{few, highest, few_of_four, next_few}

-- ---- where units go

-- within a list the default does not matter
any_default : (ws : List ℕ) (i a b : ℕ) → i < length ws → get_or ws i a ≡ get_or ws i b
any_default [] i a b l = absurd (not-suc-le-zero l)
any_default (w ∷ ws) zero a b l = refl
any_default (w ∷ ws) (suc i) a b l = any_default ws i a b (omega arith)

-- units never go to a higher mask
pub onward_most : (f n : ℕ) (ws : List ℕ) (C : ℕ) → onward f n ws C ≤ C
unfolding onward
onward_most zero n ws C = le_refl C
onward_most (suc f) n ws C = go (ltb (get_or ws (n + C) C) C) refl (onward_most f n ws (get_or ws (n + C) C))
  where
    go : (b : Bool) → ltb (get_or ws (n + C) C) C ≡ b → onward f n ws (get_or ws (n + C) C) ≤ get_or ws (n + C) C
        → cond b (onward f n ws (get_or ws (n + C) C)) C ≤ C
    go true e l = omega (arith, ltb-true (get_or ws (n + C) C) C e)
    go false e l = le_refl C

pub onward_out : (f n : ℕ) (ws : List ℕ) (C : ℕ) → length ws ≤ n + C → C ≡ onward f n ws C
unfolding onward
onward_out zero n ws C l = refl
onward_out (suc f) n ws C l = rw (get_or-eq_default ws C l, le-ltb C C (le_refl C)) refl

pub onward_next : (f f' : ℕ) → suc f' ≡ f → (n : ℕ) (ws : List ℕ) (C : ℕ) → n + C < length ws → get_or ws (n + C) 0 < C
    → onward f' n ws (get_or ws (n + C) 0) ≡ onward f n ws C
unfolding onward
onward_next f f' e n ws C l h = rw (← e, any_default ws (n + C) C 0 l, lt-ltb (get_or ws (n + C) 0) C h) refl

-- ---- the start

pub length_itself : (m n : ℕ) (ws : List ℕ) → length (itself m n ws) ≡ length ws
unfolding itself
length_itself zero n ws = refl
length_itself (suc m) n ws = length_itself m n (set ws (n + m) m) ∙ length-set ws (n + m) m

some_most : (u : ℕ) → some u ≤ 1
some_most u = part_most (ltb 0 u) 1

pub present_most : (m : ℕ) (ws : List ℕ) → present_in m ws ≤ m
unfolding present_in
present_most zero ws = omega arith
present_most (suc m) ws = omega (arith, present_most m ws, some_most (units_at ws m))

-- ---- whether it is light

light_none : (b : ℕ) (y : Place) (C : ℕ) (ws : List ℕ) (p q : Plan) → units_at ws C ≡ 0 → p ≡ cond (light b y C ws) q p
light_none b y C ws p q e = rw (le-ltb 0 (units_at ws C) (omega arith)) refl

light_many : (b : ℕ) (y : Place) (C : ℕ) (ws : List ℕ) (p q : Plan) → b ≤ units_at ws C → p ≡ cond (light b y C ws) q p
light_many b y C ws p q l = rw (le-ltb (units_at ws C) b l) (go (ltb 0 (units_at ws C)))
  where
    go : (x : Bool) → p ≡ cond (x && false && not (eqb (lowered places y C) C)) q p
    go true = refl
    go false = refl

light_few : (b : ℕ) (y : Place) (C : ℕ) (ws : List ℕ) (p q : Plan) → few b (units_at ws C) ≡ true → cond (not (eqb (lowered places y C) C)) q p ≡ cond (light b y C ws) q p
light_few b y C ws p q e = rw e refl

-- ---- the next mask with few units

module _ (b : ℕ) (ws : List ℕ) where
  next_step : (m m' : ℕ) → suc m' ≡ m → next_few b ws m ≡ cond (few b (units_at ws m)) m (next_few b ws m')
  unfolding next_few
  next_step m m' e = rw (← e) refl

  pub next_most : (m : ℕ) → next_few b ws m ≤ m
  unfolding next_few
  next_most zero = le_refl 0
  next_most (suc m) = go (few b (units_at ws (suc m))) (next_most m)
    where
      go : (f : Bool) → next_few b ws m ≤ m → cond f (suc m) (next_few b ws m) ≤ suc m
      go true l = le_refl (suc m)
      go false l = omega arith

  next_few_lem : (m : ℕ) → 0 < next_few b ws m → few b (units_at ws (next_few b ws m)) ≡ true
  unfolding next_few
  next_few_lem zero l = absurd (omega arith)
  next_few_lem (suc m) l = go (few b (units_at ws (suc m))) refl l (next_few_lem m)
    where
      go : (f : Bool) → few b (units_at ws (suc m)) ≡ f → 0 < cond f (suc m) (next_few b ws m) → (0 < next_few b ws m → few b (units_at ws (next_few b ws m)) ≡ true)
          → few b (units_at ws (cond f (suc m) (next_few b ws m))) ≡ true
      go true e l ih = e
      go false e l ih = ih l

-- ---- four masks at a time

-- a, b, c and d say which of the four masks above k are chosen, from the highest down
module _ (k : ℕ) where
  -- if one of the four is chosen, it does not matter what is below them
  chosen : (a b c d : Bool) (n : ℕ) → 0 < highest k a b c d 0 → highest k a b c d 0 ≡ highest k a b c d n
  unfolding highest
  chosen true b c d n l = refl
  chosen false true c d n l = refl
  chosen false false true d n l = refl
  chosen false false false true n l = refl
  chosen false false false false n l = absurd (not-suc-le-zero l)

  -- otherwise it is what is below them
  unchosen : (a b c d : Bool) (n : ℕ) → highest k a b c d 0 ≤ 0 → n ≡ highest k a b c d n
  unfolding highest
  unchosen true b c d n l = absurd (omega arith)
  unchosen false true c d n l = absurd (omega arith)
  unchosen false false true d n l = absurd (omega arith)
  unchosen false false false true n l = absurd (omega arith)
  unchosen false false false false n l = refl

module _ (b : ℕ) (ws : List ℕ) where
  -- four steps down at once
  four : (k : ℕ) → highest k (few b (units_at ws (k + 4))) (few b (units_at ws (k + 3))) (few b (units_at ws (k + 2))) (few b (units_at ws (k + 1))) (next_few b ws k) ≡ next_few b ws (k + 4)
  unfolding highest
  four k =
      rw (
        next_step b ws (k + 4) (k + 3) (omega arith),
        next_step b ws (k + 3) (k + 2) (omega arith),
        next_step b ws (k + 2) (k + 1) (omega arith),
        next_step b ws (k + 1) k (omega arith),
      )
      refl

  pub four_some : (m k : ℕ) → k + 4 ≡ m → (r : ℕ) → r ≡ few_of_four b ws k → 0 < r → r ≡ next_few b ws m
  four_some m k e r h l = h ∙ chosen k _ _ _ _ (next_few b ws k) (subst (λ (z : ℕ). 0 < z) h l) ∙ four k ∙ ap (next_few b ws) e

  pub four_none : (m k : ℕ) → k + 4 ≡ m → (r : ℕ) → r ≡ few_of_four b ws k → r ≤ 0 → next_few b ws k ≡ next_few b ws m
  four_none m k e r h l = unchosen k _ _ _ _ (next_few b ws k) (subst (λ (z : ℕ). z ≤ 0) h l) ∙ four k ∙ ap (next_few b ws) e

-- ---- one level

module _ (K b n : ℕ) (y : Place) where
  level_next : (m m' : ℕ) → suc m' ≡ m → (p : Plan) → K < p.present
      → level K b n y m' (cond (light b y m p.words) (emptied n y m p) p) ≡ level K b n y m p
  unfolding level
  level_next m m' e p l = rw (← e, lt-ltb K p.present l) refl

  pub level_none : (m : ℕ) → m ≡ 0 → (p : Plan) → p ≡ level K b n y m p
  unfolding level
  level_none m e p = rw e refl

  -- nothing is emptied where no more than K remain
  pub level_idle : (m : ℕ) (p : Plan) → p.present ≤ K → p ≡ level K b n y m p
  unfolding level
  level_idle zero p l = refl
  level_idle (suc m) p l = rw (le-ltb K p.present l) (level_idle m p l)

  -- masks with no or too many units are passed over
  passed : (m : ℕ) (p : Plan) → few b (units_at p.words m) ≡ false → p ≡ cond (ltb K p.present && light b y m p.words) (emptied n y m p) p
  passed m p e = go (ltb K p.present) (few b (units_at p.words m)) (not (eqb (lowered places y m) m)) e
    where
      go : (k f l : Bool) → f ≡ false → p ≡ cond (k && (f && l)) (emptied n y m p) p
      go true true l h = absurd (true≢false h)
      go true false l h = refl
      go false f l h = refl

  skips : (m : ℕ) (p : Plan) → level K b n y (next_few b p.words m) p ≡ level K b n y m p
  unfolding level next_few
  skips zero p = refl
  skips (suc m) p = go (few b (units_at p.words (suc m))) refl (skips m p)
    where
      go : (f : Bool) → few b (units_at p.words (suc m)) ≡ f → level K b n y (next_few b p.words m) p ≡ level K b n y m p
          → level K b n y (cond f (suc m) (next_few b p.words m)) p ≡ level K b n y m (cond (ltb K p.present && light b y (suc m) p.words) (emptied n y (suc m) p) p)
      go true e ih = refl
      go false e ih = ih ∙ ap (level K b n y m) (passed (suc m) p e)

  pub level_end : (m : ℕ) (p : Plan) → next_few b p.words m ≡ 0 → p ≡ level K b n y m p
  level_end m p e = level_none (next_few b p.words m) e p ∙ skips m p

  pub level_few : (m C C' : ℕ) (p : Plan) → C ≡ next_few b p.words m → suc C' ≡ C → K < p.present → (q : Plan) → q ≡ cond (not (eqb (lowered places y C) C)) (emptied n y C p) p
      → level K b n y C' q ≡ level K b n y m p
  level_few m C C' p c e l q h =
      let here : few b (units_at p.words C) ≡ true = rw c (next_few_lem b p.words m (omega arith)) in
      ap (level K b n y C') (h ∙ light_few b y C p.words p (emptied n y C p) here) ∙ level_next C C' e p l ∙ ap (λ (X : ℕ). level K b n y X p) c ∙ skips m p

  -- nor where no contents are light
  heavy : (m : ℕ) (p : Plan) → m < n → NoneBelow b n p.words → p ≡ level K b n y m p
  unfolding level
  heavy zero p l h = refl
  heavy (suc m) p l h = rw (← go (ltb K p.present) (eqb (units_at p.words (suc m)) 0) refl) (heavy m p (omega arith) h)
    where
      here : (z : Bool) → eqb (units_at p.words (suc m)) 0 ≡ z → p ≡ cond (light b y (suc m) p.words) (emptied n y (suc m) p) p
      here true e = light_none b y (suc m) p.words p _ (eqb-true _ 0 e)
      here false e = light_many b y (suc m) p.words p _ (h (suc m) l (eqb-false _ 0 e))

      go : (k z : Bool) → eqb (units_at p.words (suc m)) 0 ≡ z → p ≡ cond (k && light b y (suc m) p.words) (emptied n y (suc m) p) p
      go true z e = here z e
      go false z e = refl

  pub level_heavy : (p : Plan) → NoneBelow b n p.words → p ≡ level K b n y (n - 1) p
  level_heavy p h = go (eqb n 0) refl
    where
      go : (z : Bool) → eqb n 0 ≡ z → p ≡ level K b n y (n - 1) p
      go true e = level_none (n - 1) (omega (arith, eqb-true n 0 e)) p
      go false e = let s : n ≢ 0 = eqb-false n 0 e in heavy (n - 1) p (omega (arith, s)) h

-- ---- all levels

-- what the lightest have, all have
pub lightest_least : (n : ℕ) (ws : List ℕ) → NoneBelow (lightest n ws) n ws
unfolding lightest
lightest_least zero ws C l s = absurd (not-suc-le-zero l)
lightest_least (suc n) ws C l s =
    go (ltb 0 (units_at ws n)) (ltb (units_at ws n) (lightest n ws)) refl refl (λ k. lightest_least n ws C k s) (eq-or-lt_of_le (le_of_suc-le-suc l))
  where
    go : (a b : Bool) → ltb 0 (units_at ws n) ≡ a → ltb (units_at ws n) (lightest n ws) ≡ b → (C < n → lightest n ws ≤ units_at ws C) → (C ≡ n) ⊎ (C < n)
        → cond (a && b) (units_at ws n) (lightest n ws) ≤ units_at ws C
    go true true p q ih (inl e) = rw e (le_refl _)
    go true true p q ih (inr k) = omega (arith, ltb-true (units_at ws n) (lightest n ws) q, ih k)
    go true false p q ih (inl e) = rw e (ltb-false _ _ q)
    go true false p q ih (inr k) = ih k
    go false b p q ih (inl e) = absurd (s (rw e (omega (arith, ltb-false 0 (units_at ws n) p))))
    go false b p q ih (inr k) = ih k

pub twice : (j : ℕ) → 2 ^ j * 2 ≡ 2 ^ (j + 1)
twice j = rw (add-one j, pow-succ' 2 j) (omega arith)

module _ (K n : ℕ) (y : Place) where
  pub levels_next : (f f' j j' : ℕ) → suc f' ≡ f → suc j ≡ j' → (p q : Plan) → K < p.present → (b : ℕ) → q ≡ level K b n y (n - 1) p → b ≡ 2 ^ j
      → levels K n y f' (ltb K q.present) j' q ≡ levels K n y f (ltb K p.present) j p
  levels_next f f' j j' e s p q l b h d = rw (← e, ← s, lt-ltb K p.present l, ← d, ← h) refl

  -- where a level does nothing, there is nothing light below it either
  pub still_heavy : (b low : ℕ) (p q : Plan) → q ≡ level K b n y (n - 1) p → (b ≤ low → NoneBelow low n p.words) → b * 2 ≤ low → NoneBelow low n q.words
  still_heavy b low p q e h l =
      let s : NoneBelow low n p.words = h (omega arith) in
      rw (e, ← level_heavy K b n y p (λ C k z. le_trans (omega arith) (s C k z))) s

-- ---- the whole

module _ (K n : ℕ) (y : Place) where
  pub planned_so : (ws : List ℕ) → n + n ≤ length ws → (vs : List ℕ) → vs ≡ itself n n ws → (q : Plan) → q ≡ all_levels K n y (start n vs) → q ≡ planned K n y ws
  unfolding planned
  planned_so ws l vs e q h = rw (le-leb (n + n) (length ws) l, ← e) h
