-- A table by columns: the states with so many misses. What passes a test below a miss count is added up column by column.
use mathlib.Core.Path.{◌≡◌, refl, sym, ap, ap₂, ◌∙◌}
use mathlib.Core.Bool.{Bool, true, false, cond, ◌&&◌}
use mathlib.Core.List.{List, [], ◌∷◌}
use Prim.Native.Nat.{ℕ, zero, suc, ◌+◌, ◌≤◌, ◌<◌}
use native.Mathlib.Omega.{arith}
use lib.Dec.{eqb, ltb}
use borrow.Author.Tests.{eqb-true, eqb-false, ltb-true, ltb-false, lt-ltb, le-ltb}
use Rattle.basics.proofs.Sums.{sum_to}
use Rattle.rules.specs.declared.Filled.{Filled}
use Rattle.rules.specs.declared.State.{State}
use Rattle.rules.specs.Shape.{Every}
use Rattle.rules.specs.Table.{units_of, total}
use Rattle.rules.specs.Questions.{above}
use Rattle.rules.proofs.Lists.{every_weaker}
use Rattle.tight_rules.specs.Ends.{below}
use Rattle.tight_rows.proofs.Cells.{Test, passes, units_where, where_alike, below_where, above_where, total_where}

-- a test of the states with fewer than c misses
abbrev pub under : ℕ → Test → Test
under c p D m F = ltb m c && p D m F

-- and of those with exactly c
abbrev pub column : ℕ → Test → Test
column c p D m F = eqb m c && p D m F

-- none passes
pub where_none : (p : Test) (T : List State) → Every (λ s. passes p s ≡ false) T → units_where p T ≡ 0
unfolding units_where
where_none p [] h = refl
where_none p (s ∷ T) h = rw h.0 (omega (arith, where_none p T h.1))

-- where each state passes p just if it passes one of q and r, and never both
pub where_two : (p q r : Test) → ((D m : ℕ) (F : Filled) (u : ℕ) → cond (p D m F) u 0 ≡ cond (q D m F) u 0 + cond (r D m F) u 0)
    → (T : List State) → units_where p T ≡ units_where q T + units_where r T
unfolding units_where
where_two p q r e [] = refl
where_two p q r e (s ∷ T) = omega (arith, e s.mask s.misses s.filled (units_of s), where_two p q r e T)

next_column : (p : Test) (c : ℕ) (T : List State) → units_where (under (suc c) p) T ≡ units_where (under c p) T + units_where (column c p) T
next_column p c T = where_two (under (suc c) p) (under c p) (column c p) (λ D m F u. part m (p D m F) u (ltb m c) (eqb m c) refl refl) T
  where
    part : (m : ℕ) (b : Bool) (u : ℕ) (x y : Bool) → ltb m c ≡ x → eqb m c ≡ y → cond (ltb m (suc c) && b) u 0 ≡ cond (ltb m c && b) u 0 + cond (eqb m c && b) u 0
    part m b u true true h k = absurd (omega (arith, ltb-true m c h, eqb-true m c k))
    part m b u true false h k = rw (h, k, lt-ltb m (suc c) (omega (arith, ltb-true m c h))) (omega arith)
    part m b u false true h k = rw (h, k, lt-ltb m (suc c) (omega (arith, eqb-true m c k))) (omega arith)
    part m b u false false h k = rw (h, k, le-ltb m (suc c) (beyond (ltb-false m c h) (eqb-false m c k))) (omega arith)
      where
        beyond : c ≤ m → (m ≡ c → ⊥) → suc c ≤ m
        beyond l n = go (ltb c m) refl
          where
            go : (d : Bool) → ltb c m ≡ d → suc c ≤ m
            go true e = ltb-true c m e
            go false e = absurd (n (omega (arith, ltb-false c m e)))

-- the columns from b on, n of them
pub columns : (p : Test) (b n : ℕ) (T : List State) → Every (λ s. b ≤ s.misses) T → units_where (under (b + n) p) T ≡ sum_to n (λ j. units_where (column (b + j) p) T)
columns p b zero T h = where_none (under (b + 0) p) T (every_weaker (λ s. b ≤ s.misses) (λ s. passes (under (b + 0) p) s ≡ false) (λ s l. rw (le-ltb s.misses (b + 0) (omega arith)) refl) T h)
columns p b (suc n) T h =
    ap (λ (c : ℕ). units_where (under c p) T) plus ∙ next_column p (b + n) T ∙ ap (◌+ units_where (column (b + n) p) T) (columns p b n T h)
  where
    plus : b + suc n ≡ suc (b + n)
    plus = omega arith

-- all columns, where they are all from b on and below b + n
pub all_columns : (p : Test) (b n : ℕ) (T : List State) → Every (λ s. (b ≤ s.misses) × (s.misses < b + n)) T
    → units_where p T ≡ sum_to n (λ j. units_where (column (b + j) p) T)
all_columns p b n T h =
    where_alike p (under (b + n) p) T
    (every_weaker (λ s. (b ≤ s.misses) × (s.misses < b + n)) (λ s. passes p s ≡ passes (under (b + n) p) s) (λ s l. rw (lt-ltb s.misses (b + n) l.1) refl) T h)
    ∙ columns p b n T (every_weaker (λ s. (b ≤ s.misses) × (s.misses < b + n)) (λ s. b ≤ s.misses) (λ s l. l.0) T h)

-- what is above H and what is not are all
pub above_below : (H : ℕ) (T : List State) → total T ≡ below (suc H) T + above H T
above_below H T =
    total_where T ∙ where_two (λ D m F. true) (λ D m F. ltb m (suc H)) (λ D m F. ltb H m) (λ D m F u. part m u (ltb H m) refl) T
    ∙ sym (ap₂ ◌+◌ (below_where (suc H) T) (above_where H T))
  where
    part : (m u : ℕ) (x : Bool) → ltb H m ≡ x → u ≡ cond (ltb m (suc H)) u 0 + cond (ltb H m) u 0
    part m u true h = rw (h, le-ltb m (suc H) (omega (arith, ltb-true H m h))) (omega arith)
    part m u false h = rw (h, lt-ltb m (suc H) (omega (arith, ltb-false H m h))) (omega arith)

-- a test that fewer states pass
pub where_fewer : (p q : Test) (T : List State) → Every (λ s. passes p s ≡ true → passes q s ≡ true) T → units_where p T ≤ units_where q T
unfolding units_where
where_fewer p q [] h = omega arith
where_fewer p q (s ∷ T) h = go (passes p s) (passes q s) refl refl (where_fewer p q T h.1)
  where
    go : (x y : Bool) → passes p s ≡ x → passes q s ≡ y → units_where p T ≤ units_where q T → cond x (units_of s) 0 + units_where p T ≤ cond y (units_of s) 0 + units_where q T
    go true true a b l = omega arith
    go true false a b l = absurd (let z : true ≡ false = sym (h.0 a) ∙ b in let y : ◌≡◌ {A = ℕ} 0 1 = cc in omega arith)
    go false true a b l = omega arith
    go false false a b l = omega arith
