-- The weights that the promises are about: 1 above a budget, and 1 at one contents and miss count. What the machine counts with them
-- is choice sequences, and what a table is worth to them is units.
use mathlib.Core.Path.{◌≡◌, refl}
use mathlib.Core.Bool.{Bool, true, false, cond, ◌&&◌}
use mathlib.Core.List.{List, [], ◌∷◌}
use Prim.Native.Nat.{ℕ, ◌+◌, ◌*◌, ◌≤◌, zero-le}
use native.Mathlib.Nat.{le_refl}
use native.Mathlib.Omega.{arith}
use lib.Dec.{eqb, ltb}
use borrow.Author.Tests.{ltb-true, ltb-false}
use Rattle.basics.proofs.Sums.{part_most}
use Rattle.basics.specs.Sums.{sum_over}
use Rattle.machine.specs.Cache.{Revision, Cache}
use Rattle.machine.specs.Draws.{count_from}
use Rattle.machine.proofs.Draws.{total}
use Rattle.rules.specs.declared.State.{State}
use Rattle.rules.specs.Table.{units_of}
use Rattle.rules.specs.Counts.{above as above_of}
use Rattle.rules.specs.Questions.{above}
use Rattle.rules.specs.declared.Filled.{Filled}
use Rattle.rules.proofs.Table.{Weight, worth}
use Rattle.promises.specs.Ends.{over, ends_with, units_with}
use Rattle.promises.proofs.Value.{Rises}
use Rattle.promises.proofs.Safe.{seen}

-- 1 where the test passes
abbrev pub one_where : (ℕ → ℕ → Bool) → Weight
one_where test C m F = cond (test C m) 1 0

pub one_most : (test : ℕ → ℕ → Bool) (C m : ℕ) (F : Filled) → one_where test C m F ≤ 1
one_most test C m F = part_most (test C m) 1

worth_one : (test : ℕ → ℕ → Bool) (T : List State) → worth (one_where test) T ≡ sum_over (λ s. cond (test s.mask s.misses) (units_of s) 0) T
worth_one test [] = refl
worth_one test (s ∷ T) = go (test s.mask s.misses) (worth_one test T)
  where
    go : (b : Bool) {x y : ℕ} → x ≡ y → units_of s * cond b 1 0 + x ≡ cond b (units_of s) 0 + y
    go true e = omega arith
    go false e = omega arith

-- ---- above a budget

abbrev pub over_is : ℕ → ℕ → ℕ → Bool
over_is B C m = ltb B m

pub over_rises : (N Z : ℕ) (ts : List ℕ) (B : ℕ) → Rises N Z ts (one_where (over_is B))
over_rises N Z ts B C D m n F G s l fewer small = go (ltb B n) (ltb B m) refl refl
  where
    go : (a b : Bool) → ltb B n ≡ a → ltb B m ≡ b → cond a 1 0 ≤ cond b 1 0
    go true true p q = le_refl 1
    go true false p q = omega (arith, ltb-true B n p, ltb-false B m q)
    go false b p q = zero-le

pub worth_above : (B : ℕ) (T : List State) → worth (one_where (over_is B)) T ≡ above B T
unfolding above_of
worth_above B T = worth_one (over_is B) T

pub count_over : (v : Revision) (ts : List ℕ) (B N : ℕ) (c : Cache) (p : List ℕ)
    → count_from (over B) v N c p ≡ total (seen v ts (one_where (over_is B))) v N c p
unfolding count_from total
count_over v ts B N c p = refl

-- ---- at one contents and miss count

abbrev pub at_is : ℕ → ℕ → ℕ → ℕ → Bool
at_is C m D n = eqb D C && eqb n m

pub worth_with : (C m : ℕ) (T : List State) → worth (one_where (at_is C m)) T ≡ units_with C m T
unfolding units_with
worth_with C m T = worth_one (at_is C m) T

pub count_with : (v : Revision) (ts : List ℕ) (C m N : ℕ) (c : Cache) (p : List ℕ)
    → count_from (ends_with ts C m) v N c p ≡ total (seen v ts (one_where (at_is C m))) v N c p
unfolding count_from total
count_with v ts C m N c p = refl
