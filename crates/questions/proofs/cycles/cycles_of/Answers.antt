-- `cycles_of` meets its contract: with at most 4,096 accesses of at most 100 cycles each no number wraps.
use mathlib.Core.Path.{refl}
use Prim.Native.Nat.{ℕ, ◌*◌, ◌-◌, ◌≤◌}
use native.Mathlib.Nat.{mul-le-mul_left}
use native.Mathlib.Omega.{arith}
use Rattle.rules.specs.declared.Core.{Core}
use Rattle.rules.specs.Cycles.{cycles_of}
use Rattle.questions.proofs.cycles.cycles_of.Goals as goal

-- n accesses, all of them hits or all of them misses
most : (c : Core) (n : ℕ) → c.hit ≤ 100 → c.miss ≤ 100 → (n * c.hit ≤ n * 100) × (n * c.miss ≤ n * 100)
most c n h m = (mul-le-mul_left n h, mul-le-mul_left n m)

pub overflow_mul-result : goal.overflow_mul-result
overflow_mul-result c = let a = c.args in omega (arith, most a.core a.misses c.requires.0 c.requires.1)

pub overflow_mul-result-2 : goal.overflow_mul-result-2
overflow_mul-result-2 c = omega (arith, most c.args.core (c.args.accesses - c.args.misses) c.requires.0 c.requires.1)

pub overflow_add-result : goal.overflow_add-result
overflow_add-result c =
    let a = c.args in
    omega (arith, most a.core a.misses c.requires.0 c.requires.1, most a.core (a.accesses - a.misses) c.requires.0 c.requires.1)

pub returns : goal.returns
unfolding cycles_of
returns c = refl
