-- How many tables are kept: no more of them than nodes.
use mathlib.Core.Bool.{Bool, true, false, cond}
use mathlib.Core.List.{List}
use Prim.Native.Nat.{ℕ, zero, suc, ◌≤◌}
use native.Mathlib.Nat.{max-le, le_refl}
use native.Mathlib.Omega.{arith}
use Rattle.rules.specs.Input.{Edge}
use Rattle.tight_rules.specs.Rooms.{passes, kept_below, most_kept}

one_most : (b : Bool) → cond b 1 0 ≤ 1
one_most true = omega arith
one_most false = omega arith

pub kept_few : (es : List Edge) (v u : ℕ) → kept_below es v u ≤ u
unfolding kept_below
kept_few es v zero = le_refl 0
kept_few es v (suc u) = omega (arith, one_most (passes es u v), kept_few es v u)

pub most_few : (es : List Edge) (n : ℕ) → most_kept es n ≤ n
unfolding most_kept
most_few es zero = le_refl 0
most_few es (suc v) = max-le (omega (arith, kept_few es v v)) (omega (arith, most_few es v))
