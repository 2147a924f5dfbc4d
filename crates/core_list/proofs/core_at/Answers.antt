-- `core_at` gives the core of a number: the constant array is the list of the definition, element by element.
use mathlib.Core.Path.{◌≡◌, refl, sym}
use Prim.Native.Nat.{ℕ, ◌≤◌}
use lib.ListN.{length, get_or, get_or-eq_default}
use Rattle.rules.specs.Cycles.{core, cores, core_at}
use Rattle.core_list.proofs.core_at.Goals as goal

in_service : (k : ℕ) → get_or cores k (core 0 0) ≡ core_at k
unfolding core_at
in_service k = refl

past_the_last : (k : ℕ) → length cores ≤ k → core 0 0 ≡ core_at k
unfolding core_at
past_the_last k l = sym (get_or-eq_default cores (core 0 0) l)

pub returns-then-number-lt12 : goal.returns-then-number-lt12
unfolding cores
returns-then-number-lt12 c = in_service c.args.number

pub returns : goal.returns
unfolding cores
returns c = past_the_last c.args.number c.if-number-lt12.false
