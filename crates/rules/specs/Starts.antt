-- How the cache is found, told by a number or by a yes or no: document 02, request 12/13.
use Rattle.std.specs.Prelude.{Bool, cond, ℕ, eqb, Result, Ok, Err}
use Rattle.rules.specs.declared.Start.{Start}
use Rattle.rules.specs.declared.Start.TheVariants.{Cold, Warm}
use Rattle.rules.specs.declared.NoStart.{NoStart}

-- 0 says an empty cache, 1 a used one, and no other number says anything
abbrev pub start_in : ℕ → Result Start NoStart
start_in n = cond (eqb n 0) (Ok Cold) (cond (eqb n 1) (Ok Warm) (Err (record { 0 = n })))

-- yes says a used one
abbrev pub start_from : Bool → Start
start_from warm = cond warm Warm Cold
