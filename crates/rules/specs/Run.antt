-- A run of accesses: document 01, section 3; document 02, request 3/13. Z sets of N ways, at most K states, the tracked blocks ts.
use Rattle.std.specs.Prelude.{List, ℕ}
use Rattle.rules.specs.Contents.{Target, Last}
use Rattle.rules.specs.AnyTable.{advance as advance_of, run as run_of}
use Rattle.rules.specs.Table.{Work}
use Rattle.rules.specs.Fold.{states}

-- an access of x, and the folds after it
abbrev pub advance : ℕ → ℕ → Target → Work → Work
advance N K x w = advance_of states N K x w

-- the accesses one after the other, where l was accessed directly before them
abbrev pub run : ℕ → ℕ → ℕ → List ℕ → Last → List ℕ → Work → Work
run N Z K ts l bs w = run_of states N Z K ts l bs w
