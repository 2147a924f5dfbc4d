-- `write` writes the five words of a state, and no other.
use native.Mathlib.Omega.{arith}
use lib.ListN.{length-set}
use Rattle.best.proofs.memory.write.Goals as goal

pub bounds-words-base-2 : goal.bounds-words-base-2
bounds-words-base-2 c = simp length-set (omega arith)

pub bounds-words-base-3 : goal.bounds-words-base-3
bounds-words-base-3 c = simp length-set (omega arith)

pub bounds-words-base-4 : goal.bounds-words-base-4
bounds-words-base-4 c = simp length-set (omega arith)

pub bounds-words-base-5 : goal.bounds-words-base-5
bounds-words-base-5 c = simp length-set (omega arith)

pub returns : goal.returns
returns c = rw c.flag.ensures
