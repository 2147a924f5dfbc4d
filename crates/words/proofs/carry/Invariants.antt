-- `carry` goes word by word. The invariant of its loop: i words are carried.
use mathlib.Core.Path.{◌≡◌}
use lib.ListN.{drop}
use lib.Seq.{paste}
use Rattle.words.proofs.carry.Given as goal

abbrev pub invariant-loop-i : goal.invariant-loop-i
invariant-loop-i l = l.res ≡ paste l.initial.res 0 (drop l.from l.work) l.i
