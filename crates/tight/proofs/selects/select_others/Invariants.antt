-- `select_others` writes word by word. The invariant of its loop: the words before word j choose the other cells, and those behind are as they were.
use Prim.Native.Nat.{◌+◌, ◌-◌}
use Rattle.tight.specs.Selecting.{ones}
use Rattle.tight_rows.proofs.Writing.{Written}
use Rattle.tight.proofs.selects.select_others.Given as goal

abbrev pub invariant-loop-j : goal.invariant-loop-j
invariant-loop-j l = Written l.to (λ w i. ones - w (l.from + i)) l.j l.initial.work l.work
