-- `select_losing` writes word by word. The invariant of its loop: the words before word j choose their cells, and the others are as they were.
use Rattle.tight.specs.Selecting.{chosen, loses_at}
use Rattle.tight_rows.proofs.Writing.{Written}
use Rattle.tight.proofs.selects.select_losing.Given as goal

abbrev pub invariant-loop-j : goal.invariant-loop-j
invariant-loop-j l = Written l.to (λ w i. chosen (loses_at l.ways l.x l.fronts l.backs w i)) l.j l.initial.work l.work
