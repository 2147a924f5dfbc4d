-- `each_core` goes core by core. The invariant of its loop: the lines of the cores so far are put.
use Rattle.writing.specs.Put.{Put}
use Rattle.lines.specs.Lines.{lines_below}
use Rattle.lines.specs.Counts.{core_counts}
use Rattle.lines.proofs.cores.each_core.Given as goal

abbrev pub invariant-loop-number : goal.invariant-loop-number
invariant-loop-number l = Put (lines_below (core_counts l.longest l.counts) l.number) l.at l.end l.initial.room l.room
