-- `fill_slots` meets its contract. The invariant of its loop: the first v nodes have their slots, with what was behind them.
use Rattle.rules.specs.Input.{edges_of}
use Rattle.tight_slots.proofs.Found.{Given}
use Rattle.tight_slots.proofs.fill_slots.Given as goal

abbrev pub invariant-loop-v : goal.invariant-loop-v
invariant-loop-v l = Given (edges_of l.edges) l.v l.initial.slots l.slots
