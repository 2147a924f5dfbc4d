-- `free_slot` meets its contract. The invariant of its loop: the first slot that is free from here on is the first of all.
use Rattle.std.proofs.Common.{◌≡◌, ◌-◌}
use Rattle.rules.specs.Input.{edges_of}
use Rattle.tight_slots.specs.Slots.{is_taken, first_free, free_at}
use Rattle.tight_slots.proofs.free_slot.Given as goal

abbrev pub invariant-loop-slot : goal.invariant-loop-slot
invariant-loop-slot l = first_free (l.v - l.slot) (is_taken (edges_of l.edges) l.v l.slots l.v) l.slot ≡ free_at (edges_of l.edges) l.v l.slots
