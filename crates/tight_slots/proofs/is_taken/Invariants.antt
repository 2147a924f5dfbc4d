-- `is_taken` meets its contract. The invariant of its loop: the slot is taken where it is by one of the nodes below node u.
use Rattle.std.proofs.Common.{◌≡◌}
use Rattle.rules.specs.Input.{edges_of}
use Rattle.tight_slots.specs.Slots.{is_taken}
use Rattle.tight_slots.proofs.is_taken.Given as goal

abbrev pub invariant-loop-u : goal.invariant-loop-u
invariant-loop-u l = is_taken (edges_of l.edges) l.v l.slots l.u l.slot ≡ is_taken (edges_of l.edges) l.v l.slots l.v l.slot
