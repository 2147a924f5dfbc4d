-- `passing` meets its contract. The invariant of its loop: an edge passes where one of those from edge e on does.
use Rattle.std.proofs.Common.{◌≡◌, ◌*◌, drop}
use Rattle.rules.specs.Input.{edges_of}
use Rattle.tight_rules.specs.Rooms.{passes}
use Rattle.tight_slots.proofs.passing.Given as goal

abbrev pub invariant-loop-e : goal.invariant-loop-e
invariant-loop-e l = passes (edges_of (drop (2 * l.e) l.edges)) l.u l.v ≡ passes (edges_of l.edges) l.u l.v
