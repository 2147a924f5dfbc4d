-- `has_only` meets its contract. The invariant of its loop: the words of the room that are left decide. Assumes nothing.
use mathlib.Core.Path.{◌≡◌}
use Prim.Native.Nat.{ℕ}
use lib.ListN.{drop, get_or}
use Rattle.case_text.specs.Rooms.{all_are}
use Rattle.case_text.proofs.rooms.has_only.Given as goal

abbrev pub invariant-loop-i : goal.invariant-loop-i
invariant-loop-i l = all_are (λ (k : ℕ). get_or l.words k 0) l.i (drop l.i l.room) ≡ all_are (λ (k : ℕ). get_or l.words k 0) 0 l.room
