-- `mark` meets its contract. The invariant of its loop: the words before place `i` are marks. Assumes nothing.
use mathlib.Core.Path.{◌≡◌}
use Prim.Native.Nat.{ℕ, ◌<◌}
use lib.ListN.{get_or}
use Rattle.case_text.specs.Rooms.{mark_of}
use Rattle.case_text.proofs.rooms.mark.Given as goal

abbrev pub invariant-loop-i : goal.invariant-loop-i
invariant-loop-i l = (j : ℕ) → j < l.i → get_or l.room j 0 ≡ mark_of j
