-- `first_holder` goes on from the first state that has the mask. The invariant of its loop: from place `j` on it comes to the same place.
use mathlib.Core.Path.{◌≡◌}
use Prim.Native.Nat.{◌-◌}
use Rattle.words.specs.Tables.{table_of}
use Rattle.searches.specs.Searches.{first_from, is_holder, first_holder}
use Rattle.searches.proofs.partner.first_holder.Given as goal

abbrev pub invariant-loop-j : goal.invariant-loop-j
invariant-loop-j l = first_from (is_holder l.n (table_of l.words) l.s l.at) (l.n - l.j) l.j ≡ first_holder l.n (table_of l.words) l.s l.at
