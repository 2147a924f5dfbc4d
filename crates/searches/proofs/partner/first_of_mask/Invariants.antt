-- `first_of_mask` goes back while the mask is the same. The invariant of its loop: from place `i` back it comes to the same place.
use mathlib.Core.Path.{◌≡◌}
use Rattle.words.specs.Tables.{table_of}
use Rattle.searches.specs.Searches.{first_of_mask}
use Rattle.searches.proofs.partner.first_of_mask.Given as goal

abbrev pub invariant-loop-i : goal.invariant-loop-i
invariant-loop-i l = first_of_mask (table_of l.words) l.mask l.i ≡ first_of_mask (table_of l.words) l.mask l.at
