-- `units_above` meets its contract. The invariant of its loop: the sum so far and the units above of what is left are those of all, which are
-- at most WHOLE.
use Rattle.std.proofs.Common.{◌≡◌, ◌+◌, drop}
use Rattle.rules.specs.Questions.{above}
use Rattle.words.specs.Tables.{table_of}
use Rattle.questions.proofs.sums.units_above.Given as goal

abbrev pub invariant-loop-i : goal.invariant-loop-i
invariant-loop-i l = l.sum + above l.budget (drop l.i (table_of l.words)) ≡ above l.budget (table_of l.words)
