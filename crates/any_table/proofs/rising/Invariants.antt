-- `rising` meets its contract. The invariant of its loop: the states rise where those from the one before place i on do.
use Rattle.std.proofs.Common.{◌≡◌, ◌-◌, drop}
use Rattle.rules.specs.Ordered.{rises}
use Rattle.any_table.proofs.rising.Given as goal

abbrev pub invariant-loop-i : goal.invariant-loop-i
invariant-loop-i g l = let k = g.K.Kind in rises k.listing.order (drop (l.i - 1) (k.states l.words)) ≡ rises k.listing.order (k.states l.words)
