-- `fill` meets its contract. The invariant of its loop: the room holds the units at each count among the states so far.
use Rattle.std.proofs.Common.{◌≡◌, length, take}
use Rattle.rules.specs.Counts.{counts_below}
use Rattle.any_table.proofs.counts.fill.Given as goal

abbrev pub invariant-loop-i : goal.invariant-loop-i
invariant-loop-i g l =
    let k = g.K.Kind in
    l.room ≡ counts_below k.listing.units g.C.Count.count (length l.initial.room) (take l.i (k.states l.words))
