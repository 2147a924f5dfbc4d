-- `largest` meets its contract. The invariant of its loop: the larger of the largest so far and the largest of what is left is that of all.
use Rattle.std.proofs.Common.{◌≡◌, max, drop}
use Rattle.rules.specs.Counts.{largest}
use Rattle.any_table.proofs.counts.largest.Given as goal

abbrev pub invariant-loop-i : goal.invariant-loop-i
invariant-loop-i g l =
    let T = g.K.Kind.states l.words in
    max l.most (largest g.C.Count.count (drop l.i T)) ≡ largest g.C.Count.count T
