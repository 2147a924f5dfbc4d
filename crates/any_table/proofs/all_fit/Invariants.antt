-- `all_fit` meets its contract. The invariant of its loop: each state fits where each of those that are left does.
use Rattle.std.proofs.Common.{◌≡◌, drop}
use Rattle.any_table.specs.Accepted.{all_fitting}
use Rattle.any_table.proofs.all_fit.Given as goal

abbrev pub invariant-loop-i : goal.invariant-loop-i
invariant-loop-i g l = let k = g.K.Kind in all_fitting k.fitting (drop l.i (k.states l.words)) ≡ all_fitting k.fitting (k.states l.words)
