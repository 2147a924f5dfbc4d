-- No number is listed twice where none of those from place i on is.
use Rattle.std.proofs.Common.{◌≡◌, drop}
use Rattle.rules.specs.Contents.{once}
use Rattle.graph_check.proofs.once.Given as goal

abbrev pub invariant-loop-i : goal.invariant-loop-i
invariant-loop-i l = once (drop l.i l.list) ≡ once l.list
