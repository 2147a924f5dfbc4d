-- `scan` meets its contract. The invariant of its loop: the bytes that are left, taken from where reading stands, come to what the whole text comes to.
use Rattle.std.specs.Prelude.{Some}
use Rattle.reading.specs.Standing.{standing}
use Rattle.reading.proofs.Scanning.{Left}
use Rattle.reading.proofs.scan.Given as goal

abbrev pub invariant-loop-b : goal.invariant-loop-b
invariant-loop-b l = Left l.text l.b-index (standing (Some l.p) l.numbers) l.initial.numbers
