-- `word_of` makes the word number by number. The invariant of its loop: with the numbers that are left behind it, it is the whole.
use Rattle.std.proofs.Common.{◌≡◌, ◌^◌, ◌<◌, take, drop}
use Rattle.rules.specs.Filling.{word_from}
use Rattle.states.specs.Filling.{sixteen_of}
use Rattle.states.proofs.filled.word_of.Given as goal

abbrev pub invariant-loop-i : goal.invariant-loop-i
invariant-loop-i l =
    (l.word < 256 ^ l.i) × (word_from l.word (drop l.i (take 8 (drop l.first (sixteen_of l.sets l.n)))) ≡ word_from 0 (take 8 (drop l.first (sixteen_of l.sets l.n))))
