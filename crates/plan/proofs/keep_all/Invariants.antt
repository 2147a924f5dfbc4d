-- `keep_all` goes from the last mask down. The invariant of its loop: with the masks below m yet to come the words are those of the whole.
use mathlib.Core.Path.{◌≡◌}
use Rattle.plan.specs.Plan.{itself}
use Rattle.plan.proofs.keep_all.Given as goal

abbrev pub invariant-loop-m : goal.invariant-loop-m
invariant-loop-m l = itself l.m l.masks l.words ≡ itself l.masks l.masks l.initial.words
