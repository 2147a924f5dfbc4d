-- `opened` counts one more miss.
use native.Mathlib.Numerals.{add-one}
use Rattle.rules.specs.Best.{misses_of}
use Rattle.best.proofs.access.opened.Goals as goal

pub returns : goal.returns
returns c = rw (add-one (misses_of c.args.s))
