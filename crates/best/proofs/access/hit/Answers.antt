-- `hit` counts one more hit.
use native.Mathlib.Numerals.{add-one}
use Rattle.rules.specs.Best.{hits_of}
use Rattle.best.proofs.access.hit.Goals as goal

pub returns : goal.returns
returns c = rw (add-one (hits_of c.args.s))
