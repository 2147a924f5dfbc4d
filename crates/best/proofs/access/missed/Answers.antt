-- `missed` has one miss more, and the accessed block.
use native.Mathlib.Numerals.{add-one}
use Rattle.rules.specs.Best.{misses_of}
use Rattle.tables.proofs.Masks.{with_listed}
use Rattle.best.proofs.access.missed.Goals as goal

pub returns : goal.returns
returns c = rw (with_listed _ _ c.requires.0 _ c.with_block.ensures, add-one (misses_of c.args.s))
