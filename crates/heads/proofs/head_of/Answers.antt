-- `head_of` packs what is said of a run into one number; all of it has room.
use mathlib.Core.Path.{refl}
use native.Mathlib.Omega.{arith}
use Rattle.heads.specs.Head.{head_of}
use Rattle.heads.proofs.Reading.{stream_small}
use Rattle.heads.proofs.head_of.Goals as goal

pub overflow_mul-result-3 : goal.overflow_mul-result-3
overflow_mul-result-3 c = record { fits = omega (arith, c.first_stream-k.ensures, stream_small c.args.streams) }

pub overflow_add-result-2 : goal.overflow_add-result-2
overflow_add-result-2 c = record { fits = omega (arith, c.first_stream-k.ensures, stream_small c.args.streams) }

pub overflow_add-result-3 : goal.overflow_add-result-3
overflow_add-result-3 c = record { fits = omega (arith, c.first_stream-k.ensures, stream_small c.args.streams) }

pub returns : goal.returns
unfolding head_of
returns c = rw (c.contents_at-contents.ensures, c.first_stream-k.ensures) refl
