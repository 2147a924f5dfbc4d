-- `write_front` is safe: the part has as many bytes as are asked for.
use mathlib.Core.Path.{sym}
use lib.Seq.{length-take-le}
use Rattle.front.proofs.write_front.Goals as goal

pub slice_bounds-write_all-end : goal.slice_bounds-write_all-end
slice_bounds-write_all-end c = let a = c.args in sym (length-take-le a.n a.bytes.now c.if-n-bytes.true)
