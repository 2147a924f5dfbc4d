-- `weighed_byte` meets its contract: a byte is at most 255, and its weight at most 510.
use mathlib.Core.Path.{refl}
use Prim.Native.Nat.{ℕ, ◌*◌, ◌≤◌}
use native.Mathlib.Nat.{mul-le-mul}
use native.Mathlib.Omega.{arith}
use Rattle.trace_blocks.proofs.fields.weighed_byte.Goals as goal

most : (w x : ℕ) → w ≤ 510 → x ≤ 255 → w * x ≤ 130050
most w x h l = mul-le-mul h l

pub overflow_mul-result : goal.overflow_mul-result
overflow_mul-result c = omega (arith, most c.args.weight c.args.byte c.requires (omega arith))

pub returns : goal.returns
returns c = (refl, most c.args.weight c.args.byte c.requires (omega arith))
