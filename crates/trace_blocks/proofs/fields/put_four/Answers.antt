-- `put_four` meets its contract: the number's bytes, the lowest first, are those of the definition.
use mathlib.Core.Path.{refl, ◌∙◌}
use native.Mathlib.Omega.{arith}
use Rattle.trace_blocks.specs.Written.{four_bytes}
use Rattle.trace_blocks.proofs.Prefixes.{part_stored, four_low_first}
use Rattle.trace_blocks.proofs.fields.put_four.Goals as goal

pub returns : goal.returns
unfolding four_bytes
returns c =
    let a = c.args in
    part_stored a.block.now _ _ _ a.at 4 (c.copy_from_slice.ensures.after ∙ c.to_le_bytes.ensures ∙ four_low_first a.x (omega (arith, c.ranges.x))) refl (omega (arith, c.requires))
