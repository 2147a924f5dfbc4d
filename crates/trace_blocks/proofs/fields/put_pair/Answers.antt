-- `put_pair` meets its contract: the number's bytes, the lowest first, are those of the definition.
use mathlib.Core.Path.{refl, ◌∙◌}
use native.Mathlib.Omega.{arith}
use Rattle.trace_blocks.specs.Written.{pair_bytes}
use Rattle.trace_blocks.proofs.Prefixes.{part_stored, pair_low_first}
use Rattle.trace_blocks.proofs.fields.put_pair.Goals as goal

pub returns : goal.returns
unfolding pair_bytes
returns c =
    let a = c.args in
    part_stored a.block.now _ _ _ a.at 2 (c.copy_from_slice.ensures.after ∙ c.to_le_bytes.ensures ∙ pair_low_first a.x c.requires.1) refl (omega (arith, c.requires.0))
