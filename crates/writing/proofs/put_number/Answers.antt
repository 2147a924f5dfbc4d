-- `put_number` meets its contract: the kit's writer spells the number in the fewest digits, which are its decimal text.
use mathlib.Core.Path.{◌∙◌}
use native.Mathlib.Omega.{arith}
use Rattle.writing.proofs.Decimals.{decimal_written}
use Rattle.writing.proofs.Putting.{put_is}
use Rattle.writing.proofs.put_number.Goals as goal

pub returns : goal.returns
returns c =
    let n = c.args.n in
    put_is _ _ _ _ _ _ c.put.ensures (c.decimal-k.ensures.digits ∙ decimal_written n c.decimal-k.result (omega arith) c.decimal-k.ensures.len)
