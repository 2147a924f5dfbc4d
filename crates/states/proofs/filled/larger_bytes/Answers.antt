-- `larger_bytes` makes the word byte by byte.
use Rattle.std.proofs.Common.{◌-◌, arith}
use Rattle.states.proofs.Numbers.{word_fits, byte_small, bytes_short, bytes_next, bytes_end}
use Rattle.states.proofs.filled.larger_bytes.Goals as goal

pub overflow_mul-word : goal.overflow_mul-word
overflow_mul-word c = let l = c.loop-at in omega (arith, word_fits l.word (8 - l.at) l.invariant.0 (omega arith))

pub overflow_add-word : goal.overflow_add-word
overflow_add-word c =
    let l = c.loop-at in
    omega (
      arith,
      word_fits l.word (8 - l.at) l.invariant.0 (omega arith),
      byte_small l.word l.at _ _ _ l.invariant.0 l.auto.at (omega arith) l.invariant.1 _ _ _ c.byte_at.ensures c.byte_at-in-loop-at.ensures c.larger.ensures,
    )

pub loop-at-preserved : goal.loop-at-preserved
loop-at-preserved c =
    let l = c.loop-at in
    let some = c.loop-at-test.true in
    let first = c.byte_at.ensures in
    let second = c.byte_at-in-loop-at.ensures in (
      bytes_short l.word l.at _ _ _ l.invariant.0 l.auto.at some l.invariant.1 _ _ _ first second c.larger.ensures,
      bytes_next l.word l.at _ _ _ l.invariant.0 l.auto.at some l.invariant.1 _ _ _ first second c.larger.ensures,
    )

pub returns : goal.returns
returns c = let l = c.loop-at in bytes_end l.word l.at _ _ _ c.loop-at-test.false l.invariant.1
