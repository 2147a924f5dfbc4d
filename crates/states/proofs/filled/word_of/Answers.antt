-- `word_of` makes the word number by number.
use Rattle.std.proofs.Common.{arith}
use Rattle.states.proofs.Numbers.{word_fits, number_small, word_short, word_next, word_end}
use Rattle.states.proofs.filled.word_of.Goals as goal

pub overflow_mul-word : goal.overflow_mul-word
overflow_mul-word c = let l = c.loop-i in omega (arith, word_fits l.word l.i l.invariant.0 c.loop-i-test.true)

pub overflow_add-word : goal.overflow_add-word
overflow_add-word c =
    let l = c.loop-i in
    let a = c.args in
    omega (
      arith,
      word_fits l.word l.i l.invariant.0 c.loop-i-test.true,
      number_small a.sets a.n c.requires.1 a.first c.requires.0 l.word l.i l.invariant.0 c.loop-i-test.true _ l.invariant.1 c.requires.2 _ c.number_if.ensures,
    )

pub loop-i-preserved : goal.loop-i-preserved
loop-i-preserved c =
    let l = c.loop-i in
    let a = c.args in (
      word_short a.sets a.n c.requires.1 a.first c.requires.0 l.word l.i l.invariant.0 c.loop-i-test.true _ l.invariant.1 c.requires.2 _ c.number_if.ensures,
      word_next a.sets a.n c.requires.1 a.first c.requires.0 l.word l.i l.invariant.0 c.loop-i-test.true _ l.invariant.1 c.requires.2 _ c.number_if.ensures,
    )

pub returns : goal.returns
returns c =
    let l = c.loop-i in
    word_end c.args.sets c.args.n c.requires.1 c.args.first c.requires.0 l.word l.i c.loop-i-test.false _ l.invariant.1
