-- `copy_block` meets its contract.
use mathlib.Core.Path.{◌≡◌, sym, ◌∙◌}
use native.Mathlib.Omega.{arith}
use borrow.Author.Rules.{rules}
use Rattle.trace_blocks.proofs.AnyBytes.{counted_block, access_there}
use Rattle.recorder.proofs.Copied.{copied_start, copied_next, copied_end}
use Rattle.recorder.proofs.copying.copy_block.Goals as goal

pub loop-i-init : goal.loop-i-init
loop-i-init c =
    let said = c.count_in-count.ensures ∙ sym (counted_block _ c.requires.0) in
    (omega (arith, said, c.requires.2), copied_start _ c.args.accesses.now c.args.at _ said)

pub loop-i-preserved : goal.loop-i-preserved
loop-i-preserved c =
    let l = c.loop-i in
    let block = c.requires.0 in (
      l.invariant.0,
      copied_next _ _ _ _ _ _ l.invariant.1 c.loop-i-test.true (search rules) _ (c.access_in.ensures ∙ sym (access_there _ block l.i (omega (arith, c.loop-i-test.true, l.invariant.0)))),
    )

pub returns : goal.returns
returns c =
    let all : c.loop-i.i ≡ c.count_in-count.result = omega (arith, c.loop-i-test.false, c.loop-i.auto.i-end) in
    rw (← all) (copied_end _ _ _ _ _ _ c.loop-i.invariant.1 c.loop-i-test.false (search rules))
