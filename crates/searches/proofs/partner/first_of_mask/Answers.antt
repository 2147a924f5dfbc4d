-- `first_of_mask` goes back while the mask is the same.
use mathlib.Core.Path.{◌≡◌, refl, sym, ap, ◌∙◌}
use Prim.Native.Nat.{◌+◌, ◌-◌}
use native.Mathlib.Omega.{arith}
use Rattle.rules.specs.declared.State.{State}
use Rattle.words.specs.Tables.{table_of}
use Rattle.searches.proofs.Seeking.{mask_other, mask_back, mask_none}
use Rattle.searches.proofs.partner.first_of_mask.Goals as goal

pub loop-i-init : goal.loop-i-init
loop-i-init c = refl

pub returns-then-load-mask : goal.returns-then-load-mask
returns-then-load-mask c =
    let t = table_of c.args.words.now in
    let l = c.loop-i in
    let behind : l.i - 1 + 1 ≡ l.i = omega arith in (
      behind ∙ sym (mask_other t _ l.i c.loop-i-test.true (λ e. c.if-load-mask.true (ap (λ (s : State). s.mask) c.load.ensures ∙ e))) ∙ l.invariant,
      omega arith,
    )

pub loop-i-preserved : goal.loop-i-preserved
loop-i-preserved c =
    let t = table_of c.args.words.now in
    sym (mask_back t _ c.loop-i.i c.loop-i-test.true (sym (ap (λ (s : State). s.mask) c.load.ensures) ∙ c.if-load-mask.false)) ∙ c.loop-i.invariant

pub returns : goal.returns
returns c =
    let l = c.loop-i in
    let first : 0 ≡ l.i = omega arith in
    (first ∙ sym (mask_none _ _ l.i c.loop-i-test.false) ∙ l.invariant, omega arith)
