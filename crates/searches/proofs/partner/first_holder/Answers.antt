-- `first_holder` goes on from the first state that has the mask.
use mathlib.Core.Path.{◌≡◌, refl, sym, ◌∙◌}
use native.Mathlib.Omega.{arith}
use Rattle.searches.specs.Searches.{first_holder}
use Rattle.searches.proofs.Seeking.{first_here, first_on, first_none}
use Rattle.searches.proofs.partner.first_holder.Goals as goal

pub loop-j-init : goal.loop-j-init
unfolding first_holder
loop-j-init c = rw c.first_of_mask-first.ensures.0 refl

pub returns-then-is_holder : goal.returns-then-is_holder
returns-then-is_holder c =
    sym (first_here _ c.loop-j.j c.loop-j-test.true _ (sym c.is_holder.ensures ∙ c.if-is_holder.true)) ∙ c.loop-j.invariant

pub loop-j-preserved : goal.loop-j-preserved
loop-j-preserved c =
    sym (first_on _ c.loop-j.j c.loop-j-test.true _ (sym c.is_holder.ensures ∙ c.if-is_holder.false)) ∙ c.loop-j.invariant

pub returns : goal.returns
returns c =
    let all : c.args.n ≡ c.loop-j.j = omega arith in
    all ∙ sym (first_none _ c.loop-j.j c.loop-j-test.false _) ∙ c.loop-j.invariant
