-- `is_alike` makes one test of two.
use Rattle.rules.specs.Contents.{shared}
use Rattle.folding.proofs.Partners.{one_test}
use Rattle.folding.proofs.partner.is_alike.Goals as goal

pub returns : goal.returns
unfolding shared
returns c =
    let a = c.args in
    one_test (shared a.s.mask a.t.mask) a.s.mask a.s.misses a.t.misses
