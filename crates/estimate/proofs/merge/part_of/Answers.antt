-- `part_of` gives what becomes of a state in a stream that loses nothing and has something of such states, by the stream's number.
use mathlib.Core.Path.{◌≡◌, refl, ap}
use native.Mathlib.Omega.{arith}
use Rattle.rules.specs.declared.State.{State}
use Rattle.rules.specs.Contents.{shared}
use Rattle.states.proofs.Steps.{fuller_so, missed_so}
use Rattle.estimate.proofs.StreamParts.{keep_comes, risk_size, part_hits, part_fills, part_keeps}
use Rattle.estimate.proofs.merge.part_of.Goals as goal

pub returns-then-k-gt17 : goal.returns-then-k-gt17
returns-then-k-gt17 c = let a = c.args in
    (part_hits a.ways a.x a.k a.s c.requires.3 c.if-k-gt17.true, (omega arith, omega arith))

pub returns-then-k-eq17 : goal.returns-then-k-eq17
returns-then-k-eq17 c = let a = c.args in (
  part_fills a.ways a.x a.k a.s c.requires.3 _ c.if-k-eq17.true _ _
      (fuller_so a.x c.requires.0.0 c.requires.0.1 _ c.requires.2 a.s _ c.fuller.ensures) refl
      (missed_so a.x c.requires.0.0 c.fuller.result _ (omega (arith, ap (λ (s : State). s.misses) c.fuller.ensures, c.requires.1.0)) _ _ c.missed.ensures),
  (omega arith, omega arith),
)

pub kept_of-requires : goal.kept_of-requires
unfolding shared
kept_of-requires c = let a = c.args in
    let keeps : a.k ≡ 16 = omega (arith, c.requires.4, c.if-k-eq17.false, c.if-k-gt17.false) in
    (risk_size a.ways a.x a.k a.s (keep_comes _ _ _ _ c.requires.3 keeps).1 c.requires.1.2, c.requires.2, c.requires.1.1)

pub returns : goal.returns
unfolding shared
returns c = let a = c.args in
    let keeps : a.k ≡ 16 = omega (arith, c.requires.4, c.if-k-eq17.false, c.if-k-gt17.false) in (
      part_keeps a.ways a.x a.k a.s c.requires.3 _ c.requires.2 c.requires.0.1 keeps _ _ refl c.kept_of.ensures (missed_so a.x c.requires.0.0 a.s _ c.requires.1.0 _ _ c.missed-2.ensures),
      (omega arith, omega arith),
    )
