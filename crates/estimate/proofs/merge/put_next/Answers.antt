-- `put_next` puts what becomes of the state, if that has any units, and the run goes on from there.
use mathlib.Core.Path.{◌≡◌, refl, sym, ap, ◌∙◌}
use mathlib.Core.Logic.{◌≢◌, inl, inr}
use Rattle.rules.specs.Table.{units_of}
use Rattle.estimate.specs.Merging.{part}
use Rattle.estimate.proofs.Adding.{add_gone}
use Rattle.tables.proofs.Reading.{states_read}
use Rattle.tables.proofs.Scratch.{scratch_stays}
use Rattle.estimate.proofs.Runs.{next_room, next_put, next_at}
use Rattle.estimate.proofs.merge.put_next.Goals as goal

pub returns-then-u-eq0 : goal.returns-then-u-eq0
returns-then-u-eq0 c = let a = c.args in
    let none : units_of (part a.ways a.x a.k a.s) ≡ 0 = sym (ap units_of c.part_of-t.ensures.0) ∙ c.if-u-eq0.true in
    (scratch_stays states_read _ a.reached.states a.work.now c.requires.5 (add_gone _ none _), inl (none, refl))

pub put_to_scratch-requires : goal.put_to_scratch-requires
put_to_scratch-requires c = let a = c.args in let p = c.requires in
    let e = c.part_of-t.ensures in
    let some : units_of (part a.ways a.x a.k a.s) ≢ 0 = λ z. c.if-u-eq0.false (ap units_of e.0 ∙ z) in
    (p.4, p.5, next_room _ _ e.0 some _ _ p.6, p.7, rw e.0 (p.8 e.1 some))

pub returns : goal.returns
returns c = let a = c.args in
    let e = c.part_of-t.ensures in
    let some : units_of (part a.ways a.x a.k a.s) ≢ 0 = λ z. c.if-u-eq0.false (ap units_of e.0 ∙ z) in
    let put = c.put_to_scratch.ensures in
    (next_put _ _ e.0 some _ _ _ _ put.0, inr (some, e.1, next_at _ _ e.0 some _ _ put.1))
