-- `add_share` adds the units where the same state stands already, or else puts the state where it belongs; and nothing, where there are no units.
use mathlib.Core.Path.{◌≡◌, refl, sym, ap, ◌∙◌}
use mathlib.Core.Logic.{inl, inr}
use mathlib.Core.Bool.{true}
use Prim.Native.Nat.{suc, ◌+◌}
use native.Mathlib.Numerals.{add-one}
use native.Mathlib.Omega.{arith}
use lib.ListN.{drop}
use Rattle.rules.specs.declared.State.{State}
use Rattle.rules.specs.Table.{order, state_at}
use Rattle.words.specs.Tables.{table_of}
use Rattle.words.proofs.Tables.{fits_table}
use Rattle.tables.proofs.Reading.{states_read}
use Rattle.tables.proofs.Scratch.{scratch_stays}
use Rattle.estimate.specs.Placing.{is_same}
use Rattle.estimate.specs.Sharing.{share_of}
use Rattle.estimate.proofs.Adding.{add_gone}
use Rattle.estimate.proofs.Runs.{next_room, next_put, next_at}
use Rattle.estimate.proofs.Laying.{scratch_met}
use Rattle.estimate.proofs.shares.add_share.Goals as goal

pub returns-then-units-eq0 : goal.returns-then-units-eq0
returns-then-units-eq0 c = let a = c.args in
    (scratch_stays states_read _ a.reached.states a.work.now c.requires.2 (add_gone _ c.if-units-eq0.true _), inl (c.if-units-eq0.true, refl))

pub returns-then-is_share : goal.returns-then-is_share
returns-then-is_share c = let a = c.args in let p = c.requires in let W = table_of a.work.now in
    let s = share_of a.to (state_at W a.place) a.units.0 in
    let near = c.guess_share-near.result in
    let same : is_same (order s (state_at (drop 4096 W) near)) ≡ true =
    ap (λ (t : State). is_same (order t (state_at (drop 4096 W) near))) (sym c.share_of-s.ensures) ∙ sym c.is_share.ensures ∙ c.if-is_share.true in
    let met = scratch_met s a.reached.states W _ (fits_table a.work.now (4096 + a.reached.states) (omega (arith, p.2))) p.4 near c.if-near-reached.true same c.add_units.ensures in
    let some = c.if-units-eq0.false in
    (next_put s s refl some _ _ _ _ met.0, inr (some, add-one near ∙ ap suc met.1))

pub put_to_scratch-requires : goal.put_to_scratch-requires
put_to_scratch-requires c = let p = c.requires in
    let some = c.if-units-eq0.false in
    let e = c.share_of-s.ensures in
    (p.1, p.2, next_room _ _ e some _ _ p.3, p.4, rw e (p.6 some))

pub returns : goal.returns
returns c = let some = c.if-units-eq0.false in
    let e = c.share_of-s.ensures in
    let put = c.put_to_scratch.ensures in
    (next_put _ _ e some _ _ _ _ put.0, inr (some, next_at _ _ e some _ _ put.1))
