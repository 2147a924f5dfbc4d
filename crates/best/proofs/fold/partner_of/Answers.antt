-- `partner_of` goes from place to place among the others.
use Prim.Native.Nat.{suc, ◌<◌}
use native.Mathlib.Omega.{arith}
use Rattle.words.specs.BestTables.{table_of}
use Rattle.words.proofs.BestTables.{fits_table}
use Rattle.tables.proofs.Folding.{other_within}
use Rattle.best.proofs.Folding.{partner_start, partner_closer, partner_other, partner_found}
use Rattle.best.proofs.fold.partner_of.Goals as goal
use Rattle.best.proofs.fold.partner_of.Goals.{then-closer, else-closer}

pub load-first-requires : goal.load-first-requires
load-first-requires c = let a = c.args in
    let within : c.place_past.result < a.n = other_within a.at 0 c.place_past.result a.n c.place_past.ensures (omega arith) in
    omega arith

pub loop-j-init : goal.loop-j-init
loop-j-init c =
    let a = c.args in
    partner_start (table_of a.words.now) a.n (fits_table a.words.now a.n (omega arith)) a.at c.requires.1 _ _ _ _ (omega arith) c.place_past.ensures c.load-first.ensures c.how_near-near.ensures

pub load-t-requires : goal.load-t-requires
load-t-requires c = let a = c.args in
    let within : c.place_past-in-loop-j.result < a.n = other_within a.at c.loop-j.j c.place_past-in-loop-j.result a.n c.place_past-in-loop-j.ensures (omega arith) in
    omega arith

pub loop-j-preserved : goal.loop-j-preserved
loop-j-preserved c =
    let a = c.args in
    let t = table_of a.words.now in
    let room = fits_table a.words.now a.n (omega arith) in
    let next : suc c.loop-j.j < a.n = omega arith in
    let place = c.place_past-in-loop-j.ensures in
    let there = c.load-t.ensures in
    let near = c.how_near-found.ensures in
    let said = c.closer.ensures in
    let h = c.loop-j.invariant in
    elim c.if-closer.branch [
      | then-closer w ↦ rw (w.partner-is, w.near-is) (partner_closer t a.n room _ c.requires.1 _ _ _ _ next place there _ _ _ _ near said h w.if-closer.true)
      | else-closer w ↦ rw (w.partner-is, w.near-is) (partner_other t a.n room _ c.requires.1 _ _ _ _ next place there _ _ _ _ near said h w.if-closer.false)
    ]

pub returns : goal.returns
returns c =
    let a = c.args in
    rw (← c.load-s.ensures) (partner_found (table_of a.words.now) a.n (fits_table a.words.now a.n (omega arith)) a.at c.requires.1 _ _ _ c.loop-j.j (omega arith) c.loop-j.invariant)
