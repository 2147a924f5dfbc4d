-- `run` takes the accesses one by one.
use mathlib.Core.Path.{refl, ◌∙◌}
use Prim.Native.Nat.{◌+◌, ◌-◌}
use native.Mathlib.Omega.{arith}
use lib.ListN.{length}
use native.Mathlib.Numerals.{add-one}
use Rattle.tables.proofs.Settling.{stands_work}
use Rattle.best.proofs.Settling.{ran_next, ran_stands, ready_wider, ready_next}
use Rattle.best.proofs.run.run.Goals as goal

pub loop-block-init : goal.loop-block-init
loop-block-init c = let a = c.args in
    let long = length a.accesses.now in
    (ready_wider a.sets a.ways a.tracked.now a.limit (4096 - long) (4096 - (long - 0)) _ _ _ (omega arith) c.requires.1, refl, refl)

pub advance-so_far-requires : goal.advance-so_far-requires
advance-so_far-requires c = let a = c.args in
    let l = c.loop-block in
    ready_wider a.sets a.ways a.tracked.now a.limit (4096 - (length a.accesses.now - l.block-index)) 4095 _ _ _ (omega arith) l.invariant.0

pub loop-block-preserved : goal.loop-block-preserved
loop-block-preserved c = let a = c.args in
    let l = c.loop-block in
    let g = c.advance-so_far in
    let t = a.tracked.now in
    let next = 4096 - (length a.accesses.now - (l.block-index + 1)) in (
      ready_next a.sets a.ways t a.limit (4096 - (length a.accesses.now - l.block-index)) next a.at _ _ _ l.work g.new.work (omega (arith, c.requires.0)) g.auto.work l.invariant.0 g.ensures,
      g.ensures.before ∙ l.invariant.1,
      rw (add-one l.block-index, stands_work _ _ _ _ _ _ g.ensures) (ran_next a.ways a.sets a.limit t a.accesses.now l.block-index _ _ _ (omega arith) refl l.invariant.2),
    )

pub returns : goal.returns
returns c = let a = c.args in
    let l = c.loop-block in
    ran_stands a.sets a.ways a.tracked.now a.limit _ a.at _ l.block-index a.accesses.now l.work _ _ (omega arith) l.invariant.0 l.invariant.1 l.invariant.2
