-- `put_heads` takes the lowest head, puts what comes next of it, and lets it go on.
use mathlib.Core.Path.{refl, sym, ap, ◌∙◌}
use native.Mathlib.Nat.{le_trans}
use native.Mathlib.Omega.{arith}
use lib.ListN.{length}
use Rattle.rules.specs.Table.{listing}
use Rattle.words.specs.Tables.{table_of}
use Rattle.words.proofs.Tables.{fits_table}
use Rattle.tables.proofs.Masks.{with_listed}
use Rattle.tables.proofs.Scratch.{slot_same, stretch_long}
use Rattle.estimate.proofs.HeadByHead.{put_start, put_end, next_waits, next_mask, next_room, put_turn}
use Rattle.estimate.proofs.coming.put_heads.Goals as goal

pub loop-i-init : goal.loop-i-init
loop-i-init c = let p = c.requires in (refl, put_start _ _ _ _ _ _ _ _ _ p.13 p.14 p.12 refl)

pub put_head-so_far-requires : goal.put_head-so_far-requires
put_head-so_far-requires c = let a = c.args in let p = c.requires in
    let l = c.loop-i in
    let q = l.invariant.1 in
    let t = c.loop-i-test.true in
    let has = stretch_long a.from a.m (table_of a.work.now) (fits_table a.work.now _ (omega (arith, p.3, p.4))) in
    let same = slot_same listing _ _ _ _ q.scratch a.from a.m p.3 in (
      p.0,
      p.1,
      p.2,
      p.3,
      omega (arith, p.4, l.invariant.0),
      p.5,
      rw same p.6,
      rw same p.7,
      rw same (next_waits _ _ _ _ _ _ _ _ _ l.heads l.i _ _ q t p.8),
      rw same (next_mask _ _ _ _ _ _ _ _ _ l.heads l.i _ _ q t p.8 a.from a.m p.3 refl has _ _ c.start_in.ensures c.mask_at-mask.ensures),
      q.near,
      q.scratch.count ∙ ap length (sym q.scratch.table),
      rw q.scratch.table q.rises,
      rw same (le_trans (next_room _ _ _ _ _ _ _ _ _ l.heads l.i _ _ q t p.8) p.15),
    )

pub loop-i-smaller : goal.loop-i-smaller
loop-i-smaller c = let a = c.args in let p = c.requires in
    let l = c.loop-i in
    let q = l.invariant.1 in
    let t = c.loop-i-test.true in
    let put = c.put_head-so_far in
    let pass = c.pass_on-i in
    let has = stretch_long a.from a.m (table_of a.work.now) (fits_table a.work.now _ (omega (arith, p.3, p.4))) in
    let mask = next_mask _ _ _ _ _ _ _ _ _ l.heads l.i _ _ q t p.8 a.from a.m p.3 refl has _ _ c.start_in.ensures c.mask_at-mask.ensures in
    let come = rw (slot_same listing _ _ _ _ q.scratch a.from a.m p.3) at put.ensures.0 in
    (put_turn _ _ _ _ _ _ _ _ _ l.heads l.i _ _ q t p.8 _ _ _ come put.ensures.1 p.10 p.11 _ _ _ _ mask (with_listed _ _ p.0.0 _ c.with_block-own.ensures) pass.ensures.value pass.ensures.heads_after).1

pub loop-i-preserved : goal.loop-i-preserved
loop-i-preserved c = let a = c.args in let p = c.requires in
    let l = c.loop-i in
    let q = l.invariant.1 in
    let t = c.loop-i-test.true in
    let put = c.put_head-so_far in
    let pass = c.pass_on-i in
    let has = stretch_long a.from a.m (table_of a.work.now) (fits_table a.work.now _ (omega (arith, p.3, p.4))) in
    let mask = next_mask _ _ _ _ _ _ _ _ _ l.heads l.i _ _ q t p.8 a.from a.m p.3 refl has _ _ c.start_in.ensures c.mask_at-mask.ensures in
    let come = rw (slot_same listing _ _ _ _ q.scratch a.from a.m p.3) at put.ensures.0 in
    (put.auto.work ∙ l.invariant.0, (put_turn _ _ _ _ _ _ _ _ _ l.heads l.i _ _ q t p.8 _ _ _ come put.ensures.1 p.10 p.11 _ _ _ _ mask (with_listed _ _ p.0.0 _ c.with_block-own.ensures) pass.ensures.value pass.ensures.heads_after).0)

pub returns : goal.returns
returns c = put_end _ _ _ _ _ _ _ _ _ _ _ _ _ c.loop-i.invariant.1 (omega (arith, c.loop-i-test.false))
