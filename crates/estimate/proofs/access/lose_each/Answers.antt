-- `lose_each` goes from one of the places to the next.
use mathlib.Core.Path.{◌≡◌, refl, ◌∙◌}
use Prim.Native.Nat.{◌+◌}
use native.Mathlib.Omega.{arith}
use Rattle.rules.specs.Contents.{held_below}
use Rattle.words.specs.Tables.{table_of}
use Rattle.words.proofs.Tables.{fits_table}
use Rattle.estimate.specs.Following.{losing}
use Rattle.rules.specs.Table.{listing}
use Rattle.rules.proofs.Table.{states_lawful}
use Rattle.tables.proofs.Following.{added_nothing, added_then, added_rising, lost_next, lost_skips, lost_room, lost_all_lem}
use Rattle.tables.proofs.Places.{next_on, next_within}
use borrow.Author.Rules.{rules}
use Rattle.estimate.proofs.access.lose_each.Goals as goal

pub loop-at-init : goal.loop-at-init
unfolding held_below
loop-at-init c = let a = c.args in
    let first = c.next_place-at.ensures in (
      rw first (next_within a.risk 0 (omega arith)),
      refl,
      rw (first, lost_skips listing (losing a.x a.s a.part.0) a.risk 0) (added_nothing listing a.n (table_of a.words.now) (fits_table a.words.now a.n (omega arith))),
    )

pub lose_one-m-requires : goal.lose_one-m-requires
lose_one-m-requires c = let l = c.loop-at in
    let a = c.args in
    let few = lost_room listing (losing a.x a.s a.part.0) a.risk a.n _ _ (table_of a.words.now) _ (fits_table a.words.now a.n (omega arith)) l.invariant.2 in
    (c.requires.0, search rules, search rules, omega arith, added_rising listing _ _ _ _ _ l.invariant.2 states_lawful c.requires.3)

pub loop-at-smaller : goal.loop-at-smaller
loop-at-smaller c = let a = c.args in
    omega (arith, c.next_place-at-in-loop-at.ensures, next_on a.risk (c.loop-at.at + 1), next_within a.risk (c.loop-at.at + 1) (omega (arith, c.loop-at-test.true)))

pub loop-at-preserved : goal.loop-at-preserved
loop-at-preserved c = let a = c.args in
    let next = c.next_place-at-in-loop-at.ensures in
    let lost = c.lose_one-m in (
      rw next (next_within a.risk (c.loop-at.at + 1) (omega (arith, c.loop-at-test.true))),
      lost.auto.words ∙ c.loop-at.invariant.1,
      rw (next, lost_skips listing (losing a.x a.s a.part.0) a.risk (c.loop-at.at + 1), lost_next listing (losing a.x a.s a.part.0) a.risk c.loop-at.at) (added_then listing _ _ _ _ _ c.loop-at.invariant.2 _ _ _ lost.ensures),
    )

pub returns : goal.returns
returns c = let a = c.args in
    let past : c.loop-at.at ≡ 16 = omega arith in
    rw (← lost_all_lem listing (losing a.x a.s a.part.0) a.risk, ← past) c.loop-at.invariant.2
