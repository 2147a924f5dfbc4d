-- `lay` stores what becomes of the state behind the others, if that has any units.
use mathlib.Core.Path.{ap, ◌∙◌}
use mathlib.Core.List.{append-nil}
use Prim.Native.Nat.{◌+◌}
use native.Mathlib.Omega.{arith}
use lib.ListN.{set}
use borrow.Author.Tests.{eq-eqb}
use Rattle.rules.specs.declared.State.{State}
use Rattle.rules.specs.Table.{state_at}
use Rattle.words.specs.Tables.{table_of}
use Rattle.words.proofs.Tables.{fits_table, below_table}
use Rattle.tables.proofs.Reading.{states_read}
use Rattle.tables.proofs.Scratch.{scratch_stays}
use Rattle.estimate.specs.Sharing.{share_of}
use Rattle.estimate.proofs.Laying.{scratch_laid, laid_fits}
use Rattle.estimate.proofs.shares.lay.Goals as goal

pub returns-then-units-eq0 : goal.returns-then-units-eq0
returns-then-units-eq0 c = let a = c.args in
    scratch_stays states_read _ a.n a.work.now c.requires.1 (rw (eq-eqb a.units.0 0 c.if-units-eq0.true) (append-nil _))

pub store-requires : goal.store-requires
store-requires c = let a = c.args in let W = table_of a.work.now in
    laid_fits (share_of a.to (state_at W a.place) a.units.0) a.n W c.if-units-eq0.false (fits_table a.work.now (4096 + a.n) (omega (arith, c.requires.1))) _ c.requires.2

pub returns : goal.returns
returns c = let a = c.args in let W = table_of a.work.now in
    let s = share_of a.to (state_at W a.place) a.units.0 in
    let some = c.if-units-eq0.false in
    let room = laid_fits s a.n W some (fits_table a.work.now (4096 + a.n) (omega (arith, c.requires.1))) _ c.requires.2 in
    scratch_laid s a.n W _ some (below_table a.work.now (4096 + a.n) room) (c.store.ensures ∙ ap (λ (t : State). set W (4096 + a.n) t) c.share_of.ensures)
