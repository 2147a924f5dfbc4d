-- `list_runs` finds one run after the other, and puts its head among those of the runs before it.
use mathlib.Core.Path.{sym, ap, ◌∙◌}
use native.Mathlib.Omega.{arith}
use Rattle.rules.specs.declared.State.{State}
use Rattle.words.specs.Tables.{table_of}
use Rattle.words.proofs.Tables.{fits_table}
use Rattle.tables.proofs.Masks.{with_listed}
use Rattle.tables.proofs.Scratch.{stretch_long}
use Rattle.states.proofs.Steps.{fills_so}
use Rattle.estimate.specs.Merging.{fills}
use Rattle.estimate.proofs.RunListing.{listed_none, listed_turn, listed_all}
use Rattle.estimate.proofs.run_list.list_runs.Goals as goal

pub loop-at-init : goal.loop-at-init
loop-at-init c = listed_none _ _ _ _

pub run_of-run-requires : goal.run_of-run-requires
run_of-run-requires c = let a = c.args in let l = c.loop-at in let e = c.load-first.ensures in (
  c.requires.0.1,
  omega (arith, c.loop-at-test.true),
  omega (arith, c.requires.2, c.loop-at-test.true),
  (ap (λ (s : State). s.mask) (sym e), ap (fills a.ways a.x) (sym e) ∙ sym (c.fills-filling.ensures ∙ fills_so a.x c.requires.0.1 a.ways c.load-first.result)),
)

pub overflow_add-count : goal.overflow_add-count
overflow_add-count c = let a = c.args in let l = c.loop-at in let r = c.run_of-run in record { fits = omega (arith, l.invariant.few, l.invariant.within, stretch_long a.from a.m (table_of a.work.now) (fits_table a.work.now _ c.requires.2), c.requires.1) }

pub overflow_add-at-in-loop-at : goal.overflow_add-at-in-loop-at
overflow_add-at-in-loop-at c = let a = c.args in let l = c.loop-at in let r = c.run_of-run in record { fits = omega (arith, r.ensures.1, l.invariant.within, stretch_long a.from a.m (table_of a.work.now) (fits_table a.work.now _ c.requires.2), c.requires.1) }

pub loop-at-preserved : goal.loop-at-preserved
loop-at-preserved c = let a = c.args in let l = c.loop-at in
    listed_turn a.ways a.x (table_of a.work.now) a.from a.m a.heads.now (stretch_long a.from a.m (table_of a.work.now) (fits_table a.work.now _ c.requires.2)) c.requires.1 c.requires.3 c.requires.4
    l.at l.count l.heads l.invariant c.loop-at-test.true
    c.load-first.result c.load-first.ensures
    c.fills-filling.result (c.fills-filling.ensures ∙ fills_so a.x c.requires.0.1 a.ways c.load-first.result)
    c.run_of-run.result c.run_of-run.ensures
    c.with_block-own.result c.first_head-head.result (with_listed _ _ c.requires.0.0 _ c.with_block-own.ensures) c.first_head-head.ensures
    c.insert_head.new.heads c.insert_head.ensures

pub returns : goal.returns
returns c = let a = c.args in let l = c.loop-at in listed_all _ _ _ _ l.at l.count l.heads l.invariant (omega (arith, c.loop-at-test.false, stretch_long a.from a.m (table_of a.work.now) (fits_table a.work.now _ c.requires.2)))
