-- `fill_starts` meets its contract: the run of each node ends where that of the next one begins.
use Rattle.std.proofs.Common.{◌≡◌, ◌+◌, ◌-◌, get_or, refl, sym, ◌∙◌, le_refl, arith, length-set}
use Rattle.rules.specs.Input.{Input, offset}
use Rattle.live.specs.Starts.{graph_of}
use Rattle.live.proofs.Lives.{held_none, node_done, run_fits, offset_all}
use Rattle.live.proofs.fill_starts.Goals as goal
use Rattle.live.proofs.fill_starts.Goals.{In-loop-v}

-- what the call is handed
abbrev given : In-loop-v → Input
given c = let a = c.args in graph_of a.tracked.now a.runs.now a.accesses.now a.edges.now

-- where the next run stands
fits : (c : In-loop-v) → get_or c.args.runs.now (c.loop-v.v - 1) 0 + offset c.args.runs.now (c.loop-v.v - 1) ≡ c.loop-v.to
fits c = run_fits (given c) c.loop-v.v c.loop-v.to (omega arith) (omega arith) c.loop-v.invariant.2

pub loop-v-init : goal.loop-v-init
loop-v-init c =
    let a = c.args in
    (refl, le_refl _, sym c.requires.2 ∙ offset_all a.runs.now, held_none (graph_of a.tracked.now a.runs.now a.accesses.now a.edges.now) a.starts.now)

pub overflow_sub-from : goal.overflow_sub-from
overflow_sub-from c = omega (arith, fits (goal.at.overflow_sub-from c).In-loop-v)

pub loop-v-preserved : goal.loop-v-preserved
loop-v-preserved c =
    let s = (goal.at.loop-v-preserved c).In-loop-v in
    let l = c.loop-v in (
      length-set l.starts (l.v - 1) _ ∙ l.invariant.0,
      omega arith,
      omega (arith, fits s),
      node_done (given s) l.starts _ l.v l.to (omega arith) (omega arith) (omega arith) l.invariant.2 l.invariant.3 _ _ c.after_node-behind.ensures c.living.ensures,
    )
