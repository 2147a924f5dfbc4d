-- `find_ends` meets its contract.
use native.Mathlib.Numerals.{add-one}
use native.Mathlib.Omega.{arith}
use Rattle.longest.specs.Graph.{graph_of}
use Rattle.longest.proofs.Ends.{ends_start, ends_next}
use Rattle.longest.proofs.find_ends.Goals as goal

pub loop-j-init : goal.loop-j-init
loop-j-init c = ends_start _ c.args.ends.now

pub loop-j-preserved : goal.loop-j-preserved
loop-j-preserved c =
    let l = c.loop-j in
    rw (add-one l.j) (ends_next (graph_of c.args.runs.now c.args.edges.now) l.ends l.j _ l.invariant (omega (arith, c.requires.0)) c.most_before-most.ensures)
