-- `find_ends` meets its contract. The invariant of its loop: what stands for the nodes so far are their ends.
use Rattle.std.proofs.Common.{◌≡◌, take}
use Rattle.rules.specs.Longest.{longest_to}
use Rattle.longest.specs.Graph.{graph_of}
use Rattle.longest.proofs.find_ends.Given as goal

abbrev pub invariant-loop-j : goal.invariant-loop-j
invariant-loop-j l = take l.j l.ends ≡ longest_to (graph_of l.runs l.edges) l.j
