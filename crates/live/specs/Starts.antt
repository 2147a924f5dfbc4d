-- What is live at the start of each node of a graph, in 64 numbers.
use Rattle.std.specs.Prelude.{List, ◌++◌, ℕ, ◌-◌, replicate, Err, Ok}
use Rattle.rules.specs.declared.Start.TheVariants.{Cold as cold}
use Rattle.rules.specs.Answers.{Verdict}
use Rattle.rules.specs.Input.{Input, cache, input_of, nodes}
use Rattle.rules.specs.Refusals.{verdict}
use Rattle.tight_rules.specs.Live.{lives_of}

-- the tracked blocks ts and the graph of the run lengths ns, the accesses bs and the edges es, with the least cache, limit and rooms
abbrev pub graph_of : List ℕ → List ℕ → List ℕ → List ℕ → Input
graph_of ts ns bs es = input_of (cache 1 1 1 cold) 1 ts ns bs es

-- a refusal has no live places; otherwise those of each node, and 0 for the nodes that there are not
abbrev pub starts_or : Verdict → Input → List ℕ
starts_or (Ok tt) i = lives_of i (nodes i) ++ replicate (64 - nodes i) 0
starts_or (Err r) i = replicate 64 0

-- what is live at the start of each node, where document 01's call accepts the graph
unfoldable pub starts_of : Input → List ℕ
starts_of i = starts_or (verdict i) i
