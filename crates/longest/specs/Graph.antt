-- What the longest path looks at, of all that comes in.
use Rattle.std.specs.Prelude.{List, [], ℕ}
use Rattle.rules.specs.declared.Start.TheVariants.{Cold as cold}
use Rattle.rules.specs.Input.{Input, cache, input_of}

-- the run lengths ns and the edges es, without the rest
abbrev pub graph_of : List ℕ → List ℕ → Input
graph_of ns es = input_of (cache 0 0 0 cold) 0 [] ns [] es
