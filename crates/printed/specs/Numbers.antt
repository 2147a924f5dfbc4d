-- The numbers that the lines of a curve say.
use Rattle.std.specs.Prelude.{List, [], ◌∷◌, ◌++◌, ℕ, zero, suc}
use Rattle.rules.specs.declared.State.{State}
use Rattle.rules.specs.Questions.{units_at, above}

-- misses, units there, units above, for each miss count below m
unfoldable pub triples : ℕ → List State → List ℕ
triples zero T = []
triples (suc m) T = triples m T ++ (m ∷ units_at m T ∷ above m T ∷ [])

-- the second of every three numbers
unfoldable pub seconds : List ℕ → List ℕ
seconds [] = []
seconds (a ∷ []) = []
seconds (a ∷ b ∷ []) = []
seconds (a ∷ b ∷ c ∷ ns) = b ∷ seconds ns
