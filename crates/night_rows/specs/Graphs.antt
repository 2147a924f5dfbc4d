-- The graphs of a list: each a count, and so many numbers in the curve's order.
use Rattle.std.specs.Prelude.{Bool, true, false, cond, ◌&&◌, List, [], ◌∷◌, ℕ, zero, suc, length}
use Rattle.curve_numbers.specs.Parts.{counted}

-- a list that is cut into graphs: whether they use it up exactly, and the numbers of each
pub record Cut : Type 0 where
  pub exact : Bool
  pub graphs : List (List ℕ)

-- a list, cut into n graphs at most
unfoldable pub cut : ℕ → List ℕ → Cut
cut zero [] = record { exact = true; graphs = [] }
cut zero (k ∷ ns) = record { exact = false; graphs = [] }
cut (suc n) [] = record { exact = true; graphs = [] }
cut (suc n) (k ∷ ns) =
    let p = counted 1 (k ∷ ns) in
    let rest = cut n p.rest in
    record { exact = p.enough && rest.exact; graphs = p.numbers ∷ rest.graphs }

-- whether at most 256 graphs use the list up exactly
abbrev pub exactly : List ℕ → Bool
exactly ns = (cut 256 ns).exact

-- the numbers of each graph
abbrev pub graphs_in : List ℕ → List (List ℕ)
graphs_in ns = (cut 256 ns).graphs

-- ---- for the first pass over the list

-- how many graphs they are; more than 256 where they do not use the list up exactly
unfoldable pub count_of : List ℕ → ℕ
count_of ns = cond (exactly ns) (length (graphs_in ns)) 257
