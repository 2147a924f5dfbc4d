-- Joins, counted: the edges to a node, and the joins of the nodes so far, which are no more than the edges.
use mathlib.Core.Path.{◌≡◌, refl, ap}
use mathlib.Core.Bool.{Bool, true, false, cond}
use mathlib.Core.List.{List, [], ◌∷◌}
use Prim.Native.Nat.{ℕ, zero, suc, ◌+◌, ◌≤◌}
use native.Mathlib.Omega.{arith}
use lib.Dec.{eqb}
use lib.ListN.{length}
use borrow.Author.Tests.{eqb-true}
use Rattle.std.specs.List.{filter}
use Rattle.rules.specs.Input.{Edge, edges_of, predecessors, joins_at, joins_to}

-- ---- the edges to a node

pub edges_to : (j : ℕ) (es : List Edge) → length (filter (λ e. eqb e.to j) es) ≡ length (predecessors es j)
unfolding predecessors
edges_to j [] = refl
edges_to j (e ∷ es) = elim (eqb e.to j) as (λ b. length (cond b (e ∷ filter (λ f. eqb f.to j) es) (filter (λ f. eqb f.to j) es)) ≡ length (cond b (e.from ∷ predecessors es j) (predecessors es j))) [
  | true ↦ ap suc (edges_to j es)
  | false ↦ edges_to j es
]

-- ---- no more joins than edges

-- the edges to the nodes before node n
into : List Edge → ℕ → ℕ
into es zero = 0
into es (suc n) = into es n + length (predecessors es n)

-- one edge more is one more, if it leads to one of them
into_more : (e : Edge) (es : List Edge) (n : ℕ) → (into (e ∷ es) n ≤ suc (into es n)) × (n ≤ e.to → into (e ∷ es) n ≡ into es n)
unfolding into predecessors
into_more e es zero = (omega arith, λ h. refl)
into_more e es (suc n) = go (eqb e.to n) refl (into_more e es n)
  where
    go : (b : Bool) → eqb e.to n ≡ b → (into (e ∷ es) n ≤ suc (into es n)) × (n ≤ e.to → into (e ∷ es) n ≡ into es n)
        → (into (e ∷ es) n + length (cond b (e.from ∷ predecessors es n) (predecessors es n)) ≤ suc (into es n + length (predecessors es n)))
        × (suc n ≤ e.to → into (e ∷ es) n + length (cond b (e.from ∷ predecessors es n) (predecessors es n)) ≡ into es n + length (predecessors es n))
    go true q (few, same) =
        let here : e.to ≡ n = eqb-true e.to n q in
        (omega (arith, same (omega (arith, here))), λ h. absurd (omega (arith, here)))
    go false q (few, same) = (omega (arith, few), λ h. omega (arith, same (omega arith)))

into_most : (es : List Edge) (n : ℕ) → into es n ≤ length es
unfolding into predecessors
into_most [] n = none n
  where
    none : (n : ℕ) → into [] n ≤ 0
    none zero = omega arith
    none (suc n) = omega (arith, none n)
into_most (e ∷ es) n = omega (arith, (into_more e es n).0, into_most es n)

joins_into : (es : List Edge) (n : ℕ) → joins_to es n ≤ into es n
unfolding joins_to into
joins_into es zero = omega arith
joins_into es (suc n) = omega (arith, joins_into es n)

half : (ns : List ℕ) → length (edges_of ns) ≤ length ns
half [] = omega arith
half (a ∷ []) = omega arith
half (a ∷ b ∷ ns) = omega (arith, half ns)

pub joins_most : (ns : List ℕ) (n : ℕ) → joins_to (edges_of ns) n ≤ length ns
joins_most ns n = omega (arith, joins_into (edges_of ns) n, into_most (edges_of ns) n, half ns)

-- ---- node after node

pub joins_none : (es : List Edge) → 0 ≡ joins_to es 0
unfolding joins_to
joins_none es = refl

pub joins_next : (es : List Edge) (n a b : ℕ) → a ≡ joins_to es n → b ≡ joins_at es n → a + b ≡ joins_to es (suc n)
unfolding joins_to
joins_next es n a b p q = rw (p, q) refl
