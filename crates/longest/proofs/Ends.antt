-- The ends of the nodes: what the loops over the edges and over the nodes compute, and the answer that is made of it.
use Rattle.std.specs.Prelude.{Err, Ok}
use mathlib.Core.Path.{◌≡◌, refl, sym, ap, ◌∙◌}
use mathlib.Core.List.{List, [], ◌∷◌, ◌++◌}
use Prim.Native.Nat.{ℕ, zero, suc, ◌+◌, ◌-◌, ◌≤◌, ◌<◌, max}
use native.Mathlib.Nat.{max-zero}
use native.Mathlib.Omega.{arith}
use borrow.Author.Tests.{eq-eqb, ne_eqb}
use lib.ListN.{length, get_or, set, take, drop}
use lib.Seq.{take-suc-set, get_or-take}
use Rattle.rules.specs.declared.Refusal.{Refusal}
use Rattle.rules.specs.Answers.{Verdict}
use Rattle.rules.specs.Input.{Input, Edge, nodes, edges_of, predecessors}
use Rattle.rules.specs.Refusals.{verdict}
use Rattle.rules.specs.Longest.{most_of, longest_to, longest, longest_answer, up_to}
use Rattle.rules.proofs.Refusals.{Checked}
use Rattle.rules.proofs.Graph.{offset_most}
use Rattle.rules.proofs.Longest.{up_to_most_lem}
use Rattle.basics.proofs.Lists.{list_next, list_end}
use Rattle.longest.specs.Graph.{graph_of}

-- ---- through the edges: the most so far and the most of the edges from place i on give the whole, w

module _ (ends : List ℕ) (es : List Edge) (j i most w : ℕ) (rest : max most (most_of ends (predecessors (drop i es) j)) ≡ w) where
  -- the next edge leads to node j
  pub most_here : (e : Edge) → (i < length es) × (e ≡ get_or es i e) → e.to ≡ j → (m : ℕ) → m ≡ max most (get_or ends e.from 0)
      → max m (most_of ends (predecessors (drop (i + 1) es) j)) ≡ w
  unfolding most_of predecessors
  most_here e at h m q =
      let next = list_next (λ fs. max most (most_of ends (predecessors fs j))) es i w rest e at.0 in
      omega (arith, q, rw (← at.1, eq-eqb e.to j h) at next)

  -- it leads to another node
  pub most_other : (e : Edge) → (i < length es) × (e ≡ get_or es i e) → (e.to ≡ j → ⊥) → max most (most_of ends (predecessors (drop (i + 1) es) j)) ≡ w
  unfolding predecessors
  most_other e at h =
      let next = list_next (λ fs. max most (most_of ends (predecessors fs j))) es i w rest e at.0 in
      rw (← at.1, ne_eqb e.to j h) at next

  pub most_end : i ≡ length es → most ≡ w
  unfolding most_of predecessors
  most_end l = sym (max-zero most) ∙ list_end (λ fs. max most (most_of ends (predecessors fs j))) es i w rest (omega arith)

-- ---- through the nodes

pub ends_start : (i : Input) (ends : List ℕ) → take 0 ends ≡ longest_to i 0
unfolding longest_to
ends_start i ends = refl

-- the ends of the nodes before node j, and node j's behind them
abbrev with_next : Input → ℕ → List ℕ → List ℕ
with_next i j ends = ends ++ ((most_of ends (predecessors (edges_of i.edges) j) + get_or i.lengths j 0) ∷ [])

-- which is written there
pub ends_next : (i : Input) (ends : List ℕ) (j m : ℕ) → take j ends ≡ longest_to i j → j < length ends → m ≡ most_of (take j ends) (predecessors (edges_of i.edges) j)
    → take (suc j) (set ends j (m + get_or i.lengths j 0)) ≡ longest_to i (suc j)
unfolding longest_to
ends_next i ends j m h l q = take-suc-set ends j (m + get_or i.lengths j 0) l ∙ rw q (ap (with_next i j) h)

-- ---- the answer

module _ (i : Input) where
  -- only the run lengths and the edges are looked at
  same_longest : (n : ℕ) → longest_to (graph_of i.lengths i.edges) n ≡ longest_to i n
  unfolding longest_to
  same_longest zero = refl
  same_longest (suc n) = ap (with_next i n) (same_longest n)

  -- no path has more accesses than there are
  pub ends_fit : Checked i → (j : ℕ) → j < nodes i → up_to (graph_of i.lengths i.edges) j ≤ 4096
  ends_fit ok j l = rw (same_longest j) (omega (arith, up_to_most_lem i ok j l, offset_most i.lengths (suc j), ok.all_accesses, ok.few_accesses))

  pub answer_refused : (v : Verdict) (r : Refusal) → v ≡ verdict i → v ≡ Err r → Err r ≡ longest_answer i
  unfolding longest_answer
  answer_refused v r e f = rw (← e, f)

  -- the last node's end is the answer
  pub answer_longest : (ends : List ℕ) → Ok tt ≡ verdict i → 0 < nodes i → take (nodes i) ends ≡ longest_to (graph_of i.lengths i.edges) (nodes i)
      → Ok (get_or ends (nodes i - 1) 0) ≡ longest_answer i
  unfolding longest_answer longest
  answer_longest ends v some h =
      rw (← v, ← get_or-take (nodes i) ends (nodes i - 1) 0 (omega arith), h, same_longest (nodes i))
