-- The edges into a node, in the flat list: one after the other, and where the next one stands.
use mathlib.Core.Path.{◌≡◌, refl, sym, ap, ◌∙◌, subst}
use mathlib.Core.Bool.{Bool, true, false, cond}
use mathlib.Core.List.{List, [], ◌∷◌}
use Prim.Native.Nat.{ℕ, suc, ◌+◌, ◌-◌, ◌≤◌, ◌<◌}
use native.Mathlib.Numerals.{add-one}
use native.Mathlib.Omega.{arith}
use lib.Dec.{eqb, ltb}
use lib.ListN.{length, get_or, drop, length-drop}
use lib.Seq.{drop-cons, drop-drop, get_or-drop}
use borrow.Author.Tests.{eq-eqb, ne_eqb, eqb-true, lt-ltb, le-ltb, ltb-true, ltb-false}
use Rattle.rules.specs.Input.{edges_of, predecessors}
use Rattle.rules.specs.Shape.{Every}
use Rattle.graph_check.proofs.Checks.{edges_next, edges_end}
use Rattle.tables.specs.Edges.{came_from, AtEdge, numbers_before, next_edge}

module _ (ns : List ℕ) (j e : ℕ) where
  -- an edge into node j, and the edges after it
  pub into_here : e + 1 < length ns → get_or ns (e + 1) 0 ≡ j → came_from ns j e ≡ get_or ns e 0 ∷ came_from ns j (e + 2)
  unfolding predecessors
  into_here l h = sym (rw (eq-eqb (get_or ns (e + 1) 0) j h) at (edges_next (λ es. predecessors es j) ns e _ refl l))

  pub into_none : length ns ≤ e + 1 → came_from ns j e ≡ []
  unfolding predecessors
  into_none l = sym (edges_end (λ es. predecessors es j) ns e _ refl l)

  -- the edge that stands there comes from a lower node, if all do
  pub lower_here : AtEdge ns j e → e < length ns → Every (λ p. p < j) (came_from ns j e) → (get_or ns e 0 < j) × Every (λ p. p < j) (came_from ns j (e + 2))
  lower_here at l h = subst (λ ps. Every (λ p. p < j) ps) (into_here (at l).0 (at l).1) h

  -- ---- where the next edge stands, in turns

  two_more : e + 1 < length ns → drop e ns ≡ get_or ns e 0 ∷ get_or ns (e + 1) 0 ∷ drop (e + 2) ns
  two_more l =
      let next : e + 2 ≡ suc (suc e) = omega arith in
      drop-cons ns e 0 (omega arith) ∙ ap (get_or ns e 0 ∷◌) (rw (add-one e, next) (drop-cons ns (suc e) 0 (omega arith)))

  pub next_here : e + 1 < length ns → get_or ns (e + 1) 0 ≡ j → e ≡ next_edge ns j e
  unfolding next_edge numbers_before
  next_here l h = sym (rw (le-ltb (length ns) e (omega arith), two_more l, eq-eqb (get_or ns (e + 1) 0) j h) (omega arith))

  pub next_other : e + 1 < length ns → (get_or ns (e + 1) 0 ≡ j → ⊥) → next_edge ns j (e + 2) ≡ next_edge ns j e
  unfolding next_edge numbers_before
  next_other l h =
      rw (le-ltb (length ns) e (omega arith), le-ltb (length ns) (e + 2) (omega arith), two_more l, ne_eqb (get_or ns (e + 1) 0) j h) (omega arith)

  pub next_none : e ≤ length ns → length ns ≤ e + 1 → next_edge ns j e ≡ length ns
  unfolding next_edge numbers_before
  next_none l h = rw (le-ltb (length ns) e l) (go (drop e ns) (length-drop e ns))
    where
      go : (ms : List ℕ) → length ms ≡ length ns - e → e + numbers_before j ms ≡ length ns
      go [] q = omega arith
      go (a ∷ []) q = omega arith
      go (a ∷ b ∷ ms) q = absurd (omega arith)

  pub next_past : length ns < e → length ns ≡ next_edge ns j e
  unfolding next_edge
  next_past l = sym (rw (lt-ltb (length ns) e l))

-- ---- what is known of it

module _ (j : ℕ) where
  before_most : (ns : List ℕ) → numbers_before j ns ≤ length ns
  unfolding numbers_before
  before_most [] = omega arith
  before_most (a ∷ []) = omega arith
  before_most (a ∷ b ∷ ns) = go (eqb b j) (before_most ns)
    where
      go : (c : Bool) → numbers_before j ns ≤ length ns → cond c 0 (suc (suc (numbers_before j ns))) ≤ suc (suc (length ns))
      go true h = omega arith
      go false h = omega arith

  before_stands : (ns : List ℕ) → numbers_before j ns < length ns → (suc (numbers_before j ns) < length ns) × (get_or ns (suc (numbers_before j ns)) 0 ≡ j)
  unfolding numbers_before
  before_stands [] l = absurd (omega arith)
  before_stands (a ∷ []) l = absurd (omega arith)
  before_stands (a ∷ b ∷ ns) l = go (eqb b j) refl l (before_stands ns)
    where
      go : (c : Bool) → eqb b j ≡ c → cond c 0 (suc (suc (numbers_before j ns))) < suc (suc (length ns))
          → (numbers_before j ns < length ns → (suc (numbers_before j ns) < length ns) × (get_or ns (suc (numbers_before j ns)) 0 ≡ j))
          → (suc (cond c 0 (suc (suc (numbers_before j ns)))) < suc (suc (length ns))) × (get_or (a ∷ b ∷ ns) (suc (cond c 0 (suc (suc (numbers_before j ns))))) 0 ≡ j)
      go true e l h = (omega arith, eqb-true b j e)
      go false e l h = let r = h (omega arith) in (omega (arith, r.0), r.1)

  before_passes : (ns : List ℕ) → predecessors (edges_of (drop (numbers_before j ns) ns)) j ≡ predecessors (edges_of ns) j
  unfolding numbers_before predecessors
  before_passes [] = refl
  before_passes (a ∷ []) = refl
  before_passes (a ∷ b ∷ ns) = go (eqb b j) refl (before_passes ns)
    where
      go : (c : Bool) → eqb b j ≡ c → predecessors (edges_of (drop (numbers_before j ns) ns)) j ≡ predecessors (edges_of ns) j
          → predecessors (edges_of (drop (cond c 0 (suc (suc (numbers_before j ns)))) (a ∷ b ∷ ns))) j ≡ predecessors (edges_of (a ∷ b ∷ ns)) j
      go true e h = refl
      go false e h = rw e h

-- it stands no earlier than where the search starts, an edge into the node stands there, and those passed over lead elsewhere
pub found : (ns : List ℕ) (j e r : ℕ) → r ≡ next_edge ns j e
    → (e ≤ length ns → e ≤ r) × (r ≤ length ns) × AtEdge ns j r × (came_from ns j r ≡ came_from ns j e)
unfolding next_edge
found ns j e r q = go (ltb (length ns) e) refl q
  where
    go : (b : Bool) → ltb (length ns) e ≡ b → r ≡ cond b (length ns) (e + numbers_before j (drop e ns))
        → (e ≤ length ns → e ≤ r) × (r ≤ length ns) × AtEdge ns j r × (came_from ns j r ≡ came_from ns j e)
    go true h q = (
      λ l. absurd (omega (arith, ltb-true (length ns) e h)),
      omega arith,
      λ l. absurd (omega arith),
      into_none ns j r (omega arith) ∙ sym (into_none ns j e (omega (arith, ltb-true (length ns) e h))),
    )
    go false h q = (
      λ l. omega arith,
      omega (arith, before_most j (drop e ns), length-drop e ns, ltb-false (length ns) e h),
      λ l.
          let s = before_stands j (drop e ns) (omega (arith, length-drop e ns)) in
          let next : r + 1 ≡ e + suc (numbers_before j (drop e ns)) = omega arith in
          (omega (arith, s.0, length-drop e ns), rw next (sym (get_or-drop e ns (suc (numbers_before j (drop e ns))) 0) ∙ s.1)),
      rw q (ap (λ (ms : List ℕ). predecessors (edges_of ms) j) (sym (drop-drop (numbers_before j (drop e ns)) e ns)) ∙ before_passes j (drop e ns)),
    )
