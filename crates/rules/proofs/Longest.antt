-- The longest path: what stands in the list for each node, that it is never more than all accesses, and that no table has more misses than
-- there are accesses on the longest path to its node. By induction over the nodes, each after its predecessors.
use mathlib.Core.Path.{◌≡◌, refl, sym, ◌∙◌}
use mathlib.Core.Bool.{Bool, true, false, true≢false}
use mathlib.Core.List.{List, [], ◌∷◌, ◌++◌}
use mathlib.Core.Logic.{◌⊎◌, inl, inr, ⊎_elim}
use Prim.Native.Nat.{ℕ, zero, suc, ◌-◌, ◌≤◌, ◌<◌, zero-le}
use native.Mathlib.Nat.{add_comm, le_trans, le_of_lt, max-le, max-zero, le-max_left, le-max_right, max-eq_left, max-eq_right, eq-or-lt_of_le, le_of_suc-le-suc, not-suc-le-zero}
use native.Mathlib.Omega.{arith}
use lib.Dec.{eqb, leb}
use lib.ListN.{length, get_or, length-append, get_or-append}
use lib.Seq.{get_or_at}
use borrow.Author.Tests.{eq-eqb, leb-true, leb-false}
use Rattle.basics.proofs.Bools.{or_left, or_right}
use Rattle.rules.specs.Contents.{among}
use Rattle.rules.specs.Input.{Input, nodes, offset, edges_of, predecessors}
use Rattle.rules.specs.Table.{State}
use Rattle.rules.specs.AnyTable.{Entries, no_pairings}
use Rattle.rules.specs.Graph.{finished, finished_by}
use Rattle.rules.specs.Counts.{largest as largest_of}
use Rattle.rules.specs.Questions.{largest}
use Rattle.rules.specs.Shape.{Every, Shaped}
use Rattle.rules.specs.Longest.{most_of, longest_to, longest_before, up_to, longest}
use Rattle.rules.proofs.Refusals.{Checked, predecessor_lower, no_predecessor}
use Rattle.rules.proofs.Run.{table_wider}
use Rattle.rules.proofs.Graph.{node_table, finished_table, first_and_others, first_or_other, offset_next, offset_rises, offset_most, each_node, NodeTable, table_node}

-- ---- what stands for each node

length_longest : (i : Input) (n : ℕ) → length (longest_to i n) ≡ n
unfolding longest_to
length_longest i zero = refl
length_longest i (suc n) = omega (arith, length-append (longest_to i n) (up_to i n ∷ []), length_longest i n)

-- that is what stands for node j, and it stays as later nodes are added
longest_at : (i : Input) (n j : ℕ) → j < n → get_or (longest_to i n) j 0 ≡ up_to i j
unfolding longest_to
longest_at i zero j l = absurd (not-suc-le-zero l)
longest_at i (suc n) j l = go (eq-or-lt_of_le (le_of_suc-le-suc l)) (longest_at i n j)
  where
    go : (j ≡ n) ⊎ (j < n) → (j < n → get_or (longest_to i n) j 0 ≡ up_to i j) → get_or (longest_to i n ++ (up_to i n ∷ [])) j 0 ≡ up_to i j
    go (inl e) ih = rw e (get_or_at (longest_to i n) (up_to i n) [] 0 n (length_longest i n))
    go (inr k) ih = get_or-append (longest_to i n) (up_to i n ∷ []) 0 j (omega (arith, length_longest i n)) ∙ ih k

-- what stands for the last node is the longest path's
pub longest_is : (i : Input) → 0 < nodes i → longest i ≡ up_to i (nodes i - 1)
unfolding longest
longest_is i h = longest_at i (nodes i) (nodes i - 1) (omega arith)

-- ---- the most of some nodes

module _ (ends : List ℕ) where
  -- each has at most that
  most_each : (ps : List ℕ) (p : ℕ) → among ps p ≡ true → get_or ends p 0 ≤ most_of ends ps
  unfolding most_of
  most_each [] p e = absurd (true≢false (sym e))
  most_each (a ∷ ps) p e =
      first_or_other (λ p. get_or ends p 0 ≤ most_of ends (a ∷ ps)) a ps (le-max_left (get_or ends a 0) (most_of ends ps))
      (λ p e. le_trans (most_each ps p e) (le-max_right (get_or ends a 0) (most_of ends ps))) p e

  -- which is no more than what they all have at most
  most_within : (ps : List ℕ) (M : ℕ) → ((p : ℕ) → among ps p ≡ true → get_or ends p 0 ≤ M) → most_of ends ps ≤ M
  unfolding most_of
  most_within [] M h = zero-le
  most_within (p ∷ ps) M h =
      let (here, rest) = first_and_others (λ p. get_or ends p 0 ≤ M) p ps h in
      max-le here (most_within ps M rest)

  -- a is one of them, and has just that
  abbrev Most : List ℕ → ℕ → Type 0
  Most ps a = (among ps a ≡ true) × (get_or ends a 0 ≡ most_of ends ps)

  -- there is such a one, if there are any
  most_one : (ps : List ℕ) → (ps ≡ []) ⊎ ((a : ℕ) × Most ps a)
  unfolding most_of
  most_one [] = inl refl
  most_one (p ∷ ps) = inr (go (most_one ps) (leb first rest) refl)
    where
      first : ℕ
      first = get_or ends p 0

      rest : ℕ
      rest = most_of ends ps

      here : among (p ∷ ps) p ≡ true
      here = or_left (eqb p p) (among ps p) (eq-eqb p p refl)

      go : (ps ≡ []) ⊎ ((a : ℕ) × Most ps a) → (b : Bool) → leb first rest ≡ b → (a : ℕ) × Most (p ∷ ps) a
      go (inl none) b h = (p, (here, rw none (sym (max-zero first))))
      go (inr (a, (e, m))) true h = (a, (or_right (eqb p a) (among ps a) e, m ∙ sym (max-eq_right (leb-true first rest h))))
      go (inr (a, (e, m))) false h = (p, (here, sym (max-eq_left (le_of_lt (leb-false first rest h)))))

-- ---- from node to node

module _ (i : Input) (ok : Checked i) where
  -- before node j stand no fewer than up to any predecessor of it
  pub before_each : (j a : ℕ) → among (predecessors (edges_of i.edges) j) a ≡ true → up_to i a ≤ longest_before i j
  before_each j a e =
      rw (longest_at i j a (predecessor_lower i ok a j e).0) at (most_each (longest_to i j) (predecessors (edges_of i.edges) j) a e)

  -- and just as many as up to one of them; only before node 0 there are none
  pub before_one : (j : ℕ) → j < nodes i
      → ((j ≡ 0) × (longest_before i j ≡ 0)) ⊎ ((a : ℕ) × (among (predecessors (edges_of i.edges) j) a ≡ true) × (up_to i a ≡ longest_before i j))
  unfolding most_of
  before_one j l =
      ⊎_elim (λ none. inl (no_predecessor i ok j l none, rw none))
      (λ (a, (e, m)). inr (a, e, sym (longest_at i j a (predecessor_lower i ok a j e).0) ∙ m))
      (most_one (longest_to i j) (predecessors (edges_of i.edges) j))

  -- no path to a node has more accesses than there are up to the end of its run
  pub up_to_most_lem : (n : ℕ) → n < nodes i → up_to i n ≤ offset i.lengths (suc n)
  up_to_most_lem =
      each_node i ok (λ n. up_to i n ≤ offset i.lengths (suc n))
      (λ n l h. omega (
        arith,
        offset_next i.lengths n l,
        most_within (longest_to i n) (predecessors (edges_of i.edges) n) (offset i.lengths n)
            (λ a e. let a<n = (predecessor_lower i ok a n e).0 in
            rw (longest_at i n a a<n) (le_trans (h a e) (offset_rises i.lengths (suc a) n a<n))),
      ))

  -- all accesses together, at most 4,096
  pub longest_most : longest i ≤ length i.accesses
  longest_most =
      rw (longest_is i ok.some_nodes)
      (omega (arith, up_to_most_lem (nodes i - 1) (omega (arith, ok.some_nodes)), offset_most i.lengths (suc (nodes i - 1)), ok.all_accesses))

-- ---- the misses

pub shaped_largest : (N Z : ℕ) (ts : List ℕ) (M : ℕ) (T : List State) → Every (Shaped N Z ts M) T → largest T ≤ M
unfolding largest_of
shaped_largest N Z ts M [] h = zero-le
shaped_largest N Z ts M (s ∷ T) h = max-le h.0.0.few (shaped_largest N Z ts M T h.1)

module _ (q : Entries) (i : Input) (ok : Checked i) where
  -- a table's misses are at most the accesses of the longest path to its node
  table_within : (n : ℕ) → n < nodes i → NodeTable q i ok (up_to i n) n
  table_within =
      each_node i ok (λ n. NodeTable q i ok (up_to i n) n)
      (λ n l h. rw (add_comm (longest_before i n) (get_or i.lengths n 0))
      (table_node q i ok (longest_before i n) n l (λ a e. table_wider _ _ _ _ _ _ (node_table q i a) (before_each i ok n a e) (h a e))))

  -- and so are the finished table's those of the longest path
  pub within_longest : largest (finished_by q i).table ≤ longest i
  within_longest =
      rw (finished_table q i ok.some_nodes, longest_is i ok.some_nodes)
      (shaped_largest _ _ _ _ (node_table q i (nodes i - 1)) (table_within (nodes i - 1) (omega (arith, ok.some_nodes))).shaped)

pub finished_within : (i : Input) → Checked i → largest (finished i).table ≤ longest i
finished_within i ok = within_longest no_pairings i ok
