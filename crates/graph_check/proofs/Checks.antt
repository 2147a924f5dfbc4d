-- What the chains, the loops and the early returns of the checks compute. A chain goes through a list, or through the edges in chunks of two; the definitions are the
-- library's words on what it goes through. A loop goes through the edges from the front, or through the node numbers from the top, and what is left always gives the same
-- answer as the whole, w.
use mathlib.Core.Path.{◌≡◌, refl, sym, ap, ◌∙◌}
use mathlib.Core.Logic.{◌≢◌}
use mathlib.Core.Bool.{Bool, true, false, ◌&&◌, ◌||◌}
use mathlib.Core.List.{List, [], ◌∷◌, ◌++◌, map}
use Prim.Native.Nat.{ℕ, zero, suc, ◌+◌, ◌-◌, ◌*◌, ◌/◌, ◌%◌, ◌≤◌, ◌<◌}
use native.Mathlib.Nat.{add-zero}
use native.Mathlib.Numerals.{add-one, add-two}
use native.Mathlib.Omega.{arith}
use borrow.Author.Tests.{eq-eqb, ne_eqb}
use lib.Dec.{eqb, ltb}
use lib.ListN.{length, get_or, drop, length-drop}
use lib.Seq.{drop-cons}
use Rattle.std.specs.declared.slice.ChunksExact.{ChunksExact}
use Rattle.std.specs.Slice.Iter.{chunks_exact_rest, chunks_exact_size, chunks_exact_steps}
use Rattle.std.specs.List.{list_any, list_all, sum}
use Rattle.std.proofs.lemmas.Iterator.{YieldsList}
use Rattle.std.proofs.lemmas.Iterator.Splits.{YieldsList-from_shown_while}
use Rattle.std.proofs.lemmas.List.Recursion.{same_from_clauses, is_sum_by}
use Rattle.basics.specs.Sums.{sum_over}
use Rattle.rules.specs.Contents.{among, all_tracked}
use Rattle.rules.specs.Ordered.{is_before, rises}
use Rattle.rules.specs.Input.{Edge, edges_of}
use Rattle.rules.specs.Refusals.{in_pairs, forward, edge_order, each_below}
use Rattle.rules.proofs.Ordered.{rises_next}
use Rattle.graph_check.specs.Edges.{side_of}

-- ---- through a list

-- the definitions are the library's tests and sums
pub among_any : (ns : List ℕ) (b : ℕ) → among ns b ≡ list_any (λ n. eqb n b) ns
among_any ns b = same_from_clauses (λ ms. among ms b) (list_any (λ n. eqb n b)) (λ n r. eqb n b || r) refl (λ _ _. refl) (λ _ _. refl) ns

pub all_among : (ts bs : List ℕ) → list_all (among ts) bs ≡ all_tracked ts bs
all_among ts bs = same_from_clauses (list_all (among ts)) (all_tracked ts) (λ b r. among ts b && r) refl (λ _ _. refl) (λ _ _. refl) bs

pub sums : (ns : List ℕ) → sum_over (λ n. n) ns ≡ sum ns
sums ns = is_sum_by (sum_over (λ n. n)) (λ n. n) refl (λ _ _. refl) ns

-- ---- through the edges

-- the edge whose numbers stand at e and e + 1 of the flat list
abbrev pub edge_at : List ℕ → ℕ → Edge
edge_at ns e = record { from = get_or ns e 0; to = get_or ns (e + 1) 0 }

-- the number on a side of that edge
pub side_at : (ns : List ℕ) (e side : ℕ) → side ≤ 1 → get_or ns (e + side) 0 ≡ side_of side (edge_at ns e)
side_at ns e zero h = rw (add-zero e)
side_at ns e (suc zero) h = refl
side_at ns e (suc (suc k)) h = absurd (omega arith)

edges_at : (ns : List ℕ) (e : ℕ) → e + 1 < length ns → edges_of (drop e ns) ≡ edge_at ns e ∷ edges_of (drop (e + 2) ns)
edges_at ns e h =
    rw (add-two e, add-one e, drop-cons ns e 0 (omega arith), drop-cons ns (suc e) 0 (omega arith))

no_edges : (ns : List ℕ) → length ns ≤ 1 → edges_of ns ≡ []
no_edges [] l = refl
no_edges (a ∷ []) l = refl
no_edges (a ∷ b ∷ ns) l = absurd (omega arith)

module _ {A : Type 0} (f : List Edge → A) (ns : List ℕ) (e : ℕ) (w : A) (rest : f (edges_of (drop e ns)) ≡ w) where
  pub edges_next : e + 1 < length ns → f (edge_at ns e ∷ edges_of (drop (e + 2) ns)) ≡ w
  edges_next h = rw (edges_at ns e h) at rest

  pub edges_end : length ns ≤ e + 1 → f [] ≡ w
  edges_end h = sym (ap f (no_edges (drop e ns) (omega (arith, length-drop e ns)))) ∙ rest

-- the edge whose numbers are a list of two
abbrev pub edge_of : List ℕ → Edge
edge_of ns = edge_at ns 0

edge_first : (ns ms : List ℕ) → length ns ≡ 2 → edges_of (ns ++ ms) ≡ edge_of ns ∷ edges_of ms
edge_first [] ms h = absurd (omega arith)
edge_first (a ∷ []) ms h = absurd (omega arith)
edge_first (a ∷ b ∷ []) ms h = refl
edge_first (a ∷ b ∷ c ∷ ns) ms h = absurd (omega arith)

-- the flat list in chunks of two gives the edges
pub edges_in_chunks : (s : ChunksExact ℕ) (ns : List ℕ) → chunks_exact_rest s ≡ ns → chunks_exact_size s ≡ 2
    → YieldsList (chunks_exact_steps {A = ℕ}) (λ x. edge_of x.now) s (edges_of ns)
edges_in_chunks s ns e two =
    rw (← e)
    (YieldsList-from_shown_while (chunks_exact_steps {A = ℕ}) (λ x. edge_of x.now) (λ t. edges_of (chunks_exact_rest t)) (λ t. chunks_exact_size t ≡ 2)
    (λ t u h k. ap length (no_edges (chunks_exact_rest t) (omega (arith, k.1.0))))
    (λ t x u h k. (k.0 ∙ h, ap edges_of k.1.0 ∙ edge_first x.now (chunks_exact_rest u) (k.1.1 ∙ h)))
    s two)

pub all_forward : (n : ℕ) (es : List Edge) → list_all (λ e. ltb e.from e.to && ltb e.to n) es ≡ forward n es
all_forward n es = same_from_clauses (list_all (λ e. ltb e.from e.to && ltb e.to n)) (forward n) (λ e r. ltb e.from e.to && ltb e.to n && r) refl (λ _ _. refl) (λ _ _. refl) es

-- from edge e on: the number on a side of that edge, and those of the edges after it
module _ (side j : ℕ) (ns : List ℕ) (e : ℕ) (w : Bool) (rest : among (map (side_of side) (edges_of (drop (e * 2) ns))) j ≡ w) where
  pub side_next : side ≤ 1 → e < length ns / 2 → (eqb (get_or ns (e * 2 + side) 0) j || among (map (side_of side) (edges_of (drop ((e + 1) * 2) ns))) j) ≡ w
  side_next one h =
      let on : e * 2 + 2 ≡ (e + 1) * 2 = omega arith in
      rw (← on, side_at ns (e * 2) side one) (edges_next (λ es. among (map (side_of side) es) j) ns (e * 2) w rest (omega arith))

  pub side_end : length ns / 2 ≤ e → false ≡ w
  side_end h = edges_end (λ es. among (map (side_of side) es) j) ns (e * 2) w rest (omega arith)

-- ---- through the edges, each with the next

-- the edge from a to b stands before the edge from c to d
abbrev edge_before : ℕ → ℕ → ℕ → ℕ → Bool
edge_before a b c d = is_before (edge_order (record { from = a; to = b }) (record { from = c; to = d }))

module _ (ns : List ℕ) (e : ℕ) (w : Bool) (rest : rises edge_order (edges_of (drop (e * 2 - 2) ns)) ≡ w) (first : 1 ≤ e) where
  pub rising_next : e < length ns / 2
      → (edge_before (get_or ns (e * 2 - 2) 0) (get_or ns (e * 2 - 1) 0) (get_or ns (e * 2) 0) (get_or ns (e * 2 + 1) 0) && rises edge_order (edges_of (drop ((e + 1) * 2 - 2) ns))) ≡ w
  rising_next h =
      let at : e * 2 - 2 + 1 ≡ e * 2 - 1 = omega arith in
      let two : e * 2 - 2 + 2 ≡ e * 2 = omega arith in
      let on : (e + 1) * 2 - 2 ≡ e * 2 = omega arith in
      let both : edge_at ns (e * 2 - 2) ∷ edges_of (drop (e * 2) ns) ≡ edges_of (drop (e * 2 - 2) ns) = rw two at (sym (edges_at ns (e * 2 - 2) (omega arith))) in
      rw (on, ← at) (sym (rises_next edge_order (edge_at ns (e * 2 - 2)) (edges_of (drop (e * 2) ns)) (edges_at ns (e * 2) (omega arith))) ∙ ap (rises edge_order) both ∙ rest)

  pub rising_end : length ns / 2 ≤ e → true ≡ w
  rising_end h = sym (none (drop (e * 2 - 2) ns) (omega (arith, length-drop (e * 2 - 2) ns))) ∙ rest
    where
      none : (ms : List ℕ) → length ms ≤ 3 → rises edge_order (edges_of ms) ≡ true
      none [] l = refl
      none (a ∷ []) l = refl
      none (a ∷ b ∷ []) l = refl
      none (a ∷ b ∷ c ∷ []) l = refl
      none (a ∷ b ∷ c ∷ d ∷ ms) l = absurd (omega arith)

-- ---- through the node numbers

-- from the top: with the highest that is left, those below it have to pass; and where it fails, not all do
module _ (test : ℕ → Bool) (j : ℕ) (w : Bool) (rest : each_below j test ≡ w) where
  below_next : 0 < j → (test (j - 1) && each_below (j - 1) test) ≡ w
  below_next h = let top : suc (j - 1) ≡ j = omega arith in rw (← top) at rest

  pub below_on : 0 < j → test (j - 1) ≡ true → each_below (j - 1) test ≡ w
  below_on h t = rw t at (below_next h)

  pub below_fails : 0 < j → test (j - 1) ≡ false → false ≡ w
  below_fails h t = rw t at (below_next h)

  pub below_none : j ≡ 0 → true ≡ w
  below_none e = rw e at rest

-- down to node 0, if that passes
pub below_end : (test : ℕ → Bool) (j : ℕ) (w : Bool) → each_below j test ≡ w → j ≤ 1 → test 0 ≡ true → true ≡ w
below_end test zero w rest h t = rest
below_end test (suc zero) w rest h t = rw t at rest
below_end test (suc (suc j)) w rest h t = absurd (omega arith)

-- the last of n nodes is not asked
pub but_last : (test : ℕ → Bool) (n : ℕ) → each_below (n - 1) (λ j. eqb (suc j) n || test j) ≡ each_below n (λ j. eqb (suc j) n || test j)
but_last test zero = refl
but_last test (suc n) = let below : suc n - 1 ≡ n = omega arith in rw (below, eq-eqb (suc n) (suc n) refl)

-- ---- the edge rules together

-- numbers in pairs are an even number of numbers
pairs_even : (ns : List ℕ) → in_pairs ns ≡ eqb (length ns % 2) 0
pairs_even [] = refl
pairs_even (a ∷ []) = refl
pairs_even (a ∷ b ∷ ns) = let two : suc (suc (length ns)) % 2 ≡ length ns % 2 = omega arith in rw two (pairs_even ns)

pub unpaired : (ns : List ℕ) → length ns % 2 ≢ 0 → in_pairs ns ≡ false
unpaired ns h = pairs_even ns ∙ ne_eqb _ _ h

pub paired : (ns : List ℕ) → length ns % 2 ≡ 0 → in_pairs ns ≡ true
paired ns h = pairs_even ns ∙ eq-eqb _ _ h
