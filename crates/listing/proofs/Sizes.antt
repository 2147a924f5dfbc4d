-- How many nodes, accesses and edges an expansion has: as many as are counted without expanding.
use mathlib.Core.Path.{◌≡◌, refl, sym, ap, ◌∙◌}
use mathlib.Core.List.{List, [], ◌∷◌, ◌++◌, flat_map, append-nil, append_assoc}
use Prim.Native.Nat.{ℕ, zero, suc, ◌+◌, ◌*◌}
use native.Mathlib.Nat.{zero-mul, suc-mul}
use native.Mathlib.Omega.{arith}
use lib.ListN.{length, length-append}
use Rattle.basics.proofs.Lists.{flat_append}
use Rattle.listing_form.specs.Listing.{Listing, end, access, branch, loop}
use Rattle.listing.specs.Expansion.{Graph, open_node, accessed, edges_to, opened, times, expanded, accesses}
use Rattle.listing_form.specs.Counting.{nodes_in, accesses_in, edges_in}

-- ---- n times what adds a fixed number adds n times that

pub times_adds : {A : Type 0} (size : A → ℕ) (f : A → A) (k : ℕ) → ((x : A) → size (f x) ≡ size x + k) → (n : ℕ) (x : A) → size (times n f x) ≡ size x + n * k
unfolding times
times_adds size f k h zero x = omega (arith, zero-mul k)
times_adds size f k h (suc n) x = omega (arith, times_adds size f k h n (f x), h x, suc-mul n k)

-- ---- one step

pub opened_node : (froms : List ℕ) (g : Graph) → open_node (opened froms g) ≡ suc (open_node g)
unfolding opened
opened_node froms g = omega (arith, length-append g.earlier (g.current ∷ []))

pub accessed_node : (b : ℕ) (g : Graph) → open_node (accessed b g) ≡ open_node g
unfolding accessed
accessed_node b g = refl

accesses_are : (g : Graph) → accesses g ≡ flat_map (λ r. r) g.earlier ++ g.current
unfolding accesses flat_map
accesses_are g = flat_append (λ r. r) g.earlier (g.current ∷ []) ∙ rw append-nil

pub opened_accesses : (froms : List ℕ) (g : Graph) → accesses (opened froms g) ≡ accesses g
unfolding opened accesses flat_map
opened_accesses froms g = flat_append (λ r. r) (g.earlier ++ g.current ∷ []) ([] ∷ []) ∙ append-nil _

pub accessed_accesses : (b : ℕ) (g : Graph) → accesses (accessed b g) ≡ accesses g ++ b ∷ []
unfolding accessed
accessed_accesses b g =
    accesses_are (accessed b g) ∙ sym (append_assoc (flat_map (λ r. r) g.earlier) g.current (b ∷ [])) ∙ rw (accesses_are g)

pub opened_edges : (froms : List ℕ) (g : Graph) → length (opened froms g).edges ≡ length g.edges + length froms
unfolding opened
opened_edges froms g =
    length-append g.edges (edges_to (suc (open_node g)) froms) ∙ ap (length g.edges +◌) (many froms)
  where
    many : (bs : List ℕ) → length (edges_to (suc (open_node g)) bs) ≡ length bs
    many [] = refl
    many (b ∷ bs) = ap suc (many bs)

-- ---- the whole expansion

-- the open node's number: as many more as nodes are opened
pub nodes_added : (s : Listing) (g : Graph) → open_node (expanded s g) ≡ open_node g + nodes_in s
unfolding expanded nodes_in
nodes_added end g = omega arith
nodes_added (access b s) g = nodes_added s (accessed b g) ∙ omega (arith, accessed_node b g)
nodes_added (branch l r s) g =
    let a = open_node g ∷ [] in
    let left = expanded l (opened a g) in
    let right = expanded r (opened a left) in
    let both = open_node left ∷ open_node right ∷ [] in
    omega (
      arith,
      nodes_added s (opened both right),
      opened_node both right,
      nodes_added r (opened a left),
      opened_node a left,
      nodes_added l (opened a g),
      opened_node a g,
    )
nodes_added (loop n l s) g =
    omega (arith, nodes_added s (times n (expanded l) g), times_adds open_node (expanded l) (nodes_in l) (nodes_added l) n g)

-- the access list is as much longer
pub accesses_added : (s : Listing) (g : Graph) → length (accesses (expanded s g)) ≡ length (accesses g) + accesses_in s
unfolding expanded accesses_in
accesses_added end g = omega arith
accesses_added (access b s) g =
    omega (arith, accesses_added s (accessed b g), ap length (accessed_accesses b g), length-append (accesses g) (b ∷ []))
accesses_added (branch l r s) g =
    let a = open_node g ∷ [] in
    let left = expanded l (opened a g) in
    let right = expanded r (opened a left) in
    let both = open_node left ∷ open_node right ∷ [] in
    omega (
      arith,
      accesses_added s (opened both right),
      ap length (opened_accesses both right),
      accesses_added r (opened a left),
      ap length (opened_accesses a left),
      accesses_added l (opened a g),
      ap length (opened_accesses a g),
    )
accesses_added (loop n l s) g =
    omega (arith, accesses_added s (times n (expanded l) g), times_adds (λ g. length (accesses g)) (expanded l) (accesses_in l) (accesses_added l) n g)

-- and so is the list of edges
pub edges_added : (s : Listing) (g : Graph) → length (expanded s g).edges ≡ length g.edges + edges_in s
unfolding expanded edges_in accessed
edges_added end g = omega arith
edges_added (access b s) g = edges_added s (accessed b g)
edges_added (branch l r s) g =
    let a = open_node g ∷ [] in
    let left = expanded l (opened a g) in
    let right = expanded r (opened a left) in
    let both = open_node left ∷ open_node right ∷ [] in
    omega (
      arith,
      edges_added s (opened both right),
      opened_edges both right,
      edges_added r (opened a left),
      opened_edges a left,
      edges_added l (opened a g),
      opened_edges a g,
    )
edges_added (loop n l s) g =
    omega (arith, edges_added s (times n (expanded l) g), times_adds (λ g. length g.edges) (expanded l) (edges_in l) (edges_added l) n g)

-- each branch opens three nodes and adds four edges
pub edges_by_nodes : (s : Listing) → edges_in s * 3 ≡ nodes_in s * 4
unfolding edges_in nodes_in
edges_by_nodes end = refl
edges_by_nodes (access b s) = edges_by_nodes s
edges_by_nodes (branch l r s) = omega (arith, edges_by_nodes l, edges_by_nodes r, edges_by_nodes s)
edges_by_nodes (loop n l s) = omega (arith, ap (n *◌) (edges_by_nodes l), edges_by_nodes s)
