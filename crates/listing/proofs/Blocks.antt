-- How large the numbers of a listing's graph are: an access is a number that the tokens list, a run is no longer than all accesses, and an edge joins nodes.
use mathlib.Core.Path.{sym, subst}
use mathlib.Core.List.{List, [], ◌∷◌, ◌++◌, flat_map}
use Prim.Native.Nat.{ℕ, ◌+◌, ◌≤◌}
use native.Mathlib.Omega.{arith}
use Rattle.basics.specs.Sums.{sum_over}
use Rattle.rules.specs.Input.{Edge}
use Rattle.rules.specs.Shape.{Every}
use Rattle.rules.proofs.Lists.{every_append, every_weaker}
use Rattle.listing_form.specs.Listing.{Listing, end, access, branch, loop, tokens}
use Rattle.listing.specs.Expansion.{Graph, node_zero, open_node, accessed, opened, expanded, graph_of, lengths, accesses, flat}
use Rattle.listing_form.specs.Counting.{nodes_in, accesses_in}
use Rattle.listing.proofs.Sizes.{opened_accesses, accessed_accesses, nodes_added}
use Rattle.listing.proofs.Edges.{times_keeps, Ahead, good_start, good_expanded, lengths_sum}
use Rattle.listing.proofs.Calls.{graph_accesses}

module _ (P : ℕ → Type 0) where
  front : (xs ys : List ℕ) → Every P (xs ++ ys) → Every P xs
  front [] ys h = tt
  front (x ∷ xs) ys h = (h.0, front xs ys h.1)

  back : (xs ys : List ℕ) → Every P (xs ++ ys) → Every P ys
  back [] ys h = h
  back (x ∷ xs) ys h = back xs ys h.1

  blocks_listed : (s : Listing) (g : Graph) → Every P (tokens s) → Every P (accesses g) → Every P (accesses (expanded s g))
  unfolding expanded tokens
  blocks_listed end g h k = k
  blocks_listed (access b s) g h k =
      blocks_listed s (accessed b g) h.1.1 (subst (Every P) (sym (accessed_accesses b g)) (every_append P (accesses g) (b ∷ []) k (h.1.0, tt)))
  blocks_listed (branch l r s) g h k =
      let behind = (back (tokens l) (3 ∷ (tokens r ++ (4 ∷ tokens s))) h.1).1 in
      let a = open_node g ∷ [] in
      let left = expanded l (opened a g) in
      let in_left = blocks_listed l (opened a g) (front (tokens l) _ h.1) (subst (Every P) (sym (opened_accesses a g)) k) in
      let right = expanded r (opened a left) in
      let in_right = blocks_listed r (opened a left) (front (tokens r) (4 ∷ tokens s) behind) (subst (Every P) (sym (opened_accesses a left)) in_left) in
      let ends = open_node left ∷ open_node right ∷ [] in
      blocks_listed s (opened ends right) (back (tokens r) (4 ∷ tokens s) behind).1 (subst (Every P) (sym (opened_accesses ends right)) in_right)
  blocks_listed (loop n l s) g h k =
      blocks_listed s _ (back (tokens l) (6 ∷ tokens s) h.1.1).1
      (times_keeps (λ g. Every P (accesses g)) (expanded l) (λ g k. blocks_listed l g (front (tokens l) (6 ∷ tokens s) h.1.1) k) n g k)

  pub accesses_listed : (s : Listing) → Every P (tokens s) → Every P (accesses (graph_of s))
  unfolding graph_of accesses flat_map
  accesses_listed s h = blocks_listed s node_zero h tt

each_most : (ns : List ℕ) → Every (λ n. n ≤ sum_over (λ n. n) ns) ns
each_most [] = tt
each_most (n ∷ ns) = (omega arith, every_weaker _ (λ m. m ≤ n + sum_over (λ n. n) ns) (λ m h. omega (arith, h)) ns (each_most ns))

pub lengths_most : (s : Listing) → Every (λ n. n ≤ accesses_in s) (lengths (graph_of s))
lengths_most s =
    every_weaker _ (λ n. n ≤ accesses_in s) (λ n h. omega (arith, h, lengths_sum (graph_of s), graph_accesses s)) (lengths (graph_of s)) (each_most (lengths (graph_of s)))

flat_most : (o : ℕ) (es : List Edge) → Every (Ahead o) es → Every (λ n. n ≤ o) (flat es)
flat_most o [] h = tt
flat_most o (e ∷ es) h = (omega (arith, h.0.0, h.0.1), (h.0.1, flat_most o es h.1))

pub edges_most : (s : Listing) → Every (λ n. n ≤ nodes_in s) (flat (graph_of s).edges)
unfolding graph_of
edges_most s =
    every_weaker _ (λ n. n ≤ nodes_in s) (λ n h. omega (arith, h, nodes_added s node_zero)) (flat (expanded s node_zero).edges)
    (flat_most (open_node (expanded s node_zero)) (expanded s node_zero).edges (good_expanded s node_zero good_start).ahead)
