-- The listing's runs and the graph's paths give the same access sequences.
use mathlib.Core.Path.{◌≡◌, refl, sym, ap, ◌∙◌}
use mathlib.Core.Logic.{◌⊎◌, inl, inr, ⊎_elim, ◌↔◌}
use mathlib.Core.Bool.{true, true≢false}
use mathlib.Core.List.{List, [], ◌∷◌, ◌++◌, map, flat_map, append-nil, append_assoc}
use Prim.Native.Nat.{ℕ, zero, suc, ◌-◌, ◌<◌}
use native.Mathlib.Nat.{le_refl}
use native.Mathlib.Omega.{arith}
use lib.Dec.{eqb}
use lib.ListN.{length, get_or, take, drop}
use lib.Seq.{take-append_seam, drop-append-add}
use borrow.Author.Tests.{eq-eqb, eqb-true}
use Rattle.basics.specs.Sums.{sum_over}
use Rattle.basics.proofs.Bools.{both, or_left, or_right, or_cases}
use Rattle.rules.specs.Contents.{among}
use Rattle.rules.specs.declared.Cache.{Cache}
use Rattle.rules.specs.Input.{Input, input_in, nodes, offset, run_of, edges_of, predecessors}
use Rattle.rules.proofs.Lists.{flat_snoc}
use Rattle.promises.specs.Paths.{leads, is_path, accesses_of}
use Rattle.promises.proofs.Paths.{linked_pred, leads_on, along_path}
use Rattle.listing_form.specs.Listing.{Listing, end, access, branch, loop}
use Rattle.listing.specs.Expansion.{Graph, node_zero, open_node, accessed, opened, times, expanded, graph_of, runs, lengths, accesses, flat}
use Rattle.listing.specs.Runs.{Then, Rounds, Makes}
use Rattle.listing.proofs.Sizes.{opened_node, accessed_node, nodes_added}
use Rattle.listing.proofs.Edges.{Good, times_keeps, good_start, good_accessed, good_expanded, left_arm, right_arm, joined, left_later, right_later, good_first, good_second, good_joined, flat_edges, node_count}
use Rattle.listing.proofs.Reached.{begun, onward, run_at, At, access_keeps, access_there, access_back, open_keeps, new_there, new_back}

-- ---- one sequence behind another

-- two properties of access sequences hold of the same ones
abbrev Same : (List ℕ → Type 0) → (List ℕ → Type 0) → Type 0
Same P Q = (x : List ℕ) → P x ↔ Q x

same_on : {P Q R : List ℕ → Type 0} → Same P Q → Same Q R → Same P R
same_on f g x = (λ p. (g x).0 ((f x).0 p), λ r. (f x).1 ((g x).1 r))

same_back : {P Q : List ℕ → Type 0} → Same P Q → Same Q P
same_back f x = ((f x).1, (f x).0)

then_first : {P Q : List ℕ → Type 0} (R : List ℕ → Type 0) → Same P Q → Same (Then P R) (Then Q R)
unfolding Then
then_first R f x = (λ (y, z, e, p, r). (y, z, e, (f y).0 p, r), λ (y, z, e, q, r). (y, z, e, (f y).1 q, r))

then_assoc : (P Q R : List ℕ → Type 0) → Same (Then (Then P Q) R) (Then P (Then Q R))
unfolding Then
then_assoc P Q R x = (
  λ (y, z, e, (v, w, d, p, q), r). (v, w ++ z, e ∙ ap (◌++ z) d ∙ append_assoc v w z, p, (w, z, refl, q, r)),
  λ (y, z, e, p, (v, w, d, q, r)). (y ++ v, w, e ∙ ap (y ++◌) d ∙ sym (append_assoc y v w), (y, v, refl, p, q), r),
)

then_nothing : (P : List ℕ → Type 0) → Same P (Then P (λ z. z ≡ []))
unfolding Then
then_nothing P x = (λ p. (x, [], sym (append-nil x), p, refl), λ (y, z, e, p, q). rw (e ∙ ap (y ++◌) q ∙ append-nil y) p)

then_either : (P Q R : List ℕ → Type 0) → Same (λ x. Then P Q x ⊎ Then P R x) (Then P (λ y. Q y ⊎ R y))
unfolding Then
then_either P Q R x = (
  ⊎_elim (λ (y, z, e, p, q). (y, z, e, p, inl q)) (λ (y, z, e, p, r). (y, z, e, p, inr r)),
  λ (y, z, e, p, t). ⊎_elim (λ q. inl (y, z, e, p, q)) (λ r. inr (y, z, e, p, r)) t,
)

-- ---- what a sequence leaves as it was: the paths to the nodes before the open one

-- up to node j the paths of two graphs access the same
abbrev Keeps : ℕ → Graph → Graph → Type 0
Keeps j g h = Same (At g j) (At h j)

keeps_expanded : (s : Listing) (g : Graph) → Good g → (j : ℕ) → j < open_node g → Keeps j g (expanded s g)
unfolding expanded
keeps_expanded end g ok j l = λ x. (λ p. p, λ p. p)
keeps_expanded (access b s) g ok j l =
    same_on (access_keeps b g ok j l) (keeps_expanded s (accessed b g) (good_accessed b g ok) j (omega (arith, l, accessed_node b g)))
keeps_expanded (branch l r s) g ok j m =
    let ok1 = good_first l r g ok in
    let ok2 = good_expanded l _ ok1 in
    let ok3 = good_second l r g ok2 in
    let ok4 = good_expanded r _ ok3 in
    let ok5 = good_joined l r g ok4 in
    let a = open_node g ∷ [] in
    same_on (open_keeps a g ok ok1 j (omega (arith, m)))
    (same_on (keeps_expanded l _ ok1 j (omega (arith, m, opened_node a g)))
    (same_on (open_keeps a (left_arm l r g) ok2 ok3 j (omega (arith, m, left_later l r g)))
    (same_on (keeps_expanded r _ ok3 j (omega (arith, m, left_later l r g, opened_node a (left_arm l r g))))
    (same_on (open_keeps _ (right_arm l r g) ok4 ok5 j (omega (arith, m, left_later l r g, right_later l r g)))
    (keeps_expanded s _ ok5 j (omega (arith, m, left_later l r g, right_later l r g, opened_node (open_node (left_arm l r g) ∷ open_node (right_arm l r g) ∷ []) (right_arm l r g))))))))
keeps_expanded (loop n l s) g ok j m =
    let all = times_keeps (λ h. Good h × Keeps j g h × (j < open_node h)) (expanded l)
    (λ h (good, same, low). (
      good_expanded l h good,
      same_on same (keeps_expanded l h good j low),
      omega (arith, low, nodes_added l h),
    )) n g (ok, (λ x. (λ p. p, λ p. p)), m) in
    same_on all.1 (keeps_expanded s _ all.0 j all.2)

-- ---- what is accessed on the way to the open node

-- a node with an edge from one node, or from two
at_one : (a : ℕ) (g : Graph) → Good g → Good (opened (a ∷ []) g) → Same (At (opened (a ∷ []) g) (open_node (opened (a ∷ []) g))) (At g a)
at_one a g ok also x = rw (opened_node (a ∷ []) g) (
  λ p. let (b, m, q) = new_there (a ∷ []) g ok also x p in ⊎_elim (λ e. rw (eqb-true a b e) q) (λ e. absurd (true≢false (sym e))) (or_cases (eqb a b) _ m),
  new_back (a ∷ []) g ok also x a (or_left (eqb a a) _ (eq-eqb a a refl)),
)

at_two : (a b : ℕ) (g : Graph) → Good g → Good (opened (a ∷ b ∷ []) g)
    → Same (At (opened (a ∷ b ∷ []) g) (open_node (opened (a ∷ b ∷ []) g))) (λ x. At g a x ⊎ At g b x)
at_two a b g ok also x = rw (opened_node (a ∷ b ∷ []) g) (
  λ p. let (c, m, q) = new_there (a ∷ b ∷ []) g ok also x p in
      ⊎_elim (λ e. inl (rw (eqb-true a c e) q))
      (λ n. ⊎_elim (λ e. inr (rw (eqb-true b c e) q)) (λ e. absurd (true≢false (sym e))) (or_cases (eqb b c) _ n))
      (or_cases (eqb a c) _ m),
  ⊎_elim
      (new_back (a ∷ b ∷ []) g ok also x a (or_left (eqb a a) _ (eq-eqb a a refl)))
      (new_back (a ∷ b ∷ []) g ok also x b (or_right (eqb a b) _ (or_left (eqb b b) _ (eq-eqb b b refl)))),
)

same_either : {P Q R S : List ℕ → Type 0} → Same P Q → Same R S → Same (λ x. P x ⊎ R x) (λ x. Q x ⊎ S x)
same_either f g x = (⊎_elim (λ p. inl ((f x).0 p)) (λ r. inr ((g x).0 r)), ⊎_elim (λ q. inl ((f x).1 q)) (λ s. inr ((g x).1 s)))

-- what is accessed on the way to the open node after the sequence: what was accessed on the way to it before, and what the sequence makes
abbrev Adds : Listing → Type 0
Adds s = (g : Graph) → Good g → Same (At (expanded s g) (open_node (expanded s g))) (Then (At g (open_node g)) (Makes s))

module _ (l r : Listing) (by_left : Adds l) (by_right : Adds r) (g : Graph) (ok : Good g) where
  branch_adds : Same (At (joined l r g) (open_node (joined l r g))) (Then (At g (open_node g)) (λ y. Makes l y ⊎ Makes r y))
  branch_adds =
      let a = open_node g ∷ [] in
      let ok1 = good_first l r g ok in
      let ok2 = good_expanded l _ ok1 in
      let ok3 = good_second l r g ok2 in
      let ok4 = good_expanded r _ ok3 in
      let ok5 = good_joined l r g ok4 in
      let before = same_on (open_keeps a g ok ok1 (open_node g) (le_refl _)) (keeps_expanded l _ ok1 (open_node g) (omega (arith, opened_node a g))) in
      let first = same_on (by_left _ ok1) (then_first (Makes l) (at_one (open_node g) g ok ok1)) in
      let second = same_on (by_right _ ok3) (then_first (Makes r) (same_on (at_one (open_node g) (left_arm l r g) ok2 ok3) (same_back before))) in
      let still = same_on (open_keeps a (left_arm l r g) ok2 ok3 (open_node (left_arm l r g)) (le_refl _)) (keeps_expanded r _ ok3 (open_node (left_arm l r g)) (omega (arith, opened_node a (left_arm l r g)))) in
      same_on (at_two (open_node (left_arm l r g)) (open_node (right_arm l r g)) (right_arm l r g) ok4 ok5)
      (same_on (same_either (same_on (same_back still) first) second) (then_either (At g (open_node g)) (Makes l) (Makes r)))

loop_adds : (l : Listing) → Adds l → (n : ℕ) (g : Graph) → Good g
    → Same (At (times n (expanded l) g) (open_node (times n (expanded l) g))) (Then (At g (open_node g)) (Rounds n (Makes l)))
unfolding times Rounds
loop_adds l h zero g ok = then_nothing (At g (open_node g))
loop_adds l h (suc n) g ok =
    same_on (loop_adds l h n (expanded l g) (good_expanded l g ok))
    (same_on (then_first (Rounds n (Makes l)) (h g ok)) (then_assoc (At g (open_node g)) (Makes l) (Rounds n (Makes l))))

access_adds : (b : ℕ) (g : Graph) → Good g → Same (At (accessed b g) (open_node (accessed b g))) (Then (At g (open_node g)) (λ z. z ≡ b ∷ []))
unfolding Then
access_adds b g ok x = rw (accessed_node b g) (access_there b g ok x, λ (y, z, e, p, q). access_back b g ok x y (e ∙ ap (y ++◌) q) p)

pub expanded_adds : (s : Listing) → Adds s
unfolding expanded Makes
expanded_adds end g ok = then_nothing (At g (open_node g))
expanded_adds (access b s) g ok =
    same_on (expanded_adds s (accessed b g) (good_accessed b g ok))
    (same_on (then_first (Makes s) (access_adds b g ok)) (then_assoc (At g (open_node g)) (λ y. y ≡ b ∷ []) (Makes s)))
expanded_adds (branch l r s) g ok =
    same_on (expanded_adds s (joined l r g) (good_joined l r g (good_expanded r _ (good_second l r g (good_expanded l _ (good_first l r g ok))))))
    (same_on (then_first (Makes s) (branch_adds l r (expanded_adds l) (expanded_adds r) g ok)) (then_assoc (At g (open_node g)) (λ y. Makes l y ⊎ Makes r y) (Makes s)))
expanded_adds (loop n l s) g ok =
    same_on (expanded_adds s _ (times_keeps Good (expanded l) (good_expanded l) n g ok))
    (same_on (then_first (Makes s) (loop_adds l (expanded_adds l) n g ok)) (then_assoc (At g (open_node g)) (Rounds n (Makes l)) (Makes s)))

-- ---- the whole graph

-- at first nothing is accessed
start_adds : (P : List ℕ → Type 0) → Same (Then (At node_zero 0) P) P
unfolding Then
start_adds P x = (λ (y, z, e, p, q). rw (e ∙ ap (◌++ z) (none y p)) q, λ p. ([], x, refl, begun refl refl, p))
  where
    none : (y : List ℕ) → At node_zero 0 y → y ≡ []
    none y (begun z e) = e
    none y (onward a w r e q) = absurd (true≢false (sym e))

-- a run is a stretch of the runs put one behind the other
stretch : (rs : List (List ℕ)) (j : ℕ) → take (get_or (map length rs) j 0) (drop (sum_over (λ n. n) (take j (map length rs))) (flat_map (λ r. r) rs)) ≡ get_or rs j []
unfolding flat_map
stretch [] zero = refl
stretch [] (suc j) = refl
stretch (r ∷ rs) zero = take-append_seam r (flat_map (λ r. r) rs)
stretch (r ∷ rs) (suc j) = rw (drop-append-add r (flat_map (λ r. r) rs) (sum_over (λ n. n) (take j (map length rs)))) (stretch rs j)

-- a graph handed to document 01's graph call, whatever else is
abbrev pub input_for : Graph → Cache → ℕ → List ℕ → ℕ → ℕ → Input
input_for g c K ts r w = input_in c K ts (lengths g) (accesses g) (flat g.edges) r w

module _ (g : Graph) (c : Cache) (K : ℕ) (ts : List ℕ) (r w : ℕ) where
  run_of_lem : (j : ℕ) → run_of (input_for g c K ts r w) j ≡ run_at g j
  unfolding run_of offset lengths accesses
  run_of_lem j = stretch (runs g) j

  to_path : {j : ℕ} {x : List ℕ} → At g j x → (q : List ℕ) × (leads g.edges j 0 q ≡ true) × (flat_map (run_of (input_for g c K ts r w)) (0 ∷ q) ≡ x)
  unfolding flat_map
  to_path {j} {x} (begun z e) = ([], eq-eqb 0 j (sym z), append-nil _ ∙ run_of_lem 0 ∙ sym e)
  to_path {j} {x} (onward a y p e h) =
      let (q, leads, same) = to_path p in (
        q ++ j ∷ [],
        leads_on g.edges 0 a j q leads e,
        flat_snoc (run_of (input_for g c K ts r w)) (0 ∷ q) j ∙ ap (◌++ run_of (input_for g c K ts r w) j) same ∙ ap (y ++◌) (run_of_lem j) ∙ sym h,
      )

  -- the access sequences of the paths from first node to last
  abbrev Walked : List ℕ → Type 0
  Walked x = (path : List ℕ) × (is_path (input_for g c K ts r w) path ≡ true) × (accesses_of (input_for g c K ts r w) path ≡ x)

  walked : Same (At g (open_node g)) Walked
  unfolding is_path accesses_of
  walked x = (
    λ p. let (q, way, same) = to_path p in
        (0 ∷ q, both (eqb 0 0) _ refl (rw (flat_edges g.edges, last) way), same),
    λ (path, way, same). rw (sym same) (rw last at (along_path (input_for g c K ts r w) (λ p a. At g a p) kept (begun refl (run_of_lem 0)) path way)),
  )
    where
      last : nodes (input_for g c K ts r w) - 1 ≡ open_node g
      last = omega (arith, node_count g)

      kept : (p : List ℕ) (a b : ℕ) → among (predecessors (edges_of (flat g.edges)) b) a ≡ true → At g a p → At g b (p ++ run_of (input_for g c K ts r w) b)
      kept p a b m h = onward a p h (linked_pred g.edges a b ∙ (rw (flat_edges g.edges) at m)) (ap (p ++◌) (run_of_lem b))

-- An access sequence is a run of the listing exactly when it is the accesses of a path of its graph from first node to last.
pub same_sequences : (s : Listing) (c : Cache) (K : ℕ) (ts : List ℕ) (r w : ℕ) (x : List ℕ)
    → let i = input_for (graph_of s) c K ts r w in
    Makes s x ↔ ((path : List ℕ) × (is_path i path ≡ true) × (accesses_of i path ≡ x))
unfolding graph_of
same_sequences s c K ts r w =
    same_on (same_back (start_adds (Makes s)))
    (same_on (same_back (expanded_adds s node_zero good_start)) (walked (expanded s node_zero) c K ts r w))
