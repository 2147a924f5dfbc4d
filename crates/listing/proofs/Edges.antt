-- The edges of an expansion keep the edge rules of document 01, section 2.
use mathlib.Core.Path.{◌≡◌, refl, ap, ◌∙◌}
use mathlib.Core.Logic.{◌⊎◌, inl, inr}
use mathlib.Core.Bool.{Bool, true, false, ◌||◌, ◌&&◌}
use mathlib.Core.List.{List, [], ◌∷◌, ◌++◌, map, flat_map}
use Prim.Native.Nat.{ℕ, zero, suc, ◌≤◌, ◌<◌}
use native.Mathlib.Nat.{le_refl}
use native.Mathlib.Omega.{arith}
use lib.Dec.{eqb, ltb, leb}
use lib.ListN.{length, length-append}
use borrow.Author.Tests.{eq-eqb, lt-ltb, le-ltb, ltb-true, ltb-false, leb-true, leb-false, eqb-false}
use Rattle.basics.specs.Sums.{sum_over}
use Rattle.basics.proofs.Bools.{both, and_left, and_right, or_left, or_right, either, not_left, not_right}
use Rattle.rules.specs.Contents.{among}
use Rattle.rules.specs.Shape.{Every}
use Rattle.rules.specs.Input.{Edge, edges_of}
use Rattle.rules.specs.Ordered.{Order, is_before, by_number, rises}
use Rattle.rules.specs.Refusals.{in_pairs, forward, edge_order, each_below, has_edge_in, edges_kept}
use Rattle.rules.proofs.Lists.{every_append, every_weaker}
use Rattle.rules.proofs.Ordered.{number_before}
use Rattle.listing_form.specs.Listing.{Listing, end, access, branch, loop}
use Rattle.listing.specs.Expansion.{Graph, node_zero, open_node, accessed, edges_to, opened, times, expanded, graph_of, runs, lengths, accesses, flat}
use Rattle.listing.proofs.Sizes.{opened_node, nodes_added}

-- what n times a step keeps
pub times_keeps : {A : Type 0} (P : A → Type 0) (f : A → A) → ((x : A) → P x → P (f x)) → (n : ℕ) (x : A) → P x → P (times n f x)
unfolding times
times_keeps P f h zero x p = p
times_keeps P f h (suc n) x p = times_keeps P f h n (f x) (h x p)

apart : (j k : ℕ) → (k ≡ j → ⊥) → (j < k) ⊎ (k < j)
apart j k h = go (either (ltb j k))
  where
    go : (ltb j k ≡ true) ⊎ (ltb j k ≡ false) → (j < k) ⊎ (k < j)
    go (inl t) = inl (ltb-true j k t)
    go (inr f) = inr (omega (arith, ltb-false j k f))

-- ---- every graph under way

-- an edge of a graph whose open node is o leads to a higher node, o at most
abbrev pub Ahead : ℕ → Edge → Type 0
Ahead o e = (e.from < e.to) × (e.to ≤ o)

-- every node but 0 has an edge in
abbrev Entered : Graph → Type 0
Entered g = (j : ℕ) → 0 < j → j ≤ open_node g → among (map (λ e. e.to) g.edges) j ≡ true

pub record Good (g : Graph) : Type 0 where
  pub ahead : Every (Ahead (open_node g)) g.edges
  pub rising : rises edge_order g.edges ≡ true
  pub entered : Entered g

-- ---- edges added behind others

-- what stands in one list or the other
pub among_both : (f : Edge → ℕ) (es ds : List Edge) (j : ℕ) → among (map f (es ++ ds)) j ≡ (among (map f es) j || among (map f ds) j)
among_both f [] ds j = refl
among_both f (e ∷ es) ds j = go (eqb (f e) j) (among_both f es ds j)
  where
    go : (b : Bool) → among (map f (es ++ ds)) j ≡ (among (map f es) j || among (map f ds) j)
        → (b || among (map f (es ++ ds)) j) ≡ ((b || among (map f es) j) || among (map f ds) j)
    go true h = refl
    go false h = h

-- edges to higher nodes go behind
rises_behind : (o : ℕ) (es ds : List Edge) → Every (Ahead o) es → Every (λ e. o < e.to) ds
    → rises edge_order es ≡ true → rises edge_order ds ≡ true → rises edge_order (es ++ ds) ≡ true
rises_behind o [] ds a b h l = l
rises_behind o (e ∷ []) [] a b h l = refl
rises_behind o (e ∷ []) (d ∷ ds) a b h l =
    both (is_before (edge_order e d)) _ (rw (number_before e.to d.to (omega (arith, a.0.1, b.0)))) l
rises_behind o (e ∷ f ∷ es) ds a b h l =
    both (is_before (edge_order e f)) _ (and_left (is_before (edge_order e f)) _ h) (rises_behind o (f ∷ es) ds a.1 b (and_right (is_before (edge_order e f)) _ h) l)

-- edges from nodes up to o lead to the node behind it
edges_ahead : (o : ℕ) (froms : List ℕ) → Every (λ a. a ≤ o) froms → Every (Ahead (suc o)) (edges_to (suc o) froms)
edges_ahead o [] h = tt
edges_ahead o (a ∷ froms) h = ((omega (arith, h.0), omega arith), edges_ahead o froms h.1)

edges_higher : (o : ℕ) (froms : List ℕ) → Every (λ e. o < e.to) (edges_to (suc o) froms)
edges_higher o [] = tt
edges_higher o (a ∷ froms) = (omega arith, edges_higher o froms)

-- one edge rises, and two from different nodes
pub two_rise : (k a b : ℕ) → a < b → rises edge_order (edges_to k (a ∷ b ∷ [])) ≡ true
two_rise k a b l = rw (same_number k, number_before a b l)
  where
    same_number : (k : ℕ) → by_number k k ≡ Order.same
    same_number k = rw (le-ltb k k (le_refl k), eq-eqb k k refl)

-- ---- every step keeps it

pub good_start : Good node_zero
good_start = record { ahead = tt; rising = refl; entered = λ j l h. absurd (omega arith) }

pub good_accessed : (b : ℕ) (g : Graph) → Good g → Good (accessed b g)
unfolding accessed
good_accessed b g h = record { ahead = h.ahead; rising = h.rising; entered = h.entered }

module _ (a : ℕ) (froms : List ℕ) (g : Graph) (h : Good g) (low : Every (λ a. a ≤ open_node g) (a ∷ froms)) (rise : rises edge_order (edges_to (suc (open_node g)) (a ∷ froms)) ≡ true) where
  entered_opened : Entered (opened (a ∷ froms) g)
  unfolding opened
  entered_opened j l m =
      among_both (λ e. e.to) g.edges (edges_to (suc (open_node g)) (a ∷ froms)) j ∙ go (either (leb j (open_node g)))
    where
      go : (leb j (open_node g) ≡ true) ⊎ (leb j (open_node g) ≡ false)
          → (among (map (λ e. e.to) g.edges) j || among (map (λ e. e.to) (edges_to (suc (open_node g)) (a ∷ froms))) j) ≡ true
      go (inl t) = or_left (among (map (λ e. e.to) g.edges) j) _ (h.entered j l (leb-true j (open_node g) t))
      go (inr f) =
          or_right (among (map (λ e. e.to) g.edges) j) _
          (or_left (eqb (suc (open_node g)) j) _ (eq-eqb (suc (open_node g)) j (omega (arith, m, opened_node (a ∷ froms) g, leb-false j (open_node g) f))))

  pub good_opened : Good (opened (a ∷ froms) g)
  unfolding opened
  good_opened =
      record {
        ahead = rw (opened_node (a ∷ froms) g)
            (every_append _ g.edges _ (every_weaker _ _ (λ e p. (p.0, omega (arith, p.1))) g.edges h.ahead) (edges_ahead (open_node g) (a ∷ froms) low));
        rising = rises_behind (open_node g) g.edges _ h.ahead (edges_higher (open_node g) (a ∷ froms)) h.rising rise;
        entered = entered_opened;
      }

-- a branch: its arms and the node behind them
module _ (l r : Listing) (g : Graph) where
  abbrev pub left_arm : Graph
  left_arm = expanded l (opened (open_node g ∷ []) g)

  abbrev pub right_arm : Graph
  right_arm = expanded r (opened (open_node g ∷ []) left_arm)

  abbrev pub joined : Graph
  joined = opened (open_node left_arm ∷ open_node right_arm ∷ []) right_arm

  -- the node last open in the first arm was opened behind the branch's node, and that in the second behind that
  pub left_later : open_node g < open_node left_arm
  left_later = omega (arith, nodes_added l (opened (open_node g ∷ []) g), opened_node (open_node g ∷ []) g)

  pub right_later : open_node left_arm < open_node right_arm
  right_later = omega (arith, nodes_added r (opened (open_node g ∷ []) left_arm), opened_node (open_node g ∷ []) left_arm)

  pub good_first : Good g → Good (opened (open_node g ∷ []) g)
  good_first h = good_opened (open_node g) [] g h (omega arith, tt) refl

  pub good_second : Good left_arm → Good (opened (open_node g ∷ []) left_arm)
  good_second h = good_opened (open_node g) [] left_arm h (omega (arith, left_later), tt) refl

  pub good_joined : Good right_arm → Good joined
  good_joined h =
      good_opened (open_node left_arm) (open_node right_arm ∷ []) right_arm h (omega (arith, right_later), (omega arith, tt))
      (two_rise (suc (open_node right_arm)) (open_node left_arm) (open_node right_arm) right_later)

pub good_expanded : (s : Listing) (g : Graph) → Good g → Good (expanded s g)
unfolding expanded
good_expanded end g h = h
good_expanded (access b s) g h = good_expanded s (accessed b g) (good_accessed b g h)
good_expanded (branch l r s) g h =
    let left = good_expanded l _ (good_first l r g h) in
    let right = good_expanded r _ (good_second l r g left) in
    good_expanded s (joined l r g) (good_joined l r g right)
good_expanded (loop n l s) g h = good_expanded s _ (times_keeps Good (expanded l) (good_expanded l) n g h)

-- ---- every node but the open one has an edge out, once the sequence that opened it is done

-- there is an edge from node j
abbrev Left : Graph → ℕ → Type 0
Left g j = among (map (λ e. e.from) g.edges) j ≡ true

-- there is one from each node from a up to the open one
abbrev Outs : ℕ → Graph → Type 0
Outs a g = (j : ℕ) → a ≤ j → j < open_node g → Left g j

left_opened : (froms : List ℕ) (g : Graph) (j : ℕ) → Left g j → Left (opened froms g) j
unfolding opened
left_opened froms g j h = among_both (λ e. e.from) g.edges _ j ∙ or_left (among (map (λ e. e.from) g.edges) j) _ h

-- a new node's edges leave the nodes that they come from
left_new : (froms : List ℕ) (g : Graph) (j : ℕ) → among froms j ≡ true → Left (opened froms g) j
unfolding opened
left_new froms g j h =
    among_both (λ e. e.from) g.edges _ j ∙ or_right (among (map (λ e. e.from) g.edges) j) _ (rw (same froms) h)
  where
    same : (bs : List ℕ) → among (map (λ e. e.from) (edges_to (suc (open_node g)) bs)) j ≡ among bs j
    same [] = refl
    same (b ∷ bs) = ap (eqb b j ||◌) (same bs)

left_expanded : (s : Listing) (g : Graph) (j : ℕ) → Left g j → Left (expanded s g) j
unfolding expanded accessed
left_expanded end g j h = h
left_expanded (access b s) g j h = left_expanded s (accessed b g) j h
left_expanded (branch l r s) g j h =
    left_expanded s _ j (left_opened _ _ j (left_expanded r _ j (left_opened _ _ j (left_expanded l _ j (left_opened _ g j h)))))
left_expanded (loop n l s) g j h = left_expanded s _ j (times_keeps (λ g. Left g j) (expanded l) (λ g. left_expanded l g j) n g h)

-- the nodes last open in the arms
abbrev ends_of : Listing → Listing → Graph → List ℕ
ends_of l r g = open_node (left_arm l r g) ∷ open_node (right_arm l r g) ∷ []

module _ (l r : Listing) (a : ℕ) (g : Graph) (h : Outs a g) (by_left : (g : Graph) → Outs a g → Outs a (expanded l g)) (by_right : (c : ℕ) (g : Graph) → Outs c g → Outs c (expanded r g)) where
  -- the node before the branch has edges to both arms
  outs_first : Outs a (opened (open_node g ∷ []) g)
  outs_first j low high = go (either (eqb (open_node g) j))
    where
      go : (eqb (open_node g) j ≡ true) ⊎ (eqb (open_node g) j ≡ false) → Left (opened (open_node g ∷ []) g) j
      go (inl t) = left_new (open_node g ∷ []) g j (or_left (eqb (open_node g) j) _ t)
      go (inr f) =
          let other : (open_node g ≡ j) → ⊥ = eqb-false (open_node g) j f in
          left_opened (open_node g ∷ []) g j (h j low (omega (arith, high, opened_node (open_node g ∷ []) g)))

  -- the nodes of the first arm, the node last open there, those of the second, and the node last open there
  outs_joined : Outs a (joined l r g)
  outs_joined j low high = go (either (among (ends_of l r g) j))
    where
      inner : (j < open_node (left_arm l r g)) ⊎ (open_node (left_arm l r g) < j) → j < open_node (right_arm l r g) → Left (right_arm l r g) j
      inner (inl m) n = left_expanded r _ j (left_opened _ (left_arm l r g) j (by_left _ outs_first j low m))
      inner (inr m) n =
          by_right (suc (open_node (left_arm l r g))) (opened (open_node g ∷ []) (left_arm l r g))
          (λ i x y. absurd (omega (arith, x, y, opened_node (open_node g ∷ []) (left_arm l r g)))) j m n

      go : (among (ends_of l r g) j ≡ true) ⊎ (among (ends_of l r g) j ≡ false) → Left (joined l r g) j
      go (inl t) = left_new _ (right_arm l r g) j t
      go (inr f) =
          let not_first : (open_node (left_arm l r g) ≡ j) → ⊥ = eqb-false _ j (not_left (eqb (open_node (left_arm l r g)) j) _ f) in
          let not-second : (open_node (right_arm l r g) ≡ j) → ⊥ = eqb-false _ j (not_left (eqb (open_node (right_arm l r g)) j) _ (not_right (eqb (open_node (left_arm l r g)) j) _ f)) in
          left_opened _ (right_arm l r g) j
          (inner (apart j (open_node (left_arm l r g)) not_first) (omega (arith, high, opened_node (ends_of l r g) (right_arm l r g))))

-- what a sequence keeps: from the nodes before there are edges already
outs_expanded : (s : Listing) (a : ℕ) (g : Graph) → Outs a g → Outs a (expanded s g)
unfolding expanded accessed
outs_expanded end a g h = h
outs_expanded (access b s) a g h = outs_expanded s a (accessed b g) h
outs_expanded (branch l r s) a g h = outs_expanded s a (joined l r g) (outs_joined l r a g h (outs_expanded l a) (outs_expanded r))
outs_expanded (loop n l s) a g h = outs_expanded s a _ (times_keeps (Outs a) (expanded l) (outs_expanded l a) n g h)

-- ---- the rules

pub flat_pairs : (es : List Edge) → in_pairs (flat es) ≡ true
flat_pairs [] = refl
flat_pairs (e ∷ es) = flat_pairs es

pub flat_edges : (es : List Edge) → edges_of (flat es) ≡ es
flat_edges [] = refl
flat_edges (e ∷ es) = ap (e ∷◌) (flat_edges es)

ahead_forward : (n : ℕ) (es : List Edge) → Every (Ahead n) es → forward (suc n) es ≡ true
ahead_forward n [] h = refl
ahead_forward n (e ∷ es) h =
    both (ltb e.from e.to && ltb e.to (suc n)) _
    (both (ltb e.from e.to) _ (lt-ltb e.from e.to h.0.0) (lt-ltb e.to (suc n) (omega (arith, h.0.1))))
    (ahead_forward n es h.1)

each : (n : ℕ) (test : ℕ → Bool) → ((j : ℕ) → j < n → test j ≡ true) → each_below n test ≡ true
each zero test h = refl
each (suc n) test h = both (test n) _ (h n (omega arith)) (each n test (λ j l. h j (omega arith)))

pub node_count : (g : Graph) → length (lengths g) ≡ suc (open_node g)
unfolding lengths
node_count g = many (runs g) ∙ omega (arith, length-append g.earlier (g.current ∷ []))
  where
    many : (rs : List (List ℕ)) → length (map length rs) ≡ length rs
    many [] = refl
    many (r ∷ rs) = ap suc (many rs)

-- the run lengths sum to the accesses
pub lengths_sum : (g : Graph) → sum_over (λ n. n) (lengths g) ≡ length (accesses g)
unfolding lengths accesses flat_map
lengths_sum g = sums (runs g)
  where
    sums : (rs : List (List ℕ)) → sum_over (λ n. n) (map length rs) ≡ length (flat_map (λ r. r) rs)
    sums [] = refl
    sums (r ∷ rs) = omega (arith, sums rs, length-append r (flat_map (λ r. r) rs))

module _ (g : Graph) (ok : Good g) (out : Outs 0 g) where
  ins : (j : ℕ) → j < suc (open_node g) → (eqb j 0 || among (map (λ e. e.to) g.edges) j) ≡ true
  ins zero l = refl
  ins (suc j) l = or_right (eqb (suc j) 0) _ (ok.entered (suc j) (omega arith) (omega arith))

  outs : (j : ℕ) → j < suc (open_node g) → (eqb (suc j) (suc (open_node g)) || among (map (λ e. e.from) g.edges) j) ≡ true
  outs j l = go (either (eqb (suc j) (suc (open_node g))))
    where
      go : (eqb (suc j) (suc (open_node g)) ≡ true) ⊎ (eqb (suc j) (suc (open_node g)) ≡ false)
          → (eqb (suc j) (suc (open_node g)) || among (map (λ e. e.from) g.edges) j) ≡ true
      go (inl t) = or_left (eqb (suc j) (suc (open_node g))) _ t
      go (inr f) =
          let other : (suc j ≡ suc (open_node g)) → ⊥ = eqb-false (suc j) (suc (open_node g)) f in
          or_right (eqb (suc j) (suc (open_node g))) _ (out j (omega arith) (omega arith))

  rules_kept : edges_kept (length (lengths g)) (flat g.edges) ≡ true
  unfolding edges_kept
  rules_kept =
      rw (node_count g, flat_edges g.edges, flat_pairs g.edges, ahead_forward (open_node g) g.edges ok.ahead, ok.rising)
      (both (has_edge_in (suc (open_node g)) g.edges) _ (each _ _ ins) (each _ _ outs))

-- the graph of a listing keeps every edge rule
pub edges_kept_lem : (s : Listing) → edges_kept (length (lengths (graph_of s))) (flat (graph_of s).edges) ≡ true
unfolding graph_of
edges_kept_lem s = rules_kept (expanded s node_zero) (good_expanded s node_zero good_start) (outs_expanded s 0 node_zero (λ j x y. absurd (omega arith)))
