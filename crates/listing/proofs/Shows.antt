-- What is written is the expansion: the rooms of zeros show the graph, step by step.
use mathlib.Core.Path.{◌≡◌, refl, sym, ap, subst, ◌∙◌}
use mathlib.Core.List.{List, [], ◌∷◌, ◌++◌, map, flat_map, append_assoc}
use Prim.Native.Nat.{ℕ, zero, suc, ◌+◌, ◌-◌, ◌*◌, ◌≤◌, ◌<◌}
use native.Mathlib.Nat.{suc-mul, sub-zero}
use native.Mathlib.Omega.{arith}
use lib.ListN.{length, set, replicate, length-append, length-map}
use lib.Seq.{set_at}
use Rattle.rules.specs.Input.{Edge}
use Rattle.listing_form.specs.Listing.{Listing, end, access, branch, loop}
use Rattle.listing.specs.Expansion.{Graph, node_zero, open_node, accessed, opened, times, expanded, lengths, accesses, flat}
use Rattle.listing_form.specs.Counting.{nodes_in, accesses_in, edges_in}
use Rattle.listing.specs.Call.{at_front}
use Rattle.listing.specs.Writing.{Rooms, access_written, edge_written, node_opened, arm_opened, join_opened, written}
use Rattle.listing.proofs.Sizes.{opened_node, opened_accesses, accessed_accesses, opened_edges, times_adds, nodes_added, accesses_added, edges_added}
use Rattle.listing.proofs.Edges.{node_count}

-- ---- numbers at the front of a room of n, and zeros behind them

-- one more
filled_next : (n : ℕ) (xs : List ℕ) (b k : ℕ) → k ≡ length xs → length xs < n → set (at_front n xs) k b ≡ at_front n (xs ++ b ∷ [])
filled_next n xs b k e l =
    ap (λ m. set (xs ++ replicate m 0) k b) more ∙ set_at xs 0 (replicate (n - length (xs ++ b ∷ [])) 0) b k (sym e)
    ∙ sym (append_assoc xs (b ∷ []) (replicate (n - length (xs ++ b ∷ [])) 0))
  where
    more : n - length xs ≡ suc (n - length (xs ++ b ∷ []))
    more = omega (arith, l, length-append xs (b ∷ []))

-- a zero more is nothing new
filled_zero : (n : ℕ) (xs : List ℕ) → length xs < n → at_front n xs ≡ at_front n (xs ++ 0 ∷ [])
filled_zero n xs l = ap (λ m. xs ++ replicate m 0) more ∙ sym (append_assoc xs (0 ∷ []) (replicate (n - length (xs ++ 0 ∷ [])) 0))
  where
    more : n - length xs ≡ suc (n - length (xs ++ 0 ∷ []))
    more = omega (arith, l, length-append xs (0 ∷ []))

-- ---- what shows a graph

-- rooms of r, a and e numbers
pub record Shows (r a e : ℕ) (g : Graph) (w : Rooms) : Type 0 where
  pub nodes : w.nodes ≡ suc (open_node g)
  pub many : w.many ≡ length (accesses g)
  pub links : w.links ≡ length g.edges
  pub run : w.run ≡ length g.current
  pub runs : w.runs ≡ at_front r (lengths g)
  pub accesses : w.accesses ≡ at_front a (accesses g)
  pub edges : w.edges ≡ at_front e (flat g.edges)

map_append : (xs ys : List (List ℕ)) → map length (xs ++ ys) ≡ map length xs ++ map length ys
map_append [] ys = refl
map_append (x ∷ xs) ys = ap (length x ∷◌) (map_append xs ys)

-- the lengths of the runs of the nodes before, and that of the open one
lengths_are : (g : Graph) → lengths g ≡ map length g.earlier ++ length g.current ∷ []
unfolding lengths
lengths_are g = map_append g.earlier (g.current ∷ [])

pub flat_long : (es : List Edge) → length (flat es) ≡ length es * 2
flat_long [] = refl
flat_long (e ∷ es) = omega (arith, flat_long es)

flat_more : (es : List Edge) (a k : ℕ) → flat (es ++ record { from = a; to = k } ∷ []) ≡ (flat es ++ a ∷ []) ++ k ∷ []
flat_more [] a k = refl
flat_more (e ∷ es) a k = ap (λ ns. e.from ∷ e.to ∷ ns) (flat_more es a k)

-- an edge more
edge_shown : (n : ℕ) (es : List Edge) (a k : ℕ) (room : List ℕ) (links : ℕ) → room ≡ at_front n (flat es) → links ≡ length es → length es * 2 + 2 ≤ n
    → set (set room (links * 2) a) (links * 2 + 1) k ≡ at_front n (flat (es ++ record { from = a; to = k } ∷ []))
edge_shown n es a k room links e f l =
    ap (λ ns. set (set ns (links * 2) a) (links * 2 + 1) k) e
    ∙ ap (λ ns. set ns (links * 2 + 1) k) (filled_next n (flat es) a (links * 2) (omega (arith, f, flat_long es)) (omega (arith, l, flat_long es)))
    ∙ filled_next n (flat es ++ a ∷ []) k (links * 2 + 1) (omega (arith, f, flat_long es, length-append (flat es) (a ∷ []))) (omega (arith, l, flat_long es, length-append (flat es) (a ∷ [])))
    ∙ ap (at_front n) (sym (flat_more es a k))

-- what opening a node leaves
opened_empty : (froms : List ℕ) (g : Graph) → 0 ≡ length (opened froms g).current
unfolding opened
opened_empty froms g = refl

opened_one : (b : ℕ) (g : Graph) → g.edges ++ record { from = b; to = suc (open_node g) } ∷ [] ≡ (opened (b ∷ []) g).edges
unfolding opened
opened_one b g = refl

opened_two : (b c : ℕ) (g : Graph) → g.edges ++ record { from = b; to = suc (open_node g) } ∷ record { from = c; to = suc (open_node g) } ∷ [] ≡ (opened (b ∷ c ∷ []) g).edges
unfolding opened
opened_two b c g = refl

-- the last of some numbers is another
last_shown : (n : ℕ) (xs : List ℕ) (y z k : ℕ) → k ≡ length xs → set (at_front n (xs ++ y ∷ [])) k z ≡ at_front n (xs ++ z ∷ [])
last_shown n xs y z k e =
    ap (λ ns. set ns k z) (append_assoc xs (y ∷ []) (replicate (n - length (xs ++ y ∷ [])) 0))
    ∙ set_at xs y (replicate (n - length (xs ++ y ∷ [])) 0) z k (sym e)
    ∙ sym (append_assoc xs (z ∷ []) (replicate (n - length (xs ++ y ∷ [])) 0))
    ∙ ap (λ m. (xs ++ z ∷ []) ++ replicate (n - m) 0) same
  where
    same : length (xs ++ y ∷ []) ≡ length (xs ++ z ∷ [])
    same = omega (arith, length-append xs (y ∷ []), length-append xs (z ∷ []))

module _ (r a e : ℕ) where
  shows_access : (b : ℕ) (g : Graph) (w : Rooms) → Shows r a e g w → length (accesses g) < a → Shows r a e (accessed b g) (access_written b w)
  unfolding accessed access_written
  shows_access b g w h l =
      record {
        nodes = h.nodes;
        many = omega (arith, h.many, ap length (accessed_accesses b g), length-append (accesses g) (b ∷ []));
        links = h.links;
        run = omega (arith, h.run, length-append g.current (b ∷ []));
        runs = ap (λ ns. set ns (w.nodes - 1) (w.run + 1)) (h.runs ∙ ap (at_front r) (lengths_are g))
            ∙ last_shown r (map length g.earlier) (length g.current) (w.run + 1) (w.nodes - 1) (omega (arith, h.nodes, length-map g.earlier length))
            ∙ ap (at_front r) (ap (λ n. map length g.earlier ++ n ∷ []) longer ∙ sym (lengths_are (accessed b g)));
        accesses = ap (λ ns. set ns w.many b) h.accesses ∙ filled_next a (accesses g) b w.many h.many l ∙ ap (at_front a) (sym (accessed_accesses b g));
        edges = h.edges;
      }
    where
      longer : w.run + 1 ≡ length (g.current ++ b ∷ [])
      longer = omega (arith, h.run, length-append g.current (b ∷ []))

  -- a node more, with the edges that its opening adds
  node_shown : (froms : List ℕ) (g : Graph) → suc (open_node g) < r → at_front r (lengths g) ≡ at_front r (lengths (opened froms g))
  unfolding opened
  node_shown froms g l =
      filled_zero r (lengths g) (omega (arith, l, node_count g))
      ∙ ap (at_front r) (sym (lengths_are (opened froms g) ∙ ap (◌++ (0 ∷ [])) (map_append g.earlier (g.current ∷ []) ∙ sym (lengths_are g))))

  shows_arm : (b : ℕ) (g : Graph) (w : Rooms) → Shows r a e g w → suc (open_node g) < r → length g.edges * 2 + 2 ≤ e → Shows r a e (opened (b ∷ []) g) (arm_opened b w)
  unfolding edge_written node_opened
  shows_arm b g w h l m =
      record {
        nodes = omega (arith, h.nodes, opened_node (b ∷ []) g);
        many = h.many ∙ ap length (sym (opened_accesses (b ∷ []) g));
        links = omega (arith, h.links, opened_edges (b ∷ []) g);
        run = empty;
        runs = h.runs ∙ node_shown (b ∷ []) g l;
        accesses = h.accesses ∙ ap (at_front a) (sym (opened_accesses (b ∷ []) g));
        edges = edge_shown e g.edges b w.nodes w.edges w.links h.edges h.links m ∙ ap (λ es. at_front e (flat es)) same;
      }
    where
      empty : 0 ≡ length (opened (b ∷ []) g).current
      empty = opened_empty (b ∷ []) g

      same : g.edges ++ record { from = b; to = w.nodes } ∷ [] ≡ (opened (b ∷ []) g).edges
      same = ap (λ k. g.edges ++ record { from = b; to = k } ∷ []) h.nodes ∙ opened_one b g

  shows_join : (b c : ℕ) (g : Graph) (w : Rooms) → Shows r a e g w → suc (open_node g) < r → length g.edges * 2 + 4 ≤ e → c ≡ open_node g
      → Shows r a e (opened (b ∷ c ∷ []) g) (join_opened b w)
  unfolding edge_written node_opened
  shows_join b c g w h l m last =
      record {
        nodes = omega (arith, h.nodes, opened_node (b ∷ c ∷ []) g);
        many = h.many ∙ ap length (sym (opened_accesses (b ∷ c ∷ []) g));
        links = omega (arith, h.links, opened_edges (b ∷ c ∷ []) g);
        run = opened_empty (b ∷ c ∷ []) g;
        runs = h.runs ∙ node_shown (b ∷ c ∷ []) g l;
        accesses = h.accesses ∙ ap (at_front a) (sym (opened_accesses (b ∷ c ∷ []) g));
        edges = edge_shown e (g.edges ++ record { from = b; to = w.nodes } ∷ []) (w.nodes - 1) w.nodes (set (set w.edges (w.links * 2) b) (w.links * 2 + 1) w.nodes) (w.links + 1)
            (edge_shown e g.edges b w.nodes w.edges w.links h.edges h.links (omega (arith, m))) (omega (arith, h.links, one_more_lem)) (omega (arith, m, one_more_lem))
            ∙ ap (λ es. at_front e (flat es)) same;
      }
    where
      one_more_lem : length (g.edges ++ record { from = b; to = w.nodes } ∷ []) ≡ length g.edges + 1
      one_more_lem = length-append g.edges (record { from = b; to = w.nodes } ∷ [])

      from_last : w.nodes - 1 ≡ c
      from_last = omega (arith, h.nodes, last)

      same : (g.edges ++ record { from = b; to = w.nodes } ∷ []) ++ record { from = w.nodes - 1; to = w.nodes } ∷ [] ≡ (opened (b ∷ c ∷ []) g).edges
      same =
          append_assoc g.edges (record { from = b; to = w.nodes } ∷ []) (record { from = w.nodes - 1; to = w.nodes } ∷ [])
          ∙ ap (λ x. g.edges ++ record { from = b; to = w.nodes } ∷ record { from = x; to = w.nodes } ∷ []) from_last
          ∙ ap (λ k. g.edges ++ record { from = b; to = k } ∷ record { from = c; to = k } ∷ []) h.nodes ∙ opened_two b c g

  -- there is room for a sequence behind a graph
  pub record Place (s : Listing) (g : Graph) : Type 0 where
    pub nodes : suc (open_node g) + nodes_in s ≤ r
    pub accesses : length (accesses g) + accesses_in s ≤ a
    pub edges : (length g.edges + edges_in s) * 2 ≤ e

  abbrev pub Follows : Listing → Type 0
  Follows s = (g : Graph) (w : Rooms) → Shows r a e g w → Place s g → Shows r a e (expanded s g) (written s w)

  shows_times : (l : Listing) → Follows l → (n : ℕ) (g : Graph) (w : Rooms) → Shows r a e g w → suc (open_node g) + n * nodes_in l ≤ r → length (accesses g) + n * accesses_in l ≤ a
      → (length g.edges + n * edges_in l) * 2 ≤ e → Shows r a e (times n (expanded l) g) (times n (written l) w)
  unfolding times
  shows_times l ih zero g w h x y z = h
  shows_times l ih (suc n) g w h x y z =
      shows_times l ih n (expanded l g) (written l w)
      (ih g w h (record {
        nodes = omega (arith, x, suc-mul n (nodes_in l));
        accesses = omega (arith, y, suc-mul n (accesses_in l));
        edges = omega (arith, z, suc-mul n (edges_in l));
      }))
      (omega (arith, x, suc-mul n (nodes_in l), nodes_added l g))
      (omega (arith, y, suc-mul n (accesses_in l), accesses_added l g))
      (omega (arith, z, suc-mul n (edges_in l), edges_added l g))

  module _ (l q : Listing) (by_left : Follows l) (by_right : Follows q) (s : Listing) (g : Graph) (w : Rooms) (h : Shows r a e g w) (p : Place (branch l q s) g) where
    abbrev o : ℕ
    o = open_node g

    abbrev g1 : Graph
    g1 = opened (o ∷ []) g

    abbrev g2 : Graph
    g2 = expanded l g1

    abbrev g3 : Graph
    g3 = opened (o ∷ []) g2

    abbrev g4 : Graph
    g4 = expanded q g3

    n1 : open_node g1 ≡ suc o
    n1 = opened_node (o ∷ []) g

    n2 : open_node g2 ≡ suc o + nodes_in l
    n2 = nodes_added l g1 ∙ ap (◌+ nodes_in l) n1

    n3 : open_node g3 ≡ suc (suc o + nodes_in l)
    n3 = opened_node (o ∷ []) g2 ∙ ap suc n2

    n4 : open_node g4 ≡ suc (suc o + nodes_in l) + nodes_in q
    n4 = nodes_added q g3 ∙ ap (◌+ nodes_in q) n3

    e1 : length g1.edges ≡ length g.edges + 1
    e1 = opened_edges (o ∷ []) g

    e2 : length g2.edges ≡ length g.edges + 1 + edges_in l
    e2 = edges_added l g1 ∙ ap (◌+ edges_in l) e1

    e3 : length g3.edges ≡ length g.edges + 1 + edges_in l + 1
    e3 = opened_edges (o ∷ []) g2 ∙ ap (◌+ 1) e2

    e4 : length g4.edges ≡ length g.edges + 1 + edges_in l + 1 + edges_in q
    e4 = edges_added q g3 ∙ ap (◌+ edges_in q) e3

    a2 : length (accesses g2) ≡ length (accesses g) + accesses_in l
    a2 = accesses_added l g1 ∙ ap (λ x. length x + accesses_in l) (opened_accesses (o ∷ []) g)

    a4 : length (accesses g4) ≡ length (accesses g) + accesses_in l + accesses_in q
    a4 = accesses_added q g3 ∙ ap (λ x. length x + accesses_in q) (opened_accesses (o ∷ []) g2) ∙ ap (◌+ accesses_in q) a2

    -- the node before
    was : w.nodes - 1 ≡ o
    was = omega (arith, h.nodes)

    shows_first : Shows r a e g1 (arm_opened (w.nodes - 1) w)
    unfolding nodes_in edges_in
    shows_first = rw was (shows_arm o g w h (omega (arith, p.nodes)) (omega (arith, p.edges)))

    abbrev left : Rooms
    left = written l (arm_opened (w.nodes - 1) w)

    shows_left : Shows r a e g2 left
    unfolding nodes_in accesses_in edges_in
    shows_left =
        by_left g1 (arm_opened (w.nodes - 1) w) shows_first
        (record {
          nodes = omega (arith, p.nodes, n1);
          accesses = omega (arith, p.accesses, ap length (opened_accesses (o ∷ []) g));
          edges = omega (arith, p.edges, e1);
        })

    shows_second : Shows r a e g3 (arm_opened (w.nodes - 1) left)
    unfolding nodes_in edges_in
    shows_second = subst (λ b. Shows r a e g3 (arm_opened b left)) (sym was) (shows_arm o g2 left shows_left (omega (arith, p.nodes, n2)) (omega (arith, p.edges, e2)))

    abbrev right : Rooms
    right = written q (arm_opened (w.nodes - 1) left)

    shows_right : Shows r a e g4 right
    unfolding nodes_in accesses_in edges_in
    shows_right =
        by_right g3 (arm_opened (w.nodes - 1) left) shows_second
        (record {
          nodes = omega (arith, p.nodes, n3);
          accesses = omega (arith, p.accesses, a2, ap length (opened_accesses (o ∷ []) g2));
          edges = omega (arith, p.edges, e3);
        })

    shows_joined : Shows r a e (opened (open_node g2 ∷ open_node g4 ∷ []) g4) (join_opened (left.nodes - 1) right)
    unfolding nodes_in edges_in
    shows_joined =
        let first : left.nodes - 1 ≡ open_node g2 = omega (arith, shows_left.nodes) in
        subst (λ b. Shows r a e (opened (open_node g2 ∷ open_node g4 ∷ []) g4) (join_opened b right)) (sym first)
        (shows_join (open_node g2) (open_node g4) g4 right shows_right (omega (arith, p.nodes, n4)) (omega (arith, p.edges, e4)) refl)

    place_rest : Place s (opened (open_node g2 ∷ open_node g4 ∷ []) g4)
    unfolding nodes_in accesses_in edges_in
    place_rest =
        let both = open_node g2 ∷ open_node g4 ∷ [] in
        record {
          nodes = omega (arith, p.nodes, n4, opened_node both g4);
          accesses = omega (arith, p.accesses, a4, ap length (opened_accesses both g4));
          edges = omega (arith, p.edges, e4, opened_edges both g4);
        }

  module _ (b : ℕ) (s : Listing) (g : Graph) (p : Place (access b s) g) where
    access_room : length (accesses g) < a
    unfolding accesses_in
    access_room = omega (arith, p.accesses)

    access_rest : Place s (accessed b g)
    unfolding nodes_in accesses_in edges_in accessed
    access_rest =
        record {
          nodes = p.nodes;
          accesses = omega (arith, p.accesses, ap length (accessed_accesses b g), length-append (accesses g) (b ∷ []));
          edges = p.edges;
        }

  module _ (n : ℕ) (l : Listing) (ih : Follows l) (s : Listing) (g : Graph) (w : Rooms) (h : Shows r a e g w) (p : Place (loop n l s) g) where
    shows_rounds : Shows r a e (times n (expanded l) g) (times n (written l) w)
    unfolding nodes_in accesses_in edges_in
    shows_rounds = shows_times l ih n g w h (omega (arith, p.nodes)) (omega (arith, p.accesses)) (omega (arith, p.edges))

    rounds_rest : Place s (times n (expanded l) g)
    unfolding nodes_in accesses_in edges_in
    rounds_rest =
        record {
          nodes = omega (arith, p.nodes, times_adds open_node (expanded l) (nodes_in l) (nodes_added l) n g);
          accesses = omega (arith, p.accesses, times_adds (λ g. length (accesses g)) (expanded l) (accesses_in l) (accesses_added l) n g);
          edges = omega (arith, p.edges, times_adds (λ g. length g.edges) (expanded l) (edges_in l) (edges_added l) n g);
        }

  pub follows : (s : Listing) → Follows s
  unfolding expanded written
  follows end g w h p = h
  follows (access b s) g w h p = follows s (accessed b g) (access_written b w) (shows_access b g w h (access_room b s g p)) (access_rest b s g p)
  follows (branch l q s) g w h p =
      follows s _ _ (shows_joined l q (follows l) (follows q) s g w h p) (place_rest l q (follows l) (follows q) s g w h p)
  follows (loop n l s) g w h p = follows s _ _ (shows_rounds n l (follows l) s g w h p) (rounds_rest n l (follows l) s g w h p)

  -- at first all is zero, and node 0 is open
  pub shows_start : 0 < r → Shows r a e node_zero (record { nodes = 1; many = 0; links = 0; run = 0; runs = replicate r 0; accesses = replicate a 0; edges = replicate e 0 })
  unfolding lengths accesses flat_map
  shows_start l =
      record {
        nodes = refl;
        many = refl;
        links = refl;
        run = refl;
        runs = ap (λ m. replicate m 0) one;
        accesses = ap (λ m. replicate m 0) (sym (sub-zero a));
        edges = ap (λ m. replicate m 0) (sym (sub-zero e));
      }
    where
      one : r ≡ suc (r - 1)
      one = omega (arith, l)
