-- What a sequence writes: how many nodes, accesses and edges there are then, and that there is room for each of its parts.
use mathlib.Core.Path.{◌≡◌, refl, sym, ap, ◌∙◌}
use Prim.Native.Nat.{ℕ, zero, suc, ◌+◌, ◌-◌, ◌*◌, ◌≤◌, ◌<◌}
use native.Mathlib.Nat.{zero-mul, suc-mul, mul-le-mul_right}
use native.Mathlib.Omega.{arith}
use lib.ListN.{length, set, length-set}
use Rattle.listing_form.specs.Listing.{Listing, end, access, branch, loop, followed_by}
use Rattle.listing.specs.Expansion.{times}
use Rattle.listing_form.specs.Counting.{nodes_in, accesses_in, edges_in}
use Rattle.listing_form.proofs.Counts.{join_nodes, join_accesses}
use Rattle.listing.specs.Writing.{Rooms, access_written, edge_written, node_opened, arm_opened, join_opened, written, Fits, Room}

-- ---- one sequence behind another

pub written_join : (s t : Listing) (w : Rooms) → written (followed_by s t) w ≡ written t (written s w)
unfolding followed_by written
written_join end t w = refl
written_join (access b s) t w = written_join s t (access_written b w)
written_join (branch l r s) t w = written_join s t _
written_join (loop n l s) t w = written_join s t (times n (written l) w)

-- ---- how large what is written is

-- v has a nodes, b accesses and c edges more than w, in rooms as long, and its open node has no more accesses than there are
record Larger (a b c : ℕ) (w v : Rooms) : Type 0 where
  nodes : v.nodes ≡ w.nodes + a
  many : v.many ≡ w.many + b
  links : v.links ≡ w.links + c
  run : w.run ≤ w.many → v.run ≤ v.many
  runs : length v.runs ≡ length w.runs
  accesses : length v.accesses ≡ length w.accesses
  edges : length v.edges ≡ length w.edges

larger_same : (w : Rooms) → Larger 0 0 0 w w
larger_same w = record { nodes = omega arith; many = omega arith; links = omega arith; run = λ h. h; runs = refl; accesses = refl; edges = refl }

larger_on : (a b c d e f : ℕ) (u w v : Rooms) → Larger a b c u w → Larger d e f w v → Larger (a + d) (b + e) (c + f) u v
larger_on a b c d e f u w v p q =
    record {
      nodes = omega (arith, p.nodes, q.nodes);
      many = omega (arith, p.many, q.many);
      links = omega (arith, p.links, q.links);
      run = λ h. q.run (p.run h);
      runs = q.runs ∙ p.runs;
      accesses = q.accesses ∙ p.accesses;
      edges = q.edges ∙ p.edges;
    }

larger_access : (b : ℕ) (w : Rooms) → Larger 0 1 0 w (access_written b w)
unfolding access_written
larger_access b w =
    record {
      nodes = omega arith;
      many = refl;
      links = omega arith;
      run = λ h. omega (arith, h);
      runs = length-set w.runs (w.nodes - 1) (w.run + 1);
      accesses = length-set w.accesses w.many b;
      edges = refl;
    }

larger_edge : (a : ℕ) (w : Rooms) → Larger 0 0 1 w (edge_written a w)
unfolding edge_written
larger_edge a w =
    record {
      nodes = omega arith;
      many = omega arith;
      links = refl;
      run = λ h. h;
      runs = refl;
      accesses = refl;
      edges = length-set (set w.edges (w.links * 2) a) (w.links * 2 + 1) w.nodes ∙ length-set w.edges (w.links * 2) a;
    }

larger_node : (w : Rooms) → Larger 1 0 0 w (node_opened w)
unfolding node_opened
larger_node w = record { nodes = refl; many = omega arith; links = omega arith; run = λ h. omega arith; runs = refl; accesses = refl; edges = refl }

larger_arm : (a : ℕ) (w : Rooms) → Larger 1 0 1 w (arm_opened a w)
larger_arm a w = larger_on 0 0 1 1 0 0 w (edge_written a w) (arm_opened a w) (larger_edge a w) (larger_node (edge_written a w))

larger_join : (a : ℕ) (w : Rooms) → Larger 1 0 2 w (join_opened a w)
larger_join a w =
    larger_on 0 0 2 1 0 0 w (edge_written (w.nodes - 1) (edge_written a w)) (join_opened a w)
    (larger_on 0 0 1 0 0 1 w (edge_written a w) (edge_written (w.nodes - 1) (edge_written a w)) (larger_edge a w) (larger_edge (w.nodes - 1) (edge_written a w)))
    (larger_node (edge_written (w.nodes - 1) (edge_written a w)))

larger_times : (a b c : ℕ) (f : Rooms → Rooms) → ((w : Rooms) → Larger a b c w (f w)) → (n : ℕ) (w : Rooms) → Larger (n * a) (n * b) (n * c) w (times n f w)
unfolding times
larger_times a b c f h zero w = rw (zero-mul a, zero-mul b, zero-mul c) (larger_same w)
larger_times a b c f h (suc n) w =
    let p = h w in
    let q = larger_times a b c f h n (f w) in
    record {
      nodes = omega (arith, p.nodes, q.nodes, suc-mul n a);
      many = omega (arith, p.many, q.many, suc-mul n b);
      links = omega (arith, p.links, q.links, suc-mul n c);
      run = λ h. q.run (p.run h);
      runs = q.runs ∙ p.runs;
      accesses = q.accesses ∙ p.accesses;
      edges = q.edges ∙ p.edges;
    }

-- numbers that are the same
larger_as : (a b c d e f : ℕ) (w v : Rooms) → a ≡ d → b ≡ e → c ≡ f → Larger a b c w v → Larger d e f w v
larger_as a b c d e f w v p q r h = rw (← p, ← q, ← r) h

-- what a sequence writes
larger : (s : Listing) (w : Rooms) → Larger (nodes_in s) (accesses_in s) (edges_in s) w (written s w)
unfolding written nodes_in accesses_in edges_in
larger end w = larger_same w
larger (access b s) w = larger_as _ _ _ _ _ _ w _ (omega arith) (omega arith) (omega arith) (larger_on _ _ _ _ _ _ w _ _ (larger_access b w) (larger s (access_written b w)))
larger (branch l r s) w =
    larger_as _ _ _ _ _ _ w _ (omega arith) (omega arith) (omega arith)
    (larger_on _ _ _ _ _ _ w _ _ (larger_arm (w.nodes - 1) w) (larger_on _ _ _ _ _ _ _ _ _ (larger l _)
    (larger_on _ _ _ _ _ _ _ _ _ (larger_arm (w.nodes - 1) _) (larger_on _ _ _ _ _ _ _ _ _ (larger r _) (larger_on _ _ _ _ _ _ _ _ _ (larger_join _ _) (larger s _))))))
larger (loop n l s) w = larger_on _ _ _ _ _ _ w _ _ (larger_times (nodes_in l) (accesses_in l) (edges_in l) (written l) (larger l) n w) (larger s _)

-- ---- there is room for each part

join_edges : (s t : Listing) → edges_in (followed_by s t) ≡ edges_in s + edges_in t
unfolding followed_by edges_in
join_edges end t = omega arith
join_edges (access b s) t = join_edges s t
join_edges (branch l r s) t = omega (arith, join_edges s t)
join_edges (loop n l s) t = omega (arith, join_edges s t)

-- behind what is larger by some there is room for a listing that leaves as much
room_on : (s t : Listing) (a b c : ℕ) (w v : Rooms) → Room s w → Larger a b c w v → a + nodes_in t ≤ nodes_in s → b + accesses_in t ≤ accesses_in s → c + edges_in t ≤ edges_in s → Room t v
room_on s t a b c w v h p x y z =
    record {
      some = omega (arith, h.some, p.nodes);
      nodes = omega (arith, h.nodes, p.nodes, x);
      accesses = omega (arith, h.accesses, p.many, y);
      edges = omega (arith, h.edges, p.links, z);
      run = p.run h.run;
      runs_room = omega (arith, h.runs_room, p.runs);
      accesses_room = omega (arith, h.accesses_room, p.accesses);
      edges_room = omega (arith, h.edges_room, p.edges);
    }

module _ (i s : Listing) (w : Rooms) (h : Room (followed_by i s) w) where
  pub room_item : Room i w
  room_item =
      room_on (followed_by i s) i 0 0 0 w w h (larger_same w) (omega (arith, join_nodes i s)) (omega (arith, join_accesses i s)) (omega (arith, join_edges i s))

  pub room_rest : Room s (written i w)
  room_rest =
      room_on (followed_by i s) s (nodes_in i) (accesses_in i) (edges_in i) w (written i w) h (larger i w) (omega (arith, join_nodes i s)) (omega (arith, join_accesses i s)) (omega (arith, join_edges i s))

-- a branch: its arms, and the node behind them
module _ (l r : Listing) (w : Rooms) (h : Room (branch l r end) w) where
  abbrev before : ℕ
  before = w.nodes - 1

  abbrev left_written : Rooms
  left_written = written l (arm_opened before w)

  abbrev right_written : Rooms
  right_written = written r (arm_opened before left_written)

  larger_left : Larger (1 + nodes_in l) (0 + accesses_in l) (1 + edges_in l) w left_written
  larger_left = larger_on 1 0 1 (nodes_in l) (accesses_in l) (edges_in l) w (arm_opened before w) left_written (larger_arm _ w) (larger l (arm_opened before w))

  larger_second : Larger (1 + nodes_in l + 1) (0 + accesses_in l + 0) (1 + edges_in l + 1) w (arm_opened before left_written)
  larger_second = larger_on _ _ _ 1 0 1 w left_written (arm_opened before left_written) larger_left (larger_arm _ left_written)

  larger_right : Larger (1 + nodes_in l + 1 + nodes_in r) (0 + accesses_in l + 0 + accesses_in r) (1 + edges_in l + 1 + edges_in r) w right_written
  larger_right =
      larger_on _ _ _ (nodes_in r) (accesses_in r) (edges_in r) w (arm_opened before left_written) right_written larger_second (larger r (arm_opened before left_written))

  pub fits_first : Fits before 1 w.nodes w.links (length w.edges)
  unfolding nodes_in edges_in
  fits_first = record { from = omega (arith, h.some); few = omega (arith, h.nodes); enough = omega (arith, h.edges, h.edges_room) }

  pub room_left : Room l (arm_opened before w)
  unfolding nodes_in accesses_in edges_in
  room_left = room_on (branch l r end) l 1 0 1 w (arm_opened before w) h (larger_arm _ w) (omega arith) (omega arith) (omega arith)

  pub fits_second : Fits before 1 left_written.nodes left_written.links (length left_written.edges)
  unfolding nodes_in edges_in
  fits_second =
      let p = larger_left in
      record {
        from = omega (arith, h.some, p.nodes);
        few = omega (arith, h.nodes, p.nodes);
        enough = omega (arith, h.edges, h.edges_room, p.links, p.edges);
      }

  pub room_right : Room r (arm_opened before left_written)
  unfolding nodes_in accesses_in edges_in
  room_right = room_on (branch l r end) r _ _ _ w (arm_opened before left_written) h larger_second (omega arith) (omega arith) (omega arith)

  pub fits_join : Fits (left_written.nodes - 1) 2 right_written.nodes right_written.links (length right_written.edges)
  unfolding nodes_in edges_in
  fits_join =
      let p = larger_right in
      record {
        from = omega (arith, h.some, larger_left.nodes, p.nodes);
        few = omega (arith, h.nodes, p.nodes);
        enough = omega (arith, h.edges, h.edges_room, p.links, p.edges);
      }

-- ---- rounds

pub times_last : {A : Type 0} (n : ℕ) (f : A → A) (x : A) → f (times n f x) ≡ times (suc n) f x
unfolding times
times_last zero f x = refl
times_last (suc n) f x = times_last n f (f x)

pub no_rounds : {A : Type 0} (f : A → A) (x : A) → times 0 f x ≡ x
unfolding times
no_rounds f x = refl

times_same : {A : Type 0} (n : ℕ) (f : A → A) (x : A) → f x ≡ x → times n f x ≡ x
unfolding times
times_same zero f x e = refl
times_same (suc n) f x e = rw e (times_same n f x e)

-- there is room for each round, and behind the first for the others
module _ (n : ℕ) (l : Listing) (w : Rooms) (h : Room (loop n l end) w) where
  more : (k x : ℕ) → k < n → k * x + x ≤ n * x
  more k x m = let up : suc k ≤ n = m in omega (arith, mul-le-mul_right x up, suc-mul k x)

  pub room_round : (k : ℕ) → k < n → Room l (times k (written l) w)
  unfolding nodes_in accesses_in edges_in
  room_round k m =
      room_on (loop n l end) l _ _ _ w (times k (written l) w) h (larger_times (nodes_in l) (accesses_in l) (edges_in l) (written l) (larger l) k w)
      (omega (arith, more k (nodes_in l) m)) (omega (arith, more k (accesses_in l) m)) (omega (arith, more k (edges_in l) m))

  pub room_others : 1 ≤ n → Room (loop (n - 1) l end) (written l w)
  unfolding nodes_in accesses_in edges_in
  room_others some =
      room_on (loop n l end) (loop (n - 1) l end) _ _ _ w (written l w) h (larger l w)
      (omega (arith, one_less (nodes_in l))) (omega (arith, one_less (accesses_in l))) (omega (arith, one_less (edges_in l)))
    where
      one_less : (x : ℕ) → x + (n - 1) * x ≤ n * x
      one_less x = let back : suc (n - 1) ≡ n = omega (arith, some) in omega (arith, suc-mul (n - 1) x, ap (◌* x) back)

-- what adds neither a node nor an access writes nothing
pub nothing_written : (s : Listing) → nodes_in s ≡ 0 → accesses_in s ≡ 0 → (w : Rooms) → written s w ≡ w
unfolding nodes_in accesses_in written
nothing_written end a b w = refl
nothing_written (access c s) a b w = absurd (omega (arith, b))
nothing_written (branch l r s) a b w = absurd (omega (arith, a))
nothing_written (loop n l s) a b w =
    nothing_written s (omega (arith, a)) (omega (arith, b)) (times n (written l) w)
    ∙ rounds n (omega (arith, a)) (omega (arith, b)) (nothing_written l)
  where
    rounds : (n : ℕ) → n * nodes_in l ≡ 0 → n * accesses_in l ≡ 0 → (nodes_in l ≡ 0 → accesses_in l ≡ 0 → (w : Rooms) → written l w ≡ w) → times n (written l) w ≡ w
    rounds zero p q ih = no_rounds (written l) w
    rounds (suc n) p q ih = times_same (suc n) (written l) w (ih (omega (arith, p, suc-mul n (nodes_in l))) (omega (arith, q, suc-mul n (accesses_in l))) w)

-- where a round adds nothing all rounds leave what was
pub idle_rounds : (n : ℕ) (l : Listing) (w : Rooms) → (written l w).nodes ≡ w.nodes → (written l w).many ≡ w.many → written l w ≡ times n (written l) w
idle_rounds n l w p q =
    let h = larger l w in
    let none = nothing_written l (omega (arith, h.nodes, p)) (omega (arith, h.many, q)) w in
    none ∙ sym (times_same n (written l) w none)
