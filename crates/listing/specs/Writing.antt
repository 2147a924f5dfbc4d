-- How the second pass writes the graph: the rooms, and what each step writes. No public contract rests on this.
use Rattle.std.specs.Prelude.{◌≡◌, false, List, ℕ, ◌+◌, ◌-◌, ◌*◌, ◌≤◌, ◌<◌, length, get_or, set, drop}
use Rattle.listing.specs.declared.emitting.Standing.{Standing}
use Rattle.listing_form.specs.Listing.{Listing, end, access, branch, loop}
use Rattle.listing_form.specs.Reading.{Reading, a_branch, a_loop, kind_of, item, sequence_in, is_broken, listing_in, place_in}
use Rattle.listing.specs.Expansion.{times}
use Rattle.listing_form.specs.Counting.{nodes_in, accesses_in, edges_in}

-- how many nodes, accesses and edges there are, how many accesses the open node has, and the three rooms
pub record Rooms : Type 0 where
  pub nodes : ℕ
  pub many : ℕ
  pub links : ℕ
  pub run : ℕ
  pub runs : List ℕ
  pub accesses : List ℕ
  pub edges : List ℕ

-- of how it stands, and three rooms
abbrev pub rooms_of : Standing → List ℕ → List ℕ → List ℕ → Rooms
rooms_of s ns bs es = record { nodes = s.nodes; many = s.accesses; links = s.edges; run = s.run; runs = ns; accesses = bs; edges = es }

-- an access: the open node's run is longer by one
unfoldable pub access_written : ℕ → Rooms → Rooms
access_written b w =
    record {
      nodes = w.nodes;
      many = w.many + 1;
      links = w.links;
      run = w.run + 1;
      runs = set w.runs (w.nodes - 1) (w.run + 1);
      accesses = set w.accesses w.many b;
      edges = w.edges;
    }

-- an edge from a node to the one that is opened next
unfoldable pub edge_written : ℕ → Rooms → Rooms
edge_written a w =
    record {
      nodes = w.nodes;
      many = w.many;
      links = w.links + 1;
      run = w.run;
      runs = w.runs;
      accesses = w.accesses;
      edges = set (set w.edges (w.links * 2) a) (w.links * 2 + 1) w.nodes;
    }

-- that node is opened
unfoldable pub node_opened : Rooms → Rooms
node_opened w =
    record { nodes = w.nodes + 1; many = w.many; links = w.links; run = 0; runs = w.runs; accesses = w.accesses; edges = w.edges }

-- an arm is opened behind node a
abbrev pub arm_opened : ℕ → Rooms → Rooms
arm_opened a w = node_opened (edge_written a w)

-- the node behind both arms is opened, of which the first ended with node a
abbrev pub join_opened : ℕ → Rooms → Rooms
join_opened a w = node_opened (edge_written (w.nodes - 1) (edge_written a w))

-- what a sequence writes
unfoldable pub written : Listing → Rooms → Rooms
written end w = w
written (access b s) w = written s (access_written b w)
written (branch l r s) w =
    let a = w.nodes - 1 in
    let left = written l (arm_opened a w) in
    let right = written r (arm_opened a left) in
    written s (join_opened (left.nodes - 1) right)
written (loop n l s) w = written s (times n (written l) w)

-- ---- what the functions do for each other

-- one access more has room, where so many nodes and accesses are written and the open node has so many of them
pub record AccessFits (nodes many run runs accesses : ℕ) : Type 0 where
  pub some : 0 < nodes
  pub node : nodes ≤ runs
  pub access : many < accesses
  pub within : run ≤ many
  pub few : many ≤ 4096

-- it is put: from the standing s and these rooms to r and those, whatever the edges are
pub record AccessPut (b : ℕ) (s : Standing) (ns bs : List ℕ) (r : Standing) (ns' bs' : List ℕ) : Type 0 where
  pub rooms : (es : List ℕ) → rooms_of r ns' bs' es ≡ access_written b (rooms_of s ns bs es)

-- k edges more have room, from node a and others to a node that is opened next, where so many nodes and edges are written
pub record Fits (a k nodes links edges : ℕ) : Type 0 where
  pub from : a < nodes
  pub few : nodes ≤ 63
  pub enough : links * 2 + k * 2 ≤ edges

-- f is done to the edges, whatever the runs and accesses are
pub record EdgesPut (f : Rooms → Rooms) (s : Standing) (es : List ℕ) (r : Standing) (es' : List ℕ) : Type 0 where
  pub rooms : (ns bs : List ℕ) → rooms_of r ns bs es' ≡ f (rooms_of s ns bs es)

-- a node is opened, whatever the rooms are
pub record Opened (s r : Standing) : Type 0 where
  pub rooms : (ns bs es : List ℕ) → rooms_of r ns bs es ≡ node_opened (rooms_of s ns bs es)

-- the sequence at a place
abbrev pub sequence_at : List ℕ → ℕ → Reading
sequence_at ts p = sequence_in 8 (drop p ts)

-- the item at a place
abbrev pub item_at : List ℕ → ℕ → Reading
item_at ts p = item sequence_in 8 (kind_of (get_or ts p 0)) (drop (p + 1) ts)

-- the branch whose first token stands at a place
abbrev pub branch_at : List ℕ → ℕ → Reading
branch_at ts p = item sequence_in 8 a_branch (drop (p + 1) ts)

-- the loop whose first token stands at a place
abbrev pub loop_at : List ℕ → ℕ → Reading
loop_at ts p = item sequence_in 8 a_loop (drop (p + 1) ts)

-- a listing has room behind what is written
pub record Room (s : Listing) (w : Rooms) : Type 0 where
  pub some : 0 < w.nodes
  pub nodes : w.nodes + nodes_in s ≤ 64
  pub accesses : w.many + accesses_in s ≤ 4096
  pub edges : w.links + edges_in s ≤ 2016
  pub run : w.run ≤ w.many
  pub runs_room : 64 ≤ length w.runs
  pub accesses_room : 4096 ≤ length w.accesses
  pub edges_room : 4032 ≤ length w.edges

-- what is read at place p of n tokens is of the form, and has room
pub record Ready (read : Reading) (p n : ℕ) (w : Rooms) : Type 0 where
  pub good : is_broken read ≡ false
  pub inside : p ≤ n
  pub room : Room (listing_in read) w

-- an arm behind node a has room, and then the sequence at place p
pub record ArmReady (ts : List ℕ) (p a : ℕ) (w : Rooms) : Type 0 where
  pub fits : Fits a 1 w.nodes w.links (length w.edges)
  pub ready : Ready (sequence_at ts p) p (length ts) (arm_opened a w)

-- n rounds of the sequence at place p have room
pub record RoundsReady (ts : List ℕ) (p n : ℕ) (w : Rooms) : Type 0 where
  pub good : is_broken (sequence_at ts p) ≡ false
  pub inside : p ≤ length ts
  pub room : Room (loop n (listing_in (sequence_at ts p)) end) w

-- what is read of n tokens is written, and the place is behind it
pub record Wrote (read : Reading) (n : ℕ) (w : Rooms) (p : ℕ) (w' : Rooms) : Type 0 where
  pub place : p ≡ place_in n read
  pub rooms : w' ≡ written (listing_in read) w
