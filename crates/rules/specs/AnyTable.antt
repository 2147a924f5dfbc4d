-- Tables and the work on them, whatever their states are: document 01, section 3; document 02, requests 3/13 and 11/13. Document 01's table is one
-- kind (Fold.antt), the best case's (document 02, request 10/13; Best.antt) is another. What is the same for all kinds is said here once; what a kind
-- makes of its states, it says in a record. The work on a graph is said for any pairings that are handed in; without any it is document 01's.
use Rattle.std.specs.Prelude.{Bool, true, false, cond, ◌&&◌, ℕ, zero, suc, ◌+◌, ◌-◌, min, eqb, ltb, leb, length, get_or, Some}
use mathlib.Core.List.{List, [], ◌∷◌, ◌++◌, map, flat_map}
use Rattle.basics.specs.Sums.{sum_over}
use Rattle.rules.specs.declared.Pair.{Pair}
use Rattle.rules.specs.Units.{more}
use Rattle.rules.specs.Contents.{Target, Last, target_of}
use Rattle.rules.specs.Input.{Input, nodes, run_of, edges_of, predecessors, joins_to}
use Rattle.rules.specs.Lasts.{last_before, lasts_to}
use Rattle.rules.specs.Ordered.{Order, insert_all, remove, best}

-- ---- how states are listed

-- the units of a state, the state with other units, the order of states, and what stands past the end of a table
pub record Listing (A : Type 0) : Type 0 where
  pub units : A → ℕ
  pub having : A → ℕ → A
  pub order : A → A → Order
  pub none : A

-- some units of the state at a place of one table, with as many of the state at a place of the other
pub record Match : Type 0 where
  pub left : ℕ
  pub right : ℕ
  pub units : ℕ

-- for a join: a pairing, or none
pub data Entry : Type 0 where
  no_pairing : Entry
  pairing : List Match → Entry

-- the units that a pairing uses at a place; `side` is which table
abbrev pub used_at : (Match → ℕ) → ℕ → List Match → ℕ
used_at side a P = sum_over (λ m. cond (eqb (side m) a) m.units 0) P

-- a pair has at least 1 unit, a place of the m of one table and a place of the n of the other
abbrev pub is_pair : ℕ → ℕ → Match → Bool
is_pair m n p = ltb 0 p.units && ltb p.left m && ltb p.right n

-- each has
unfoldable pub places_exist : ℕ → ℕ → List Match → Bool
places_exist m n [] = true
places_exist m n (p ∷ P) = is_pair m n p && places_exist m n P

module _ {A : Type 0} (l : Listing A) where
  open l use {units, having, order, none}

  -- states in the same place are added together; the sum stops at WHOLE, and in a table there are no more units than that
  abbrev pub plus : A → A → A
  plus t s = having t (more (units t) (units s))

  -- states of 0 units vanish
  abbrev pub present : List A → List A
  present [] = []
  present (s ∷ S) = cond (eqb (units s) 0) (present S) (s ∷ present S)

  -- the states S, added to the table T
  unfoldable pub add : List A → List A → List A
  add S T = insert_all order plus (present S) T

  -- the units of all states
  unfoldable pub total : List A → ℕ
  total T = sum_over units T

  -- the state at a place; past the end there is none, with 0 units
  abbrev pub at : List A → ℕ → A
  at T i = get_or T i none

  -- the table after an access, before any fold, where `follow` lists the states that follow one
  unfoldable pub access : (A → List A) → List A → List A
  access follow T = add (flat_map follow T) []

  -- ---- two tables from the front

  -- s with u units less
  abbrev pub less : A → ℕ → A
  less s u = having s (units s - u)

  -- what is left of a table whose first state is s when u of its units are used
  abbrev pub left_after : ℕ → A → List A → List A
  left_after u s S = cond (eqb (units s) u) S (less s u ∷ S)

  -- the place of what is then first: s, which stands at place i, or the next one where all its units are used
  abbrev pub place_after : ℕ → A → ℕ → ℕ
  place_after u s i = cond (eqb (units s) u) (suc i) i

  -- pair as many units as the smaller remaining amount allows; S and T are left, from places i and j on; n steps
  unfoldable pub walk : ℕ → ℕ → ℕ → List A → List A → List Match
  walk zero i j S T = []
  walk (suc n) i j [] T = []
  walk (suc n) i j (s ∷ S) [] = []
  walk (suc n) i j (s ∷ S) (t ∷ T) =
      let u = min (units s) (units t) in
      record { left = i; right = j; units = u }
      ∷ walk n (place_after u s i) (place_after u t j) (left_after u s S) (left_after u t T)

  -- each step uses up a state of one of the two, so that as many steps as there are states are enough
  unfoldable pub from_front : List A → List A → List Match
  from_front S T = walk (length S + length T) 0 0 S T

  -- ---- a pairing that is handed in

  -- the units of each state, from place a on, are used exactly
  unfoldable pub uses_from : (Match → ℕ) → List Match → ℕ → List A → Bool
  uses_from side P a [] = true
  uses_from side P a (s ∷ T) = eqb (used_at side a P) (units s) && uses_from side P (suc a) T

  -- it is accepted: each pair has units, every place exists, and each state's units are used exactly
  unfoldable pub fits : List Match → List A → List A → Bool
  fits P S T = places_exist (length S) (length T) P && uses_from (λ p. p.left) P 0 S && uses_from (λ p. p.right) P 0 T

  -- a pairing or none: none is always accepted
  abbrev pub entry_fits : Entry → List A → List A → Bool
  entry_fits no_pairing S T = true
  entry_fits (pairing P) S T = fits P S T

-- ---- what a kind makes of its states

-- a table, and the units set aside on the way to it
pub record Work (A : Type 0) : Type 0 where
  pub table : List A
  pub aside : ℕ

-- how they are listed; the state that the work on an input starts from; N ways in a set and x accessed, the states that follow s and what of s
-- is set aside; whether t is a better partner of s than u (`closer s t u`); what s and t become in a fold, and the units of s that are set aside
-- where it becomes m; and what a unit of s and a unit of t become in a join
pub record Kind (A : Type 0) : Type 0 where
  pub listing : Listing A
  pub start : Input → A
  pub successors : ℕ → Target → A → List A
  pub left_over : ℕ → Target → A → ℕ
  pub closer : A → A → A → Bool
  pub folds : A → A → A
  pub changed : A → A → ℕ
  pub joins : A → A → A

module _ {A : Type 0} (k : Kind A) where
  open k use {successors, left_over, closer, folds, changed, joins, listing as l}
  open k.listing use {units, having}

  -- ---- folding

  -- s has fewer units than t
  abbrev pub fewer : A → A → Bool
  fewer s t = ltb (units s) (units t)

  -- the state of fewest units and its partner among the others, each the earliest if tied
  unfoldable pub choice : List A → Pair
  choice T =
      let i = best fewer T in
      record { fewest = i; partner = best (closer (at l T i)) (remove i T) }

  -- the state at a place, and the state at a place of the others, replaced by one
  unfoldable pub fold_at : Pair → Work A → Work A
  fold_at p w =
      let s = at l w.table p.fewest in
      let others = remove p.fewest w.table in
      let t = at l others p.partner in
      let m = having (folds s t) (more (units s) (units t)) in
      record {
        table = add l (m ∷ []) (remove p.partner others);
        aside = more w.aside (changed s m + changed t m);
      }

  -- one fold, of the two states that are chosen
  unfoldable pub fold : Work A → Work A
  fold w = fold_at (choice w.table) w

  -- only while more than K states remain; each fold takes a state away, so that n folds are enough for n states
  abbrev pub folds_of : ℕ → Bool → ℕ → Work A → Work A
  folds_of zero enough K w = w
  folds_of (suc n) true K w = w
  folds_of (suc n) false K w = let v = fold w in folds_of n (leb (length v.table) K) K v

  -- folded until at most K states are left
  unfoldable pub folded : ℕ → Work A → Work A
  folded K w = folds_of (length w.table) (leb (length w.table) K) K w

  -- ---- runs

  -- an access of x, and the folds after it
  unfoldable pub advance : ℕ → ℕ → Target → Work A → Work A
  advance N K x w =
      folded K (record { table = access l (successors N x) w.table; aside = more w.aside (sum_over (left_over N x) w.table) })

  -- the accesses one after the other, where p was accessed directly before them
  unfoldable pub run : ℕ → ℕ → ℕ → List ℕ → Last → List ℕ → Work A → Work A
  run N Z K ts p [] w = w
  run N Z K ts p (b ∷ bs) w = run N Z K ts (Some b) bs (advance N K (target_of Z ts p b) w)

  -- ---- joins

  -- what a pair gives
  abbrev pub matched : List A → List A → Match → A
  matched S T p = having (joins (at l S p.left) (at l T p.right)) p.units

  -- what a pairing makes of two tables
  unfoldable pub paired : List Match → List A → List A → List A
  paired P S T = add l (map (matched S T) P) []

  -- both tables from the front
  unfoldable pub join : List A → List A → List A
  join S T = paired (from_front l S T) S T

  -- by the pairing that is handed in; where there is none, or none that is accepted, from the front
  abbrev pub join_by : Entry → List A → List A → List A
  join_by no_pairing S T = join S T
  join_by (pairing P) S T = cond (fits l P S T) (paired P S T) (join S T)

-- the tables of the nodes that are worked, and the units set aside over all of them
pub record Worked (A : Type 0) : Type 0 where
  pub tables : List (List A)
  pub aside : ℕ

-- node j's table; none where it is not worked yet
abbrev pub table_at : {A : Type 0} → Worked A → ℕ → List A
table_at d j = get_or d.tables j []

-- ---- a graph

-- for each join of a graph, in working order, a pairing or none
abbrev pub Entries : Type 0
Entries = ℕ → Entry

-- none everywhere
abbrev pub no_pairings : Entries
no_pairings n = no_pairing

-- those behind the first
abbrev pub later : Entries → Entries
later q m = q (suc m)

-- those behind the first n
abbrev pub behind : ℕ → Entries → Entries
behind n q m = q (n + m)

module _ {A : Type 0} (k : Kind A) where
  -- a table joined to that of w, and folded
  abbrev pub join_one : Entry → ℕ → Work A → List A → Work A
  join_one e K w T = folded k K (record { table = join_by k e w.table T; aside = w.aside })

  -- the tables of the nodes ps joined to that of w: one at a time, each join folded before the next; q has an entry for each
  unfoldable pub join_all_by : Entries → ℕ → Worked A → List ℕ → Work A → Work A
  join_all_by q K d [] w = w
  join_all_by q K d (p ∷ ps) w = join_all_by (later q) K d ps (join_one (q 0) K w (table_at d p))

  -- what a node starts from, whose predecessors are ps: the first one's table, with the others joined to it; node 0 from the start, s
  unfoldable pub enter_by : Entries → ℕ → A → Worked A → List ℕ → Work A
  enter_by q K s d [] = record { table = s ∷ []; aside = d.aside }
  enter_by q K s d (p ∷ ps) = join_all_by q K d ps (record { table = table_at d p; aside = d.aside })

  -- node j, after the nodes before it: its run, from where it starts
  unfoldable pub node_by : Entries → Input → ℕ → Worked A → Work A
  node_by q i j d =
      let ps = predecessors (edges_of i.edges) j in
      run k i.ways i.sets i.limit i.tracked (last_before (lasts_to i j) ps) (run_of i j)
      (enter_by (behind (joins_to (edges_of i.edges) j) q) i.limit (k.start i) d ps)

  -- so many nodes from the first on, worked in order
  unfoldable pub worked_by : Entries → Input → ℕ → Worked A
  worked_by q i zero = record { tables = []; aside = 0 }
  worked_by q i (suc j) =
      let d = worked_by q i j in
      let w = node_by q i j d in
      record { tables = d.tables ++ (w.table ∷ []); aside = w.aside }

  -- the finished table is the last node's, and the set-aside count is that of all nodes
  unfoldable pub finished_by : Entries → Input → Work A
  finished_by q i = let d = worked_by q i (nodes i) in record { table = table_at d (nodes i - 1); aside = d.aside }

  -- ---- whether each pairing that is handed in is accepted

  -- at the joins of a node
  unfoldable pub joins_fit : Entries → ℕ → Worked A → List ℕ → Work A → Bool
  joins_fit q K d [] w = true
  joins_fit q K d (p ∷ ps) w =
      entry_fits k.listing (q 0) w.table (table_at d p) && joins_fit (later q) K d ps (join_one (q 0) K w (table_at d p))

  -- at a node whose predecessors are ps
  unfoldable pub enter_fits : Entries → ℕ → Worked A → List ℕ → Bool
  enter_fits q K d [] = true
  enter_fits q K d (p ∷ ps) = joins_fit q K d ps (record { table = table_at d p; aside = d.aside })

  -- at so many nodes from the first on
  unfoldable pub all_fit : Entries → Input → ℕ → Bool
  all_fit q i zero = true
  all_fit q i (suc j) =
      let es = edges_of i.edges in
      all_fit q i j && enter_fits (behind (joins_to es j) q) i.limit (worked_by q i j) (predecessors es j)

  -- ---- document 01's: every join from the front

  -- the tables of the nodes ps joined to that of w
  abbrev pub join_all : ℕ → Worked A → List ℕ → Work A → Work A
  join_all K d ps w = join_all_by no_pairings K d ps w

  -- what a node starts from, whose predecessors are ps
  abbrev pub enter : ℕ → A → Worked A → List ℕ → Work A
  enter K s d ps = enter_by no_pairings K s d ps

  -- node j, after the nodes before it
  abbrev pub node : Input → ℕ → Worked A → Work A
  node i j d = node_by no_pairings i j d

  -- so many nodes from the first on, worked in order
  abbrev pub worked : Input → ℕ → Worked A
  worked i n = worked_by no_pairings i n

  -- the finished table, and the set-aside count
  abbrev pub finished : Input → Work A
  finished i = finished_by no_pairings i
