-- A graph: whether what is handed in for the joins of a node is accepted; that a node can be worked and what its work leaves in its slot; and one node after the other.
use mathlib.Core.Path.{◌≡◌, refl, sym, ap, ap₂, ◌∙◌, subst}
use mathlib.Core.Bool.{Bool, true, false, cond, ◌&&◌, and-true}
use mathlib.Core.List.{List, [], ◌∷◌, ◌++◌}
use Prim.Native.Nat.{ℕ, suc, ◌+◌, ◌-◌, ◌*◌, ◌≤◌, ◌<◌}
use native.Mathlib.Nat.{le_trans}
use native.Mathlib.Omega.{arith}
use lib.ListN.{length, take, drop, replicate}
use lib.Seq.{paste}
use Rattle.rules.specs.declared.Cache.{Cache}
use Rattle.rules.specs.declared.State.{State}
use Rattle.rules.specs.Units.{whole}
use Rattle.rules.specs.Contents.{among, Last}
use Rattle.rules.specs.Filling.{filled_at, evenly}
use Rattle.rules.specs.AnyTable.{Entry, Entries, later, behind, entry_fits, join_one, node_by as node_any, worked_by as worked_any, joins_fit as joins_fit_any, enter_fits as enter_fits_any, all_fit as all_fit_any}
use Rattle.rules.specs.Table.{listing, no_state, Work}
use Rattle.rules.specs.Shape.{Table}
use Rattle.rules.specs.Fold.{states}
use Rattle.rules.specs.Run.{run}
use Rattle.rules.specs.Input.{Input, cache, nodes, offset, run_of, edges_of, predecessors, joins_to}
use Rattle.rules.specs.Graph.{Worked, table_at, at_start, enter_by, last_before, lasts_to, worked_by, joins_fit, enter_fits, all_fit}
use Rattle.rules.proofs.Table.{states_lawful}
use Rattle.rules.proofs.Lookup.{among_every}
use Rattle.rules.proofs.Filling.{evenly_most}
use Rattle.rules.proofs.Refusals.{counts_some, counts_few, Checked, predecessor_lower}
use Rattle.rules.proofs.Run.{table_wider, table_run}
use Rattle.rules.proofs.AnyTable.{fit_alike}
use Rattle.rules.proofs.Graph.{node_table, table_stays, table_enter, aside_enter, aside_worked, run_within, run_long, every_node}
use Rattle.words.specs.Tables.{table_of}
use Rattle.estimate.specs.Rooms.{InPlace, NodeDone, filled, slot_of, table_in, worked_in}
use Rattle.tables.specs.Rooms.{tables_in as tables_any}
use Rattle.states.specs.Filling.{starts_empty_of}
use Rattle.nodes.specs.Starts.{aside_at_start}
use Rattle.estimate.specs.Working.{work_at, start_of, InRange, Ready, Startable}
use Rattle.words.proofs.Tables.{fits_table}
use Rattle.tables.proofs.Nodes.{tables_in_kept, tables_in_at, seal_table, seal_before}
use Rattle.tables.proofs.Settling.{stands_work, some_units, table_left, next_work, number_first, number_next, tables_copied, first_copied}
use Rattle.tables.proofs.Inputs.{every_among}

-- ---- what node j starts from

module _ (K j a₀ : ℕ) (T₀ : List State) where
  -- one table more is joined, by the entry of that number
  pub fit_turn : (Q : Entries) (number : ℕ) (R R' : List ℕ) (p n a n' a' m : ℕ) (ws ws' : List ℕ) → R ≡ p ∷ R' → p < j → m ≡ filled (slot_of p (table_of ws))
      → take (j * 64) (table_of ws) ≡ take (j * 64) T₀
      → InPlace (join_one states (Q number) K (work_at (j * 64) n a ws) (take m (drop (p * 64) (table_of ws)))) (j * 64) n' a' (table_of ws) (table_of ws')
      → (f f' B : Bool) → (f && joins_fit (behind number Q) K (worked_in j a₀ T₀) R (work_at (j * 64) n a ws)) ≡ B
      → f' ≡ (f && entry_fits listing (Q number) (work_at (j * 64) n a ws).table (take m (drop (p * 64) (table_of ws))))
      → (f' && joins_fit (behind (number + 1) Q) K (worked_in j a₀ T₀) R' (work_at (j * 64) n' a' ws')) ≡ B
  unfolding joins_fit_any
  fit_turn Q number R R' p n a n' a' m ws ws' r l c e g f f' B h q =
      ap₂ ◌&&◌ (q ∙ ap₂ (λ (x : Entry) (U : List State). f && entry_fits listing x (work_at (j * 64) n a ws).table U) (sym (number_first Q number)) (table_left states j a₀ T₀ p m (table_of ws) l c e))
      (fit_alike states K (worked_in j a₀ T₀) (behind (number + 1) Q) (later (behind number Q)) (number_next Q number) R' (work_at (j * 64) n' a' ws')
      ∙ ap (joins_fit (later (behind number Q)) K (worked_in j a₀ T₀) R') (next_work states j a₀ T₀ K Q number R R' p n a n' a' m (table_of ws) (table_of ws') r l c e g))
      ∙ and_three f _ _
      ∙ sym (ap (λ (is : List ℕ). f && joins_fit (behind number Q) K (worked_in j a₀ T₀) is (work_at (j * 64) n a ws)) r) ∙ h
    where
      and_three : (a b c : Bool) → (a && b && c) ≡ (a && (b && c))
      and_three true b c = refl
      and_three false b c = refl

  -- all are joined
  pub all_fit_lem : (q : Entries) (R : List ℕ) (w : Work) (f B : Bool) → R ≡ [] → (f && joins_fit q K (worked_in j a₀ T₀) R w) ≡ B → f ≡ B
  unfolding joins_fit_any
  all_fit_lem q R w f B r k = sym (and-true f) ∙ sym (ap (λ (is : List ℕ). f && joins_fit q K (worked_in j a₀ T₀) is w) r) ∙ k

  -- a node without predecessors has no joins
  pub none_fit : (Q : Entries) (R : List ℕ) → R ≡ [] → true ≡ enter_fits Q K (worked_in j a₀ T₀) R
  unfolding enter_fits_any
  none_fit Q R r = rw r

  -- the first predecessor's table is copied, and the others are joined to it
  pub some_fit : (Q : Entries) (f : Bool) (R R' : List ℕ) (p m : ℕ) (ws₁ : List ℕ) → p < j → j < 64 → 5184 ≤ length T₀ → m ≡ filled (slot_of p T₀)
      → table_of ws₁ ≡ paste T₀ (j * 64) (drop (p * 64) T₀) m → R ≡ p ∷ R'
      → f ≡ (true && joins_fit Q K (worked_in j a₀ (table_of ws₁)) R' (work_at (j * 64) m a₀ ws₁)) → f ≡ enter_fits Q K (worked_in j a₀ T₀) R
  unfolding enter_fits_any
  some_fit Q f R R' p m ws₁ l node long c q r h =
      h
      ∙ ap₂ (λ (d : Worked) (v : Work). joins_fit Q K d R' v) (tables_copied states j a₀ T₀ p m (table_of ws₁) l node long c q) (first_copied states j a₀ T₀ p m (table_of ws₁) l node long c q)
      ∙ rw r

-- ---- one node

-- no more ways may be filled at the start than there are
start_few : (c : Cache) (ts : List ℕ) (K : ℕ) → InRange c ts K → (j : ℕ) → filled_at (start_of c) j ≤ c.ways
start_few c ts K r j = go (starts_empty_of c)
  where
    go : (b : Bool) → filled_at (evenly c.sets (cond b 0 c.ways)) j ≤ c.ways
    go true = le_trans (evenly_most c.sets 0 (counts_few c.sets r.known_sets) (omega arith) j) (omega arith)
    go false = evenly_most c.sets c.ways (counts_few c.sets r.known_sets) (omega (arith, r.few_ways)) j

module _ (Q : Entries) (c : Cache) (ts : List ℕ) (K M j a : ℕ) (es ws : List ℕ) (s : Startable c ts K M j a es ws) where
  -- what it starts from can be worked on
  pub entered_ready : (n a' : ℕ) (ws₁ : List ℕ) → length ws₁ ≡ length ws
      → InPlace (enter_by Q K (start_of c) (worked_in j a (table_of ws)) (predecessors (edges_of es) j)) (j * 64) n a' (table_of ws) (table_of ws₁) → Ready c ts K M (j * 64) n a' ws₁
  entered_ready n a' ws₁ e g =
      record {
        ranges = s.ranges;
        room = rw e s.room;
        slot = omega (arith, s.node);
        count = omega (arith, g.stands.count, t.short, s.ranges.few_states);
        aside = rw g.stands.aside (aside_enter K (worked_in j a (table_of ws)) Q (start_of c) (predecessors (edges_of es) j) s.aside);
        table = rw g.stands.table t;
      }
    where
      left : (p : ℕ) → among (predecessors (edges_of es) j) p ≡ true → Table c.ways c.sets ts K M (table_at (worked_in j a (table_of ws)) p)
      left p e = let l = among_every (λ p. p < j) (predecessors (edges_of es) j) p e s.lower in rw (tables_in_at listing j (table_of ws) p l) (s.tables p l)

      t : Table c.ways c.sets ts K M (enter_by Q K (start_of c) (worked_in j a (table_of ws)) (predecessors (edges_of es) j)).table
      t =
          table_enter c.ways c.sets ts K s.ranges.some_ways s.ranges.few_ways s.ranges.some_states M (worked_in j a (table_of ws)) Q (start_of c)
          (start_few c ts K s.ranges) (predecessors (edges_of es) j) left

-- its run leaves a table
module _ (c : Cache) (ts : List ℕ) (K p n a : ℕ) (l : Last) (bs ws : List ℕ) (short : length bs ≤ 4096) (r : Ready c ts K (4096 - length bs) p n a ws) where
  node_table_lem : Table c.ways c.sets ts K 4096 (run c.ways c.sets K ts l bs (work_at p n a ws)).table
  node_table_lem =
      table_wider c.ways c.sets ts K (length bs + (4096 - length bs)) 4096 _ (omega arith)
      (table_run c.ways c.sets K ts r.ranges.some_ways r.ranges.few_ways (counts_some c.sets r.ranges.known_sets) (counts_few c.sets r.ranges.known_sets)
      r.ranges.some_states (4096 - length bs) l bs (work_at p n a ws) r.table)

  pub node_few : (m b : ℕ) (T : List State) → InPlace (run c.ways c.sets K ts l bs (work_at p n a ws)) p m b (table_of ws) T → m ≤ 64
  node_few m b T g = omega (arith, g.stands.count, node_table_lem.short, r.ranges.few_states)

-- which is found again in its slot
pub node_done : (Q : Entries) (c : Cache) (ts : List ℕ) (K j a n a₁ m b : ℕ) (l : Last) (bs es ws ws₁ ws₂ : List ℕ) (T : List State) → length bs ≤ 4096
    → Startable c ts K (4096 - length bs) j a es ws
    → length ws₁ ≡ length ws → InPlace (enter_by Q K (start_of c) (worked_in j a (table_of ws)) (predecessors (edges_of es) j)) (j * 64) n a₁ (table_of ws) (table_of ws₁)
    → length ws₂ ≡ length ws₁ → InPlace (run c.ways c.sets K ts l bs (work_at (j * 64) n a₁ ws₁)) (j * 64) m b (table_of ws₁) (table_of ws₂)
    → T ≡ paste (table_of ws₂) (j * 64 + m) (replicate 64 no_state) (64 - m)
    → NodeDone (run c.ways c.sets K ts l bs (enter_by Q K (start_of c) (worked_in j a (table_of ws)) (predecessors (edges_of es) j))) j b (table_of ws) T
node_done Q c ts K j a n a₁ m b l bs es ws ws₁ ws₂ T short s e g f h q =
    rw (← stands_work _ (j * 64) n a₁ (table_of ws) (table_of ws₁) g)
    record {
      table = seal_table listing (table_of ws₂) T X j m room few h.stands.count h.stands.table q states_lawful (some_units listing _ X t.shaped);
      aside = h.stands.aside;
      before = seal_before listing (table_of ws₂) T X j m room few h.stands.count h.stands.table q ∙ h.before ∙ g.before;
    }
  where
    X : List State
    X = (run c.ways c.sets K ts l bs (work_at (j * 64) n a₁ ws₁)).table

    r : Ready c ts K (4096 - length bs) (j * 64) n a₁ ws₁
    r = entered_ready Q c ts K (4096 - length bs) j a es ws s n a₁ ws₁ e g

    t : Table c.ways c.sets ts K 4096 X
    t = node_table_lem c ts K (j * 64) n a₁ l bs ws₁ short r

    few : m ≤ 64
    few = node_few c ts K (j * 64) n a₁ l bs ws₁ short r m b (table_of ws₂) h

    room : j * 64 + 64 ≤ length (table_of ws₂)
    room = omega (arith, s.node, fits_table ws₂ 5184 (omega (arith, f, e, s.room)))

-- ---- one node after the other

-- the cache of an input
abbrev pub cache_of : Input → Cache
cache_of i = cache i.sets i.ways i.revision i.start

pub nodes_start : (Q : Entries) (i : Input) (T : List State) (a : ℕ) → a ≡ aside_at_start
    → (worked_in 0 a T ≡ worked_by Q i 0) × (true ≡ all_fit Q i 0) × (0 ≡ joins_to (edges_of i.edges) 0)
unfolding worked_any all_fit_any tables_any joins_to
nodes_start Q i T a e = (rw e refl, refl, refl)

module _ (Q : Entries) (i : Input) (ok : Checked i) (j : ℕ) (l : j < nodes i) where
  -- it can be worked where the nodes before it are
  pub node_startable : (a m : ℕ) (ws : List ℕ) → worked_in j a (table_of ws) ≡ worked_by Q i j → 25920 ≤ length ws → m ≡ length (run_of i j)
      → Startable (cache_of i) i.tracked i.limit (4096 - m) j a i.edges ws
  node_startable a m ws d room e =
      record {
        ranges = record { some_ways = ok.some_ways; few_ways = ok.few_ways; known_sets = ok.known_sets; few_tracked = ok.few_tracked; some_states = ok.some_states; few_states = ok.few_states };
        room = room;
        node = omega (arith, ok.few_nodes, l);
        aside = subst (λ (d : Worked). d.aside ≤ whole) (sym d) (aside_worked Q i j);
        lower = every_among (λ p. p < j) (predecessors (edges_of i.edges) j) (λ p e. (predecessor_lower i ok p j e).0);
        tables = λ p k. rw (tables p k)
            (table_wider i.ways i.sets i.tracked i.limit (offset i.lengths j) (4096 - m) _ (omega (arith, e, run_long i ok j l, run_within i ok j l, ok.few_accesses))
            (every_node Q i ok j (omega arith) p k));
      }
    where
      tables : (p : ℕ) → p < j → table_in p (table_of ws) ≡ node_table Q i p
      tables p k = sym (tables_in_at listing j (table_of ws) p k) ∙ ap (λ (d : Worked). table_at d p) d ∙ table_stays Q i j p k

  -- and then one more is
  pub nodes_next : (a b : ℕ) (l : Last) (T T' : List State) → worked_in j a T ≡ worked_by Q i j → l ≡ last_before (lasts_to i j) (predecessors (edges_of i.edges) j)
      → NodeDone (run i.ways i.sets i.limit i.tracked l (run_of i j) (enter_by (behind (joins_to (edges_of i.edges) j) Q) i.limit (start_of (cache_of i)) (worked_in j a T) (predecessors (edges_of i.edges) j))) j b T T'
      → worked_in (suc j) b T' ≡ worked_by Q i (suc j)
  unfolding worked_any node_any at_start tables_any
  nodes_next a b l T T' d e h =
      ap₂ (λ (X : List (List State)) (b : ℕ). record { tables = X; aside = b })
      (ap₂ (λ (X : List (List State)) (Y : List State). X ++ (Y ∷ [])) (tables_in_kept listing j (j * 64) T T' (omega arith) h.before) h.table) h.aside
      ∙ ap₂ (λ (d : Worked) (l : Last). let w = run i.ways i.sets i.limit i.tracked l (run_of i j) (enter_by (behind (joins_to (edges_of i.edges) j) Q) i.limit (start_of (cache_of i)) d (predecessors (edges_of i.edges) j)) in
      record { tables = d.tables ++ (w.table ∷ []); aside = w.aside }) d e

  -- and so is what is handed in for its joins
  pub fits_next : (a : ℕ) (T : List State) (f f' : Bool) → worked_in j a T ≡ worked_by Q i j → f ≡ all_fit Q i j
      → f' ≡ (f && enter_fits (behind (joins_to (edges_of i.edges) j) Q) i.limit (worked_in j a T) (predecessors (edges_of i.edges) j)) → f' ≡ all_fit Q i (suc j)
  unfolding all_fit_any
  fits_next a T f f' d e q =
      q ∙ ap₂ (λ (b : Bool) (d : Worked). b && enter_fits (behind (joins_to (edges_of i.edges) j) Q) i.limit d (predecessors (edges_of i.edges) j)) e d
