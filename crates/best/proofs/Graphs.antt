-- A graph: that a node can be worked and what its work leaves in its slot, and one node after the other.
use Rattle.std.specs.Prelude.{None}
use mathlib.Core.Path.{◌≡◌, refl, sym, ap, ap₂, ◌∙◌}
use mathlib.Core.Bool.{true}
use mathlib.Core.List.{List, [], ◌∷◌, ◌++◌}
use Prim.Native.Nat.{ℕ, suc, ◌+◌, ◌-◌, ◌*◌, ◌≤◌, ◌<◌}
use native.Mathlib.Omega.{arith}
use lib.ListN.{length, replicate}
use lib.Seq.{paste}
use Rattle.rules.specs.declared.BestState.{BestState}
use Rattle.rules.specs.Contents.{among}
use Rattle.rules.specs.AnyTable.{node_by as node_any, worked_by as worked_any}
use Rattle.rules.specs.Best.{listing}
use Rattle.rules.specs.Lasts.{last_before, lasts_to}
use Rattle.rules.specs.Input.{Input, nodes, offset, run_of, edges_of, predecessors}
use Rattle.rules.proofs.Best.{best_lawful}
use Rattle.rules.proofs.Lookup.{among_every}
use Rattle.rules.proofs.Nodes.{run_within, run_long}
use Rattle.rules.proofs.Refusals.{counts_some, counts_few, Checked, predecessor_lower}
use Rattle.words.specs.BestTables.{table_of}
use Rattle.words.proofs.BestTables.{fits_table}
use Rattle.best.specs.Tables.{no_state, begins, Work, run, Worked, table_at, enter, worked}
use Rattle.best.specs.Rooms.{InPlace, NodeDone, table_in, worked_in}
use Rattle.tables.specs.Rooms.{tables_in as tables_any}
use Rattle.best.specs.Working.{work_at, Table, Ready, Startable}
use Rattle.best.proofs.Laws.{table_wider, table_run, node_table, table_stays, table_enter, every_node, run_last}
use Rattle.tables.proofs.Nodes.{tables_in_kept, tables_in_at, seal_table, seal_before}
use Rattle.tables.proofs.Settling.{stands_work, some_units}
use Rattle.tables.proofs.Inputs.{every_among}

-- ---- one node

module _ (Z N : ℕ) (ts : List ℕ) (K M j : ℕ) (es ws : List ℕ) (s : Startable Z N ts K M j es ws) where
  -- what it starts from can be worked on
  pub entered_ready : (n : ℕ) (ws₁ : List ℕ) → length ws₁ ≡ length ws
      → InPlace (enter K begins (worked_in j (table_of ws)) (predecessors (edges_of es) j)) (j * 64) n (table_of ws) (table_of ws₁) → Ready Z N ts K M (j * 64) n ws₁
  entered_ready n ws₁ e g =
      record {
        ranges = s.ranges;
        room = rw e s.room;
        slot = omega (arith, s.node);
        count = omega (arith, g.stands.count, t.short, s.ranges.few_states);
        table = rw g.stands.table t;
      }
    where
      left : (p : ℕ) → among (predecessors (edges_of es) j) p ≡ true → Table N Z ts K M (table_at (worked_in j (table_of ws)) p)
      left p e = let l = among_every (λ p. p < j) (predecessors (edges_of es) j) p e s.lower in rw (tables_in_at listing j (table_of ws) p l) (s.tables p l)

      t : Table N Z ts K M (enter K begins (worked_in j (table_of ws)) (predecessors (edges_of es) j)).table
      t = table_enter N Z ts s.ranges.few_ways K s.ranges.some_states M (worked_in j (table_of ws)) (predecessors (edges_of es) j) left

-- its run leaves a table
module _ (Z N : ℕ) (ts : List ℕ) (K p n : ℕ) (bs ws : List ℕ) (short : length bs ≤ 4096) (r : Ready Z N ts K (4096 - length bs) p n ws) where
  node_table_lem : Table N Z ts K 4096 (run N Z K ts None bs (work_at p n ws)).table
  node_table_lem =
      table_wider N Z ts r.ranges.few_ways K (length bs + (4096 - length bs)) 4096 _ (omega arith)
      (table_run N Z ts r.ranges.few_ways K r.ranges.some_ways (counts_some Z r.ranges.known_sets) (counts_few Z r.ranges.known_sets)
      r.ranges.some_states (4096 - length bs) None bs (work_at p n ws) r.table)

  pub node_few : (m : ℕ) (T : List BestState) → InPlace (run N Z K ts None bs (work_at p n ws)) p m (table_of ws) T → m ≤ 64
  node_few m T g = omega (arith, g.stands.count, node_table_lem.short, r.ranges.few_states)

-- which is found again in its slot
pub node_done : (Z N : ℕ) (ts : List ℕ) (K j n m : ℕ) (bs es ws ws₁ ws₂ : List ℕ) (T : List BestState) → length bs ≤ 4096
    → Startable Z N ts K (4096 - length bs) j es ws
    → length ws₁ ≡ length ws → InPlace (enter K begins (worked_in j (table_of ws)) (predecessors (edges_of es) j)) (j * 64) n (table_of ws) (table_of ws₁)
    → length ws₂ ≡ length ws₁ → InPlace (run N Z K ts None bs (work_at (j * 64) n ws₁)) (j * 64) m (table_of ws₁) (table_of ws₂)
    → T ≡ paste (table_of ws₂) (j * 64 + m) (replicate 64 no_state) (64 - m)
    → NodeDone (run N Z K ts None bs (enter K begins (worked_in j (table_of ws)) (predecessors (edges_of es) j))) j (table_of ws) T
node_done Z N ts K j n m bs es ws ws₁ ws₂ T short s e g f h q =
    rw (← stands_work _ (j * 64) n _ (table_of ws) (table_of ws₁) g)
    record {
      table = seal_table listing (table_of ws₂) T X j m room few h.stands.count h.stands.table q best_lawful (some_units listing _ X t.shaped);
      aside = h.stands.aside;
      before = seal_before listing (table_of ws₂) T X j m room few h.stands.count h.stands.table q ∙ h.before ∙ g.before;
    }
  where
    X : List BestState
    X = (run N Z K ts None bs (work_at (j * 64) n ws₁)).table

    r : Ready Z N ts K (4096 - length bs) (j * 64) n ws₁
    r = entered_ready Z N ts K (4096 - length bs) j es ws s n ws₁ e g

    t : Table N Z ts K 4096 X
    t = node_table_lem Z N ts K (j * 64) n bs ws₁ short r

    few : m ≤ 64
    few = node_few Z N ts K (j * 64) n bs ws₁ short r m (table_of ws₂) h

    room : j * 64 + 64 ≤ length (table_of ws₂)
    room = omega (arith, s.node, fits_table ws₂ 5184 (omega (arith, f, e, s.room)))

-- ---- one node after the other

pub nodes_start : (i : Input) (T : List BestState) → worked_in 0 T ≡ worked i 0
unfolding worked_any tables_any
nodes_start i T = refl

module _ (i : Input) (ok : Checked i) (j : ℕ) (l : j < nodes i) where
  -- it can be worked where the nodes before it are
  pub node_startable : (m : ℕ) (ws : List ℕ) → worked_in j (table_of ws) ≡ worked i j → 25920 ≤ length ws → m ≡ length (run_of i j)
      → Startable i.sets i.ways i.tracked i.limit (4096 - m) j i.edges ws
  node_startable m ws d room e =
      record {
        ranges = record { some_ways = ok.some_ways; few_ways = ok.few_ways; known_sets = ok.known_sets; few_tracked = ok.few_tracked; some_states = ok.some_states; few_states = ok.few_states };
        room = room;
        node = omega (arith, ok.few_nodes, l);
        lower = every_among (λ p. p < j) (predecessors (edges_of i.edges) j) (λ p e. (predecessor_lower i ok p j e).0);
        tables = λ p k. rw (tables p k)
            (table_wider i.ways i.sets i.tracked ok.few_ways i.limit (offset i.lengths j) (4096 - m) _ (omega (arith, e, run_long i ok j l, run_within i ok j l, ok.few_accesses))
            (every_node i ok j (omega arith) p k));
      }
    where
      tables : (p : ℕ) → p < j → table_in p (table_of ws) ≡ node_table i p
      tables p k = sym (tables_in_at listing j (table_of ws) p k) ∙ ap (λ (d : Worked). table_at d p) d ∙ table_stays i j p k

  -- and then one more is
  pub nodes_next : (T T' : List BestState) → worked_in j T ≡ worked i j
      → NodeDone (run i.ways i.sets i.limit i.tracked None (run_of i j) (enter i.limit begins (worked_in j T) (predecessors (edges_of i.edges) j))) j T T'
      → worked_in (suc j) T' ≡ worked i (suc j)
  unfolding worked_any node_any tables_any
  nodes_next T T' d h =
      ap₂ (λ (X : List (List BestState)) (b : ℕ). record { tables = X; aside = b })
      (ap₂ (λ (X : List (List BestState)) (Y : List BestState). X ++ (Y ∷ [])) (tables_in_kept listing j (j * 64) T T' (omega arith) h.before) h.table) h.aside
      ∙ ap (λ (d : Worked). let w = run i.ways i.sets i.limit i.tracked None (run_of i j) (enter i.limit begins d (predecessors (edges_of i.edges) j)) in
      record { tables = d.tables ++ (w.table ∷ []); aside = w.aside }) d
      ∙ ap (λ (w : Work). record { tables = (worked i j).tables ++ (w.table ∷ []); aside = w.aside })
      (sym (run_last i.ways i.sets i.limit i.tracked (last_before (lasts_to i j) (predecessors (edges_of i.edges) j)) (run_of i j)
      (enter i.limit begins (worked i j) (predecessors (edges_of i.edges) j))))
