-- A graph, along a path: each node's table is worth no less than its predecessors' are along its run, whichever edges the path takes, nor where less is known of the last
-- block. A table's misses are at most the accesses of the longest path to its node.
use Rattle.std.specs.Prelude.{None}
use mathlib.Core.Path.{◌≡◌, refl, sym, ap, ◌∙◌}
use mathlib.Core.Logic.{◌⊎◌, inl, inr}
use mathlib.Core.Bool.{true, true≢false}
use mathlib.Core.List.{List, [], ◌∷◌, ◌++◌}
use Prim.Native.Nat.{ℕ, zero, suc, ◌+◌, ◌-◌, ◌*◌, ◌^◌, ◌≤◌, ◌<◌, zero-le}
use native.Mathlib.Nat.{le_refl, le_trans, mul-le-mul_left, add_comm, eq-or-lt_of_le, le_of_suc-le-suc, not-suc-le-zero}
use native.Mathlib.Omega.{arith}
use lib.ListN.{length, get_or, length-append, get_or-append}
use lib.Seq.{get_or_at}
use lib.Pow.{pow-add}
use Rattle.rules.specs.declared.Filled.{Filled}
use Rattle.rules.specs.Units.{whole}
use Rattle.rules.specs.AnyTable.{total as total_of}
use Rattle.rules.specs.Contents.{among, last_after, Last}
use Rattle.rules.specs.Filling.{filled_at, at_start}
use Rattle.rules.specs.Input.{Input, nodes, run_of, edges_of, predecessors}
use Rattle.rules.specs.Lasts.{last_before, node_last, lasts_to}
use Rattle.rules.specs.Longest.{longest_before, up_to, longest}
use Rattle.rules.specs.Shape.{Shaped}
use Rattle.rules.proofs.Lists.{every_weaker}
use Rattle.rules.proofs.Fold.{states_start}
use Rattle.rules.proofs.Table.{Weight}
use Rattle.rules.proofs.Refusals.{Checked, predecessor_lower}
use Rattle.rules.proofs.Nodes.{first_and_others, first_or_other, run_long, each_node}
use Rattle.rules.proofs.Graph.{last_of, last_stays, Vaguer, vaguer_trans, last_before_lem, start_most}
use Rattle.rules.proofs.Longest.{before_each, longest_is}
use Rattle.promises.specs.Paths.{is_path, accesses_of}
use Rattle.promises.proofs.Value.{value_vaguer, value_append, targets_of, targets_append}
use Rattle.promises.proofs.Paths.{along_path}
use Rattle.promises.proofs.AnyPath.{no_predecessors, known, first_known, last_on, last_append}
use Rattle.promises.proofs.Graphs.{worth_more}
use Rattle.tight_rules.specs.Asked.{Asked, graph_of}
use Rattle.tight_rules.specs.Rows.{Rows, begun}
use Rattle.tight_rules.specs.Run.{run}
use Rattle.tight_rules.specs.Join.{join}
use Rattle.tight_rules.specs.Live.{live_after, live_before}
use Rattle.tight_rules.specs.Graph.{Tables, with_aside, no_rows, brought, join_all, enter, node, worked, finished}
use Rattle.tight_rules.proofs.Moves.{Fit, worth_of_all, Good, Sure, sure_narrowed}
use Rattle.tight_rules.proofs.Runs.{before, good_before, run_fit, run_low}
use Rattle.tight_rules.proofs.Joins.{join_fit, join_low}

-- a table in shape after M accesses is so after more
pub fit_wider : (N Z : ℕ) (ts : List ℕ) (M L : ℕ) (r : Rows) → M ≤ L → Fit N Z ts M r → Fit N Z ts L r
fit_wider N Z ts M L r l fit =
    record {
      shaped = every_weaker (Shaped N Z ts M) (Shaped N Z ts L) (λ s p. (record { masked = p.0.masked; few = le_trans p.0.few l; small = p.0.small }, p.1)) r.kept.table fit.shaped;
      full = fit.full;
    }

-- whatever is set aside
fit_aside : (N Z : ℕ) (ts : List ℕ) (M a : ℕ) (r : Rows) → Fit N Z ts M r → Fit N Z ts M (with_aside a r)
fit_aside N Z ts M a r fit = record { shaped = fit.shaped; full = fit.full }

pub begun_fit : (N Z : ℕ) (ts : List ℕ) (F : Filled) → ((j : ℕ) → filled_at F j ≤ N) → Fit N Z ts 0 (begun F)
unfolding total_of
begun_fit N Z ts F most = record { shaped = (((states_start N Z ts F most).shape, omega arith), tt); full = omega arith }

-- ---- what a node starts from

module _ (N Z : ℕ) (ts : List ℕ) (K k L M : ℕ) (d : Tables) where
  abbrev rows_at : ℕ → Rows
  rows_at p = get_or d.tables p no_rows

  abbrev AllFit : List ℕ → Type 0
  AllFit ps = (j : ℕ) → among ps j ≡ true → Fit N Z ts M (rows_at j)

  -- r is worth no less than q, to every good weight
  abbrev Stands : Rows → Rows → Type 0
  Stands q r = (f : Weight) (B : ℕ) → Good N Z ts f B → worth_of_all f B q ≤ worth_of_all f B r

  -- the weight 0, for what is so whatever the weight
  abbrev none : Weight
  none C m F = 0

  good_none : Good N Z ts none 0
  good_none = record { rises = λ C D m n F G s l h r. le_refl 0; most = λ C m F r. le_refl 0 }

  brought_sure : (f : Weight) (B : ℕ) (good : Good N Z ts f B) (p : ℕ) → Fit N Z ts M (rows_at p) → Sure N Z ts M f B good L (rows_at p) (brought L d p)
  brought_sure f B good p fit = sure_narrowed N Z ts M f B good L (rows_at p).kept (rows_at p).lost fit

  brought_fit : (p : ℕ) → Fit N Z ts M (rows_at p) → Fit N Z ts M (brought L d p)
  brought_fit p fit = (brought_sure none 0 good_none p fit).fit

  join_all_stands : (ps : List ℕ) (r : Rows) → AllFit ps → Fit N Z ts M r
      → Fit N Z ts M (join_all K k L d ps r) × Stands r (join_all K k L d ps r) × ((j : ℕ) → among ps j ≡ true → Stands (rows_at j) (join_all K k L d ps r))
  unfolding join_all
  join_all_stands [] r h fit = (fit, λ f B g. le_refl _, λ j e. absurd (true≢false (sym e)))
  join_all_stands (p ∷ ps) r h fit =
      let (here, rest) = first_and_others (λ j. Fit N Z ts M (rows_at j)) p ps h in
      let in-shape = brought_fit p here in
      let v = join K k r.kept.aside r (brought L d p) in
      let (x, y, z) = join_all_stands ps v rest (join_fit N Z ts M K k r.kept.aside r (brought L d p) fit in-shape none 0 good_none) in (
        x,
        λ f B g. le_trans (join_low N Z ts M K k r.kept.aside r (brought L d p) fit in-shape f B g).0 (y f B g),
        first_or_other (λ j. Stands (rows_at j) (join_all K k L d ps v)) p ps
            (λ f B g. le_trans (brought_sure f B g p here).low (le_trans (join_low N Z ts M K k r.kept.aside r (brought L d p) fit in-shape f B g).1 (y f B g))) z,
      )

  module _ (F : Filled) (most : (j : ℕ) → filled_at F j ≤ N) where
    pub enter_fit : (ps : List ℕ) → AllFit ps → Fit N Z ts M (enter K k L F d ps)
    unfolding enter
    enter_fit [] h = fit_aside N Z ts M d.aside (begun F) (fit_wider N Z ts 0 M (begun F) zero-le (begun_fit N Z ts F most))
    enter_fit (p ∷ ps) h =
        let (here, rest) = first_and_others (λ j. Fit N Z ts M (rows_at j)) p ps h in
        (join_all_stands ps (with_aside d.aside (brought L d p)) rest (fit_aside N Z ts M d.aside (brought L d p) (brought_fit p here))).0

    pub enter_stands : (ps : List ℕ) → AllFit ps → (j : ℕ) → among ps j ≡ true → Stands (rows_at j) (enter K k L F d ps)
    unfolding enter
    enter_stands [] h j e = absurd (true≢false (sym e))
    enter_stands (p ∷ ps) h j e =
        let (here, rest) = first_and_others (λ j. Fit N Z ts M (rows_at j)) p ps h in
        let r = with_aside d.aside (brought L d p) in
        let (x, y, z) = join_all_stands ps r rest (fit_aside N Z ts M d.aside (brought L d p) (brought_fit p here)) in
        first_or_other (λ j. Stands (rows_at j) (join_all K k L d ps r)) p ps (λ f B g. le_trans (brought_sure f B g p here).low (y f B g)) z j e

-- ---- the nodes

-- node j's table
abbrev pub node_rows : Asked → ℕ → Rows
node_rows a j = node a j (worked a j)

length_worked : (a : Asked) (n : ℕ) → length (worked a n).tables ≡ n
unfolding worked
length_worked a zero = refl
length_worked a (suc n) = omega (arith, length-append (worked a n).tables (node_rows a n ∷ []), length_worked a n)

-- it stays as it was made
rows_stay : (a : Asked) (n j : ℕ) → j < n → get_or (worked a n).tables j no_rows ≡ node_rows a j
unfolding worked
rows_stay a zero j l = absurd (not-suc-le-zero l)
rows_stay a (suc n) j l = go (eq-or-lt_of_le (le_of_suc-le-suc l)) (rows_stay a n j)
  where
    go : (j ≡ n) ⊎ (j < n) → (j < n → get_or (worked a n).tables j no_rows ≡ node_rows a j)
        → get_or ((worked a n).tables ++ (node_rows a n ∷ [])) j no_rows ≡ node_rows a j
    go (inl e) ih = rw e (get_or_at (worked a n).tables (node_rows a n) [] no_rows n (length_worked a n))
    go (inr h) ih = get_or-append (worked a n).tables (node_rows a n ∷ []) no_rows j (omega (arith, length_worked a n)) ∙ ih h

pub finished_rows : (a : Asked) → 0 < length a.lengths → finished a ≡ node_rows a (length a.lengths - 1)
unfolding finished
finished_rows a h = rows_stay a (length a.lengths) (length a.lengths - 1) (omega arith)

module _ (a : Asked) (ok : Checked (graph_of a)) where
  abbrev i : Input
  i = graph_of a

  abbrev N : ℕ
  N = a.ways

  abbrev Z : ℕ
  Z = a.sets

  abbrev ts : List ℕ
  ts = a.tracked

  abbrev preds : ℕ → List ℕ
  preds j = predecessors (edges_of a.edges) j

  -- a weight before the accesses bs, where p was accessed directly before
  abbrev pub ahead : Last → List ℕ → Weight → Weight
  ahead p bs f = before N Z ts ok.few_ways ok.some_sets ok.few_sets p bs f

  -- what node j starts from
  abbrev entered : ℕ → Rows
  entered j = enter a.contents (length a.tracked) (live_before i j) (at_start i) (worked a j) (preds j)

  -- the predecessors' tables, after at most M accesses
  module _ (M j : ℕ) (fits : (p : ℕ) → among (preds j) p ≡ true → Fit N Z ts M (node_rows a p)) where
    held : (p : ℕ) → among (preds j) p ≡ true → Fit N Z ts M (get_or (worked a j).tables p no_rows)
    held p e = rw (rows_stay a j p (predecessor_lower i ok p j e).0) (fits p e)

    entered_fit : Fit N Z ts M (entered j)
    entered_fit = enter_fit N Z ts a.contents (length ts) (live_before i j) M (worked a j) (at_start i) (start_most i ok) (preds j) held

    node_fit : j < nodes i → Fit N Z ts (length (run_of i j) + M) (node_rows a j)
    unfolding node
    node_fit l =
        run_fit N Z a.contents a.cells ts ok.some_ways ok.few_ways ok.some_sets ok.few_sets (live_after i j) (λ C m F. 0) 0
        (good_none N Z ts 0 0 0 0 (worked a 0)) M (known i j) (run_of i j) (entered j) entered_fit

    node_low : (f : Weight) (B : ℕ) → Good N Z ts f B
        → worth_of_all (ahead (known i j) (run_of i j) f) (N ^ length (run_of i j) * B) (entered j) ≤ N ^ length (run_of i j) * worth_of_all f B (node_rows a j)
    unfolding node
    node_low f B good =
        run_low N Z a.contents a.cells ts ok.some_ways ok.few_ways ok.some_sets ok.few_sets (live_after i j) f B good M (known i j) (run_of i j) (entered j) entered_fit

    -- from each predecessor
    entered_low : (f : Weight) (B : ℕ) → Good N Z ts f B → (p : ℕ) → among (preds j) p ≡ true → worth_of_all f B (node_rows a p) ≤ worth_of_all f B (entered j)
    entered_low f B good p e =
        rw (rows_stay a j p (predecessor_lower i ok p j e).0) at
        (enter_stands N Z ts a.contents (length ts) (live_before i j) M (worked a j) (at_start i) (start_most i ok) (preds j) held p e f B good)

  -- every node's table has at most the misses of the longest path to it
  pub node_within : (n : ℕ) → n < nodes i → Fit N Z ts (up_to i n) (node_rows a n)
  node_within =
      each_node i ok (λ n. Fit N Z ts (up_to i n) (node_rows a n))
      (λ n l h. rw (add_comm (longest_before i n) (get_or i.lengths n 0), ← run_long i ok n l)
      (node_fit (longest_before i n) n (λ p e. fit_wider N Z ts (up_to i p) (longest_before i n) (node_rows a p) (before_each i ok n p e) (h p e)) l))

  pub finished_fit : Fit N Z ts (longest i) (finished a)
  finished_fit =
      rw (finished_rows a ok.some_nodes, longest_is i ok.some_nodes) (node_within (nodes i - 1) (omega (arith, ok.some_nodes)))

  -- ---- along a path

  -- the accesses p lead from the start to r, and o is known of the last of them
  record Covers (p : List ℕ) (r : Rows) (o : Last) : Type 0 where
    stands : (f : Weight) (B : ℕ) → Good N Z ts f B → whole * ahead None p f 0 0 (at_start i) ≤ N ^ length p * worth_of_all f B r
    last : Vaguer o (last_after None p)

  -- and on to the next node
  covers_on : (p : List ℕ) (q b : ℕ) → among (preds b) q ≡ true → Covers p (node_rows a q) (last_of i q) → Covers (p ++ run_of i b) (node_rows a b) (last_of i b)
  unfolding node_last
  covers_on p q b e c = record { stands = on; last = rw (last_append None p bs) (last_on (known i b) (last_after None p) bs less) }
    where
      bs : List ℕ
      bs = run_of i b

      q<b : q < b
      q<b = (predecessor_lower i ok q b e).0

      here : b < nodes i
      here = (predecessor_lower i ok q b e).1

      less : Vaguer (known i b) (last_after None p)
      less = vaguer_trans _ _ _ (rw (last_stays i b q q<b) at (last_before_lem (lasts_to i b) (preds b) q e)) c.last

      before_b : (x : ℕ) → among (preds b) x ≡ true → Fit N Z ts (longest_before i b) (node_rows a x)
      before_b x h =
          fit_wider N Z ts (up_to i x) (longest_before i b) (node_rows a x) (before_each i ok b x h)
          (node_within x (omega (arith, (predecessor_lower i ok x b h).0, here)))

      on : (f : Weight) (B : ℕ) → Good N Z ts f B → whole * ahead None (p ++ bs) f 0 0 (at_start i) ≤ N ^ length (p ++ bs) * worth_of_all f B (node_rows a b)
      on f B good =
          rw (
            targets_append Z ts None p bs,
            value_append f N (targets_of Z ts None p) (targets_of Z ts (last_after None p) bs),
            length-append p bs,
            pow-add N (length p) (length bs),
            regroup (worth_of_all f B (node_rows a b)),
          )
          (le_trans (c.stands (ahead (last_after None p) bs f) D (good_ahead (last_after None p)))
          (mul-le-mul_left (N ^ length p)
          (le_trans vague (le_trans (entered_low (longest_before i b) b before_b (ahead (known i b) bs f) D (good_ahead (known i b)) q e)
          (node_low (longest_before i b) b before_b f B good)))))
        where
          D : ℕ
          D = N ^ length bs * B

          regroup : (n : ℕ) → N ^ length p * N ^ length bs * n ≡ N ^ length p * (N ^ length bs * n)
          regroup n = omega arith

          good_ahead : (o : Last) → Good N Z ts (ahead o bs f) D
          good_ahead o = good_before N Z ts ok.few_ways ok.some_sets ok.few_sets f B good o bs

          -- where less is known of the last block
          vague : worth_of_all (ahead (last_after None p) bs f) D (node_rows a q) ≤ worth_of_all (ahead (known i b) bs f) D (node_rows a q)
          vague =
              omega (
                arith,
                worth_more N Z ts (longest_before i b) (ahead (last_after None p) bs f) (ahead (known i b) bs f)
                    (value_vaguer N Z ts ok.few_ways f good.rises ok.some_sets ok.few_sets (known i b) (last_after None p) less bs)
                    (node_rows a q).kept.table (before_b q e).shaped,
              )

  -- node 0 starts from the start
  pub node_start : node_rows a 0 ≡ run N Z a.contents a.cells ts (live_after i 0) None (run_of i 0) (begun (at_start i))
  unfolding node worked enter last_before
  node_start =
      ap (λ (ps : List ℕ). run N Z a.contents a.cells ts (live_after i 0) (last_before (lasts_to i 0) ps) (run_of i 0)
      (enter a.contents (length ts) (live_before i 0) (at_start i) (worked a 0) ps)) (no_predecessors i ok)

  pub path_covers : (path : List ℕ) → is_path i path ≡ true → (f : Weight) (B : ℕ) → Good N Z ts f B
      → whole * ahead None (accesses_of i path) f 0 0 (at_start i) ≤ N ^ length (accesses_of i path) * worth_of_all f B (finished a)
  unfolding node_last
  path_covers path h =
      rw (finished_rows a ok.some_nodes) (along_path i (λ p j. Covers p (node_rows a j) (last_of i j)) covers_on start path h).stands
    where
      start : Covers (run_of i 0) (node_rows a 0) (last_of i 0)
      start =
          record {
            stands = λ f B good.
                rw node_start
                (omega (
                  arith,
                  run_low N Z a.contents a.cells ts ok.some_ways ok.few_ways ok.some_sets ok.few_sets (live_after i 0) f B good 0 None (run_of i 0) (begun (at_start i))
                      (begun_fit N Z ts (at_start i) (start_most i ok)),
                ));
            last = last_on (known i 0) None (run_of i 0) first_vague;
          }
        where
          first_vague : Vaguer (known i 0) None
          first_vague = inl (first_known i ok)
