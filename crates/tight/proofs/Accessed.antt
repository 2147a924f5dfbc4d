-- What the code of an access leaves in a slot and its stage (Accessed) is what the row ends start from (Staged): the table after document 01's step, when the blocks that are dead
-- have left and light contents were emptied as the plan says. Cells are compared as sums (Access, Sent); a row is known by its number, and every mask that has units by its row.
use Rattle.std.specs.Prelude.{None}
use mathlib.Core.Path.{◌≡◌, refl, sym, ap, ap₂, ◌∙◌}
use mathlib.Core.Bool.{Bool, true, false, cond, ◌&&◌}
use mathlib.Core.Logic.{◌≢◌}
use mathlib.Core.List.{List, [], ◌∷◌, map, flat_map}
use Prim.Native.Nat.{ℕ, zero, suc, ◌+◌, ◌-◌, ◌^◌, ◌≤◌, ◌<◌}
use native.Mathlib.Nat.{le_refl, le_trans, pos_of_ne-zero}
use native.Mathlib.Omega.{arith}
use lib.Dec.{eqb, ltb}
use lib.ListN.{length}
use borrow.Author.Tests.{eqb-true, eqb-false, eq-eqb, lt-ltb, le-ltb, ltb-true}
use Rattle.rules.specs.declared.Filled.{Filled}
use Rattle.rules.specs.declared.State.{State}
use Rattle.rules.specs.declared.Target.{Target}
use Rattle.rules.specs.AnyTable.{access as access_of, total as total_of}
use Rattle.rules.specs.Contents.{places, hits, shared}
use Rattle.rules.specs.Filling.{fill_one}
use Rattle.rules.specs.Units.{whole}
use Rattle.rules.specs.Step.{successors, access}
use Rattle.rules.specs.Table.{units_of, total, Work}
use Rattle.rules.specs.Shape.{Every, Aimed, Shaped}
use Rattle.rules.proofs.Lists.{every_map, every_flat_map, every_weaker}
use Rattle.rules.proofs.Splitting.{more_most}
use Rattle.rules.proofs.Table.{every_add}
use Rattle.tight_rules.specs.Rows.{Rows, listed, contents, move, narrow, narrowed}
use Rattle.tight_rules.specs.Reduction.{reduced}
use Rattle.tight_rules.specs.Run.{alive, stepped}
use Rattle.tight_rules.proofs.Moves.{Fit, sure_narrowed, sure_reduced}
use Rattle.tight_rules.proofs.Few.{good_none}
use Rattle.tight_rules.proofs.Runs.{after_fit}
use Rattle.tight_rules.proofs.Limits.{access_few}
use Rattle.plan.specs.Plan.{Plan, relabelled, units_at, end_of, some as some_units_lem, present_in, planned}
use Rattle.plan.proofs.Reduced.{Tabled, Reduces, plan_reduces}
use Rattle.tight.specs.Access.{further}
use Rattle.tight_rows.specs.Rows.{if, comes_to}
use Rattle.tight.specs.Accessed.{hit_in, miss_in, sum_for, Accessed, Holding}
use Rattle.tight_rows.specs.Grid.{Grid, table_of, rows_of}
use Rattle.tight_rows.specs.Numbers.{some as some_of, rank_of}
use Rattle.tight_ends.specs.Stage.{Groups, Placed, Staged}
use Rattle.tight_rows.proofs.Cells.{Test, passes, units_where, is_cell, cell, where_alike, where_moved, move_rising, move_some, units_in_where}
use Rattle.tight_rows.proofs.Grids.{every_cell}
use Rattle.tight.proofs.Access.{landing, if_zero, same_number, after_full, grid_after}
use Rattle.tight_ends.proofs.Settled.{every_both}
use Rattle.tight.proofs.Sent.{misses_after, filled_after, follow_each, cell_sent, units_sent, column_sent}

-- ---- states that move

-- what is so of the misses of every state that moves
move_misses : (P : ℕ → Type 0) (h : State → State) (T : List State) → Every (λ s. P (h s).misses) T → Every (λ s. P s.misses) (move h T)
unfolding move
move_misses P h T all =
    every_add (λ s. P s.misses) (λ t s p. p) (map h T) [] (every_map (λ s. P (h s).misses) (λ s. units_of s ≢ 0 → P s.misses) h (λ s p n. p) T all) tt

-- each state is one of those whose contents f takes where it takes its own
each_counts : (f : ℕ → ℕ) (U T : List State) → ((q : Test) → units_where q T ≤ units_where q U) → Every (λ s. units_of s ≤ units_where (λ D m F. eqb (f D) (f s.mask)) U) T
unfolding units_where
each_counts f U [] most = tt
each_counts f U (s ∷ T) most = (
  le_trans (rw (eq-eqb (f s.mask) (f s.mask) refl) (omega arith)) (most (λ D m F. eqb (f D) (f s.mask))),
  each_counts f U T (λ q. le_trans (omega arith) (most q)),
)

-- after an access the misses are as before, or one more
access_within : (N : ℕ) (x : Target) (b n : ℕ) (T : List State) → Every (λ s. (b ≤ s.misses) × (s.misses < b + n)) T → Every (λ s. (b ≤ s.misses) × (s.misses ≤ b + n)) (access N x T)
unfolding access_of
access_within N x b n T all =
    every_add (λ s. (b ≤ s.misses) × (s.misses ≤ b + n)) (λ t s p. p) (flat_map (successors N x) T) []
    (every_flat_map (λ s. (b ≤ s.misses) × (s.misses < b + n)) (λ u. units_of u ≢ 0 → (b ≤ u.misses) × (u.misses ≤ b + n)) (successors N x)
    (λ s p. every_weaker (λ u. (u.misses ≡ misses_after N x s) × (u.filled ≡ filled_after N x s)) (λ u. units_of u ≢ 0 → (b ≤ u.misses) × (u.misses ≤ b + n))
    (λ u q z. go (hits x s.mask) s u p q.0) (successors N x s) (follow_each N x s)) T all) tt
  where
    go : (c : Bool) (s u : State) → (b ≤ s.misses) × (s.misses < b + n) → u.misses ≡ cond c s.misses (suc s.misses) → (b ≤ u.misses) × (u.misses ≤ b + n)
    go true s u (p, q) e = (omega arith, omega arith)
    go false s u (p, q) e = (omega arith, omega arith)

-- as many masks have units as the plan counts
rank_present : (n : ℕ) (ws : List ℕ) → rank_of (units_at ws) n ≡ present_in n ws
unfolding present_in
rank_present zero ws = refl
rank_present (suc n) ws = ap₂ ◌+◌ (rank_present n ws) (go (units_at ws n))
  where
    go : (u : ℕ) → some_of u ≡ some_units_lem u
    go u = pick (eqb u 0) refl
      where
        pick : (b : Bool) → eqb u 0 ≡ b → cond b 0 1 ≡ some_units_lem u
        pick true e = rw (le-ltb 0 u (omega (arith, eqb-true u 0 e))) refl
        pick false e = rw (lt-ltb 0 u (pos_of_ne-zero (eqb-false u 0 e))) refl

-- a table that has units has contents
contents_some : (T : List State) → 1 ≤ total T → 1 ≤ length (contents T)
unfolding total_of contents
contents_some [] l = absurd (omega arith)
contents_some (s ∷ T) l = first (contents T)
  where
    first : (Ds : List ℕ) → 1 ≤ length (listed s.mask Ds)
    first [] = omega arith
    first (D ∷ Ds) = go (eqb s.mask D)
      where
        go : (b : Bool) → 1 ≤ length (cond b (D ∷ Ds) (s.mask ∷ D ∷ Ds))
        go true = omega arith
        go false = omega arith

-- ---- an access

module _ (N Z : ℕ) (ts : List ℕ) (K W M : ℕ) (some : 0 < N) (few : N ≤ 16) (x : Target) (aim : Aimed Z ts x) (g : Grid) (holds : Holding N Z ts K W M g) (L : ℕ) where
  -- with a set aside before
  pub fit_from : (a : ℕ) → Fit N Z ts M (rows_of a g)
  fit_from a = record { shaped = holds.fit.shaped; full = holds.fit.full }

  full : total (table_of g) ≤ whole
  full = omega (arith, holds.fit.full)

  -- after the step, when the blocks that are dead have left
  abbrev alone : ℕ → Work
  alone a = narrowed L (stepped N x (rows_of a g).kept)

  alone_fit : (a : ℕ) → Fit N Z ts (suc M) (record { kept = alone a; lost = g.lost })
  alone_fit a =
      (sure_narrowed N Z ts (suc M) (λ C m F. 0) 0 (good_none N Z ts (suc M) K None g.lost) L (stepped N x (rows_of a g).kept) g.lost
      (after_fit N Z ts some few M x aim (rows_of a g) (fit_from a))).fit

  tabled : (a : ℕ) → Tabled (length ts) (alone a).table
  unfolding narrowed stepped
  tabled a =
      record {
        rises = move_rising (narrow L) (access N x (table_of g));
        some = move_some (narrow L) (access N x (table_of g));
        below = every_weaker (Shaped N Z ts (suc M)) (λ s. s.mask < 2 ^ length ts) (λ s p. p.0.masked) (alone a).table (alone_fit a).shaped;
        full = omega (arith, (alone_fit a).full);
      }

  aside_most : (a : ℕ) → (alone a).aside ≤ whole
  unfolding narrowed stepped
  aside_most a = more_most a _

  -- the plan's words are the units that go to each mask
  module _ (ws : List ℕ) (room : 2 ^ length ts + 2 ^ length ts ≤ length ws) (units : (C : ℕ) → C < 2 ^ length ts → units_at ws C ≡ sum_for N x g (comes_to L C)) where
    -- the plan of the reduction
    abbrev pub plan : Plan
    plan = planned K (2 ^ length ts) (alive L x.place) ws

    -- the units that it leaves to each mask, and where those of each mask go
    abbrev pub sums : ℕ → ℕ
    sums C = units_at plan.words C

    abbrev pub ends : ℕ → ℕ
    ends C = end_of (2 ^ length ts) plan.words C

    -- the reduced rows
    abbrev pub reduced_rows : ℕ → Rows
    reduced_rows a = record { kept = reduced K (length ts) (alive L x.place) (alone a); lost = g.lost }

    reduced_fit : (a : ℕ) → Fit N Z ts (suc M) (reduced_rows a)
    reduced_fit a =
        (sure_reduced N Z ts (suc M) (λ C m F. 0) 0 (good_none N Z ts (suc M) K None g.lost) L K (length ts) (alive L x.place) (alone a) g.lost (alone_fit a)).fit

    pub reduces : (a : ℕ) → Reduces (length ts) (alive L x.place) (alone a) (reduced_rows a).kept ws plan
    reduces a =
        plan_reduces (length ts) (alive L x.place) (alone a) ws room (tabled a) (aside_most a)
        (λ C l. units C l ∙ sym (units_sent N Z ts M some few x aim g holds.fit.shaped full holds.neat.summed a L C)) K

    -- no more than K masks have units
    pub few_rows_lem : length ts ≤ places → 0 < K → rank_of sums (2 ^ length ts) ≤ K
    few_rows_lem short states =
        le_trans (omega (arith, rank_present (2 ^ length ts) plan.words, (reduces 0).counts, (reduces 0).present)) (access_few N Z ts K short states M some few x aim (rows_of 0 g) (fit_from 0) L)

    -- and some have
    pub some_rows : M < 4294967296 → 1 ≤ rank_of sums (2 ^ length ts)
    some_rows short =
        le_trans (contents_some (reduced_rows 0).kept.table (omega (arith, (reduced_fit 0).full, holds.few)))
        (omega (arith, rank_present (2 ^ length ts) plan.words, (reduces 0).counts, (reduces 0).present))

    -- what is reduced, by the states before
    table_moved : (a : ℕ) → (reduced_rows a).kept.table ≡ move (relabelled ends) (alone a).table
    table_moved a = ap (λ (w : Work). w.table) (reduces a).moves

    reduced_where : (a : ℕ) (p q : Test) → ((s : State) → passes p (relabelled ends s) ≡ passes q s) → units_where p (reduced_rows a).kept.table ≡ units_where q (alone a).table
    reduced_where a p q e =
        ap (units_where p) (table_moved a) ∙ where_moved (relabelled ends) (λ s. refl) p q e (alone a).table (tabled a).full

    -- every mask has units at its end
    end_some : (a : ℕ) → Every (λ s. (s.mask < 2 ^ length ts) × (1 ≤ sums (ends s.mask))) (alone a).table
    end_some a =
        every_weaker (λ s. (units_of s ≤ units_where (λ D m F. eqb (ends D) (ends s.mask)) (alone a).table) × Shaped N Z ts (suc M) s) (λ s. (s.mask < 2 ^ length ts) × (1 ≤ sums (ends s.mask)))
        (λ s p. (p.1.0.masked, le_trans (le_trans p.1.1 p.0) (le_trans (omega (arith, here s.mask p.1.0.masked)) (le_refl _)))) (alone a).table
        (every_both (λ s. units_of s ≤ units_where (λ D m F. eqb (ends D) (ends s.mask)) (alone a).table) (Shaped N Z ts (suc M)) (alone a).table
        (each_counts ends (alone a).table (alone a).table (λ q. le_refl _)) (alone_fit a).shaped)
      where
        here : (C : ℕ) → C < 2 ^ length ts → sums (ends C) ≡ units_where (λ D m F. eqb (ends D) (ends C)) (alone a).table
        here C l =
            (reduces a).sums (ends C) (((reduces a).part C l).short (length ts) l) ∙ units_in_where (ends C) (reduced_rows a).kept.table
            ∙ reduced_where a (λ D m F. eqb D (ends C)) (λ D m F. eqb (ends D) (ends C)) (λ s. refl)

    module _ (number : ℕ → ℕ) (b : Grid) (h : Groups) (so : Accessed (length ts) K N x L sums ends number g b h) where
      -- a mask has the number of row k just where its end is the mask of row k
      same_row : (k C : ℕ) → k < b.count → C < 2 ^ length ts → ends C < 2 ^ length ts → 1 ≤ sums (ends C) → eqb (number C) k ≡ eqb (ends C) (b.mask k)
      same_row k C l low end one =
          same_number (number C) k (ends C) (b.mask k) (λ e. sym (so.opened (ends C) end one).1 ∙ ap b.mask (sym (so.end C low) ∙ e))
          (λ e. so.end C low ∙ ap number e ∙ (so.row k l).2)

      same_rows : (a k m : ℕ) → k < b.count → Every (λ s. (eqb (ends s.mask) (b.mask k) && eqb s.misses m) ≡ (eqb (number s.mask) k && eqb s.misses m)) (alone a).table
      same_rows a k m l =
          every_weaker (λ s. (s.mask < 2 ^ length ts) × (1 ≤ sums (ends s.mask))) (λ s. (eqb (ends s.mask) (b.mask k) && eqb s.misses m) ≡ (eqb (number s.mask) k && eqb s.misses m))
          (λ s p. ap (λ (c : Bool). c && eqb s.misses m) (sym (same_row k s.mask l p.0 (((reduces a).part s.mask p.0).short (length ts) p.0) p.1))) (alone a).table (end_some a)

      -- the cells
      cell_is : (a k i : ℕ) → k < b.count → i < b.width → cell (b.mask k) (b.base + i) (reduced_rows a).kept.table ≡ b.cell k i
      cell_is a k i l m =
          rw so.base
          (reduced_where a (is_cell (b.mask k) (g.base + i)) (landing (λ C. eqb (ends C) (b.mask k)) (g.base + i)) (λ s. refl)
          ∙ where_alike (landing (λ C. eqb (ends C) (b.mask k)) (g.base + i)) (landing (λ C. eqb (number C) k) (g.base + i)) (alone a).table (same_rows a k (g.base + i) l)
          ∙ sym (where_moved (relabelled number) (λ s. refl) (is_cell k (g.base + i)) (landing (λ C. eqb (number C) k) (g.base + i)) (λ s. refl) (alone a).table (tabled a).full)
          ∙ grid_after N Z ts M some few x aim g holds.fit.shaped full a L number k i
          ∙ cell_sent N x (λ C. eqb (number (shared C L)) k) g i
          ∙ sym (so.cells k i l m))

      -- the groups
      group_is : (a : ℕ) (P : Filled → Bool) (j : ℕ) → j < b.width
          → units_where (λ C m F. eqb m (b.base + j) && P F) (reduced_rows a).kept.table ≡ cond (P (h.hit j)) (h.hit_units j) 0 + cond (P (h.missed j)) (h.missed_units j) 0
      unfolding narrowed stepped
      group_is a P j l =
          rw so.base
          (reduced_where a (λ C m F. eqb m (g.base + j) && P F) (λ C m F. eqb m (g.base + j) && P F) (λ s. refl)
          ∙ where_moved (narrow L) (λ s. refl) (λ C m F. eqb m (g.base + j) && P F) (λ C m F. eqb m (g.base + j) && P F) (λ s. refl) (access N x (table_of g))
          (after_full N Z ts M some few x aim (table_of g) holds.fit.shaped full)
          ∙ column_sent N Z ts M some few x aim g holds.fit.shaped full P j
          ∙ ap₂ ◌+◌ (hit_is (ltb j g.width) refl) (missed_is j l))
        where
          hit_is : (c : Bool) → ltb j g.width ≡ c → if c (if (P (g.filled j)) (hit_in N x g j)) ≡ if (P (h.hit j)) (h.hit_units j)
          hit_is true e = rw (so.hit j (ltb-true j g.width e), so.hit_units j l, e) refl
          hit_is false e = rw (so.hit_units j l, e) (sym (if_zero (P (h.hit j))))

          missed_is : (j : ℕ) → j < b.width → further g.width (λ i. if (P (fill_one N x.set (g.filled i))) (miss_in N x g i)) j ≡ if (P (h.missed j)) (h.missed_units j)
          missed_is zero l = rw (so.missed_units 0 l) (sym (if_zero (P (h.missed 0))))
          missed_is (suc i) l =
              let m : i < g.width = omega (arith, so.width) in
              rw (so.missed i m, so.missed_units (suc i) l, lt-ltb i g.width m) refl

      -- every state stands in a cell
      within : (a : ℕ) → Every (λ s. (g.base ≤ s.misses) × (s.misses ≤ g.base + g.width)) (reduced_rows a).kept.table
      unfolding narrowed stepped
      within a =
          rw (table_moved a)
          (move_misses (λ m. (g.base ≤ m) × (m ≤ g.base + g.width)) (relabelled ends) (alone a).table
          (move_misses (λ m. (g.base ≤ m) × (m ≤ g.base + g.width)) (narrow L) (access N x (table_of g))
          (access_within N x g.base g.width (table_of g) (every_cell g (λ s. (g.base ≤ s.misses) × (s.misses < g.base + g.width)) (λ k j l m n. (omega arith, omega arith))))))

      stands : (a : ℕ) → Every (Placed b) (reduced_rows a).kept.table
      stands a =
          every_weaker (λ s. ((units_of s ≤ units_where (λ D m F. eqb D s.mask) (reduced_rows a).kept.table) × Shaped N Z ts (suc M) s) × ((g.base ≤ s.misses) × (s.misses ≤ g.base + g.width))) (Placed b)
          (λ s p. place s p.0.1 p.0.0 p.1) (reduced_rows a).kept.table
          (every_both (λ s. (units_of s ≤ units_where (λ D m F. eqb D s.mask) (reduced_rows a).kept.table) × Shaped N Z ts (suc M) s) (λ s. (g.base ≤ s.misses) × (s.misses ≤ g.base + g.width))
          (reduced_rows a).kept.table
          (every_both (λ s. units_of s ≤ units_where (λ D m F. eqb D s.mask) (reduced_rows a).kept.table) (Shaped N Z ts (suc M)) (reduced_rows a).kept.table
          (each_counts (λ C. C) (reduced_rows a).kept.table (reduced_rows a).kept.table (λ q. le_refl _)) (reduced_fit a).shaped) (within a))
        where
          place : (s : State) → Shaped N Z ts (suc M) s → units_of s ≤ units_where (λ D m F. eqb D s.mask) (reduced_rows a).kept.table
              → (g.base ≤ s.misses) × (s.misses ≤ g.base + g.width) → Placed b s
          place s shape counts (low, high) =
              let one : 1 ≤ sums s.mask =
              omega (arith, counts, shape.1, (reduces a).sums s.mask shape.0.masked, units_in_where s.mask (reduced_rows a).kept.table) in
              let (row, mask) = so.opened s.mask shape.0.masked one in
              record {
                k = number s.mask;
                j = s.misses - g.base;
                row = row;
                column = omega (arith, so.width);
                mask = sym mask;
                misses = omega (arith, so.base);
                some = shape.1;
              }

      -- slot and stage are what the row ends start from
      pub staged : M < 4294967296 → (a : ℕ) → Staged K W b h (reduced_rows a)
      unfolding units_where
      staged short a =
          record {
            few = so.few;
            narrow = omega (arith, so.width, holds.room);
            rises = so.rises;
            placed = stands a;
            cells = λ k j l m. cell_is a k j l m;
            groups = λ P j l. group_is a P j l;
            lost = so.lost;
            full = (reduced_fit a).full;
            heavy = omega (arith, (reduced_fit a).full, holds.few);
          }
