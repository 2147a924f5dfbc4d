-- A copied slot: a grid that has the contents of another as far as they are live means the narrowed table. Both are known by their cells, and these are the same sums.
use mathlib.Core.Path.{◌≡◌, refl, sym, ap, ap₂, ◌∙◌}
use mathlib.Core.Logic.{◌⊎◌, inl, inr, ⊎_elim, ◌≢◌}
use mathlib.Core.Bool.{Bool, true, false, cond, ◌&&◌}
use mathlib.Core.List.{List, [], map}
use Prim.Native.Nat.{ℕ, zero, suc, ◌+◌, ◌-◌, ◌*◌, ◌^◌, ◌≤◌, ◌<◌}
use native.Mathlib.Nat.{le_refl, le_step, mul-le-mul_right}
use native.Mathlib.Numerals.{add-one}
use native.Mathlib.Omega.{arith}
use native.Mathlib.Decide.{ℕ_discrete}
use borrow.Author.Tests.{eq-eqb, ne_eqb, ltb-true, ltb-false}
use lib.Bits.{bit_and}
use lib.Dec.{eqb, ltb}
use lib.ListN.{length, set}
use Rattle.basics.proofs.Sums.{sum_to, sum_le, sum_eq, part_most}
use Rattle.rules.specs.declared.State.{State}
use Rattle.rules.specs.Units.{whole}
use Rattle.rules.specs.Contents.{shared}
use Rattle.rules.specs.Shape.{Every}
use Rattle.rules.specs.Table.{total, units_of}
use Rattle.rules.proofs.Lists.{every_map}
use Rattle.rules.proofs.Table.{every_add}
use Rattle.tight_rules.specs.Rows.{Rows, move, narrow, narrowed}
use Rattle.tight_rows.specs.declared.Opening.{Opening}
use Rattle.tight_rows.specs.Room.{words_of, Leaves, mask_at, units_at, row_at, cell_at, slot_words}
use Rattle.tight_rows.specs.Rows.{replaced, raised, if, comes_to}
use Rattle.tight_rows.specs.Grid.{Grid, grid_of, table_of, rows_of}
use Rattle.tight_tables.specs.Answering.{row_column}
use Rattle.tight_tables.specs.Copying.{live_units, live_cell, Narrowed, words_more, WordsAddable, Copyable, NoSums, row_for, brought_to, Bringing, Brought}
use Rattle.tight_rows.proofs.Cells.{Test, Known, total_where, cell, is_cell, where_moved, move_rising, move_some, same_cells}
use Rattle.tight_rows.proofs.Grids.{row_where, where_grid, sum_none, grid_cell, grid_no_cell, every_cell, filled_of, grid_known}
use Rattle.tight_rows.proofs.Adding.{sum_part}
use Rattle.tight_rows.proofs.Writing.{is_within_lem, not_within, Written, as_before, one_more_lem}
use Rattle.tight_rows.proofs.Raising.{raised_at, raised_beside, raised_then, raised_one, live_part}
use Rattle.tight_tables.proofs.Answering.{column_cell, column_beside}

-- one of the first n contents has mask C, or none has
mask_among : (g : Grid) (C n : ℕ) → ((i : ℕ) × (i < n) × (g.mask i ≡ C)) ⊎ ((i : ℕ) → i < n → g.mask i ≢ C)
mask_among g C zero = inr (λ i l e. absurd (omega arith))
mask_among g C (suc n) = go (ℕ_discrete (g.mask n) C) (mask_among g C n)
  where
    go : Dec (g.mask n ≡ C) → ((i : ℕ) × (i < n) × (g.mask i ≡ C)) ⊎ ((i : ℕ) → i < n → g.mask i ≢ C)
        → ((i : ℕ) × (i < suc n) × (g.mask i ≡ C)) ⊎ ((i : ℕ) → i < suc n → g.mask i ≢ C)
    go (yes e) rest = inl (n, le_refl (suc n), e)
    go (no d) (inl (i, l, e)) = inl (i, le_step l, e)
    go (no d) (inr none) = inr (λ i l e. other i l (ℕ_discrete i n) e)
      where
        other : (i : ℕ) → i < suc n → Dec (i ≡ n) → g.mask i ≡ C → ⊥
        other i l (yes s) e = d (rw s at e)
        other i l (no s) e = none i (omega arith) e

module _ (L : ℕ) (g : Grid) (full : total (table_of g) ≤ whole) where
  -- the table without the blocks that are not in L
  abbrev part : List State
  part = move (narrow L) (table_of g)

  -- states that come to C with m misses
  abbrev coming : ℕ → ℕ → Test
  coming C m D n F = comes_to L C D && eqb n m

  row_coming : (C m k : ℕ) → row_where g (coming C m) k g.width ≡ if (comes_to L C (g.mask k)) (row_column g k m)
  row_coming C m k = go (comes_to L C (g.mask k))
    where
      go : (b : Bool) → sum_to g.width (λ j. cond (b && eqb (g.base + j) m) (g.cell k j) 0) ≡ if b (row_column g k m)
      go true = refl
      go false = sum_none g.width (λ j. 0) (λ j l. refl)

  part_cell : (C m : ℕ) → cell C m part ≡ sum_to g.count (λ k. if (comes_to L C (g.mask k)) (row_column g k m))
  part_cell C m =
      where_moved (narrow L) (λ s. refl) (is_cell C m) (coming C m) (λ s. refl) (table_of g) full ∙ where_grid g (coming C m) ∙ sum_eq g.count _ _ (λ k l. row_coming C m k)

  -- in a cell of the grid, beside its cells, and where no contents come
  part_here : (C j : ℕ) → j < g.width → cell C (g.base + j) part ≡ live_cell L g g.count C j
  part_here C j l = part_cell C (g.base + j) ∙ sum_eq g.count _ _ (λ k h. ap (if (comes_to L C (g.mask k))) (column_cell g k j l))

  if_none : (b : Bool) (u : ℕ) → u ≡ 0 → if b u ≡ 0
  if_none true u e = e
  if_none false u e = refl

  part_beside : (C m : ℕ) → (m < g.base) ⊎ (g.base + g.width ≤ m) → cell C m part ≡ 0
  part_beside C m o = part_cell C m ∙ sum_none g.count _ (λ k l. if_none (comes_to L C (g.mask k)) (row_column g k m) (column_beside g k m o))

  part_nowhere : (C m : ℕ) → ((k : ℕ) → k < g.count → shared (g.mask k) L ≢ C) → cell C m part ≡ 0
  part_nowhere C m none = part_cell C m ∙ sum_none g.count _ (λ k l. rw (ne_eqb (shared (g.mask k) L) C (none k l)) refl)

  module _ (h : Grid) (so : Narrowed L g h) where
    part_known : Known (filled_of h) part
    unfolding move
    part_known =
        record {
          rises = move_rising (narrow L) (table_of g);
          some = move_some (narrow L) (table_of g);
          filled = every_add (λ s. s.filled ≡ filled_of h s.misses) (λ t s p. p) (map (narrow L) (table_of g)) []
              (every_map (λ s. s.filled ≡ filled_of h s.misses) (λ s. units_of s ≢ 0 → s.filled ≡ filled_of h s.misses) (narrow L) (λ s p n. p) (table_of g) each) tt;
        }
      where
        each : Every (λ s. s.filled ≡ filled_of h s.misses) (table_of g)
        each = every_cell g (λ s. s.filled ≡ filled_of h s.misses) (λ k j l w u. sym (so.filled j w) ∙ ap h.filled (let z : j ≡ g.base + j - h.base = omega (arith, so.base) in z))

    cells_same : (C m : ℕ) → cell C m (table_of h) ≡ cell C m part
    cells_same C m = ⊎_elim (λ (i, l, e). at_mask_lem i l e) nowhere (mask_among h C h.count)
      where
        beside : (m < g.base) ⊎ (g.base + g.width ≤ m) → cell C m (table_of h) ≡ cell C m part
        beside o =
            grid_no_cell h C m (λ k j l w p q. ⊎_elim (λ b. absurd (omega (arith, so.base))) (λ b. absurd (omega (arith, so.base, so.width))) o)
            ∙ sym (part_beside C m o)

        inside : (i : ℕ) → i < h.count → h.mask i ≡ C → g.base ≤ m → m < g.base + g.width → cell C m (table_of h) ≡ cell C m part
        inside i l e a b =
            let here : m ≡ g.base + (m - g.base) = omega arith in
            let there : m ≡ h.base + (m - g.base) = omega (arith, so.base) in
            rw (← e) (ap (λ (n : ℕ). cell (h.mask i) n (table_of h)) there ∙ grid_cell h so.rises i (m - g.base) l (omega (arith, so.width))
            ∙ so.cells i (m - g.base) l (omega arith) ∙ sym (part_here (h.mask i) (m - g.base) (omega arith)) ∙ ap (λ (n : ℕ). cell (h.mask i) n part) (sym here))

        at_mask_lem : (i : ℕ) → i < h.count → h.mask i ≡ C → cell C m (table_of h) ≡ cell C m part
        at_mask_lem i l e = go (ltb m g.base) (ltb m (g.base + g.width)) refl refl
          where
            go : (b c : Bool) → ltb m g.base ≡ b → ltb m (g.base + g.width) ≡ c → cell C m (table_of h) ≡ cell C m part
            go true c p q = beside (inl (ltb-true m g.base p))
            go false true p q = inside i l e (ltb-false m g.base p) (ltb-true m (g.base + g.width) q)
            go false false p q = beside (inr (ltb-false m (g.base + g.width) q))

        nowhere : ((i : ℕ) → i < h.count → h.mask i ≢ C) → cell C m (table_of h) ≡ cell C m part
        nowhere none =
            grid_no_cell h C m (λ k j l w p q. none k l p)
            ∙ sym (part_nowhere C m (λ k l e. let (i, p, q) = so.there k l in none i p (q ∙ e)))

    -- rows with a table and lost units
    abbrev rows_with : ℕ → List State → ℕ → Rows
    rows_with a T l = record { kept = record { table = T; aside = a }; lost = l }

    pub narrowed_means : (a : ℕ) → rows_of a h ≡ record { kept = narrowed L (rows_of a g).kept; lost = g.lost }
    unfolding narrowed
    narrowed_means a = ap₂ (rows_with a) (same_cells (filled_of h) (table_of h) part (grid_known h so.rises) part_known cells_same) so.lost

-- ---- words added to others

module _ (from to n : ℕ) (xs ys : List ℕ) (ok : WordsAddable from to n xs) (j : ℕ) (l : j < n) (h : Written to (words_more from to) j xs ys) where
  -- the next words are as they were
  next_words : words_more from to (words_of ys) j ≡ words_more from to (words_of xs) j
  next_words =
      ap₂ ◌+◌ (as_before to (words_more from to) j xs ys h (to + j) (omega (arith, ok.room)) (inr (omega arith)))
      (as_before to (words_more from to) j xs ys h (from + j) (omega (arith, ok.inside)) (⊎_elim (λ p. inr (omega arith)) (λ p. inl (omega arith)) ok.apart))

  pub word_more : Written to (words_more from to) (j + 1) xs (set ys (to + j) (words_more from to (words_of ys) j))
  word_more = one_more_lem to (words_more from to) j xs ys _ h (omega (arith, ok.room)) next_words

-- ---- the units by mask

-- the slot that is copied
abbrev old_in : Opening → ℕ → List ℕ → Grid
old_in o a xs = grid_of o.contents o.cells a (words_of xs)

-- the units of the first k contents stand in the plan
abbrev pub SumsTo : Opening → ℕ → ℕ → ℕ → List ℕ → List ℕ → Type 0
SumsTo o a L k xs ys = Leaves (raised o.plan (suc L) (live_units L (old_in o a xs) k)) xs ys

pub slot_inside : (o : Opening) (a L : ℕ) (xs : List ℕ) → Copyable o a L xs → a + slot_words o.contents o.cells ≤ length xs
slot_inside o a L xs ok = let p = ok.placed in omega (arith, ok.before, p.sums, p.goes, p.end)

module _ (o : Opening) (a L : ℕ) (xs : List ℕ) (ok : Copyable o a L xs) where
  abbrev old : Grid
  old = old_in o a xs

  plan_there : o.plan + suc L ≤ length xs
  plan_there = let p = ok.placed in omega (arith, p.sums, p.goes, p.end, ok.low)

  -- what stands before the plan is as it was
  slot_same : (k : ℕ) (ys : List ℕ) → SumsTo o a L k xs ys → (p : ℕ) → p < o.plan → words_of ys p ≡ words_of xs p
  slot_same k ys h p l = raised_beside o.plan (suc L) (live_units L old k) xs ys h p (omega (arith, plan_there)) (inl l)

  units_all : sum_to old.count old.units ≤ whole
  units_all =
      omega (arith, ok.full, total_where (table_of old), where_grid old (λ D m F. true), sum_eq old.count old.units (λ k. sum_to old.width (old.cell k)) (λ k l. ok.neat.summed k l))

  live_few : (n D : ℕ) → live_units L old n D ≤ sum_to n old.units
  live_few n D = sum_le n _ _ (λ k l. part_most (comes_to L D (old.mask k)) (old.units k))

  -- what is read of contents k meanwhile
  module _ (k : ℕ) (l : k < old.count) (ys : List ℕ) (h : SumsTo o a L k xs ys) where
    pub mask_read : bit_and (words_of ys (mask_at a k)) L ≡ shared (old.mask k) L
    unfolding shared
    mask_read = rw (slot_same k ys h (mask_at a k) (omega (arith, ok.before, ok.neat.few))) refl

    pub units_read : words_of ys (units_at o.contents a k) ≡ old.units k
    units_read = slot_same k ys h (units_at o.contents a k) (omega (arith, ok.before, ok.neat.few))

  -- one contents more, of mask C and u units
  module _ (k : ℕ) (l : k < old.count) (ys : List ℕ) (h : SumsTo o a L k xs ys) (C u : ℕ) (mask : C ≡ shared (old.mask k) L) (units : u ≡ old.units k) where
    low : C ≤ L
    low = live_part (old.mask k) L C mask

    pub sum_fits : NoSums o L xs → words_of ys (o.plan + C) + u < 2 ^ 64
    sum_fits empty =
        omega (
          arith,
          raised_at o.plan (suc L) (live_units L old k) xs ys h plan_there C (omega (arith, low)),
          empty C low,
          live_few k C,
          sum_part (suc k) old.count old.units l,
          units_all,
          units,
        )

    pub one_summed : SumsTo o a L (k + 1) xs (set ys (o.plan + C) (words_of ys (o.plan + C) + u))
    one_summed =
        raised_then o.plan (suc L) (live_units L old k) (λ D. if (eqb C D) u) (live_units L old (k + 1)) xs ys _ h
        (raised_one o.plan (suc L) C u ys (omega (arith, low)) (omega (arith, plan_there, h.long))) plan_there (λ D m. rw (add-one k, mask, units) refl)

  pub all_summed : (k : ℕ) (ys : List ℕ) → k ≡ old.count → SumsTo o a L k xs ys → SumsTo o a L old.count xs ys
  all_summed k ys e h = rw (← e) h

-- ---- rows added to those of what is live of their contents

-- a row ends before the next one
pub rows_apart : (W i d : ℕ) → i < d → i * W + W ≤ d * W
rows_apart W i d l = let next : suc i * W ≤ d * W = mul-le-mul_right W l in omega (arith, next)

module _ (o : Opening) (a L : ℕ) (xs : List ℕ) (may : Bringing o a L xs) where
  abbrev K : ℕ
  K = o.contents

  abbrev W : ℕ
  W = o.cells

  abbrev b : ℕ
  b = o.slot

  abbrev g : Grid
  g = grid_of K W a (words_of xs)

  abbrev to : ℕ → ℕ
  to k = row_for o a L (words_of xs) k

  -- where everything ends
  slot_end : b + slot_words K W ≤ length xs
  slot_end = let p = may.ok.placed in omega (arith, p.slot, p.sums, p.goes, p.end)

  from_end : a + slot_words K W ≤ length xs
  from_end = slot_inside o a L xs may.ok

  -- a cell of the slot that is copied lies beside the other slot
  from_beside : (k j : ℕ) → k < g.count → j < W → (cell_at K W a k j < row_at K W b 0) ⊎ (b + slot_words K W ≤ cell_at K W a k j)
  from_beside k j l m =
      let end : k * W + W ≤ K * W = rows_apart W k K (omega (arith, may.ok.neat.few)) in
      ⊎_elim (λ p. inr (omega arith)) (λ p. inl (omega arith)) may.ok.apart

  cell_small : (k j : ℕ) → k < g.count → j < g.width → g.cell k j ≤ g.units k
  cell_small k j l m = rw (may.ok.neat.summed k l) (omega (arith, sum_part (suc j) g.width (g.cell k) m))

  brought_few : (n i j : ℕ) → n ≤ g.count → brought_to o a L (words_of xs) n i j ≤ sum_to n g.units
  brought_few n i j l = sum_le n _ _ (λ k m. part k m (eqb (to k) i) (ltb j g.width) refl)
    where
      part : (k : ℕ) → k < n → (x y : Bool) → ltb j g.width ≡ y → if x (if y (g.cell k j)) ≤ g.units k
      part k m true true e = cell_small k j (omega arith) (ltb-true j g.width e)
      part k m true false e = omega arith
      part k m false y e = omega arith

  module _ (k : ℕ) (l : k < g.count) (ys : List ℕ) (h : Brought o a L k xs ys) where
    -- the row that they come to is the one before anything was added
    pub row_same : row_for o a L (words_of ys) k ≡ to k
    row_same =
        let p = may.ok.placed in
        rw (h.beside (mask_at a k) (omega (arith, from_end, may.ok.neat.few)) (⊎_elim (λ q. inr (omega (arith, may.ok.neat.few))) (λ q. inl (omega (arith, may.ok.neat.few))) may.ok.apart))
        (h.beside (o.numbers + shared (g.mask k) L) (omega (arith, p.end, may.ok.low, live_part (g.mask k) L _ refl)) (inr (omega (arith, p.slot, p.sums, p.goes))))

    -- the row's words, and those that they are added to
    abbrev src : ℕ
    src = row_at K W a k

    abbrev dst : ℕ
    dst = row_at K W b (to k)

    row_addable : WordsAddable src dst g.width ys
    row_addable =
        let end : k * W + W ≤ K * W = rows_apart W k K (omega (arith, may.ok.neat.few)) in
        let last : to k * W + W ≤ K * W = rows_apart W (to k) K (may.row k l) in
        record {
          inside = omega (arith, h.long, from_end, may.ok.neat.narrow);
          room = omega (arith, h.long, slot_end, may.ok.neat.narrow);
          apart = ⊎_elim (λ p. inl (omega (arith, may.ok.neat.narrow))) (λ p. inr (omega (arith, may.ok.neat.narrow))) may.ok.apart;
          fits = λ j m. fits j m;
        }
      where
        fits : (j : ℕ) → j < g.width → words_more src dst (words_of ys) j < 2 ^ 64
        fits j m =
            omega (
              arith,
              h.cells (to k) j (may.row k l) (omega (arith, may.ok.neat.narrow)),
              may.zeros (to k) j (may.row k l) (omega (arith, may.ok.neat.narrow)) k l refl,
              brought_few k (to k) j (omega arith),
              h.beside (src + j) (omega (arith, from_end, rows_apart W k K (omega (arith, may.ok.neat.few)), may.ok.neat.narrow)) (from_beside k j l (omega (arith, may.ok.neat.narrow))),
              cell_small k j l m,
              sum_part (suc k) g.count g.units l,
              units_all o a L xs may.ok,
            )

    pub row_ready : (d : ℕ) → d ≡ row_at K W b (row_for o a L (words_of ys) k) → WordsAddable src d g.width ys
    row_ready d e = rw (e, row_same) row_addable

    module _ (zs : List ℕ) (s : Leaves (λ w. replaced dst g.width (words_more src dst w) w) ys zs) where
      -- a cell of another row, and of this row
      other_row : (i j : ℕ) → i < K → j < W → i ≢ to k → words_of zs (cell_at K W b i j) ≡ words_of ys (cell_at K W b i j)
      other_row i j p q d =
          s.word (cell_at K W b i j) (omega (arith, h.long, slot_end, rows_apart W i K p)) ∙ rw (not_within dst g.width (cell_at K W b i j) (side (ltb i (to k)) refl)) refl
        where
          side : (x : Bool) → ltb i (to k) ≡ x → (cell_at K W b i j < dst) ⊎ (dst + g.width ≤ cell_at K W b i j)
          side true e = inl (omega (arith, rows_apart W i (to k) (ltb-true i (to k) e)))
          side false e = inr (omega (arith, may.ok.neat.narrow, rows_apart W (to k) i (omega (arith, ltb-false i (to k) e, d))))

      this_row : (j : ℕ) → j < W → words_of zs (cell_at K W b (to k) j) ≡ words_of ys (cell_at K W b (to k) j) + if (ltb j g.width) (g.cell k j)
      this_row j q = go (ltb j g.width) refl
        where
          go : (x : Bool) → ltb j g.width ≡ x → words_of zs (cell_at K W b (to k) j) ≡ words_of ys (cell_at K W b (to k) j) + if x (g.cell k j)
          go true e =
              let m : j < g.width = ltb-true j g.width e in
              let back : dst + j - dst ≡ j = omega arith in
              s.word (dst + j) (omega (arith, h.long, slot_end, rows_apart W (to k) K (may.row k l)))
              ∙ rw (is_within_lem dst g.width (dst + j) (omega arith) (omega arith), back)
              (ap (words_of ys (dst + j) +◌) (h.beside (src + j) (omega (arith, from_end, rows_apart W k K (omega (arith, may.ok.neat.few)))) (from_beside k j l q)))
          go false e =
              s.word (dst + j) (omega (arith, h.long, slot_end, rows_apart W (to k) K (may.row k l)))
              ∙ rw (not_within dst g.width (dst + j) (inr (omega (arith, ltb-false j g.width e)))) (omega arith)

      one_brought : Brought o a L (k + 1) xs zs
      one_brought =
          record {
            long = s.long ∙ h.long;
            cells = λ i j p q. rw (add-one k) (cell_after i j p q (ℕ_discrete i (to k)));
            beside = λ p q c. s.word p (omega (arith, h.long))
                ∙ rw (not_within dst g.width p
                (⊎_elim (λ m. inl (omega arith)) (λ m. inr (omega (arith, may.ok.neat.narrow, rows_apart W (to k) K (may.row k l)))) c)) (h.beside p q c);
          }
        where
          cell_after : (i j : ℕ) → i < K → j < W → Dec (i ≡ to k)
              → words_of zs (cell_at K W b i j) ≡ words_of xs (cell_at K W b i j) + (brought_to o a L (words_of xs) k i j + if (eqb (to k) i) (if (ltb j g.width) (g.cell k j)))
          cell_after i j p q (yes e) = rw (e, eq-eqb (to k) (to k) refl) (omega (arith, this_row j q, h.cells (to k) j (may.row k l) q))
          cell_after i j p q (no d) = rw (ne_eqb (to k) i (λ e. d (sym e))) (omega (arith, other_row i j p q d, h.cells i j p q))

    pub row_brought : (d : ℕ) → d ≡ row_at K W b (row_for o a L (words_of ys) k) → (zs : List ℕ) → Leaves (λ w. replaced d g.width (words_more src d w) w) ys zs → Brought o a L (k + 1) xs zs
    row_brought d e zs s = one_brought zs (rw (e, row_same) at s)
