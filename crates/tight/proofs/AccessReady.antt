-- An access from its first step to its last before the row ends, by what each step says that it did: what stands in the slot and in the stage are the rows and the groups after an access
-- (Accessed), the row ends may begin (Endable), and what they leave is `advance` (Advanced).
use mathlib.Core.Path.{◌≡◌, refl, sym, ap, ap₂, subst, ◌∙◌}
use mathlib.Core.Logic.{◌⊎◌, inl, inr, ⊎_elim}
use mathlib.Core.Bool.{Bool, true, false, cond, not}
use mathlib.Core.List.{List}
use Prim.Native.Nat.{ℕ, zero, suc, ◌+◌, ◌*◌, ◌^◌, ◌≤◌, ◌<◌}
use native.Mathlib.Nat.{le_refl, le_trans, le_of_eq, le_step, le_of_suc-le-suc, eq-or-lt_of_le, mul-le-mul_right}
use native.Mathlib.Omega.{arith}
use lib.Dec.{eqb, ltb}
use lib.ListN.{length}
use borrow.Author.Tests.{lt-ltb, le-ltb}
use Rattle.basics.proofs.Sums.{sum_to, sum_eq}
use Rattle.rules.specs.declared.Target.{Target}
use Rattle.rules.specs.Contents.{places, hits, with, shared}
use Rattle.rules.specs.Filling.{fill_one}
use Rattle.rules.specs.Shape.{Aimed}
use Rattle.plan.specs.Plan.{units_at}
use Rattle.tight_rows.specs.declared.Opening.{Opening}
use Rattle.tight.specs.declared.Sender.{Sender}
use Rattle.tight.specs.declared.SetAside.{SetAside}
use Rattle.tight_rows.specs.Room.{words_of, count_at, base_at, width_at, lost_at, mask_at, front_at, back_at, cell_at, slot_words}
use Rattle.tight.specs.Access.{goes_to, further}
use Rattle.tight_rows.specs.Rows.{if, comes_to}
use Rattle.tight.specs.Accessed.{loses, left_in, left_in_all, hit_in, miss_in, sum_for, cell_for, brings, sender_of, opening_of, Laid, Sendable, Accessed, Holding, Advanced}
use Rattle.tight_ends.specs.Ended.{Endable, RowsEnded}
use Rattle.tight_rows.specs.Grid.{Grid, grid_of, filled_words}
use Rattle.tight.specs.Passing.{receiver_of, RowsPrepared, Planned, Delivering, Delivered}
use Rattle.tight.specs.Sending.{Receiving, Movings}
use Rattle.tight_ends.specs.Stage.{Groups, stage_at, groups_of, Staged}
use Rattle.tight_rows.proofs.Grids.{sum_none}
use Rattle.tight_rows.proofs.Writing.{row_before}
use Rattle.tight.proofs.RowsMoved.{moved_beside}
use Rattle.tight.proofs.Delivered.{may_move}
use Rattle.tight_ends.proofs.Settled.{row_most, columns_total}
use Rattle.tight.proofs.SumsMeant.{rest_meant}
use Rattle.tight.proofs.Holds.{column_most, base_most}
use Rattle.tight.proofs.RowsReady.{rows_ready, slot_kept, stage_kept, chosen_before}
use Rattle.tight.proofs.SlotReady.{before, plan_room, plan_units, as_before, cell_is, accessed}
use Rattle.tight.proofs.Fitting.{delivering}
use Rattle.tight.proofs.Accessed.{sums, ends, reduced_rows, staged}
use Rattle.tight.proofs.Advanced.{advanced}

-- a sum of which what is beyond is 0
sum_beyond : (n m : ℕ) (f : ℕ → ℕ) → n ≤ m → ((j : ℕ) → n ≤ j → j < m → f j ≡ 0) → sum_to m f ≡ sum_to n f
sum_beyond n zero f l none = ap (λ (k : ℕ). sum_to k f) (let z : 0 ≡ n = omega arith in z)
sum_beyond n (suc m) f l none = ⊎_elim (λ e. ap (λ (k : ℕ). sum_to k f) (sym e)) (λ h. further_on h (sum_beyond n m f (le_of_suc-le-suc h) (λ j p q. none j p (le_step q)))) (eq-or-lt_of_le l)
  where
    further_on : n < suc m → sum_to m f ≡ sum_to n f → sum_to (suc m) f ≡ sum_to n f
    further_on h e = omega (arith, none m (le_of_suc-le-suc h) (le_refl (suc m)))

-- no cell beyond the last gets anything
further_out : (n : ℕ) (f : ℕ → ℕ) (i : ℕ) → n < i → further n f i ≡ 0
further_out n f zero l = absurd (omega arith)
further_out n f (suc j) l = rw (le-ltb j n (le_of_suc-le-suc l)) refl

cell_beyond : (N : ℕ) (x : Target) (g : Grid) (t : ℕ → Bool) (i : ℕ) → g.width < i → cell_for N x g t i ≡ 0
cell_beyond N x g t i l = ap₂ ◌+◌ (sum_none g.count (λ k. brings N x g t k i) (λ k m. row k)) (further_out g.width (λ j. if (t (with 0 x.place)) (left_in N x g j)) i l)
  where
    row : (k : ℕ) → brings N x g t k i ≡ 0
    row k = go (hits x (g.mask k))
      where
        sent : ℕ → ℕ
        sent j = goes_to N x t (loses N x g j) (g.mask k) (g.cell k j)

        go : (b : Bool) → cond b (if (ltb i g.width) (if (t (g.mask k)) (g.cell k i))) (further g.width sent i) ≡ 0
        go true = rw (le-ltb i g.width (omega arith)) refl
        go false = further_out g.width sent i l

module _ (N Z : ℕ) (ts : List ℕ) (K W M : ℕ) (some : 0 < N) (few : N ≤ 16) (two : 2 ≤ W) (short : M < 4294967296) (narrow : W < 4294967296) (x : Target) (aim : Aimed Z ts x) (L a b plan e : ℕ) (xs : List ℕ)
    (holds : Holding N Z ts K W M (grid_of K W a (words_of xs))) (laid : Laid K W a b plan (2 ^ length ts) e (length xs)) (tracked : length ts ≤ places) (states : 0 < K) (live : L < 2 ^ length ts) where
  -- the grid of before, how many masks there are, what is sent and what is opened
  abbrev g : Grid
  g = grid_of K W a (words_of xs)

  abbrev n : ℕ
  n = 2 ^ length ts

  abbrev s : Sender
  s = sender_of K W a e (grid_of K W a (words_of xs))

  abbrev o : Opening
  o = opening_of K W b plan (2 ^ length ts)

  slot_end : a + slot_words K W ≤ e
  slot_end = omega (arith, laid.first, laid.behind)

  module _ (ys : List ℕ) (rows : RowsPrepared N x s (a + 4 + 2 * K) (a + 4 + 2 * K + W) e W xs ys) where
    prepared_long : length ys ≡ length xs
    prepared_long = rows.shares.long ∙ rows.clears.long ∙ rows.stages.long ∙ rows.selects.long

    pub ready : Sendable N x g s (words_of ys)
    ready =
        rows_ready N x K W a e xs holds.neat.few holds.neat.narrow slot_end laid.inside rows.chosen rows.counted rows.cleared ys rows.selects rows.stages rows.clears rows.shares

    -- the words of the slot that are no cells
    same_slot : (i : ℕ) → a ≤ i → i < s.rows → words_of ys i ≡ words_of xs i
    same_slot i l m =
        slot_kept N x K W a e xs holds.neat.few holds.neat.narrow slot_end laid.inside rows.chosen rows.counted rows.cleared ys rows.selects rows.stages rows.clears rows.shares i m

    module _ (r : SetAside) (vs : List ℕ) (planning : Planned N x L s plan n K r ys vs) (rs : ℕ) (gs : List ℕ) (sent : Delivered N x L s o a e rs vs gs) where
      may : Delivering N x L s o a e vs
      may =
          delivering N Z ts K W M some few x aim L a b plan e g holds (length xs) laid tracked live ys prepared_long ready planning.summed r.over planning.totals vs r.planned planning.reduces states short narrow
          (same_slot (width_at a) (omega arith) (omega arith))

      -- beside the plan and the slot nothing changes until rows have come
      opened_before : (i : ℕ) → i < length xs → (i < b) ⊎ (b + slot_words K W ≤ i) → (i < plan) ⊎ (e ≤ i) → words_of sent.opened i ≡ words_of ys i
      opened_before i l p q =
          as_before N Z ts K W M some few x aim L a b plan e g holds (length xs) laid ys planning.summed prepared_long ready r.over planning.totals vs planning.reduces.long planning.reduces.words
          planning.reduces.beside tracked states rs sent.opened sent.opens i l p q

      opened_long : length sent.opened ≡ length xs
      opened_long = sent.opens.numbered.long ∙ planning.reduces.long ∙ planning.totals.long ∙ prepared_long

      rows_words_lem : rs * W ≤ K * W
      rows_words_lem = mul-le-mul_right W (let z : rs ≤ K = omega (arith, sent.opens.numbered.count, may.few_rows) in z)

      receiving : Receiving (receiver_of o rs) L s sent.opened × Movings N x (receiver_of o rs) s sent.opened
      receiving = may_move N x L s o a e vs may rs sent.opened sent.opens (receiver_of o rs) refl

      moved_before : (i : ℕ) → i < length xs → (i < b) ⊎ (b + slot_words K W ≤ i) → (i < plan) ⊎ (e ≤ i) → words_of sent.moved i ≡ words_of ys i
      moved_before i l p q =
          moved_beside N x L (receiver_of o rs) s sent.opened receiving.0 receiving.1 sent.moved sent.moves i (omega (arith, opened_long))
          (⊎_elim (λ h. inl (omega arith)) (λ h. inr (omega (arith, rows_words_lem))) p)
          ∙ opened_before i l p q

      headed_before : (i : ℕ) → i < length xs → (i < b) ⊎ (b + slot_words K W ≤ i) → (i < plan) ⊎ (e ≤ i) → words_of sent.headed i ≡ words_of ys i
      headed_before i l p q =
          sent.heads.rest i (omega (arith, sent.moves.long, opened_long)) (⊎_elim (λ h. inl h) (λ h. inr (omega arith)) p) ∙ moved_before i l p q

      -- nothing before the last four rows of the stage is changed by its filled numbers
      last : (i : ℕ) → i < e + 2 * suc W → words_of gs i ≡ words_of sent.headed i
      last i l = sent.groups.beside i (omega (arith, sent.heads.long, sent.moves.long, opened_long, laid.inside)) (inl (omega arith))

      beside_a : (i : ℕ) → a ≤ i → i < a + slot_words K W → (i < b) ⊎ (b + slot_words K W ≤ i)
      beside_a i l m = ⊎_elim (λ h. inl (omega arith)) (λ h. inr (omega arith)) laid.apart

      -- the slot of before
      slot_moved : (i : ℕ) → a ≤ i → i < s.rows → words_of sent.moved i ≡ words_of xs i
      slot_moved i l m =
          moved_before i (omega (arith, slot_end, laid.inside)) (beside_a i l (omega arith)) (inl (omega (arith, laid.first))) ∙ same_slot i l m

      slot_headed : (i : ℕ) → a ≤ i → i < s.rows → words_of sent.headed i ≡ words_of xs i
      slot_headed i l m =
          headed_before i (omega (arith, slot_end, laid.inside)) (beside_a i l (omega arith)) (inl (omega (arith, laid.first))) ∙ same_slot i l m

      -- the units of the stage
      stage_units : (i : ℕ) → e ≤ i → i < e + 2 * suc W → words_of gs i ≡ words_of rows.counted i
      stage_units i l m =
          last i m ∙ headed_before i (omega (arith, laid.inside)) (inr (omega (arith, laid.second, laid.behind))) (inr l)
          ∙ stage_kept N x K W a e xs holds.neat.few holds.neat.narrow slot_end laid.inside rows.chosen rows.counted rows.cleared ys rows.selects rows.stages rows.clears rows.shares i l m

      -- rows as they were chosen from
      chosen_is : (i : ℕ) → i < e → words_of rows.chosen i ≡ words_of xs i
      chosen_is i l = chosen_before N x K W a e xs laid.inside rows.chosen rows.selects i l

      cell_low : (k j : ℕ) → k < g.count → j < g.width → cell_at K W a k j < e
      cell_low k j l m = omega (arith, row_before W k g.count l, mul-le-mul_right W holds.neat.few, holds.neat.narrow, slot_end)

      hit_units_lem : (j : ℕ) → j < suc g.width → (groups_of W e (words_of gs)).hit_units j ≡ if (ltb j g.width) (hit_in N x g j)
      hit_units_lem j l = stage_units (stage_at W e 0 j) (omega arith) (omega (arith, holds.room)) ∙ ⊎_elim here beyond (eq-or-lt_of_le (le_of_suc-le-suc l))
        where
          beyond : j < g.width → words_of rows.counted (stage_at W e 0 j) ≡ if (ltb j g.width) (hit_in N x g j)
          beyond m =
              rw (lt-ltb j g.width m)
              (rows.stages.hit j m
              ∙ sum_eq g.count _ _ (λ k p. ap₂ (λ (C u : ℕ). if (hits x C) u) (chosen_is (mask_at a k) (omega (arith, holds.neat.few, slot_end))) (chosen_is (cell_at K W a k j) (cell_low k j p m))))

          here : j ≡ g.width → words_of rows.counted (stage_at W e 0 j) ≡ if (ltb j g.width) (hit_in N x g j)
          here p = rw (le-ltb j g.width (omega arith)) (rows.stages.hit_end j (omega arith) (omega (arith, holds.room)))

      missed_units_lem : (j : ℕ) → j < suc g.width → (groups_of W e (words_of gs)).missed_units j ≡ further g.width (miss_in N x g) j
      missed_units_lem zero l = stage_units (stage_at W e 1 0) (omega arith) (omega arith) ∙ rows.stages.missed_start
      missed_units_lem (suc j) l =
          let m : j < g.width = le_of_suc-le-suc l in
          stage_units (stage_at W e 1 (suc j)) (omega arith) (omega (arith, holds.room))
          ∙ rw (lt-ltb j g.width m)
          (rows.stages.missed j m
          ∙ sum_eq g.count _ _ (λ k p. ap₂ (λ (C u : ℕ). if (not (hits x C)) u) (chosen_is (mask_at a k) (omega (arith, holds.neat.few, slot_end))) (chosen_is (cell_at K W a k j) (cell_low k j p m))))

      filled_is : (j : ℕ) → j < g.width → filled_words (words_of sent.headed) (front_at K a j) (back_at K W a j) ≡ g.filled j
      filled_is j l =
          ap₂ (λ (u v : ℕ). record { front = u; back = v }) (slot_headed (front_at K a j) (omega arith) (omega (arith, holds.neat.narrow))) (slot_headed (back_at K W a j) (omega arith) (omega (arith, holds.neat.narrow)))

      head_low : (i : ℕ) → i < 4 → b + i < e + 2 * suc W
      head_low i l = omega (arith, laid.second, laid.behind)

      rows_after : (i : ℕ) → b + 4 ≤ i → i < b + slot_words K W → words_of gs i ≡ words_of sent.moved i
      rows_after i l m =
          last i (omega (arith, laid.second, laid.behind)) ∙ sent.heads.rest i (omega (arith, sent.moves.long, opened_long, laid.second, laid.behind, laid.inside)) (inr l)

      count_is : words_of gs (count_at b) ≡ rs
      count_is = last (count_at b) (omega (arith, laid.second, laid.behind)) ∙ sent.heads.count

      -- the plan's words before it is reduced
      abbrev ws : List ℕ
      ws = before N Z ts K W M some few x aim L a b plan e g holds (length xs) laid ys planning.summed prepared_long ready r.over planning.totals

      room : n + n ≤ length ws
      room = plan_room N Z ts K W M some few x aim L a b plan e g holds (length xs) laid ys planning.summed prepared_long ready r.over planning.totals

      units : (C : ℕ) → C < n → units_at ws C ≡ sum_for N x g (comes_to L C)
      units = plan_units N Z ts K W M some few x aim L a b plan e g holds (length xs) laid ys planning.summed prepared_long ready r.over planning.totals

      -- the slot after the access, its stage, and the row of each mask
      abbrev h : Grid
      h = grid_of K W b (words_of gs)

      abbrev groups : Groups
      groups = groups_of W e (words_of gs)

      abbrev numbers : ℕ → ℕ
      numbers C = words_of sent.opened (plan + 2 * n + C)

      base_is : h.base ≡ g.base
      base_is = last (base_at b) (head_low 1 (omega arith)) ∙ sent.heads.base ∙ slot_moved (base_at a) (omega arith) (omega arith)

      width_is : h.width ≡ suc g.width
      width_is = last (width_at b) (head_low 2 (omega arith)) ∙ sent.heads.width ∙ ap suc (slot_moved (width_at a) (omega arith) (omega arith))

      lost_is : h.lost ≡ g.lost
      lost_is = last (lost_at b) (head_low 3 (omega arith)) ∙ sent.heads.lost ∙ slot_moved (lost_at a) (omega arith) (omega arith)

      so : Accessed (length ts) K N x L (sums N Z ts K W M some few x aim g holds L ws room units) (ends N Z ts K W M some few x aim g holds L ws room units) numbers g h groups
      so =
          accessed N Z ts K W M some few x aim L a b plan e g holds (length xs) laid ys planning.summed prepared_long ready r.over planning.totals vs planning.reduces.long planning.reduces.words
          planning.reduces.beside tracked states rs sent.opened sent.opens receiving.0 receiving.1 sent.moved sent.moves gs count_is rows_after groups base_is width_is lost_is hit_units_lem missed_units_lem
          (λ j l. sent.groups.hit j l ∙ filled_is j l) (λ j l. sent.groups.missed j l ∙ ap (fill_one N x.set) (filled_is j l))

      start : Staged K W h groups (reduced_rows N Z ts K W M some few x aim g holds L ws room units 0)
      start = staged N Z ts K W M some few x aim g holds L ws room units numbers h groups so short 0

      cell_none : (k j : ℕ) → k < h.count → h.width ≤ j → j < W → h.cell k j ≡ 0
      cell_none k j l p q =
          let row : k < rs = omega (arith, count_is) in
          rows_after (cell_at K W b k j) (omega arith) (omega (arith, row_before W k rs row, rows_words_lem))
          ∙ cell_is N Z ts K W M some few x aim L a b plan e g holds (length xs) laid ys planning.summed prepared_long ready r.over planning.totals vs planning.reduces.long planning.reduces.words
          planning.reduces.beside tracked states rs sent.opened sent.opens receiving.0 receiving.1 sent.moved sent.moves k j row q
          ∙ cell_beyond N x g (λ C. eqb (numbers (shared C L)) k) j (omega (arith, width_is))

      -- the row ends may begin
      pub endable : Endable K W b e gs
      endable =
          record {
            behind = omega (arith, laid.second, laid.behind);
            inside = omega (arith, sent.groups.long, sent.heads.long, sent.moves.long, opened_long, laid.inside);
            few = so.few;
            some = omega (arith, width_is);
            narrow = start.narrow;
            rises = so.rises;
            rows = λ k l. le_trans (le_of_eq (sum_beyond h.width W (h.cell k) start.narrow (λ j p q. cell_none k j l p q)))
                (row_most K W h groups (reduced_rows N Z ts K W M some few x aim g holds L ws room units 0) start k l);
            columns = le_trans (le_of_eq (sym (columns_total K W h groups (reduced_rows N Z ts K W M some few x aim g holds L ws room units 0) start))) (omega (arith, start.full));
            base = omega (arith, base_is, base_most N Z ts K W M g holds short, short, narrow);
            lost = omega (arith, lost_is, holds.fit.full);
          }

      -- and what they leave is `advance`
      pub access_advanced : (u : ℕ) (zs : List ℕ) → RowsEnded K W b e u gs zs → Advanced N Z ts K W M x L g (grid_of K W b (words_of zs)) (r.over + r.planned + u)
      access_advanced u zs ended =
          subst (Advanced N Z ts K W M x L g (grid_of K W b (words_of zs))) (sym (ap₂ (λ (p q : ℕ). p + q + u) over planning.reduces.aside))
          (advanced N Z ts K W M some few two short x aim g holds L ws room units numbers b e gs zs so u ended)
        where
          over : r.over ≡ left_in_all N x g
          over = planning.totals.left ∙ rest_meant N x g s (words_of ys) ready (column_most N Z ts K W M g holds)
