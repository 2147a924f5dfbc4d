-- The steps of an access that send rows on: units are added up by mask, the plan is reduced, a table is opened, and rows come to it. What then stands in the slot are the rows of the grid
-- after an access. What one step writes is none of what the next ones read of the steps before.
use mathlib.Core.Path.{◌≡◌, refl, sym, ap, ◌∙◌}
use mathlib.Core.Logic.{◌⊎◌, inl, inr, ⊎_elim}
use mathlib.Core.List.{List, [], ◌∷◌}
use Prim.Native.Nat.{ℕ, zero, suc, ◌+◌, ◌*◌, ◌^◌, ◌≤◌, ◌<◌}
use native.Mathlib.Nat.{le_trans, mul-le-mul_right}
use native.Mathlib.Omega.{arith}
use lib.Dec.{eqb, ltb}
use lib.ListN.{length, get_or, take, drop, length-take, length-drop}
use lib.Seq.{get_or-take, get_or-drop}
use Rattle.basics.proofs.Sums.{sum_to, sum_eq}
use Rattle.rules.specs.declared.Target.{Target}
use Rattle.rules.specs.Contents.{places, shared}
use Rattle.rules.specs.Filling.{fill_one}
use Rattle.rules.specs.Shape.{Aimed}
use Rattle.tight_rules.specs.Run.{alive}
use Rattle.plan.specs.Plan.{units_at, planned}
use Rattle.tight_rows.specs.declared.Opening.{Opening}
use Rattle.tight.specs.declared.Receiver.{Receiver}
use Rattle.tight.specs.declared.Sender.{Sender}
use Rattle.tight_rows.specs.Room.{Words, words_of, Leaves, count_at, mask_at, cell_at, slot_words}
use Rattle.tight_rows.specs.Numbers.{sum_in, goes_in, number_in, some as some_of, rank_of, Opened}
use Rattle.tight.specs.Moving.{plus}
use Rattle.tight.specs.Sending.{start_at, comes_from, rest_comes, Totalled, Receiving, Movings}
use Rattle.tight.specs.Access.{further}
use Rattle.tight_rows.specs.Rows.{if, comes_to}
use Rattle.tight.specs.Accessed.{hit_in, miss_in, sum_for, cell_for, sender_of, opening_of, Laid, Sendable, Accessed, Holding}
use Rattle.tight_rows.specs.Grid.{Grid, grid_of}
use Rattle.tight.specs.Passing.{receiver_of}
use Rattle.tight_ends.specs.Stage.{Groups}
use Rattle.tight_rows.proofs.MasksNumbered.{rank_rises, row_known, masks_rise, number_end}
use Rattle.tight_rows.proofs.Writing.{row_before}
use Rattle.tight.proofs.RowsMoved.{moved_beside}
use Rattle.tight.proofs.SumsMeant.{sums_meant}
use Rattle.tight.proofs.CellsMeant.{cell_meant}
use Rattle.tight.proofs.Accessed.{sums, ends, reduces, few_rows_lem}
use Rattle.tight.proofs.Holds.{column_most}

-- what stands past the end does not matter before it
get_d_any : (xs : List ℕ) (i d c : ℕ) → i < length xs → get_or xs i d ≡ get_or xs i c
get_d_any [] i d c l = absurd (omega arith)
get_d_any (x ∷ xs) zero d c l = refl
get_d_any (x ∷ xs) (suc i) d c l = get_d_any xs i d c (omega arith)

-- as many masks have units where the units are the same
pub rank_same : (n : ℕ) (u v : ℕ → ℕ) → ((C : ℕ) → C < n → u C ≡ v C) → rank_of u n ≡ rank_of v n
rank_same n u v e = sum_eq n _ _ (λ C l. ap some_of (e C l))

-- words that are the same in the slot at place a and in the stage have the same rows
module _ (N : ℕ) (x : Target) (K W a e : ℕ) (g : Grid) (few : g.count ≤ K) (narrow : g.width ≤ W) (w v : Words) where
  pub sendable_kept : ((i : ℕ) → a ≤ i → i < a + slot_words K W → v i ≡ w i) → ((i : ℕ) → e ≤ i → i < e + 6 * suc W → v i ≡ w i)
      → Sendable N x g (sender_of K W a e g) w → Sendable N x g (sender_of K W a e g) v
  sendable_kept slot stage so =
      record {
        count = refl;
        width = refl;
        mask = λ k l. slot (a + 4 + k) (omega arith) (omega arith) ∙ so.mask k l;
        units = λ k l. slot (a + 4 + K + k) (omega arith) (omega arith) ∙ so.units k l;
        cell = λ k j l m. slot (start_at (sender_of K W a e g) k + j) (omega arith) (omega (arith, row_before W k K (le_trans l few))) ∙ so.cell k j l m;
        lose = λ j l. stage (e + 2 * (W + 1) + j) (omega arith) (omega arith) ∙ so.lose j l;
        keep = λ j l. stage (e + 3 * (W + 1) + j) (omega arith) (omega arith) ∙ so.keep j l;
        all = λ j l. stage (e + 4 * (W + 1) + j) (omega arith) (omega arith) ∙ so.all j l;
        rest = λ j l. stage (e + 5 * (W + 1) + j) (omega arith) (omega arith) ∙ so.rest j l;
      }

module _ (N Z : ℕ) (ts : List ℕ) (K W M : ℕ) (some : 0 < N) (few : N ≤ 16) (x : Target) (aim : Aimed Z ts x) (L a b plan e : ℕ) (g : Grid) (holds : Holding N Z ts K W M g) (size : ℕ)
    (laid : Laid K W a b plan (2 ^ length ts) e size) where
  -- how many masks there are, and what is sent
  abbrev n : ℕ
  n = 2 ^ length ts

  abbrev s : Sender
  s = sender_of K W a e g

  -- ---- the plan

  module _ (ys us : List ℕ) (long : length ys ≡ size) (ready : Sendable N x g s (words_of ys)) (over : ℕ) (totals : Totalled N x L s plan n over ys us) where
    -- its words before it is reduced
    abbrev pub before : List ℕ
    before = take (n + n) (drop plan us)

    pub plan_room : n + n ≤ length before
    plan_room = omega (arith, length-take (n + n) (drop plan us), length-drop plan us, totals.long, laid.behind, laid.inside)

    pub plan_units : (C : ℕ) → C < n → units_at before C ≡ sum_for N x g (comes_to L C)
    plan_units C l =
        get_or-take (n + n) (drop plan us) C 0 (omega arith) ∙ get_or-drop plan us C 0 ∙ totals.sums C l
        ∙ sums_meant N x g s (words_of ys) ready (column_most N Z ts K W M g holds) L C

    -- its words afterwards stand in its place
    module _ (vs : List ℕ) (same : length vs ≡ length us)
        (words : (i : ℕ) → i < n + n → words_of vs (plan + i) ≡ words_of (planned K n (alive L x.place) before).words i)
        (beside : (i : ℕ) → i < length us → (i < plan) ⊎ (plan + (n + n) ≤ i) → words_of vs i ≡ words_of us i) where
      abbrev o : Opening
      o = opening_of K W b plan n

      pub sum_is : (C : ℕ) → C < n → sum_in o (words_of vs) C ≡ sums N Z ts K W M some few x aim g holds L before plan_room plan_units C
      sum_is C l = words C (omega arith)

      goes_is : (C : ℕ) → C < n → get_or (planned K n (alive L x.place) before).words (n + C) C ≡ goes_in o (words_of vs) C
      goes_is C l =
          get_d_any (planned K n (alive L x.place) before).words (n + C) C 0
          (omega (arith, (reduces N Z ts K W M some few x aim g holds L before plan_room plan_units 0).long, plan_room))
          ∙ sym (words (n + C) (omega arith)) ∙ ap (words_of vs) (let z : plan + (n + C) ≡ plan + n + C = omega arith in z)

      -- no more than K rows are opened
      pub rows_few : length ts ≤ places → 0 < K → rank_of (sum_in o (words_of vs)) n ≤ K
      rows_few short states =
          rw (rank_same n (sum_in o (words_of vs)) (sums N Z ts K W M some few x aim g holds L before plan_room plan_units) sum_is)
          (few_rows_lem N Z ts K W M some few x aim g holds L before plan_room plan_units short states)

      -- ---- the table

      module _ (short : length ts ≤ places) (states : 0 < K) (rows : ℕ) (os : List ℕ) (opens : Opened o rows vs os) where
        -- the row of each mask
        abbrev pub number : ℕ → ℕ
        number C = number_in o (words_of os) C

        number_ends : (C : ℕ) → C < n → number C ≡ number (ends N Z ts K W M some few x aim g holds L before plan_room plan_units C)
        number_ends C l =
            number_end o rows vs os opens.numbered n (planned K n (alive L x.place) before).words goes_is
            (λ D m h. sum_is D m ∙ (reduces N Z ts K W M some few x aim g holds L before plan_room plan_units 0).emptied D m (omega (arith, goes_is D m))) places C l

        rows_most : rows ≤ K
        rows_most = omega (arith, opens.numbered.count, rows_few short states)

        rows_words_lem : rows * W ≤ K * W
        rows_words_lem = mul-le-mul_right W rows_most

        -- the words beside the plan and the slot are as they were
        pub as_before : (i : ℕ) → i < size → (i < b) ⊎ (b + slot_words K W ≤ i) → (i < plan) ⊎ (e ≤ i) → words_of os i ≡ words_of ys i
        as_before i l p q =
            opens.beside i (omega (arith, same, totals.long))
            (record { masks = ⊎_elim (λ h. inl (omega arith)) (λ h. inr (omega (arith, rows_most))) p; units = ⊎_elim (λ h. inl (omega arith)) (λ h. inr (omega (arith, rows_most))) p; numbers = ⊎_elim (λ h. inl (omega arith)) (λ h. inr (omega (arith, laid.behind))) q })
            (⊎_elim (λ h. inl (omega arith)) (λ h. inr (omega (arith, rows_words_lem))) p)
            ∙ beside i (omega (arith, totals.long)) (⊎_elim (λ h. inl h) (λ h. inr (omega (arith, laid.behind))) q)
            ∙ totals.beside i (omega arith) (⊎_elim (λ h. inl h) (λ h. inr (omega (arith, laid.behind))) q)

        -- and so are the rows that are sent
        pub still_sendable : Sendable N x g s (words_of os)
        still_sendable =
            sendable_kept N x K W a e g holds.neat.few holds.neat.narrow (words_of ys) (words_of os)
            (λ i l m. as_before i (omega (arith, laid.first, laid.behind, laid.inside)) (⊎_elim (λ h. inl (omega arith)) (λ h. inr (omega arith)) laid.apart) (inl (omega (arith, laid.first))))
            (λ i l m. as_before i (omega (arith, laid.inside)) (inr (omega (arith, laid.second, laid.behind))) (inr l)) ready

        abbrev t : Receiver
        t = receiver_of o rows

        module _ (ok : Receiving t L s os) (may : Movings N x t s os) (ms : List ℕ)
            (moves : Leaves (plus (λ w i. sum_to s.count (comes_from N x L t s w i) + rest_comes x L t s w i)) os ms) where
          all_long : length os ≡ size
          all_long = opens.numbered.long ∙ same ∙ totals.long ∙ long

          cell_place : (k i : ℕ) → k < rows → i < W → cell_at K W b k i < length os
          cell_place k i l m = omega (arith, all_long, row_before W k K (le_trans l rows_most), laid.second, laid.behind, laid.inside)

          pub cell_is : (k i : ℕ) → k < rows → i < W → words_of ms (cell_at K W b k i) ≡ cell_for N x g (λ C. eqb (number (shared C L)) k) i
          cell_is k i l m =
              moves.word (cell_at K W b k i) (cell_place k i l m)
              ∙ omega (arith, opens.cells k i l m, cell_meant N x L g s t (words_of os) still_sendable (column_most N Z ts K W M g holds) holds.room k i m)

          mask_is : (k : ℕ) → k < rows → words_of ms (mask_at b k) ≡ words_of os (mask_at b k)
          mask_is k l =
              moved_beside N x L t s os ok may ms moves (mask_at b k) (omega (arith, all_long, rows_most, laid.second, laid.behind, laid.inside)) (inl (omega (arith, rows_most)))

          -- header and stage are written, and nothing of the rows
          module _ (gs : List ℕ) (count : words_of gs (count_at b) ≡ rows) (after : (i : ℕ) → b + 4 ≤ i → i < b + slot_words K W → words_of gs i ≡ words_of ms i) where
            abbrev h : Grid
            h = grid_of K W b (words_of gs)

            masks_are : (k : ℕ) → k < rows → h.mask k ≡ words_of os (mask_at b k)
            masks_are k l = after (mask_at b k) (omega arith) (omega (arith, rows_most)) ∙ mask_is k l

            row_is : (k : ℕ) → k < rows → (h.mask k < n) × (1 ≤ sums N Z ts K W M some few x aim g holds L before plan_room plan_units (h.mask k)) × (number (h.mask k) ≡ k)
            row_is k l =
                let row = row_known o rows vs os opens.numbered k l in
                rw (masks_are k l) (row.low, omega (arith, row.some, sum_is (words_of os (mask_at b k)) row.low), row.number)

            opened_is : (C : ℕ) → C < n → 1 ≤ sums N Z ts K W M some few x aim g holds L before plan_room plan_units C → (number C < rows) × (h.mask (number C) ≡ C)
            opened_is C l one =
                let units : 1 ≤ sum_in o (words_of vs) C = omega (arith, sum_is C l) in
                let own = opens.numbered.own C l units in
                let low : number C < rows = omega (arith, own, opens.numbered.count, rank_rises (sum_in o (words_of vs)) C n units l) in
                (low, masks_are (number C) low ∙ ap (λ (k : ℕ). words_of os (mask_at b k)) own ∙ opens.numbered.mask C l units)

            pub accessed : (groups : Groups) → h.base ≡ g.base → h.width ≡ suc g.width → h.lost ≡ g.lost
                → ((j : ℕ) → j < suc g.width → groups.hit_units j ≡ if (ltb j g.width) (hit_in N x g j))
                → ((j : ℕ) → j < suc g.width → groups.missed_units j ≡ further g.width (miss_in N x g) j)
                → ((j : ℕ) → j < g.width → groups.hit j ≡ g.filled j) → ((j : ℕ) → j < g.width → groups.missed (suc j) ≡ fill_one N x.set (g.filled j))
                → Accessed (length ts) K N x L (sums N Z ts K W M some few x aim g holds L before plan_room plan_units) (ends N Z ts K W M some few x aim g holds L before plan_room plan_units) number g h groups
            accessed groups base width lost hit_units_lem missed_units_lem hit missed =
                record {
                  few = omega (arith, count, rows_most);
                  base = base;
                  width = width;
                  lost = lost;
                  rises = λ i k l m. let p : k < rows = omega (arith, count) in
                      rw (masks_are i (omega arith), masks_are k p) (masks_rise o rows vs os opens.numbered i k l p);
                  row = λ k l. row_is k (omega (arith, count));
                  opened = λ C l one. rw count (opened_is C l one);
                  end = number_ends;
                  cells = λ k i l m. let p : k < rows = omega (arith, count) in
                      after (cell_at K W b k i) (omega arith) (omega (arith, width, holds.room, row_before W k K (le_trans p rows_most))) ∙ cell_is k i p (omega (arith, width, holds.room));
                  hit_units = λ j l. hit_units_lem j (omega (arith, width));
                  missed_units = λ j l. missed_units_lem j (omega (arith, width));
                  hit = hit;
                  missed = missed;
                }
