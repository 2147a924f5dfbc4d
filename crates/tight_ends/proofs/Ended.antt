-- The row ends from first to last: rows kept, filled numbers written and the header's words are a slot that means the rows after the row ends. What is written is none of the stage,
-- so that it says the same from first to last. What the code asks for follows from what slot and stage mean (`staged_endable`), but for where they stand, that cells
-- beyond the width are 0, and that miss counts are words.
use mathlib.Core.Path.{◌≡◌, sym, ap, ap₂, ◌∙◌}
use mathlib.Core.Logic.{◌⊎◌, inl, inr, ⊎_elim}
use mathlib.Core.List.{List}
use Prim.Native.Nat.{ℕ, zero, suc, ◌+◌, ◌-◌, ◌*◌, ◌^◌, ◌≤◌, ◌<◌}
use native.Mathlib.Nat.{le_of_suc-le-suc, eq-or-lt_of_le, pos_of_ne-zero}
use native.Mathlib.Omega.{arith}
use lib.ListN.{length}
use Rattle.basics.proofs.Sums.{sum_to}
use Rattle.rules.specs.Units.{whole, more}
use Rattle.rules.specs.declared.State.{State}
use Rattle.rules.specs.Table.{total}
use Rattle.tight_rules.specs.Rows.{Rows}
use Rattle.tight_rules.specs.Ends.{ends}
use Rattle.tight_rules.specs.Run.{settled}
use Rattle.tight_rows.specs.Room.{words_of, count_at, base_at, width_at, mask_at, units_at, front_at, back_at, cell_at, slot_words}
use Rattle.tight_rows.specs.Grid.{Grid, grid_of, table_of, rows_of}
use Rattle.tight_ends.specs.Stage.{Groups, groups_of, Staged}
use Rattle.tight_ends.specs.Settling.{both, settled_filled, unlike_to}
use Rattle.tight_ends.specs.Ending.{Topped, Bottomed, Staging, FilledAll, FilledThere}
use Rattle.tight_ends.specs.Keeping.{row_in, KeptTo}
use Rattle.tight_ends.specs.Ended.{Endable, HeaderPut, SlotEnded, RowsEnded}
use Rattle.tight_rows.proofs.Writing.{row_in_lem}
use Rattle.tight_rows.proofs.Adding.{sum_part}
use Rattle.tight_ends.proofs.Assembled.{slot_kept, slot_neat}
use Rattle.tight_ends.proofs.EndsFound.{staging_part}
use Rattle.tight_ends.proofs.FilledFound.{unlike_to_most}
use Rattle.tight_ends.proofs.FilledPut.{SameStage, settled_same, unlike_to_same, both_same}
use Rattle.tight_ends.proofs.Settled.{row_most, columns_total, settled_aside, settled_lost, settled_table}

-- ---- a slot with a stage

-- cells beyond that are 0 add nothing
sum_beyond : (n W : ℕ) (f : ℕ → ℕ) → n ≤ W → ((j : ℕ) → n ≤ j → j < W → f j ≡ 0) → sum_to W f ≡ sum_to n f
sum_beyond n zero f l z = ap (λ (m : ℕ). sum_to m f) (let e : 0 ≡ n = omega arith in e)
sum_beyond n (suc W) f l z =
    ⊎_elim (λ p. ap (λ (m : ℕ). sum_to m f) (sym p))
    (λ p. omega (arith, z W (le_of_suc-le-suc p) (omega arith), sum_beyond n W f (le_of_suc-le-suc p) (λ j a b. z j a (omega arith)))) (eq-or-lt_of_le l)

-- where they mean rows, and cells beyond the width are 0, their row ends can be made
module _ (K W a e : ℕ) (ws : List ℕ) (r : Rows) (staged : Staged K W (grid_of K W a (words_of ws)) (groups_of W e (words_of ws)) r)
    (beyond : (k j : ℕ) → k < words_of ws (count_at a) → words_of ws (width_at a) ≤ j → j < W → words_of ws (cell_at K W a k j) ≡ 0)
    (behind : a + slot_words K W ≤ e) (inside : e + 6 * suc W ≤ length ws) (base : words_of ws (base_at a) + W < 2 ^ 64) where
  all : total r.kept.table ≡ sum_to (words_of ws (width_at a)) (both (groups_of W e (words_of ws)))
  all = columns_total K W (grid_of K W a (words_of ws)) (groups_of W e (words_of ws)) r staged

  -- without columns there would be no units
  some : 1 ≤ words_of ws (width_at a)
  some = pos_of_ne-zero (λ z. absurd (omega (arith, staged.heavy, all, ap (λ (n : ℕ). sum_to n (both (groups_of W e (words_of ws)))) z)))

  pub staged_endable : Endable K W a e ws
  staged_endable =
      record {
        behind = behind;
        inside = inside;
        few = staged.few;
        some = some;
        narrow = staged.narrow;
        rises = staged.rises;
        rows = λ k l. rw (sum_beyond (words_of ws (width_at a)) W (row_in K W a (words_of ws) k) staged.narrow (λ j m n. beyond k j l m n))
            (row_most K W (grid_of K W a (words_of ws)) (groups_of W e (words_of ws)) r staged k l);
        columns = omega (arith, all, staged.full);
        base = base;
        lost = omega (arith, staged.lost, staged.full);
      }

-- ---- the slot

module _ (K W a e bot top gone : ℕ) (xs : List ℕ) (ok : Endable K W a e xs) (below : bot < top) (within : top ≤ words_of xs (width_at a)) (light : gone ≤ whole) where
  module _ (o : ℕ) (ys : List ℕ) (so : KeptTo K W a bot (top - bot) (words_of xs (count_at a)) o xs ys) where
    stage_kept : SameStage W e ys xs
    stage_kept p l m = so.rest p (omega (arith, ok.inside)) (inr (inr (omega (arith, ok.behind))))

    module _ (zs : List ℕ) (filled : FilledAll W e bot (a + 4 + 2 * K) (a + 4 + 2 * K + W) (top - bot) ys zs) where
      head_same : (i : ℕ) → i < 4 → words_of zs (a + i) ≡ words_of xs (a + i)
      head_same i l =
          filled.beside (a + i) (omega (arith, ok.behind, ok.inside, so.long)) (inl (omega arith)) (inl (omega arith)) ∙ so.rest (a + i) (omega (arith, ok.behind, ok.inside)) (inl (omega arith))

      module _ (vs : List ℕ) (head : HeaderPut a o bot (top - bot) gone zs vs) where
        -- beside the header and the filled numbers the words are those of the rows kept
        same : (p : ℕ) → p < length xs → a + 4 ≤ p → (p < a + 4 + 2 * K) ⊎ (a + 4 + 2 * K + 2 * W ≤ p) → words_of vs p ≡ words_of ys p
        same p l m out =
            head.rest p (omega (arith, filled.long, so.long)) (inr m)
            ∙ filled.beside p (omega (arith, so.long)) (⊎_elim (λ h. inl h) (λ h. inr (omega (arith, ok.narrow))) out) (⊎_elim (λ h. inl (omega arith)) (λ h. inr (omega (arith, ok.narrow))) out)

        length_same : length vs ≡ length xs
        length_same = head.long ∙ filled.long ∙ so.long

        few : o ≤ K
        few = omega (arith, so.few, ok.few)

        base_is : words_of vs (base_at a) ≡ words_of xs (base_at a) + bot
        base_is = head.base ∙ ap (◌+ bot) (head_same 1 (omega arith))

        masks : (i : ℕ) → i < o → words_of vs (mask_at a i) ≡ words_of ys (mask_at a i)
        masks i l = same (mask_at a i) (omega (arith, few, ok.behind, ok.inside)) (omega arith) (inl (omega (arith, few)))

        units : (i : ℕ) → i < o → words_of vs (units_at K a i) ≡ words_of ys (units_at K a i)
        units i l = same (units_at K a i) (omega (arith, few, ok.behind, ok.inside)) (omega arith) (inl (omega (arith, few)))

        cells : (i j : ℕ) → i < o → j < W → words_of vs (cell_at K W a i j) ≡ words_of ys (cell_at K W a i j)
        cells i j l m = same (cell_at K W a i j) (omega (arith, row_in_lem K W i (omega (arith, few)), ok.behind, ok.inside)) (omega arith) (inr (omega arith))

        front_is : (i : ℕ) → i < top - bot → words_of vs (front_at K a i) ≡ (settled_filled (groups_of W e (words_of ys)) bot i).front
        front_is i l = head.rest (front_at K a i) (omega (arith, filled.long, so.long, ok.narrow, ok.behind, ok.inside)) (inr (omega arith)) ∙ filled.front i l

        back_is : (i : ℕ) → i < top - bot → words_of vs (back_at K W a i) ≡ (settled_filled (groups_of W e (words_of ys)) bot i).back
        back_is i l = head.rest (back_at K W a i) (omega (arith, filled.long, so.long, ok.narrow, ok.behind, ok.inside)) (inr (omega arith)) ∙ filled.back i l

        pub slot_ended : SlotEnded K W a e bot top gone xs vs
        slot_ended =
            record {
              long = length_same;
              kept = slot_kept K W a bot (top - bot) o xs ys (words_of vs) so ok.few (omega (arith, ok.narrow)) ok.rises head.count base_is head.width masks units cells;
              neat = slot_neat K W a bot (top - bot) o xs ys (words_of vs) so ok.few (omega (arith, ok.narrow)) ok.rises head.count base_is head.width masks units cells;
              width = head.width;
              lost = head.lost ∙ ap (◌+ gone) (head_same 3 (omega arith));
              filled = λ i l. ap₂ (λ (f b : ℕ). record { front = f; back = b }) (front_is i l) (back_is i l) ∙ settled_same W e ys xs stage_kept bot i (omega (arith, ok.narrow));
              beside = λ p l out. head.rest p (omega (arith, filled.long, so.long)) (⊎_elim (λ h. inl h) (λ h. inr (omega arith)) out)
                  ∙ filled.beside p (omega (arith, so.long)) (⊎_elim (λ h. inl (omega arith)) (λ h. inr (omega (arith, ok.narrow))) out) (⊎_elim (λ h. inl (omega arith)) (λ h. inr (omega (arith, ok.narrow))) out)
                  ∙ so.rest p l (⊎_elim (λ h. inl (omega arith)) (λ h. inr (inr h)) out);
            }

-- ---- what it means

-- of rows that slot and stage meant: those after the row ends
ended_means : (K W a e : ℕ) (xs ys : List ℕ) (top gone : ℕ) → Topped (both (groups_of W e (words_of xs))) (words_of xs (width_at a)) top gone
    → (bot low : ℕ) → Bottomed (both (groups_of W e (words_of xs))) W top bot low → SlotEnded K W a e bot top gone xs ys
    → (r : Rows) → Staged K W (grid_of K W a (words_of xs)) (groups_of W e (words_of xs)) r
    → settled (ends W r) ≡ rows_of (more r.kept.aside (gone + low + unlike_to (groups_of W e (words_of xs)) bot top)) (grid_of K W a (words_of ys))
ended_means K W a e xs ys zero gone t bot low b so r staged = absurd (omega (arith, t.some))
ended_means K W a e xs ys (suc c) gone t bot low b so r staged =
    ap₂ (λ (T : List State) (x : ℕ). shape T x (settled (ends W r)).lost)
    (settled_table K W g h r staged c gone t bot low b (grid_of K W a (words_of ys)) so.kept so.width (λ i l. so.filled i (omega (arith, so.width))))
    (settled_aside K W g h r staged c gone t bot low b)
    ∙ ap (shape (table_of (grid_of K W a (words_of ys))) (more r.kept.aside (gone + low + unlike_to h bot (suc c))))
    (settled_lost K W g h r staged c gone t bot low b ∙ ap (◌+ gone) (sym staged.lost) ∙ sym so.lost)
  where
    g : Grid
    g = grid_of K W a (words_of xs)

    h : Groups
    h = groups_of W e (words_of xs)

    shape : List State → ℕ → ℕ → Rows
    shape T x l = record { kept = record { table = T; aside = x }; lost = l }

module _ (K W a e : ℕ) (xs : List ℕ) (ok : Endable K W a e xs) where
  may_find : Staging W e (words_of xs (width_at a)) xs
  may_find = record { narrow = ok.narrow; inside = ok.inside; most = ok.columns }

  module _ (top gone : ℕ) (t : Topped (both (groups_of W e (words_of xs))) (words_of xs (width_at a)) top gone) where
    may_find_bottom : Staging W e top xs
    may_find_bottom = staging_part W e top (words_of xs (width_at a)) xs t.within may_find

    module _ (bot low : ℕ) (b : Bottomed (both (groups_of W e (words_of xs))) W top bot low) (ys : List ℕ) (so : SlotEnded K W a e bot top gone xs ys) where
      stage_same : SameStage W e ys xs
      stage_same p l m = so.beside p (omega (arith, ok.inside)) (inr (omega (arith, ok.behind)))

      narrow : top ≤ W
      narrow = omega (arith, t.within, ok.narrow)

      pub filled_there : FilledThere W e bot top (a + 4 + 2 * K) (a + 4 + 2 * K + W) ys
      filled_there =
          record {
            below = b.within;
            stage = record { narrow = narrow; inside = omega (arith, ok.inside, so.long); most = rw (both_same W e ys xs stage_same top narrow) may_find_bottom.most };
            front_end = omega (arith, narrow, ok.behind, ok.inside, so.long);
            back_end = omega (arith, narrow, ok.behind, ok.inside, so.long);
            filled = λ i l. so.filled i l ∙ sym (settled_same W e ys xs stage_same bot i (omega (arith, narrow)));
          }

      module _ (u : ℕ) (unlike : u ≡ unlike_to (groups_of W e (words_of ys)) bot top) where
        unlike_is : u ≡ unlike_to (groups_of W e (words_of xs)) bot top
        unlike_is = unlike ∙ unlike_to_same W e ys xs stage_same bot top b.within narrow

        aside_most : gone + low + u ≤ 2 * whole
        aside_most =
            omega (
              arith,
              t.leaving,
              ok.columns,
              b.rising,
              sum_part bot top (both (groups_of W e (words_of xs))) (omega (arith, b.within)),
              unlike_is,
              unlike_to_most (groups_of W e (words_of xs)) bot top,
            )

        pub rows_ended : RowsEnded K W a e (gone + low + u) xs ys
        rows_ended =
            record {
              long = so.long;
              most = aside_most;
              room = λ l. ⊎_elim (λ p. omega (arith, so.width)) (λ p. omega (arith, so.width, p.1, b.within)) b.enough;
              neat = so.neat;
              means = λ r staged. ended_means K W a e xs ys top gone t bot low b so r staged
                  ∙ ap (λ (x : ℕ). rows_of (more r.kept.aside (gone + low + x)) (grid_of K W a (words_of ys))) (sym unlike_is);
              beside = so.beside;
            }
