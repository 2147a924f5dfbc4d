-- A table is opened, rows move to it, and its header and the stage's filled numbers are written, one after the other: what each step asks for is what was there before the first, since
-- they write different words.
use mathlib.Core.Path.{◌≡◌, refl, ap, subst, ◌∙◌}
use mathlib.Core.Logic.{◌⊎◌, inl, inr, ⊎_elim}
use mathlib.Core.Bool.{Bool, true, false}
use mathlib.Core.List.{List}
use Prim.Native.Nat.{ℕ, suc, ◌+◌, ◌-◌, ◌*◌, ◌/◌, ◌%◌, ◌^◌, ◌≤◌, ◌<◌}
use native.Mathlib.Nat.{mul-le-mul_left, mul-le-mul_right, div-add-mod', mod-lt}
use native.Mathlib.Omega.{arith}
use lib.Dec.{ltb}
use lib.ListN.{length}
use borrow.Author.Tests.{ltb-true, ltb-false}
use Rattle.basics.proofs.Sums.{sum_to, sum_eq}
use Rattle.rules.specs.declared.Target.{Target}
use Rattle.tight_rows.specs.declared.Opening.{Opening}
use Rattle.tight.specs.declared.Receiver.{Receiver}
use Rattle.tight.specs.declared.Sender.{Sender}
use Rattle.tight_rows.specs.Room.{words_of, Leaves, width_at, slot_words}
use Rattle.tight.specs.Moving.{plus}
use Rattle.tight_rows.specs.Numbers.{Openable, Opened}
use Rattle.tight.specs.Sending.{start_at, comes_from, rest_comes, Clear, Receiving, Movings}
use Rattle.tight.specs.Grouping.{Grouped, HeaderSent}
use Rattle.tight.specs.Passing.{receiver_of, Delivering, Delivered}
use Rattle.tight_rows.proofs.MasksNumbered.{number_there}
use Rattle.tight_rows.proofs.Writing.{row_before}
use Rattle.tight.proofs.RowsMoved.{moved_beside}

module _ (N : ℕ) (x : Target) (L : ℕ) (s : Sender) (o : Opening) (a e : ℕ) (xs : List ℕ) (ok : Delivering N x L s o a e xs) where
  pub slot_fits : o.slot + slot_words o.contents o.cells ≤ length xs
  slot_fits = omega (arith, ok.there.slot, ok.there.sums, ok.there.goes, ok.there.end)

  pub from_fits : a + slot_words o.contents o.cells ≤ length xs
  from_fits = omega (arith, ok.from, ok.there.sums, ok.there.goes, ok.there.end)

  pub may_open : Openable o xs
  may_open = record { placed = ok.there; few = ok.few_rows }

  module _ (r : ℕ) (ys : List ℕ) (opens : Opened o r xs ys) where
    rows_within : r * o.cells ≤ o.contents * o.cells
    rows_within =
        let rows : r ≤ o.contents = omega (arith, opens.numbered.count, ok.few_rows) in
        omega (arith, mul-le-mul_left o.cells rows)

    rows_some : 1 ≤ r
    rows_some = omega (arith, opens.numbered.count, ok.some)

    same_long : length ys ≡ length xs
    same_long = opens.numbered.long

    -- beside the slot and the numbers the words are as they were
    elsewhere : (i : ℕ) → i < length xs → (i < o.slot) ⊎ (o.slot + slot_words o.contents o.cells ≤ i) → (i < o.numbers) ⊎ (o.numbers + o.masks ≤ i) → words_of ys i ≡ words_of xs i
    elsewhere i l b c =
        let rows : r ≤ o.contents = omega (arith, opens.numbered.count, ok.few_rows) in
        opens.beside i l
        (record {
          masks = ⊎_elim (λ h. inl (omega arith)) (λ h. inr (omega arith)) b;
          units = ⊎_elim (λ h. inl (omega arith)) (λ h. inr (omega arith)) b;
          numbers = c;
        })
        (⊎_elim (λ h. inl (omega arith)) (λ h. inr (omega (arith, rows_within))) b)

    from_slot : (i : ℕ) → a ≤ i → i < a + slot_words o.contents o.cells → words_of ys i ≡ words_of xs i
    from_slot i l h =
        elsewhere i (omega (arith, from_fits)) (⊎_elim (λ p. inl (omega arith)) (λ p. inr (omega arith)) ok.apart) (inl (omega (arith, ok.from, ok.there.sums, ok.there.goes)))

    from_stage : (i : ℕ) → e ≤ i → i < length xs → words_of ys i ≡ words_of xs i
    from_stage i l h =
        elsewhere i h (inr (omega (arith, ok.there.slot, ok.there.sums, ok.there.goes, ok.stage))) (inr (omega (arith, ok.stage)))

    -- n words of the slot at place a are none of the table's
    clear_of : (p n : ℕ) → a + 4 ≤ p → p + n ≤ a + slot_words o.contents o.cells → Clear (receiver_of o r) p n
    clear_of p n l h = ⊎_elim (λ q. inl (omega arith)) (λ q. inr (omega (arith, rows_within))) ok.apart

    -- nor are those behind the slots
    behind_all : (p n : ℕ) → o.plan ≤ p → Clear (receiver_of o r) p n
    behind_all p n l = inr (omega (arith, rows_within, ok.there.slot))

    plan_before : o.plan ≤ e
    plan_before = omega (arith, ok.there.sums, ok.there.goes, ok.stage)

    receiving : Receiving (receiver_of o r) L s ys
    receiving =
        record {
          long = ok.long;
          wide = ok.wide;
          room = omega (arith, same_long, rows_within, slot_fits);
          numbered = omega (arith, same_long, ok.live, ok.there.end);
          number = λ D d. number_there o r xs ys opens.numbered rows_some o.masks D (omega (arith, ok.live)) (omega (arith, ok.live));
          masks_end = omega (arith, same_long, ok.masks_end, from_fits);
          rows_end = omega (arith, same_long, ok.rows_end, from_fits);
          lose_end = omega (arith, same_long, ok.lose, ok.wide, ok.inside);
          keep_end = omega (arith, same_long, ok.keep, ok.wide, ok.inside);
          all_end = omega (arith, same_long, ok.all, ok.wide, ok.inside);
          rest_end = omega (arith, same_long, ok.rest, ok.wide, ok.inside);
          behind = behind_all o.numbers (L + 1) (omega (arith, ok.there.sums, ok.there.goes));
          masks = clear_of s.masks s.count ok.masks ok.masks_end;
          rows = clear_of s.rows (s.count * s.length) ok.rows ok.rows_end;
          lose = behind_all s.lose s.width (omega (arith, plan_before, ok.lose));
          keep = behind_all s.keep s.width (omega (arith, plan_before, ok.keep));
          all = behind_all s.all s.width (omega (arith, plan_before, ok.all));
          rest = behind_all s.rest s.width (omega (arith, plan_before, ok.rest));
        }

    -- the cells of the opened rows are 0, place by place
    cleared : (i : ℕ) → (receiver_of o r).cells ≤ i → i < (receiver_of o r).cells + r * o.cells → words_of ys i ≡ 0
    cleared i l h =
        let cell : i ≡ (receiver_of o r).cells + n / W * W + n % W = omega (arith, div-add-mod' n W) in
        ap (words_of ys) cell ∙ opens.cells (n / W) (n % W) (row (ltb (n / W) r) refl) (mod-lt n some)
      where
        W : ℕ
        W = o.cells

        n : ℕ
        n = i - (o.slot + 4 + 2 * o.contents + 2 * o.cells)

        some : 0 < W
        some = omega (arith, ok.wide)

        row : (b : Bool) → ltb (n / W) r ≡ b → n / W < r
        row true q = ltb-true (n / W) r q
        row false q = absurd (omega (arith, mul-le-mul_right W (ltb-false (n / W) r q), div-add-mod' n W))

    movings : Movings N x (receiver_of o r) s ys
    movings =
        record {
          placed = ok.placed;
          few = ok.few;
          ways = λ k l. rw (from_slot (s.masks + k) (omega (arith, ok.masks)) (omega (arith, ok.masks_end))) (ok.ways k l);
          fits = λ i l h. omega (
            arith,
            cleared i l h,
            ok.fits,
            sum_eq s.count (λ k. sum_to s.width (λ j. words_of ys (start_at s k + j))) (λ k. sum_to s.width (λ j. words_of xs (start_at s k + j)))
                (λ k m. sum_eq s.width (λ j. words_of ys (start_at s k + j)) (λ j. words_of xs (start_at s k + j))
                (λ j n. from_slot (start_at s k + j) (omega (arith, ok.rows)) (omega (arith, row_before s.length k s.count m, ok.rows_end, ok.long)))),
            sum_eq s.width (λ j. words_of ys (s.rest + j)) (λ j. words_of xs (s.rest + j))
                (λ j n. from_stage (s.rest + j) (omega (arith, ok.rest)) (omega (arith, ok.rest, ok.inside, ok.wide))),
          );
        }

    -- with the receiver that the code has
    module _ (t : Receiver) (same : t ≡ receiver_of o r) where
      pub may_move : Receiving t L s ys × Movings N x t s ys
      may_move = rw same (receiving, movings)

      abbrev Moved : Receiver → List ℕ → Type 0
      Moved q zs = Leaves (plus (λ w i. sum_to s.count (comes_from N x L q s w i) + rest_comes x L q s w i)) ys zs

      module _ (zs : List ℕ) (moved : Moved t zs) where
        moves : Moved (receiver_of o r) zs
        moves = subst (λ (q : Receiver). Moved q zs) same moved

        -- the header of the slot at place a is as it was
        head_same : words_of zs (width_at a) ≡ words_of xs (width_at a)
        head_same =
            moved_beside N x L (receiver_of o r) s ys receiving movings zs moves (width_at a) (omega (arith, same_long, from_fits))
            (⊎_elim (λ p. inl (omega arith)) (λ p. inr (omega (arith, rows_within))) ok.apart)
            ∙ from_slot (width_at a) (omega arith) (omega arith)

        pub may_head : (a + 4 ≤ length zs) × (o.slot + 4 ≤ length zs) × ((a + 4 ≤ o.slot) ⊎ (o.slot + 4 ≤ a)) × (suc (words_of zs (width_at a)) < 2 ^ 64)
        may_head = (
          omega (arith, moves.long, same_long, from_fits),
          omega (arith, moves.long, same_long, slot_fits),
          ⊎_elim (λ p. inl (omega arith)) (λ p. inr (omega arith)) ok.apart,
          rw head_same ok.width,
        )

        module _ (hs : List ℕ) (heads : HeaderSent a o.slot r zs hs) where
          pub delivered : (vs : List ℕ) → Grouped N o.cells e x (a + 4 + 2 * o.contents) (a + 4 + 2 * o.contents + o.cells) s.width hs vs → Delivered N x L s o a e r xs vs
          delivered vs groups = record { opened = ys; moved = zs; headed = hs; opens = opens; moves = moves; heads = heads; groups = groups }
