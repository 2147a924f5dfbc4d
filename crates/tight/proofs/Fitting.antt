-- What the code of an access needs before each step, from the table that it starts from: the rows that are sent have no more units than the table, so that no sum and no cell grows beyond a
-- word; and some masks have units, no more than there is room for.
use mathlib.Core.Path.{◌≡◌, refl, sym, ap, ◌∙◌}
use mathlib.Core.Logic.{◌⊎◌, inl, inr, ⊎_elim}
use mathlib.Core.Bool.{Bool, true, false}
use mathlib.Core.List.{List}
use Prim.Native.Nat.{ℕ, zero, suc, ◌+◌, ◌*◌, ◌%◌, ◌^◌, ◌≤◌, ◌<◌}
use native.Mathlib.Nat.{le_trans, le_of_eq, mod-le, mul-le-mul_right}
use native.Mathlib.Omega.{arith}
use lib.Bits.{bit_and, and_le_l}
use lib.ListN.{length}
use Rattle.basics.proofs.Sums.{sum_to, sum_eq, sum_le}
use Rattle.rules.specs.declared.Target.{Target}
use Rattle.rules.specs.Contents.{places, size}
use Rattle.rules.specs.Units.{whole}
use Rattle.rules.specs.Shape.{Aimed, Listed}
use Rattle.rules.proofs.Contents.{sixteen_places}
use Rattle.tight_rules.specs.Run.{alive}
use Rattle.tight.specs.declared.Sender.{Sender}
use Rattle.tight_rows.specs.Room.{Words, words_of, width_at}
use Rattle.tight_rows.specs.Numbers.{sum_in}
use Rattle.tight.specs.Splitting.{can_lose}
use Rattle.tight.specs.Sending.{start_at, part_in, rest_in, most_from, Totalling, Totalled}
use Rattle.tight.specs.Access.{risk}
use Rattle.tight_rows.specs.Rows.{if}
use Rattle.tight.specs.Accessed.{loses, left_in, left_in_all, sender_of, opening_of, Laid, Sendable, Holding}
use Rattle.tight_rows.specs.Grid.{Grid}
use Rattle.tight.specs.Passing.{PlanReduced, Delivering}
use Rattle.tight.proofs.Sent.{sum_turned}
use Rattle.tight.proofs.SumsMeant.{word_most, rest_meant}
use Rattle.tight.proofs.Accessed.{some_rows}
use Rattle.tight.proofs.Holds.{row_small, units_whole, column_most}
use Rattle.tight.proofs.SlotReady.{rank_same, sendable_kept, before, plan_room, plan_units, sum_is, rows_few}

sum_many : (n c : ℕ) (f : ℕ → ℕ) → sum_to n (λ k. c * f k) ≡ c * sum_to n f
sum_many zero c f = omega arith
sum_many (suc n) c f = omega (arith, sum_many n c f)

module _ (N Z : ℕ) (ts : List ℕ) (K W M : ℕ) (g : Grid) (holds : Holding N Z ts K W M g) (x : Target) where
  -- no more is left over than there is
  pub left_most : left_in_all N x g ≤ whole
  left_most =
      le_trans
      (sum_le g.width (left_in N x g) (λ j. sum_to g.count (λ k. g.cell k j)) (λ j m. sum_le g.count _ (λ k. g.cell k j) (λ k l. go (can_lose x (g.mask k)) (loses N x g j) (g.cell k j))))
      (omega (
        arith,
        sum_turned g.count g.width g.cell,
        sum_eq g.count g.units (λ k. sum_to g.width (g.cell k)) holds.neat.summed,
        units_whole N Z ts K W M g holds,
      ))
    where
      go : (a b : Bool) (u : ℕ) → if a (if b (u % N)) ≤ u
      go true true u = mod-le u N
      go true false u = omega arith
      go false b u = omega arith

  module _ (s : Sender) (w : Words) (ready : Sendable N x g s w) where
    -- a row has no more than its units
    row_words_lem : (k : ℕ) → k < g.count → sum_to s.width (λ j. w (start_at s k + j)) ≤ g.units k
    row_words_lem k l =
        rw ready.width
        (le_trans (sum_le g.width _ (g.cell k) (λ j m. word_most N x g s w ready (column_most N Z ts K W M g holds) k j l m)) (le_of_eq (sym (holds.neat.summed k l))))

    chosen_words : (select k : ℕ) → k < g.count → sum_to s.width (λ j. bit_and (w (start_at s k + j)) (w (select + j))) ≤ g.units k
    chosen_words select k l = le_trans (sum_le s.width _ _ (λ j m. and_le_l (w (start_at s k + j)) (w (select + j)))) (row_words_lem k l)

    most_row : N ≤ 16 → (k : ℕ) → k < g.count → most_from N s w k ≤ 34 * g.units k
    most_row few k l =
        omega (arith, ready.units k l, chosen_words s.lose k l, chosen_words s.keep k l, mul-le-mul_right (part_in s w k) few)

    pub sums_fit : N ≤ 16 → sum_to s.count (most_from N s w) + rest_in s w < 2 ^ 64
    sums_fit few =
        rw ready.count
        (omega (
          arith,
          sum_le g.count (most_from N s w) (λ k. 34 * g.units k) (λ k l. most_row few k l),
          sum_many g.count 34 g.units,
          units_whole N Z ts K W M g holds,
          rest_meant N x g s w ready (column_most N Z ts K W M g holds),
          left_most,
        ))

    pub cells_fit : 33 * sum_to s.count (λ k. sum_to s.width (λ j. w (start_at s k + j))) + sum_to s.width (λ j. w (s.rest + j)) < 2 ^ 64
    cells_fit =
        omega (
          arith,
          ap (λ (n : ℕ). sum_to n (λ k. sum_to s.width (λ j. w (start_at s k + j)))) ready.count,
          sum_le g.count (λ k. sum_to s.width (λ j. w (start_at s k + j))) g.units row_words_lem,
          units_whole N Z ts K W M g holds,
          ap (λ (n : ℕ). sum_to n (λ j. w (s.rest + j))) ready.width,
          sum_eq g.width (λ j. w (s.rest + j)) (left_in N x g) ready.rest,
          left_most,
        )

    pub ways_small : Aimed Z ts x → (k : ℕ) → k < s.count → size (risk x (w (s.masks + k))) ≤ N
    ways_small aim k l = let m : k < g.count = omega (arith, ready.count) in rw (ready.mask k m) (row_small N Z ts K W M g holds x aim k m)

-- ---- before the steps

module _ (N Z : ℕ) (ts : List ℕ) (K W M : ℕ) (some : 0 < N) (few : N ≤ 16) (x : Target) (aim : Aimed Z ts x) (L a b plan e : ℕ) (g : Grid) (holds : Holding N Z ts K W M g) (size : ℕ)
    (laid : Laid K W a b plan (2 ^ length ts) e size) (tracked : length ts ≤ places) (live : L < 2 ^ length ts) where
  abbrev n : ℕ
  n = 2 ^ length ts

  abbrev s : Sender
  s = sender_of K W a e g

  pub placed : Listed 16 x.place
  placed i h = omega (arith, aim.placed i h, sixteen_places)

  rows_words_lem : g.count * W ≤ K * W
  rows_words_lem = mul-le-mul_right W holds.neat.few

  module _ (ys : List ℕ) (long : length ys ≡ size) (ready : Sendable N x g s (words_of ys)) where
    -- units can be added up
    pub totalling : Totalling N x L s plan n ys
    totalling =
        record {
          there = record {
            wide = holds.neat.narrow;
            masks = omega (arith, laid.first, holds.neat.few);
            units = omega (arith, laid.first, holds.neat.few);
            rows = omega (arith, laid.first, rows_words_lem);
            lose = omega (arith, laid.behind);
            keep = omega (arith, laid.behind);
            lose_end = omega (arith, laid.inside, holds.neat.narrow);
            keep_end = omega (arith, laid.inside, holds.neat.narrow);
          };
          live = live;
          rest = omega (arith, laid.behind);
          all = omega (arith, laid.behind);
          rest_end = omega (arith, laid.inside, holds.neat.narrow);
          all_end = omega (arith, laid.inside, holds.neat.narrow);
          placed = placed;
          ways = ways_small N Z ts K W M g holds x s (words_of ys) ready aim;
          fits = sums_fit N Z ts K W M g holds x s (words_of ys) ready few;
        }

    module _ (us : List ℕ) (over : ℕ) (totals : Totalled N x L s plan n over ys us) (vs : List ℕ) (u : ℕ) (reduces : PlanReduced plan n (alive L x.place) K u us vs) where
      -- the words beside the plan are as they were
      as_before : (i : ℕ) → i < size → (i < plan) ⊎ (e ≤ i) → words_of vs i ≡ words_of ys i
      as_before i l q =
          reduces.beside i (omega (arith, totals.long)) (⊎_elim (λ h. inl h) (λ h. inr (omega (arith, laid.behind))) q)
          ∙ totals.beside i (omega arith) (⊎_elim (λ h. inl h) (λ h. inr (omega (arith, laid.behind))) q)

      still : Sendable N x g s (words_of vs)
      still =
          sendable_kept N x K W a e g holds.neat.few holds.neat.narrow (words_of ys) (words_of vs)
          (λ i l m. as_before i (omega (arith, laid.first, laid.behind, laid.inside)) (inl (omega (arith, laid.first))))
          (λ i l m. as_before i (omega (arith, laid.inside)) (inr l)) ready

      -- rows can be sent on
      pub delivering : 0 < K → M < 4294967296 → W < 4294967296 → words_of ys (width_at a) ≡ g.width → Delivering N x L s (opening_of K W b plan n) a e vs
      delivering states short narrow head =
          record {
            placed = placed;
            sets = aim.near;
            few = few;
            there = record {
              slot = laid.second;
              sums = omega arith;
              goes = omega arith;
              end = omega (arith, reduces.long, totals.long, laid.behind, laid.inside);
            };
            live = live;
            some = rw (rank_same n (sum_in (opening_of K W b plan n) (words_of vs)) _ (sum_is N Z ts K W M some few x aim L a b plan e g holds size laid ys us long ready over totals vs reduces.long reduces.words reduces.beside))
                (some_rows N Z ts K W M some few x aim g holds L (before N Z ts K W M some few x aim L a b plan e g holds size laid ys us long ready over totals)
                (plan_room N Z ts K W M some few x aim L a b plan e g holds size laid ys us long ready over totals) (plan_units N Z ts K W M some few x aim L a b plan e g holds size laid ys us long ready over totals) short);
            few_rows = rows_few N Z ts K W M some few x aim L a b plan e g holds size laid ys us long ready over totals vs reduces.long reduces.words reduces.beside tracked states;
            from = laid.first;
            apart = laid.apart;
            long = holds.neat.narrow;
            wide = holds.room;
            masks = omega arith;
            masks_end = omega (arith, holds.neat.few);
            rows = omega arith;
            rows_end = omega (arith, rows_words_lem);
            stage = omega (arith, laid.behind);
            lose = refl;
            keep = refl;
            all = refl;
            rest = refl;
            inside = omega (arith, reduces.long, totals.long, laid.inside);
            width = omega (arith, as_before (width_at a) (omega (arith, laid.first, laid.behind, laid.inside)) (inl (omega (arith, laid.first))), head, holds.room);
            ways = ways_small N Z ts K W M g holds x s (words_of vs) still aim;
            fits = cells_fit N Z ts K W M g holds x s (words_of vs) still;
          }
