-- Cells are chosen, the stage has its units and rows are split, one after the other: what each step asks for is what the one before left, since they write different words. And the plan,
-- which is a part of the words.
use mathlib.Core.Path.{◌≡◌, subst}
use mathlib.Core.Logic.{inl}
use mathlib.Core.List.{List}
use Prim.Native.Nat.{ℕ, ◌+◌, ◌^◌, ◌<◌}
use native.Mathlib.Omega.{arith}
use Rattle.basics.proofs.Sums.{sum_eq}
use Rattle.rules.specs.declared.Target.{Target}
use Rattle.rules.specs.Contents.{Place}
use Rattle.tight_rules.specs.Run.{alive}
use Rattle.tight.specs.declared.Sender.{Sender}
use Rattle.tight.specs.declared.SetAside.{SetAside}
use Rattle.tight_rows.specs.Room.{words_of}
use Rattle.tight.specs.Selecting.{Selects}
use Rattle.tight.specs.Sending.{start_at, Totalled}
use Rattle.tight.specs.Grouping.{column_of, Counting}
use Rattle.tight.specs.Passing.{Preparing, PlanReduced, Planned}
use Rattle.tight_rows.proofs.Writing.{row_before}

module _ (N : ℕ) (x : Target) (s : Sender) (fronts backs e W : ℕ) (xs : List ℕ) (ok : Preparing N x s fronts backs e W xs) where
  module _ (cs : List ℕ) (selects : Selects N x fronts backs s.lose s.keep s.all s.width xs cs) where
    -- what stands before the stage is as it was
    unchosen : (i : ℕ) → i < e → words_of cs i ≡ words_of xs i
    unchosen i l =
        selects.beside i (omega (arith, ok.inside)) (inl (omega (arith, ok.lose))) (inl (omega (arith, ok.keep))) (inl (omega (arith, ok.all)))

    pub may_count : Counting W e s cs
    may_count =
        record {
          wide = ok.wide;
          narrow = ok.narrow;
          masks = omega (arith, ok.masks, ok.rows);
          rows = ok.rows;
          behind = omega (arith, ok.all);
          all_end = omega (arith, selects.long, ok.all, ok.inside, ok.narrow);
          all = selects.both;
        }

    pub columns_fit : (j : ℕ) → j < s.width → column_of s (words_of cs) j < 2 ^ 64
    columns_fit j l =
        rw (sum_eq s.count (λ k. words_of cs (start_at s k + j)) (λ k. words_of xs (start_at s k + j))
        (λ k h. unchosen (start_at s k + j) (omega (arith, row_before s.length k s.count h, ok.rows, ok.wide)))) (ok.columns j l)

-- ---- the plan

-- the sums, and then the plan
pub planned_so : (N : ℕ) (x : Target) (L : ℕ) (s : Sender) (p n K : ℕ) (r : SetAside) (xs ys zs : List ℕ) → Totalled N x L s p n r.over xs ys → (y : Place) → y ≡ alive L x.place
    → PlanReduced p n y K r.planned ys zs → Planned N x L s p n K r xs zs
planned_so N x L s p n K r xs ys zs totals y e reduces =
    record { summed = ys; totals = totals; reduces = subst (λ (z : Place). PlanReduced p n z K r.planned ys zs) e reduces }
