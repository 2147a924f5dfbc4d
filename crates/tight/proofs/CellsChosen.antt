-- Cells that are chosen: word by word by what is filled, then those that are not chosen, then all. The words of the filled numbers are none of those written.
use mathlib.Core.Path.{◌≡◌, refl, ap, ◌∙◌}
use mathlib.Core.Logic.{◌⊎◌, inl}
use mathlib.Core.Bool.{Bool, true, false, not}
use mathlib.Core.List.{List}
use Prim.Native.Nat.{ℕ, ◌+◌, ◌-◌, ◌^◌, ◌≤◌, ◌<◌}
use native.Mathlib.Omega.{arith}
use lib.Bits.{bit_and, and_mask, and_zero_r}
use lib.ListN.{length}
use Rattle.basics.proofs.Sums.{sum_to, sum_eq}
use Rattle.rules.specs.declared.Target.{Target}
use Rattle.tight_rows.specs.Room.{Words, words_of}
use Rattle.tight_rows.specs.Rows.{row_sum, if}
use Rattle.tight.specs.Selecting.{ones, chosen, loses_at, Selectable, Selects}
use Rattle.tight_rows.proofs.Writing.{Written, as_before, written_at}

-- ---- the others

chosen_not : (b : Bool) → ones - chosen b ≡ chosen (not b)
chosen_not true = refl
chosen_not false = refl

-- ---- what is chosen

-- of a word all or nothing
pub chosen_part : (b : Bool) (u : ℕ) → u < 2 ^ 64 → bit_and u (chosen b) ≡ if b u
chosen_part true u l = and_mask u 64 ∙ omega arith
chosen_part false u l = and_zero_r u

-- of a row the cells that are meant, in all
pub chosen_sum : (from select n : ℕ) (w : Words) (b : ℕ → Bool) → ((j : ℕ) → j < n → w (from + j) < 2 ^ 64) → ((j : ℕ) → j < n → w (select + j) ≡ chosen (b j))
    → row_sum from select n w ≡ sum_to n (λ j. if (b j) (w (from + j)))
chosen_sum from select n w b small e =
    sum_eq n (λ j. bit_and (w (from + j)) (w (select + j))) (λ j. if (b j) (w (from + j))) (λ j l. ap (bit_and (w (from + j))) (e j l) ∙ chosen_part (b j) (w (from + j)) (small j l))

-- ---- all three rows

module _ (N : ℕ) (x : Target) (fronts backs lose keep all n : ℕ) (xs : List ℕ) (ok : Selectable x fronts backs lose keep all n xs) where
  abbrev losing : Words → ℕ → ℕ
  losing w j = chosen (loses_at N x fronts backs w j)

  abbrev others : Words → ℕ → ℕ
  others w j = ones - w (lose + j)

  pub selected : (ys zs vs : List ℕ) → Written lose losing n xs ys → Written keep others n ys zs → Written all (λ w j. ones) n zs vs → Selects N x fronts backs lose keep all n xs vs
  selected ys zs vs f g h =
      record {
        long = h.long ∙ g.long ∙ f.long;
        losing = λ j l. last (lose + j) (omega (arith, ok.first, ok.second, ok.third)) (inl (omega (arith, ok.first, ok.second)))
            ∙ second (lose + j) (omega (arith, ok.first, ok.second, ok.third)) (inl (omega (arith, ok.first))) ∙ first_row j l;
        keeping = λ j l. last (keep + j) (omega (arith, ok.second, ok.third)) (inl (omega (arith, ok.second)))
            ∙ written_at keep others n ys zs g (omega (arith, f.long, ok.second, ok.third)) j l ∙ ap (λ (u : ℕ). ones - u) (first_row j l) ∙ chosen_not (loses_at N x fronts backs (words_of xs) j);
        both = λ j l. written_at all (λ w i. ones) n zs vs h (omega (arith, g.long, f.long, ok.third)) j l;
        beside = λ i l a b c. last i l c ∙ second i l b ∙ as_before lose losing n xs ys f i l a;
      }
    where
      last : (i : ℕ) → i < length xs → (i < all) ⊎ (all + n ≤ i) → words_of vs i ≡ words_of zs i
      last i l o = as_before all (λ w j. ones) n zs vs h i (omega (arith, g.long, f.long)) o

      second : (i : ℕ) → i < length xs → (i < keep) ⊎ (keep + n ≤ i) → words_of zs i ≡ words_of ys i
      second i l o = as_before keep others n ys zs g i (omega (arith, f.long)) o

      first_row : (j : ℕ) → j < n → words_of ys (lose + j) ≡ losing (words_of xs) j
      first_row j l = written_at lose losing n xs ys f (omega (arith, ok.first, ok.second, ok.third)) j l
