-- A row that is gathered and goes up, in three steps: its cells from `bot` on are copied, the first is replaced by the sum, and what is beyond is cleared.
use mathlib.Core.Path.{◌≡◌, refl, ap, ◌∙◌}
use mathlib.Core.Logic.{◌⊎◌, inl, inr, ⊎_elim}
use mathlib.Core.Bool.{Bool, true, false, cond}
use mathlib.Core.List.{List}
use Prim.Native.Nat.{ℕ, zero, suc, ◌+◌, ◌-◌, ◌≤◌, ◌<◌}
use native.Mathlib.Omega.{arith}
use lib.Dec.{ltb}
use lib.ListN.{length, set, length-set}
use lib.Seq.{get_or-set_same, get_or-set_other}
use borrow.Author.Tests.{ne_eqb, ltb-true, ltb-false}
use Rattle.basics.proofs.Sums.{sum_to}
use Rattle.tight_rows.specs.Room.{words_of, Leaves}
use Rattle.tight_rows.specs.Rows.{replaced}
use Rattle.tight_ends.specs.Settling.{gathered, gathered_row, Gathering}
use Rattle.tight_rows.proofs.Writing.{is_within_lem, not_within, within_cases}

module _ (from to bot wide cells first : ℕ) (xs ys vs : List ℕ) (ok : Gathering from to bot wide cells xs)
    (sum : first ≡ sum_to (bot + 1) (λ j. words_of xs (from + j)))
    (copied : Leaves (λ w. replaced to wide (λ j. w (from + bot + j)) w) xs ys)
    (cleared : Leaves (λ w. replaced (to + wide) (cells - wide) (λ j. 0) w) (set ys to first) vs) where
  -- below what is cleared, and behind it
  kept : (i : ℕ) → i < length xs → (i < to + wide) ⊎ (to + cells ≤ i) → words_of vs i ≡ words_of (set ys to first) i
  kept i l o =
      cleared.word i (omega (arith, length-set ys to first, copied.long))
      ∙ rw (not_within (to + wide) (cells - wide) i (⊎_elim (λ p. inl p) (λ p. inr (omega (arith, ok.within))) o)) refl

  elsewhere : (i : ℕ) → i < length xs → (i < to) ⊎ (to + cells ≤ i) → words_of vs i ≡ words_of xs i
  elsewhere i l o =
      kept i l (⊎_elim (λ p. inl (omega arith)) (λ p. inr p) o)
      ∙ get_or-set_other ys to i first 0 (λ e. other e o)
      ∙ copied.word i l
      ∙ rw (not_within to wide i (⊎_elim (λ p. inl p) (λ p. inr (omega (arith, ok.within))) o)) refl
    where
      other : i ≡ to → (i < to) ⊎ (to + cells ≤ i) → ⊥
      other e (inl p) = absurd (omega arith)
      other e (inr p) = absurd (omega (arith, ok.within, ok.some))

  -- cell j of the row
  here : (j : ℕ) → j < cells → words_of vs (to + j) ≡ gathered_row bot wide (λ i. words_of xs (from + i)) j
  unfolding gathered
  here j l = go (ltb j wide) refl
    where
      inside : to + j < length xs
      inside = omega (arith, ok.down, ok.inside)

      go : (b : Bool) → ltb j wide ≡ b → words_of vs (to + j) ≡ cond b (gathered bot (λ i. words_of xs (from + i)) j) 0
      go false e =
          cleared.word (to + j) (omega (arith, length-set ys to first, copied.long))
          ∙ rw (is_within_lem (to + wide) (cells - wide) (to + j) (omega (arith, ltb-false j wide e)) (omega (arith, ok.within))) refl
      go true e = kept (to + j) inside (inl (omega (arith, ltb-true j wide e))) ∙ pick j (ltb-true j wide e)
        where
          pick : (j : ℕ) → j < wide → words_of (set ys to first) (to + j) ≡ gathered bot (λ i. words_of xs (from + i)) j
          pick zero m =
              ap (words_of (set ys to first)) (let z : to + 0 ≡ to = omega arith in z)
              ∙ get_or-set_same ys to first 0 (omega (arith, copied.long, inside))
              ∙ sum
              ∙ ap (λ (n : ℕ). sum_to n (λ i. words_of xs (from + i))) (let z : bot + 1 ≡ suc bot = omega arith in z)
          pick (suc k) m =
              get_or-set_other ys to (to + suc k) first 0 (λ p. absurd (omega arith))
              ∙ copied.word (to + suc k) (omega (arith, ok.down, ok.inside, ok.within))
              ∙ rw (is_within_lem to wide (to + suc k) (omega arith) (omega arith), ne_eqb (suc k) 0 (λ p. absurd (omega arith)))
              (ap (words_of xs) (let z : from + bot + (to + suc k - to) ≡ from + (bot + suc k) = omega arith in z))

  pub row_gathered : Leaves (λ w. replaced to cells (gathered_row bot wide (λ j. w (from + j))) w) xs vs
  row_gathered =
      record {
        long = cleared.long ∙ length-set ys to first ∙ copied.long;
        word = λ i l. within_cases to cells i (λ b. words_of vs i ≡ cond b (gathered_row bot wide (λ j. words_of xs (from + j)) (i - to)) (words_of xs i))
            (λ p q. ap (words_of vs) (let z : i ≡ to + (i - to) = omega arith in z) ∙ here (i - to) (omega arith)) (λ o. elsewhere i l o);
      }
