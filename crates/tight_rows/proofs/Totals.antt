-- Words that there are, and sums of them: words past the end are 0, so that a sum over those that there are is the whole sum; and a sum modulo 2^64 is the sum where this is a
-- word.
use Rattle.std.proofs.Common.{◌≡◌, ℕ, zero, suc, ◌+◌, ◌%◌, ◌^◌, ◌<◌, ◌≤◌, ◌⊎◌, List, [], ◌∷◌, length, set, refl, ap, ◌∙◌, inl, inr, le_of_suc-le-suc, not-suc-le-zero, mod-eq_of_lt, eq-or-lt_of_le, arith}
use Rattle.basics.proofs.Sums.{sum_to}
use Rattle.tight_rows.specs.Room.{words_of}
use Rattle.tight_rows.specs.Rows.{There, More}

-- past the end
pub word_past : (xs : List ℕ) (i : ℕ) → length xs ≤ i → words_of xs i ≡ 0
word_past [] i l = refl
word_past (x ∷ xs) zero l = absurd (not-suc-le-zero l)
word_past (x ∷ xs) (suc i) l = word_past xs i (le_of_suc-le-suc l)

-- the words from place a on, as many as there are
module _ (a : ℕ) (xs : List ℕ) where
  none_more : (j n : ℕ) → length xs ≤ a + j → j ≤ n → sum_to j (λ i. words_of xs (a + i)) ≡ sum_to n (λ i. words_of xs (a + i))
  none_more j zero l m = ap (λ (k : ℕ). sum_to k (λ i. words_of xs (a + i))) (let z : j ≡ 0 = omega arith in z)
  none_more j (suc n) l m = go (eq-or-lt_of_le m) (λ s. none_more j n l s)
    where
      go : (j ≡ suc n) ⊎ (j < suc n) → (j ≤ n → sum_to j (λ i. words_of xs (a + i)) ≡ sum_to n (λ i. words_of xs (a + i)))
          → sum_to j (λ i. words_of xs (a + i)) ≡ sum_to (suc n) (λ i. words_of xs (a + i))
      go (inl e) h = ap (λ (k : ℕ). sum_to k (λ i. words_of xs (a + i))) e
      go (inr s) h = let z : words_of xs (a + n) ≡ 0 = word_past xs (a + n) (omega arith) in h (omega arith) ∙ omega arith

  -- their sum is that of all
  pub sum_there : (j n : ℕ) → There a n (length xs) j → sum_to j (λ i. words_of xs (a + i)) ≡ sum_to n (λ i. words_of xs (a + i))
  sum_there j n h = go (eq-or-lt_of_le h.most)
    where
      go : (j ≡ n) ⊎ (j < n) → sum_to j (λ i. words_of xs (a + i)) ≡ sum_to n (λ i. words_of xs (a + i))
      go (inl e) = ap (λ (k : ℕ). sum_to k (λ i. words_of xs (a + i))) e
      go (inr s) = none_more j n (omega (arith, h.full s)) h.most

-- where the sum is a word
pub plain : (r s : ℕ) → r ≡ s % 2 ^ 64 → s < 2 ^ 64 → r ≡ s
plain r s e l = e ∙ mod-eq_of_lt l

-- and a word that has more
pub more_plain : (xs ys : List ℕ) (i u : ℕ) → More i u xs ys → words_of xs i + u < 2 ^ 64 → ys ≡ set xs i (words_of xs i + u)
more_plain xs ys i u h l = h.word ∙ ap (set xs i) (mod-eq_of_lt l)
