-- Rows that are added and split: what a turn of the loop reads is what stood there before the first, since nothing that it reads has been written.
use Rattle.std.proofs.Common.{◌≡◌, ℕ, zero, suc, ◌+◌, ◌-◌, ◌*◌, ◌/◌, ◌%◌, ◌^◌, ◌<◌, ◌≤◌, Bool, true, false, cond, eqb, ◌≢◌, ◌⊎◌, List, length, set, sym, refl, ap, ◌∙◌, inl, inr, ⊎_elim, le_trans, le_refl, le_of_suc-le-suc, le-add_right, lt_of_le_of_lt, eq-or-lt_of_le, le-add_left, add-one, arith, length-set, get_or-set_other, get_or-set_same, eq-eqb, ne_eqb, eqb-true}
use native.Mathlib.Decide.{ℕ_discrete}
use Rattle.basics.proofs.Sums.{sum_to}
use Rattle.tight_rows.specs.Room.{Words, words_of, Leaves}
use Rattle.tight_rows.specs.Rows.{Apart, selected, with_row, row_sum, Addable, split_at, split_to, Splittable}
use Rattle.tight_rows.proofs.Writing.{nowhere, is_within_lem, not_within, same_place, Written, as_before, one_more_lem}

-- place b + j of a row that is apart, where j words are written from place a on
pub apart_place : (n a b j : ℕ) → Apart n a b → j < n → (b + j < a) ⊎ (a + j ≤ b + j)
apart_place n a b j (inl h) l = inr (omega arith)
apart_place n a b j (inr h) l = inl (omega arith)

module _ (from select to n times : ℕ) (xs ys : List ℕ) (ok : Addable from select to n times xs) (j : ℕ) (l : j < n)
    (h : Written to (with_row from select to times) j xs ys) where
  read : (p : ℕ) → p + j < length xs → (p + j < to) ⊎ (to + j ≤ p + j) → words_of ys (p + j) ≡ words_of xs (p + j)
  read p = as_before to (with_row from select to times) j xs ys h (p + j)

  -- the sum is that of the words before
  same_sum : with_row from select to times (words_of ys) j ≡ with_row from select to times (words_of xs) j
  same_sum =
      rw (
        read from (omega (arith, ok.inside)) (apart_place n to from j ok.apart l),
        read select (omega (arith, ok.chosen)) (apart_place n to select j ok.beside l),
        read to (omega (arith, ok.room)) (inr (omega arith)),
      ) refl

  pub sum_fits : with_row from select to times (words_of ys) j < 2 ^ 64
  sum_fits = rw same_sum (ok.fits j l)

  pub part_fits : selected (words_of ys) (from + j) (select + j) * times < 2 ^ 64
  part_fits = omega (arith, sum_fits)

  pub row_more : Written to (with_row from select to times) (j + 1) xs (set ys (to + j) (with_row from select to times (words_of ys) j))
  row_more = one_more_lem to (with_row from select to times) j xs ys (with_row from select to times (words_of ys) j) h (omega (arith, ok.room)) same_sum

-- ---- sums

-- a part of a sum is no more than the sum
pub sum_part : (j n : ℕ) (f : ℕ → ℕ) → j ≤ n → sum_to j f ≤ sum_to n f
sum_part j zero f l = let e : j ≡ 0 = omega arith in rw e (le_refl 0)
sum_part j (suc n) f l = ⊎_elim (λ e. rw e (le_refl (sum_to (suc n) f))) (λ k. le_trans (sum_part j n f (le_of_suc-le-suc k)) (le-add_right (sum_to n f) (f n))) (eq-or-lt_of_le l)

-- nor is one of its terms
pub sum_term : (j n : ℕ) (f : ℕ → ℕ) → j < n → f j ≤ sum_to n f
sum_term j n f l = le_trans (le-add_left (f j) (sum_to j f)) (sum_part (suc j) n f l)

pub sum_next : (from select : ℕ) (w : Words) (j sum : ℕ) → sum ≡ row_sum from select j w → sum + selected w (from + j) (select + j) ≡ row_sum from select (j + 1) w
sum_next from select w j sum e = rw (add-one j) (ap (◌+ selected w (from + j) (select + j)) e)

pub sum_fits_so_far : (from select n : ℕ) (w : Words) (j sum : ℕ) → j < n → row_sum from select n w < 2 ^ 64 → sum ≡ row_sum from select j w
    → sum + selected w (from + j) (select + j) < 2 ^ 64
sum_fits_so_far from select n w j sum l fits e =
    rw (sum_next from select w j sum e, add-one j) (lt_of_le_of_lt (sum_part (suc j) n (λ i. selected w (from + i) (select + i)) l) fits)

-- ---- splitting

-- one after the other
pub leaves_then : (f g h : Words → Words) (xs ys zs : List ℕ) → Leaves f xs ys → Leaves g ys zs → ((i : ℕ) → i < length xs → g (words_of ys) i ≡ h (words_of xs) i) → Leaves h xs zs
leaves_then f g h xs ys zs a b e = record { long = b.long ∙ a.long; word = λ i l. b.word i (omega (arith, a.long)) ∙ e i l }

-- where nothing is selected the words stay
pub split_none : (N at select rest : ℕ) (xs : List ℕ) → words_of xs select ≡ 0 → Leaves (split_at N at select rest) xs xs
split_none N at select rest xs e = record { long = refl; word = λ i l. sym (stays i) }
  where
    stays : (i : ℕ) → split_at N at select rest (words_of xs) i ≡ words_of xs i
    stays i = rw (eq-eqb (words_of xs select) 0 e) (go (eqb i at) refl (eqb i rest) refl)
      where
        go : (b : Bool) → eqb i at ≡ b → (c : Bool) → eqb i rest ≡ c → cond b (words_of xs at) (cond c (words_of xs rest + 0) (words_of xs i)) ≡ words_of xs i
        go true p c q = ap (words_of xs) (sym (eqb-true i at p))
        go false p true q = omega (arith, ap (words_of xs) (eqb-true i rest q))
        go false p false q = refl

-- where it is selected two words are written
pub split_two : (N at select rest : ℕ) (xs : List ℕ) → at < length xs → rest < length xs → at ≢ rest → words_of xs select ≢ 0
    → Leaves (split_at N at select rest) xs (set (set xs rest (words_of xs rest + words_of xs at % N)) at (words_of xs at / N))
split_two N at select rest xs l k d some =
    record { long = length-set zs at (words_of xs at / N) ∙ length-set xs rest (words_of xs rest + words_of xs at % N); word = λ i m. place i (ℕ_discrete i at) (ℕ_discrete i rest) }
  where
    zs : List ℕ
    zs = set xs rest (words_of xs rest + words_of xs at % N)

    place : (i : ℕ) → Dec (i ≡ at) → Dec (i ≡ rest) → words_of (set zs at (words_of xs at / N)) i ≡ split_at N at select rest (words_of xs) i
    place i (yes p) c =
        rw (p, eq-eqb at at refl, ne_eqb (words_of xs select) 0 some) (get_or-set_same zs at (words_of xs at / N) 0 (rw (length-set xs rest (words_of xs rest + words_of xs at % N)) l))
    place i (no p) (yes q) =
        rw (ne_eqb i at p, eq-eqb i rest q, ne_eqb (words_of xs select) 0 some, get_or-set_other zs at i (words_of xs at / N) 0 p, q) (get_or-set_same xs rest (words_of xs rest + words_of xs at % N) 0 k)
    place i (no p) (no q) =
        rw (ne_eqb i at p, ne_eqb i rest q, get_or-set_other zs at i (words_of xs at / N) 0 p) (get_or-set_other xs rest i (words_of xs rest + words_of xs at % N) 0 q)

module _ (N row select rest n : ℕ) (xs ys zs : List ℕ) (ok : Splittable N row select rest n xs) (j : ℕ) (l : j < n)
    (h : Leaves (split_to N row select rest j) xs ys) where
  -- what is neither split yet nor added to is as before
  untouched : (p : ℕ) → p < length xs → (p < row) ⊎ (row + j ≤ p) → (p < rest) ⊎ (rest + j ≤ p) → words_of ys p ≡ words_of xs p
  untouched p k a b = h.word p k ∙ rw (not_within row j p a, not_within rest j p b) refl

  turned : {a b : ℕ} → Apart n a b → Apart n b a
  turned (inl p) = inr p
  turned (inr p) = inl p

  at_row : words_of ys (row + j) ≡ words_of xs (row + j)
  at_row = untouched (row + j) (omega (arith, ok.inside)) (inr (omega arith)) (apart_place n rest row j (turned ok.apart) l)

  at_select : words_of ys (select + j) ≡ words_of xs (select + j)
  at_select = untouched (select + j) (omega (arith, ok.chosen)) (apart_place n row select j ok.beside l) (apart_place n rest select j ok.behind l)

  at_rest : words_of ys (rest + j) ≡ words_of xs (rest + j)
  at_rest = untouched (rest + j) (omega (arith, ok.room)) (apart_place n row rest j ok.apart l) (inr (omega arith))

  pub left_fits : words_of ys (rest + j) + words_of ys (row + j) % N < 2 ^ 64
  left_fits = rw (at_row, at_rest) (ok.fits j l)

  pub two_places : row + j ≢ rest + j
  two_places e = ⊎_elim (λ p. absurd (omega arith)) (λ p. absurd (omega arith)) ok.apart

  -- one word more is split
  pub split_more : Leaves (split_at N (row + j) (select + j) (rest + j)) ys zs → Leaves (split_to N row select rest (j + 1)) xs zs
  split_more s =
      leaves_then (split_to N row select rest j) (split_at N (row + j) (select + j) (rest + j)) (split_to N row select rest (j + 1)) xs ys zs h s
      (λ i k. place i k (ℕ_discrete i (row + j)) (ℕ_discrete i (rest + j)))
    where
      beyond : (rest + j < row) ⊎ (row + (j + 1) ≤ rest + j)
      beyond = ⊎_elim (λ p. inr (omega arith)) (λ p. inl (omega arith)) ok.apart

      place : (i : ℕ) → i < length xs → Dec (i ≡ row + j) → Dec (i ≡ rest + j)
          → split_at N (row + j) (select + j) (rest + j) (words_of ys) i ≡ split_to N row select rest (j + 1) (words_of xs) i
      place i k (yes p) c =
          let e : row + j - row ≡ j = omega arith in
          rw (p, eq-eqb (row + j) (row + j) refl, is_within_lem row (j + 1) (row + j) (omega arith) (omega arith), e, at_row, at_select) refl
      place i k (no p) (yes q) =
          let e : rest + j - rest ≡ j = omega arith in
          rw (ne_eqb i (row + j) p, q, eq-eqb (rest + j) (rest + j) refl, not_within row (j + 1) (rest + j) beyond, is_within_lem rest (j + 1) (rest + j) (omega arith) (omega arith), e, at_row, at_rest, at_select) refl
      place i k (no p) (no q) =
          rw (ne_eqb i (row + j) p, ne_eqb i (rest + j) q, ← same_place row j i p, ← same_place rest j i q) (h.word i k)

pub split_nothing : (N row select rest : ℕ) (xs : List ℕ) → Leaves (split_to N row select rest 0) xs xs
split_nothing N row select rest xs = record { long = refl; word = λ i l. sym (rw (not_within row 0 i (nowhere row i), not_within rest 0 i (nowhere rest i)) refl) }
