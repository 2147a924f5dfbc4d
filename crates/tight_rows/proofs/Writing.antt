-- Words written one after the other from some place on: what is there after j of them, what is read meanwhile, and one more.
use Rattle.std.proofs.Common.{◌≡◌, ℕ, ◌+◌, ◌-◌, ◌*◌, ◌<◌, ◌≤◌, Bool, true, false, cond, ◌&&◌, ltb, leb, ◌≢◌, ◌⊎◌, List, length, set, replicate, sym, refl, ap, ◌∙◌, inl, inr, ⊎_elim, eq-or-lt_of_le, mul-le-mul_left, arith, length-set, get_or-set_other, get_or-set_same, ltb-false, ltb-true, le-ltb, lt-ltb, le-leb, leb-false, leb-true}
use native.Mathlib.Decide.{ℕ_discrete}
use borrow.Rule.Slice.PartMut.{put_mid}
use Rattle.std.proofs.lemmas.Grind.{common_steps}
use borrow.Author.Tests.{lt-leb}
use Rattle.basics.proofs.Bools.{both}
use Rattle.tight_rows.specs.Room.{Words, words_of, Leaves}
use Rattle.tight_rows.specs.Rows.{within, replaced, There}

-- ---- places

pub is_within_lem : (a n i : ℕ) → a ≤ i → i < a + n → within a n i ≡ true
is_within_lem a n i l m = both (leb a i) (ltb i (a + n)) (le-leb a i l) (lt-ltb i (a + n) m)

pub not_within : (a n i : ℕ) → (i < a) ⊎ (a + n ≤ i) → within a n i ≡ false
not_within a n i (inl l) = rw (lt-leb a i l) refl
not_within a n i (inr l) = go (leb a i)
  where
    go : (b : Bool) → (b && ltb i (a + n)) ≡ false
    go true = le-ltb i (a + n) l
    go false = refl

pub within_cases : (a n i : ℕ) (P : Bool → Type 0) → (a ≤ i → i < a + n → P true) → ((i < a) ⊎ (a + n ≤ i) → P false) → P (within a n i)
within_cases a n i P f g = go (leb a i) (ltb i (a + n)) refl refl
  where
    go : (b c : Bool) → leb a i ≡ b → ltb i (a + n) ≡ c → P (b && c)
    go true true p q = f (leb-true a i p) (ltb-true i (a + n) q)
    go true false p q = g (inr (ltb-false i (a + n) q))
    go false c p q = g (inl (leb-false a i p))

-- no place is one of none
pub nowhere : (a i : ℕ) → (i < a) ⊎ (a + 0 ≤ i)
nowhere a i = go (ltb i a) refl
  where
    go : (b : Bool) → ltb i a ≡ b → (i < a) ⊎ (a + 0 ≤ i)
    go true e = inl (ltb-true i a e)
    go false e = inr (omega (arith, ltb-false i a e))

-- one place more takes in no other
pub same_place : (a n i : ℕ) → i ≢ a + n → within a n i ≡ within a (n + 1) i
same_place a n i s =
    within_cases a n i (λ b. b ≡ within a (n + 1) i) (λ p q. sym (is_within_lem a (n + 1) i p (omega arith)))
    (λ o. sym (not_within a (n + 1) i (⊎_elim (λ p. inl p) (λ p. inr (omega (arith, s))) o)))

-- ---- where rows are

-- a row ends within those of the slot
pub row_in_lem : (K W k : ℕ) → k < K → k * W + W ≤ K * W
row_in_lem K W k l = omega (arith, mul-le-mul_left W l)

-- a row further up ends before a row begins
pub row_before : (W i k : ℕ) → i < k → i * W + W ≤ k * W
row_before W i k l = omega (arith, mul-le-mul_left W l)

-- ---- one after the other

module _ (a : ℕ) (v : Words → ℕ → ℕ) where
  -- n words from place a on are v of the words before
  abbrev pub Written : ℕ → List ℕ → List ℕ → Type 0
  Written n xs ys = Leaves (λ w. replaced a n (v w) w) xs ys

  pub none_written : (xs : List ℕ) → Written 0 xs xs
  none_written xs = record { long = refl; word = λ i l. sym (rw (not_within a 0 i (nowhere a i)) refl) }

  -- elsewhere the words are those before
  pub as_before : (n : ℕ) (xs ys : List ℕ) → Written n xs ys → (p : ℕ) → p < length xs → (p < a) ⊎ (a + n ≤ p) → words_of ys p ≡ words_of xs p
  as_before n xs ys h p l o = h.word p l ∙ rw (not_within a n p o) refl

  -- they are
  pub written_at : (n : ℕ) (xs ys : List ℕ) → Written n xs ys → a + n ≤ length xs → (j : ℕ) → j < n → words_of ys (a + j) ≡ v (words_of xs) j
  written_at n xs ys h l j k =
      let e : a + j - a ≡ j = omega arith in
      h.word (a + j) (omega arith) ∙ rw (is_within_lem a n (a + j) (omega arith) (omega arith), e) refl

  pub one_more_lem : (n : ℕ) (xs ys : List ℕ) (x : ℕ) → Written n xs ys → a + n < length xs → x ≡ v (words_of xs) n → Written (n + 1) xs (set ys (a + n) x)
  one_more_lem n xs ys x h l e = record { long = length-set ys (a + n) x ∙ h.long; word = λ i k. go i k (ℕ_discrete i (a + n)) }
    where
      go : (i : ℕ) → i < length xs → Dec (i ≡ a + n) → words_of (set ys (a + n) x) i ≡ replaced a (n + 1) (v (words_of xs)) (words_of xs) i
      go i k (yes s) =
          let b : i - a ≡ n = omega arith in
          rw (is_within_lem a (n + 1) i (omega arith) (omega arith), b, s, get_or-set_same ys (a + n) x 0 (omega (arith, h.long))) e
      go i k (no s) = rw (get_or-set_other ys (a + n) i x 0 s) (h.word i k ∙ ap (λ (b : Bool). cond b (v (words_of xs) (i - a)) (words_of xs i)) (same_place a n i s))

  -- where they are all that are to be written
  pub all_written : (j n : ℕ) (xs ys : List ℕ) → j ≡ n → Written j xs ys → Written n xs ys
  all_written j n xs ys e h = rw (← e) h

-- ---- a part filled

-- the n words from place a on all are x: what a write to that part leaves (k is the part's length)
module _ (a n k x : ℕ) (xs ys : List ℕ) (e : k ≡ n) (f : ys ≡ replicate n x) (room : a + n ≤ length xs) where
  filled_in : (i : ℕ) → a ≤ i → i < a + n → words_of (put_mid a k xs ys) i ≡ x
  filled_in i p q = rw (e, f) (grind (arith, common_steps))

  filled_below : (i : ℕ) → i < a → words_of (put_mid a k xs ys) i ≡ words_of xs i
  filled_below i p = rw (e, f) (grind (arith, common_steps))

  filled_above : (i : ℕ) → a + n ≤ i → words_of (put_mid a k xs ys) i ≡ words_of xs i
  filled_above i p = rw (e, f) (grind (arith, common_steps))

  pub filled_word : (i : ℕ) → words_of (put_mid a k xs ys) i ≡ replaced a n (λ j. x) (words_of xs) i
  filled_word i =
      within_cases a n i (λ b. words_of (put_mid a k xs ys) i ≡ cond b x (words_of xs i)) (filled_in i) (λ o. ⊎_elim (filled_below i) (filled_above i) o)

  -- where those that are not written are past the end
  pub row_filled : (w : ℕ) → There a w (length xs) n → length (put_mid a k xs ys) ≡ length xs → Leaves (λ v. replaced a w (λ j. x) v) xs (put_mid a k xs ys)
  row_filled w t long = record { long = long; word = λ i l. filled_word i ∙ ap (λ (b : Bool). cond b x (words_of xs i)) (same i l) }
    where
      past : (i : ℕ) → i < length xs → a + n ≤ i → (n ≡ w) ⊎ (n < w) → within a w i ≡ false
      past i l m (inl d) = not_within a w i (inr (omega arith))
      past i l m (inr s) = absurd (omega (arith, t.full s))

      same : (i : ℕ) → i < length xs → within a n i ≡ within a w i
      same i l =
          within_cases a n i (λ b. b ≡ within a w i) (λ p q. sym (is_within_lem a w i p (omega (arith, t.most))))
          (λ o. sym (⊎_elim (λ p. not_within a w i (inl p)) (λ p. past i l p (eq-or-lt_of_le t.most)) o))

-- ---- four words

-- written one after the other
module _ (a b c d u v y z : ℕ) (ws : List ℕ) where
  abbrev four : List ℕ
  four = set (set (set (set ws a u) b v) c y) d z

  pub four_long : length four ≡ length ws
  four_long = length-set (set (set (set ws a u) b v) c y) d z ∙ length-set (set (set ws a u) b v) c y ∙ length-set (set ws a u) b v ∙ length-set ws a u

  pub four_beside : (i : ℕ) → i ≢ a → i ≢ b → i ≢ c → i ≢ d → words_of four i ≡ words_of ws i
  four_beside i p q r t =
      get_or-set_other (set (set (set ws a u) b v) c y) d i z 0 t ∙ get_or-set_other (set (set ws a u) b v) c i y 0 r ∙ get_or-set_other (set ws a u) b i v 0 q ∙ get_or-set_other ws a i u 0 p

  module _ (ab : a < b) (bc : b < c) (cd : c < d) (there : d < length ws) where
    pub four_first : words_of four a ≡ u
    four_first =
        get_or-set_other (set (set (set ws a u) b v) c y) d a z 0 (λ p. absurd (omega arith))
        ∙ get_or-set_other (set (set ws a u) b v) c a y 0 (λ p. absurd (omega arith))
        ∙ get_or-set_other (set ws a u) b a v 0 (λ p. absurd (omega arith))
        ∙ get_or-set_same ws a u 0 (omega arith)

    pub four_second : words_of four b ≡ v
    four_second =
        get_or-set_other (set (set (set ws a u) b v) c y) d b z 0 (λ p. absurd (omega arith))
        ∙ get_or-set_other (set (set ws a u) b v) c b y 0 (λ p. absurd (omega arith))
        ∙ get_or-set_same (set ws a u) b v 0 (omega (arith, length-set ws a u))

    pub four_third : words_of four c ≡ y
    four_third =
        get_or-set_other (set (set (set ws a u) b v) c y) d c z 0 (λ p. absurd (omega arith))
        ∙ get_or-set_same (set (set ws a u) b v) c y 0 (omega (arith, length-set (set ws a u) b v, length-set ws a u))

    pub four_fourth : words_of four d ≡ z
    four_fourth =
        get_or-set_same (set (set (set ws a u) b v) c y) d z 0
        (omega (arith, length-set (set (set ws a u) b v) c y, length-set (set ws a u) b v, length-set ws a u))
