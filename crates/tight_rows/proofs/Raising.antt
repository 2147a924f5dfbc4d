-- Words that have more: one after the other what is added is added up. And what goes to each mask where blocks are lost, place by place.
use Rattle.std.proofs.Common.{◌≡◌, ℕ, zero, suc, ◌+◌, ◌-◌, ◌*◌, ◌<◌, ◌≤◌, Bool, true, false, cond, eqb, ◌⊎◌, List, [], ◌∷◌, length, set, sym, refl, ap, ◌∙◌, ⊎_elim, add-one, arith, length-set, get_or-set_other, get_or-set_same, eq-eqb, ne_eqb}
use native.Mathlib.Decide.{ℕ_discrete}
use lib.Bits.{and_le_r}
use Rattle.basics.specs.Sums.{sum_over}
use Rattle.basics.proofs.Sums.{sum_append}
use Rattle.rules.specs.Contents.{bit, shared, held, held_below}
use Rattle.rules.proofs.Contents.{sixteen_places}
use Rattle.tight_rows.specs.Room.{words_of, Leaves}
use Rattle.tight_rows.specs.Rows.{raised, if}
use Rattle.tight_rows.proofs.Writing.{is_within_lem, not_within, within_cases}

module _ (a n : ℕ) where
  -- what they have
  pub raised_at : (v : ℕ → ℕ) (xs ys : List ℕ) → Leaves (raised a n v) xs ys → a + n ≤ length xs → (j : ℕ) → j < n → words_of ys (a + j) ≡ words_of xs (a + j) + v j
  raised_at v xs ys h l j k =
      let e : a + j - a ≡ j = omega arith in
      h.word (a + j) (omega arith) ∙ rw (is_within_lem a n (a + j) (omega arith) (omega arith), e) refl

  -- the others stay
  pub raised_beside : (v : ℕ → ℕ) (xs ys : List ℕ) → Leaves (raised a n v) xs ys → (p : ℕ) → p < length xs → (p < a) ⊎ (a + n ≤ p) → words_of ys p ≡ words_of xs p
  raised_beside v xs ys h p l o = h.word p l ∙ rw (not_within a n p o) refl

  -- by what they have
  raised_by : (v : ℕ → ℕ) (xs ys : List ℕ) → length ys ≡ length xs → ((i : ℕ) → i < length xs → (i < a) ⊎ (a + n ≤ i) → words_of ys i ≡ words_of xs i)
      → ((j : ℕ) → a + j < length xs → j < n → words_of ys (a + j) ≡ words_of xs (a + j) + v j) → Leaves (raised a n v) xs ys
  raised_by v xs ys e f g =
      record {
        long = e;
        word = λ i l. within_cases a n i (λ b. words_of ys i ≡ cond b (words_of xs (a + (i - a)) + v (i - a)) (words_of xs i))
            (λ p q. let s : i ≡ a + (i - a) = omega arith in ap (words_of ys) s ∙ g (i - a) (omega arith) (omega arith)) (λ o. f i l o);
      }

  pub raised_none : (v : ℕ → ℕ) (xs : List ℕ) → ((j : ℕ) → j < n → v j ≡ 0) → Leaves (raised a n v) xs xs
  raised_none v xs h = raised_by v xs xs refl (λ i l o. refl) (λ j l k. omega (arith, h j k))

  pub raised_then : (u v r : ℕ → ℕ) (xs ys zs : List ℕ) → Leaves (raised a n u) xs ys → Leaves (raised a n v) ys zs → a + n ≤ length xs
      → ((j : ℕ) → j < n → r j ≡ u j + v j) → Leaves (raised a n r) xs zs
  raised_then u v r xs ys zs f g l e =
      raised_by r xs zs (g.long ∙ f.long)
      (λ i k o. raised_beside v ys zs g i (omega (arith, f.long)) o ∙ raised_beside u xs ys f i k o)
      (λ j k m. raised_at v ys zs g (omega (arith, f.long)) j m ∙ omega (arith, raised_at u xs ys f l j m, e j m))

  pub raised_same : (u v : ℕ → ℕ) (xs ys : List ℕ) → a + n ≤ length xs → ((j : ℕ) → j < n → v j ≡ u j) → Leaves (raised a n u) xs ys → Leaves (raised a n v) xs ys
  raised_same u v xs ys l e f =
      raised_by v xs ys f.long (λ i k o. raised_beside u xs ys f i k o) (λ j k m. raised_at u xs ys f l j m ∙ omega (arith, e j m))

  -- one of them has u more
  pub raised_one : (C u : ℕ) (xs : List ℕ) → C < n → a + n ≤ length xs → Leaves (raised a n (λ j. if (eqb C j) u)) xs (set xs (a + C) (words_of xs (a + C) + u))
  raised_one C u xs l m =
      raised_by (λ j. if (eqb C j) u) xs (set xs (a + C) (words_of xs (a + C) + u)) (length-set xs (a + C) (words_of xs (a + C) + u))
      (λ i k o. get_or-set_other xs (a + C) i (words_of xs (a + C) + u) 0 (λ e. ⊎_elim (λ p. absurd (omega arith)) (λ p. absurd (omega arith)) o))
      (λ j k p. place j (ℕ_discrete C j))
    where
      place : (j : ℕ) → Dec (C ≡ j) → words_of (set xs (a + C) (words_of xs (a + C) + u)) (a + j) ≡ words_of xs (a + j) + if (eqb C j) u
      place j (yes e) = rw (← e, eq-eqb C C refl) (get_or-set_same xs (a + C) (words_of xs (a + C) + u) 0 (omega arith))
      place j (no d) = rw (ne_eqb C j d) (get_or-set_other xs (a + C) (a + j) (words_of xs (a + C) + u) 0 (λ e. absurd (d (omega arith))) ∙ omega arith)

-- ---- what is live of contents is no larger

pub live_most : (C L : ℕ) → shared C L ≤ L
unfolding shared
live_most C L = and_le_r C L

pub live_part : (C L D : ℕ) → D ≡ shared C L → D ≤ L
live_part C L D e = rw e (live_most C L)

-- ---- blocks that are lost, place by place

-- what the places below k give
abbrev pub lost_below : (ℕ → ℕ) → ℕ → ℕ → ℕ
lost_below f E k = sum_over f (held_below k E)

pub lost_more : (f : ℕ → ℕ) (E k : ℕ) → lost_below f E (k + 1) ≡ lost_below f E k + if (bit E k) (f k)
unfolding held_below
lost_more f E k = rw (add-one k) (sum_append f (held_below k E) (cond (bit E k) (k ∷ []) []) ∙ ap (lost_below f E k +◌) (one (bit E k)))
  where
    one : (b : Bool) → sum_over f (cond b (k ∷ []) []) ≡ if b (f k)
    one true = omega arith
    one false = refl

pub lost_nothing_yet : (f : ℕ → ℕ) (E : ℕ) → lost_below f E 0 ≡ 0
unfolding held_below
lost_nothing_yet f E = refl

pub lost_everywhere : (f : ℕ → ℕ) (E : ℕ) → sum_over f (held E) ≡ lost_below f E 16
unfolding held
lost_everywhere f E = ap (λ (k : ℕ). lost_below f E k) sixteen_places

-- each place gives at most u
pub lost_most : (f : ℕ → ℕ) (u : ℕ) → ((e : ℕ) → f e ≤ u) → (E k : ℕ) → lost_below f E k ≤ k * u
unfolding held_below
lost_most f u h E zero = omega arith
lost_most f u h E (suc k) =
    let e : lost_below f E (suc k) ≡ lost_below f E k + if (bit E k) (f k) = ap (lost_below f E) (sym (add-one k)) ∙ lost_more f E k in
    omega (arith, e, lost_most f u h E k, part (bit E k))
  where
    part : (b : Bool) → if b (f k) ≤ u
    part true = h k
    part false = omega arith
