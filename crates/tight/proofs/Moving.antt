-- Rows on their way to a table: the row that they come to is one of the table's, so that nothing else is written, and what is written are sums.
use mathlib.Core.Path.{◌≡◌, refl, sym, ap, ◌∙◌}
use mathlib.Core.Logic.{◌⊎◌, inl, inr, ◌≢◌}
use mathlib.Core.Bool.{true, false, Bool, ◌&&◌}
use mathlib.Core.List.{List}
use Prim.Native.Nat.{ℕ, ◌+◌, ◌-◌, ◌*◌, ◌≤◌, ◌<◌}
use native.Mathlib.Nat.{le_trans, le_refl, le_of_eq, mul-le-mul_right}
use native.Mathlib.Omega.{arith}
use lib.Bits.{and_le_l}
use native.Mathlib.Decide.{ℕ_discrete}
use lib.Dec.{eqb, ltb}
use lib.ListN.{length}
use borrow.Author.Tests.{eq-eqb, ne_eqb, ltb-true, ltb-false}
use Rattle.basics.specs.Sums.{sum_over}
use Rattle.basics.proofs.Sums.{sum_eq}
use Rattle.rules.specs.declared.Target.{Target}
use Rattle.rules.specs.Contents.{hits, bit, with, without, shared, held, size}
use Rattle.tight.specs.declared.Route.{Route}
use Rattle.tight_rows.specs.Room.{Words, words_of, Leaves}
use Rattle.tight_rows.specs.Rows.{Apart, selected, Addable, within, if}
use Rattle.tight.specs.Access.{risk}
use Rattle.tight.specs.Moving.{plus, start_of, comes, Beside, row_units, Movable, choosing, end_of, miss_comes, row_comes}
use Rattle.tight_rows.proofs.Writing.{not_within, within_cases, is_within_lem}
use Rattle.tight_rows.proofs.Adding.{sum_term}
use Rattle.tight_rows.proofs.Raising.{live_most, lost_below, lost_more, lost_nothing_yet, lost_everywhere, lost_most}

-- what is chosen of a word is no more than the row has
part_few : (r : Route) (w : Words) (j : ℕ) → j < r.width → selected w (r.from + j) (r.select + j) ≤ row_units r w
part_few r w j l = le_trans (and_le_l (w (r.from + j)) (w (r.select + j))) (sum_term j r.width (λ i. w (r.from + i)) l)

module _ (r : Route) (L s : ℕ) (xs : List ℕ) (ok : Movable r L s xs) (D : ℕ) (d : D ≤ L) where
  abbrev start : ℕ
  start = start_of r (words_of xs) D

  pub row_room : start + r.length ≤ r.cells + r.rows * r.length
  row_room = omega (arith, mul-le-mul_right r.length (ok.number D d))

  pub row_there : start + r.length ≤ length xs
  row_there = le_trans row_room ok.room

  -- what is beside the table is apart from a row of it
  row_apart : (shift a : ℕ) → shift ≤ 1 → Beside r a r.width → Apart r.width (start + shift) a
  row_apart shift a h (inl p) = inr (omega arith)
  row_apart shift a h (inr p) = inl (omega (arith, row_room, ok.wide))

  pub row_addable : (shift : ℕ) → shift ≤ 1 → Addable r.from r.select (start + shift) r.width s xs
  row_addable shift h =
      record {
        inside = ok.inside;
        chosen = ok.chosen;
        room = omega (arith, row_there, ok.wide);
        apart = row_apart shift r.from h ok.apart;
        beside = row_apart shift r.select h ok.beside;
        fits = λ j l. omega (
          arith,
          ok.fits (start + shift + j) (omega arith) (omega (arith, row_room, ok.wide)),
          mul-le-mul_right s (part_few r (words_of xs) j l),
        );
      }

-- ---- one after the other

-- place p is none of the table's
abbrev pub Outside : Route → ℕ → Type 0
Outside r p = (p < r.cells) ⊎ (r.cells + r.rows * r.length ≤ p)

outside : (r : Route) (a n j : ℕ) → Beside r a n → j < n → Outside r (a + j)
outside r a n j (inl h) l = inl (omega arith)
outside r a n j (inr h) l = inr (omega arith)

-- what comes is no more than so many times what the row has
pub comes_most : (r : Route) (shift times D : ℕ) (w : Words) (i : ℕ) → comes r shift times D w i ≤ times * row_units r w
comes_most r shift times D w i =
    within_cases a r.width i (λ b. if b (selected w (r.from + (i - a)) (r.select + (i - a)) * times) ≤ times * row_units r w)
    (λ p q. le_trans (mul-le-mul_right times (part_few r w (i - a) (omega arith))) (omega arith)) (λ o. omega arith)
  where
    a : ℕ
    a = start_of r w D + shift

-- and comes to the table only
module _ (r : Route) (L s : ℕ) (xs : List ℕ) (ok : Movable r L s xs) (D : ℕ) (d : D ≤ L) (shift times : ℕ) where
  pub comes_quiet : shift ≤ 1 → (p : ℕ) → Outside r p → comes r shift times D (words_of xs) p ≡ 0
  comes_quiet h p o = rw (not_within (start_of r (words_of xs) D + shift) r.width p (elsewhere o)) refl
    where
      elsewhere : Outside r p → (p < start_of r (words_of xs) D + shift) ⊎ (start_of r (words_of xs) D + shift + r.width ≤ p)
      elsewhere (inl q) = inl (omega arith)
      elsewhere (inr q) = inr (omega (arith, row_room r L s xs ok D d, ok.wide))

module _ (r : Route) (L : ℕ) (v : Words → ℕ → ℕ) (xs ys : List ℕ) (h : Leaves (plus v) xs ys) (quiet : (p : ℕ) → Outside r p → v (words_of xs) p ≡ 0) where
  stays : (p : ℕ) → p < length xs → Outside r p → words_of ys p ≡ words_of xs p
  stays p l o = h.word p l ∙ omega (arith, quiet p o)

  -- what comes next is what would have come first
  pub same_comes : (s : ℕ) → Movable r L s xs → (shift times D : ℕ) → D ≤ L → (i : ℕ) → comes r shift times D (words_of ys) i ≡ comes r shift times D (words_of xs) i
  same_comes s ok shift times D d i =
      rw (stays (r.numbers + D) (omega (arith, ok.numbered)) (outside r r.numbers (L + 1) D ok.behind (omega arith)))
      (within_cases a r.width i (λ b. if b (selected (words_of ys) (r.from + (i - a)) (r.select + (i - a)) * times) ≡ if b (selected (words_of xs) (r.from + (i - a)) (r.select + (i - a)) * times))
      (λ p q. rw (
        stays (r.from + (i - a)) (omega (arith, ok.inside)) (outside r r.from r.width (i - a) ok.apart (omega arith)),
        stays (r.select + (i - a)) (omega (arith, ok.chosen)) (outside r r.select r.width (i - a) ok.beside (omega arith)),
      ) refl) (λ o. refl))
    where
      a : ℕ
      a = start_of r (words_of xs) D + shift

  -- the row is as it was
  pub same_units : (s : ℕ) → Movable r L s xs → row_units r (words_of ys) ≡ row_units r (words_of xs)
  same_units s ok =
      sum_eq r.width (λ j. words_of ys (r.from + j)) (λ j. words_of xs (r.from + j))
      (λ j l. stays (r.from + j) (omega (arith, ok.inside)) (outside r r.from r.width j ok.apart l))

  -- there is room for what is left
  pub still_movable : (s t : ℕ) → Movable r L (t + s) xs → ((i : ℕ) → v (words_of xs) i ≤ t * row_units r (words_of xs)) → Movable r L s ys
  still_movable s t ok most =
      record {
        inside = rw h.long ok.inside;
        chosen = rw h.long ok.chosen;
        numbered = rw h.long ok.numbered;
        room = rw h.long ok.room;
        wide = ok.wide;
        number = λ D d. rw (stays (r.numbers + D) (omega (arith, ok.numbered)) (outside r r.numbers (L + 1) D ok.behind (omega arith))) (ok.number D d);
        apart = ok.apart;
        beside = ok.beside;
        behind = ok.behind;
        fits = λ i l m. rw (same_units (t + s) ok) (omega (arith, h.word i (omega (arith, ok.room)), most i, ok.fits i l m));
      }

-- and for less
pub movable_less : (r : Route) (L t s : ℕ) (xs : List ℕ) → t ≤ s → Movable r L s xs → Movable r L t xs
movable_less r L t s xs l ok =
    record {
      inside = ok.inside;
      chosen = ok.chosen;
      numbered = ok.numbered;
      room = ok.room;
      wide = ok.wide;
      number = ok.number;
      apart = ok.apart;
      beside = ok.beside;
      behind = ok.behind;
      fits = λ i k m. omega (arith, ok.fits i k m, mul-le-mul_right (row_units r (words_of xs)) l);
    }

-- what is added one after the other is added up
pub plus_then : (u v t : Words → ℕ → ℕ) (xs ys zs : List ℕ) → Leaves (plus u) xs ys → Leaves (plus v) ys zs → ((i : ℕ) → t (words_of xs) i ≡ u (words_of xs) i + v (words_of ys) i)
    → Leaves (plus t) xs zs
plus_then u v t xs ys zs f g e =
    record { long = g.long ∙ f.long; word = λ i l. omega (arith, g.word i (omega (arith, f.long)), f.word i l, e i) }

pub plus_none : (v : Words → ℕ → ℕ) (xs : List ℕ) → ((i : ℕ) → v (words_of xs) i ≡ 0) → Leaves (plus v) xs xs
plus_none v xs e = record { long = refl; word = λ i l. omega (arith, e i) }

pub plus_same : (u v : Words → ℕ → ℕ) (xs ys : List ℕ) → ((i : ℕ) → v (words_of xs) i ≡ u (words_of xs) i) → Leaves (plus u) xs ys → Leaves (plus v) xs ys
plus_same u v xs ys e f = record { long = f.long; word = λ i l. omega (arith, f.word i l, e i) }

-- ---- blocks that are lost, place by place

module _ (r : Route) (C E : ℕ) (x : Target) (L : ℕ) where
  -- where contents go that lose the block at place e
  abbrev end_at : ℕ → ℕ
  end_at e = end_of x L (without C e)

  -- what the word at place i has more by that
  abbrev pub one_comes : Words → ℕ → ℕ → ℕ
  one_comes w i e = comes r 1 1 (end_at e) w i

  -- so many places have been passed
  abbrev pub CameTo : ℕ → List ℕ → List ℕ → Type 0
  CameTo k xs ys = Leaves (plus (λ w i. lost_below (one_comes w i) E k)) xs ys

  pub came_from_none : (xs : List ℕ) → CameTo 0 xs xs
  came_from_none xs = plus_none (λ w i. lost_below (one_comes w i) E 0) xs (λ i. lost_nothing_yet (one_comes (words_of xs) i) E)

  module _ (s : ℕ) (xs : List ℕ) (ok : Movable r L s xs) where
    lost_quiet : (k p : ℕ) → Outside r p → lost_below (one_comes (words_of xs) p) E k ≡ 0
    lost_quiet k p o =
        let none = lost_most (one_comes (words_of xs) p) 0 (λ e. le_of_eq (comes_quiet r L s xs ok (end_at e) (live_most (with (without C e) x.place) L) 1 1 (le_refl 1) p o)) E k in
        omega (arith, none)

    pub came_onward : (k : ℕ) (ys zs : List ℕ) → CameTo k xs ys → Leaves (plus (λ w i. if (bit E k) (one_comes w i k))) ys zs → CameTo (k + 1) xs zs
    came_onward k ys zs f g =
        plus_then (λ w i. lost_below (one_comes w i) E k) (λ w i. if (bit E k) (one_comes w i k)) (λ w i. lost_below (one_comes w i) E (k + 1)) xs ys zs f g
        (λ i. lost_more (one_comes (words_of xs) i) E k
        ∙ ap (λ (u : ℕ). lost_below (one_comes (words_of xs) i) E k + if (bit E k) u)
        (sym (same_comes r L (λ w i. lost_below (one_comes w i) E k) xs ys f (lost_quiet k) s ok 1 1 (end_at k) (live_most (with (without C k) x.place) L) i)))

    pub came_movable : (k t : ℕ) (ys : List ℕ) → k + t ≤ s → CameTo k xs ys → Movable r L t ys
    came_movable k t ys e f =
        still_movable r L (λ w i. lost_below (one_comes w i) E k) xs ys f (lost_quiet k) t k (movable_less r L (k + t) s xs e ok)
        (λ i. lost_most (one_comes (words_of xs) i) (row_units r (words_of xs)) (λ e. le_trans (comes_most r 1 1 (end_at e) (words_of xs) i) (omega arith)) E k)

  pub came_in_all : (k : ℕ) (xs ys : List ℕ) → k ≡ 16 → CameTo k xs ys → Leaves (plus (λ w i. sum_over (one_comes w i) (held E))) xs ys
  came_in_all k xs ys e f =
      plus_same (λ w i. lost_below (one_comes w i) E k) (λ w i. sum_over (one_comes w i) (held E)) xs ys (λ i. rw e (lost_everywhere (one_comes (words_of xs) i) E)) f

-- ---- a row that misses

module _ (N : ℕ) (x : Target) (L : ℕ) (r : Route) (keep C : ℕ) (xs : List ℕ) (few : N ≤ 16) (ok : Movable r L 33 xs) (other : Movable (choosing r keep) L 33 xs) where
  abbrev E : ℕ
  E = risk x C

  abbrev end : ℕ
  end = end_of x L C

  abbrev rest : ℕ
  rest = N - size E

  low : end ≤ L
  low = live_most (with C x.place) L

  -- what loses a block, and what keeps all
  abbrev lost_comes : Words → ℕ → ℕ
  lost_comes w i = sum_over (one_comes r C E x L w i) (held E)

  abbrev kept_comes : Words → ℕ → ℕ
  kept_comes w i = lost_comes w i + comes r 1 rest end w i

  lost_is : (w : Words) (i : ℕ) → lost_comes w i ≡ lost_below (one_comes r C E x L w i) E 16
  lost_is w i = lost_everywhere (one_comes r C E x L w i) E

  lost_out : (p : ℕ) → Outside r p → lost_comes (words_of xs) p ≡ 0
  lost_out p o = lost_is (words_of xs) p ∙ lost_quiet r C E x L 33 xs ok 16 p o

  lost_few : (i : ℕ) → lost_comes (words_of xs) i ≤ 16 * row_units r (words_of xs)
  lost_few i =
      rw (lost_is (words_of xs) i)
      (lost_most (one_comes r C E x L (words_of xs) i) (row_units r (words_of xs)) (λ e. le_trans (comes_most r 1 1 (end_of x L (without C e)) (words_of xs) i) (omega arith)) E 16)

  module _ (ys : List ℕ) (f : Leaves (plus lost_comes) xs ys) where
    pub kept_second : Movable r L rest ys
    kept_second = still_movable r L lost_comes xs ys f lost_out rest 16 (movable_less r L (16 + rest) 33 xs (omega arith) ok) lost_few

    module _ (zs : List ℕ) (g : Leaves (plus (comes r 1 rest end)) ys zs) where
      both_came : Leaves (plus kept_comes) xs zs
      both_came =
          plus_then lost_comes (comes r 1 rest end) kept_comes xs ys zs f g
          (λ i. ap (lost_comes (words_of xs) i +◌) (sym (same_comes r L lost_comes xs ys f lost_out 33 ok 1 rest end low i)))

      kept_out : (p : ℕ) → Outside r p → kept_comes (words_of xs) p ≡ 0
      kept_out p o = omega (arith, lost_out p o, comes_quiet r L 33 xs ok end low 1 rest (le_refl 1) p o)

      kept_few : (i : ℕ) → kept_comes (words_of xs) i ≤ 32 * row_units r (words_of xs)
      kept_few i = omega (arith, lost_few i, comes_most r 1 rest end (words_of xs) i, rest_few)
        where
          least : rest ≤ 16
          least = omega arith

          rest_few : rest * row_units r (words_of xs) ≤ 16 * row_units r (words_of xs)
          rest_few = mul-le-mul_right (row_units r (words_of xs)) least

      pub stay_third : Movable (choosing r keep) L 1 zs
      stay_third = still_movable (choosing r keep) L kept_comes xs zs both_came kept_out 1 32 (movable_less (choosing r keep) L 33 33 xs (le_refl 33) other) kept_few

      pub miss_came : (us : List ℕ) → Leaves (plus (comes (choosing r keep) 1 1 end)) zs us → Leaves (plus (miss_comes N x L r keep C)) xs us
      unfolding miss_comes
      miss_came us h =
          plus_then kept_comes (comes (choosing r keep) 1 1 end) (miss_comes N x L r keep C) xs zs us both_came h
          (λ i. ap (kept_comes (words_of xs) i +◌) (sym (same_comes (choosing r keep) L kept_comes xs zs both_came kept_out 33 other 1 1 end low i)))

  -- with the numbers that the code has for them
  module _ (D n : ℕ) (q : Route) (d : D ≡ end) (e : n ≡ rest) (c : q ≡ choosing r keep) (ys : List ℕ) (f : Leaves (plus lost_comes) xs ys) where
    pub second_ready : Movable r L n ys
    second_ready = rw e (kept_second ys f)

    module _ (zs : List ℕ) (g : Leaves (plus (comes r 1 n D)) ys zs) where
      second_came : Leaves (plus (comes r 1 rest end)) ys zs
      second_came = rw (← d, ← e) g

      pub third_ready : Movable q L 1 zs
      third_ready = rw c (stay_third ys f zs second_came)

      pub third_came : (us : List ℕ) → Leaves (plus (comes q 1 1 D)) zs us → Leaves (plus (miss_comes N x L r keep C)) xs us
      third_came us h = miss_came ys f zs second_came us (rw (← d, ← c) h)

-- ---- any row

module _ (N : ℕ) (x : Target) (L : ℕ) (r : Route) (keep all C : ℕ) (xs ys : List ℕ) (q : Route) (c : q ≡ choosing r all) (D : ℕ) where
  pub hit_came : hits x C ≡ true → D ≡ shared C L → Leaves (plus (comes q 0 1 D)) xs ys → Leaves (plus (row_comes N x L r keep all C)) xs ys
  unfolding row_comes
  hit_came h d f = plus_same (comes q 0 1 D) (row_comes N x L r keep all C) xs ys (λ i. rw (h, c, d) refl) f

  pub safe_came : hits x C ≡ false → risk x C ≡ 0 → D ≡ end_of x L C → Leaves (plus (comes q 1 1 D)) xs ys → Leaves (plus (row_comes N x L r keep all C)) xs ys
  unfolding row_comes
  safe_came h z d f = plus_same (comes q 1 1 D) (row_comes N x L r keep all C) xs ys (λ i. rw (h, eq-eqb (risk x C) 0 z, c, d) refl) f

pub row_moved : (N : ℕ) (x : Target) (L : ℕ) (r : Route) (keep all C : ℕ) (xs ys : List ℕ) → hits x C ≡ false → risk x C ≢ 0
    → Leaves (plus (miss_comes N x L r keep C)) xs ys → Leaves (plus (row_comes N x L r keep all C)) xs ys
unfolding row_comes
row_moved N x L r keep all C xs ys h z f = plus_same (miss_comes N x L r keep C) (row_comes N x L r keep all C) xs ys (λ i. rw (h, ne_eqb (risk x C) 0 z) refl) f

-- ---- by cells

-- cell i of row n has more where the mask's row is n, and the word that many cells before it is one of the row that comes
pub comes_cell : (r : Route) (shift times D : ℕ) (w : Words) → shift ≤ 1 → r.width < r.length → (n i : ℕ) → i < r.length
    → comes r shift times D w (r.cells + n * r.length + i)
    ≡ if (eqb (w (r.numbers + D)) n && within shift r.width i) (selected w (r.from + (i - shift)) (r.select + (i - shift)) * times)
comes_cell r shift times D w h wide n i l = go (ℕ_discrete (w (r.numbers + D)) n)
  where
    k : ℕ
    k = w (r.numbers + D)

    len : ℕ
    len = r.length

    here : ℕ
    here = r.cells + n * len + i

    part : ℕ → ℕ
    part j = selected w (r.from + j) (r.select + j) * times

    go : Dec (k ≡ n) → if (within (r.cells + k * len + shift) r.width here) (part (here - (r.cells + k * len + shift))) ≡ if (eqb k n && within shift r.width i) (part (i - shift))
    go (yes e) =
        rw (e, eq-eqb n n refl)
        (within_cases shift r.width i (λ b. if (within (r.cells + n * len + shift) r.width here) (part (here - (r.cells + n * len + shift))) ≡ if b (part (i - shift)))
        (λ p q. let s : here - (r.cells + n * len + shift) ≡ i - shift = omega arith in rw (is_within_lem (r.cells + n * len + shift) r.width here (omega arith) (omega arith), s) refl)
        (λ o. rw (not_within (r.cells + n * len + shift) r.width here (beyond o)) refl))
      where
        beyond : (i < shift) ⊎ (shift + r.width ≤ i) → (here < r.cells + n * len + shift) ⊎ (r.cells + n * len + shift + r.width ≤ here)
        beyond (inl p) = inl (omega arith)
        beyond (inr p) = inr (omega arith)
    go (no d) = rw (ne_eqb k n d, not_within (r.cells + k * len + shift) r.width here (other (ltb k n) refl)) refl
      where
        other : (b : Bool) → ltb k n ≡ b → (here < r.cells + k * len + shift) ⊎ (r.cells + k * len + shift + r.width ≤ here)
        other true e = inr (omega (arith, mul-le-mul_right len (ltb-true k n e), h, wide))
        other false e =
            let m : n < k = omega (arith, ltb-false k n e, d) in
            inl (omega (arith, mul-le-mul_right len m))
