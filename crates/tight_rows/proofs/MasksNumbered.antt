-- Masks that get their numbers one after the other, and rows where they have units. What one mask writes is its own number and its own row, so that those before it stay as they
-- are; the units, and where they go on to, are none of the words written. And what follows: rows rise by mask, every mask has the number of a row, and a mask that goes on has
-- that of its end.
use Rattle.std.proofs.Common.{◌≡◌, ℕ, zero, suc, ◌+◌, ◌*◌, ◌<◌, ◌≤◌, Bool, true, false, cond, eqb, ltb, ◌≢◌, ◌⊎◌, List, length, get_or, set, sym, refl, ap, ◌∙◌, subst, inl, inr, ⊎_elim, le_refl, pos_of_ne-zero, mul-le-mul_left, add-one, arith, length-set, get_or-set_other, get_or-set_same, ltb-false, ltb-true, le-ltb, lt-ltb, eq-eqb, ne_eqb, eqb-true}
use native.Mathlib.Decide.{ℕ_discrete}
use borrow.Author.Tests.{eqb-false}
use Rattle.plan.specs.Plan.{onward}
use Rattle.tight_rows.specs.declared.Opening.{Opening}
use Rattle.tight_rows.specs.Room.{words_of, Leaves, mask_at, units_at, cell_at}
use Rattle.tight_rows.specs.Rows.{replaced}
use Rattle.tight_rows.specs.Numbers.{sum_in, goes_in, number_in, some, rank_of, Placed, row_put, number_on, MaskOpened, Numbered, NumberedTo, Opened}
use Rattle.tight_rows.proofs.Writing.{is_within_lem, not_within, row_before}
use Rattle.tight_rows.proofs.Adding.{sum_part}

-- ---- ranks

module _ (u : ℕ → ℕ) where
  pub none_more : (m : ℕ) → u m ≡ 0 → rank_of u (m + 1) ≡ rank_of u m
  none_more m z = rw (add-one m, eq-eqb (u m) 0 z) (omega arith)

  pub one_more_lem : (m : ℕ) → 1 ≤ u m → rank_of u (m + 1) ≡ rank_of u m + 1
  one_more_lem m l = rw (add-one m, ne_eqb (u m) 0 (λ p. absurd (omega arith))) refl

  -- no more than there are masks
  pub rank_most : (m : ℕ) → rank_of u m ≤ m
  rank_most zero = le_refl 0
  rank_most (suc m) = go (eqb (u m) 0) (rank_most m)
    where
      go : (b : Bool) → rank_of u m ≤ m → rank_of u m + cond b 0 1 ≤ suc m
      go true l = omega arith
      go false l = omega arith

  -- of two masks the lower one, if it has units, has the lower rank
  pub rank_rises : (C D : ℕ) → 1 ≤ u C → C < D → rank_of u C < rank_of u D
  rank_rises C D l m = omega (arith, one_more_lem C l, sum_part (C + 1) D (λ E. some (u E)) (omega arith))

  -- each rank is that of a mask with units
  pub ranked : (m k : ℕ) → k < rank_of u m → (C : ℕ) × (C < m) × (1 ≤ u C) × (rank_of u C ≡ k)
  ranked zero k l = absurd (omega arith)
  ranked (suc m) k l = go (λ h. ranked m k h) (eqb (u m) 0) refl (ltb k (rank_of u m)) refl
    where
      go : (k < rank_of u m → (C : ℕ) × (C < m) × (1 ≤ u C) × (rank_of u C ≡ k)) → (b : Bool) → eqb (u m) 0 ≡ b → (c : Bool) → ltb k (rank_of u m) ≡ c
          → (C : ℕ) × (C < suc m) × (1 ≤ u C) × (rank_of u C ≡ k)
      go before b e true h = let (C, p, q, r) = before (ltb-true k (rank_of u m) h) in (C, omega arith, q, r)
      go before true e false h = absurd (omega (arith, ltb-false k (rank_of u m) h, none_more m (eqb-true (u m) 0 e), ap (rank_of u) (add-one m)))
      go before false e false h =
          let here : 1 ≤ u m = pos_of_ne-zero (eqb-false (u m) 0 e) in
          (m, omega arith, here, omega (arith, ltb-false k (rank_of u m) h, one_more_lem m here, ap (rank_of u) (add-one m)))

-- ---- mask after mask

module _ (o : Opening) (xs : List ℕ) (ok : Placed o xs) (few : rank_of (sum_in o (words_of xs)) o.masks ≤ o.contents) where
  abbrev sum : ℕ → ℕ
  sum = sum_in o (words_of xs)

  abbrev goes : ℕ → ℕ
  goes = goes_in o (words_of xs)

  module _ (m r : ℕ) (ys : List ℕ) (l : m < o.masks) (so : NumberedTo o m r xs ys) where
    rows_few : r + some (sum m) ≤ o.contents
    rows_few = omega (arith, so.numbered.count, few, sum_part (suc m) o.masks (λ E. some (sum E)) l)

    -- the units, and where they go on to, are as they were
    same_sum : (C : ℕ) → C < o.masks → sum_in o (words_of ys) C ≡ sum C
    same_sum C h =
        so.beside (o.plan + C) (omega (arith, ok.sums, ok.goes, ok.end)) (record { masks = inr (omega (arith, ok.slot, rows_few)); units = inr (omega (arith, ok.slot, rows_few)); numbers = inl (omega (arith, ok.sums, ok.goes)) })

    same_goes : (C : ℕ) → C < o.masks → goes_in o (words_of ys) C ≡ goes C
    same_goes C h =
        so.beside (o.goes + C) (omega (arith, ok.goes, ok.end)) (record { masks = inr (omega (arith, ok.slot, ok.sums, rows_few)); units = inr (omega (arith, ok.slot, ok.sums, rows_few)); numbers = inl (omega (arith, ok.goes)) })

    pub may_open : Placed o ys × (m < o.masks) × (r + some (sum_in o (words_of ys) m) ≤ o.contents)
    may_open = (record { slot = ok.slot; sums = ok.sums; goes = ok.goes; end = omega (arith, so.numbered.long, ok.end) }, l, rw (same_sum m l) rows_few)

    -- masks below m + 1: those before, and the last
    split : (C : ℕ) → C < m + 1 → (P : Type 0) → (C < m → P) → (C ≡ m → P) → P
    split C h P f g = go (ℕ_discrete C m)
      where
        go : Dec (C ≡ m) → P
        go (yes e) = g e
        go (no e) = f (omega (arith, e))

    -- it has no units
    module _ (z : sum m ≡ 0) (zs : List ℕ) (q : zs ≡ set ys (o.numbers + m) (number_on o (words_of ys) m)) where
      unwritten : (i : ℕ) → i ≢ o.numbers + m → words_of zs i ≡ words_of ys i
      unwritten i n = ap (λ (vs : List ℕ). words_of vs i) q ∙ get_or-set_other ys (o.numbers + m) i (number_on o (words_of ys) m) 0 n

      number_before : (C : ℕ) → C < m → number_in o (words_of zs) C ≡ number_in o (words_of ys) C
      number_before C h = unwritten (o.numbers + C) (λ p. absurd (omega arith))

      number_here : number_in o (words_of zs) m ≡ cond (ltb (goes m) m) (number_in o (words_of ys) (goes m)) 0
      number_here =
          ap (λ (vs : List ℕ). words_of vs (o.numbers + m)) q ∙ get_or-set_same ys (o.numbers + m) (number_on o (words_of ys) m) 0 (omega (arith, so.numbered.long, ok.end))
          ∙ ap (λ (D : ℕ). cond (ltb D m) (number_in o (words_of ys) D) 0) (same_goes m l)

      -- masks with units are before
      earlier : (C : ℕ) → C < m + 1 → 1 ≤ sum C → C < m
      earlier C h s = split C h (C < m) (λ p. p) (λ e. absurd (omega (arith, ap sum e)))

      row_before_next : (C : ℕ) → C < m → 1 ≤ sum C → rank_of sum C < o.contents
      row_before_next C h s = omega (arith, so.numbered.count, rows_few, rank_rises sum C m s h)

      next_none : NumberedTo o (m + 1) r xs zs
      next_none =
          record {
            numbered = record {
              long = ap length q ∙ length-set ys (o.numbers + m) (number_on o (words_of ys) m) ∙ so.numbered.long;
              count = so.numbered.count ∙ sym (none_more sum m z);
              own = λ C h s. number_before C (earlier C h s) ∙ so.numbered.own C (earlier C h s) s;
              on = λ C h s g. split C h (number_in o (words_of zs) C ≡ number_in o (words_of zs) (goes C))
                  (λ p. number_before C p ∙ so.numbered.on C p s g ∙ sym (number_before (goes C) (omega arith)))
                  (λ e. rw e (number_here ∙ rw (lt-ltb (goes m) m (subst (λ (D : ℕ). goes D < D) e g)) (sym (number_before (goes m) (subst (λ (D : ℕ). goes D < D) e g)))));
              nowhere = λ C h s g. split C h (number_in o (words_of zs) C ≡ 0) (λ p. number_before C p ∙ so.numbered.nowhere C p s g)
                  (λ e. rw e (number_here ∙ rw (le-ltb (goes m) m (subst (λ (D : ℕ). D ≤ goes D) e g)) refl));
              mask = λ C h s. let p = earlier C h s in unwritten (mask_at o.slot (rank_of sum C)) (λ n. absurd (omega (arith, row_before_next C p s, ok.slot, ok.sums, ok.goes))) ∙ so.numbered.mask C p s;
              units = λ C h s. let p = earlier C h s in
                  unwritten (units_at o.contents o.slot (rank_of sum C)) (λ n. absurd (omega (arith, row_before_next C p s, ok.slot, ok.sums, ok.goes))) ∙ so.numbered.units C p s;
            };
            beside = λ i h b. unwritten i (λ n. ⊎_elim (λ d. absurd (omega arith)) (λ d. absurd (omega arith)) b.numbers)
                ∙ so.beside i h (record { masks = b.masks; units = b.units; numbers = ⊎_elim (λ d. inl d) (λ d. inr (omega arith)) b.numbers });
          }

    -- it has units
    module _ (s : 1 ≤ sum m) (zs : List ℕ) (q : zs ≡ row_put o m (sum_in o (words_of ys) m) r ys) where
      abbrev u : ℕ
      u = sum_in o (words_of ys) m

      row_there : r < o.contents
      row_there = let e : some (sum m) ≡ 1 = rw (ne_eqb (sum m) 0 (λ p. absurd (omega arith))) refl in omega (arith, rows_few)

      abbrev numbered_at : List ℕ
      numbered_at = set ys (o.numbers + m) r

      abbrev marked_at : List ℕ
      marked_at = set (set ys (o.numbers + m) r) (mask_at o.slot r) m

      untouched : (i : ℕ) → i ≢ o.numbers + m → i ≢ mask_at o.slot r → i ≢ units_at o.contents o.slot r → words_of zs i ≡ words_of ys i
      untouched i a b c =
          ap (λ (vs : List ℕ). words_of vs i) q ∙ get_or-set_other marked_at (units_at o.contents o.slot r) i u 0 c ∙ get_or-set_other numbered_at (mask_at o.slot r) i m 0 b
          ∙ get_or-set_other ys (o.numbers + m) i r 0 a

      own_number : number_in o (words_of zs) m ≡ r
      own_number =
          ap (λ (vs : List ℕ). words_of vs (o.numbers + m)) q
          ∙ get_or-set_other marked_at (units_at o.contents o.slot r) (o.numbers + m) u 0 (λ p. absurd (omega (arith, row_there, ok.slot, ok.sums, ok.goes)))
          ∙ get_or-set_other numbered_at (mask_at o.slot r) (o.numbers + m) m 0 (λ p. absurd (omega (arith, row_there, ok.slot, ok.sums, ok.goes)))
          ∙ get_or-set_same ys (o.numbers + m) r 0 (omega (arith, so.numbered.long, ok.end))

      own_mask : words_of zs (mask_at o.slot r) ≡ m
      own_mask =
          ap (λ (vs : List ℕ). words_of vs (mask_at o.slot r)) q
          ∙ get_or-set_other marked_at (units_at o.contents o.slot r) (mask_at o.slot r) u 0 (λ p. absurd (omega (arith, row_there)))
          ∙ get_or-set_same numbered_at (mask_at o.slot r) m 0 (rw (length-set ys (o.numbers + m) r) (omega (arith, so.numbered.long, row_there, ok.slot, ok.sums, ok.goes, ok.end)))

      own_units : words_of zs (units_at o.contents o.slot r) ≡ sum m
      own_units =
          ap (λ (vs : List ℕ). words_of vs (units_at o.contents o.slot r)) q
          ∙ get_or-set_same marked_at (units_at o.contents o.slot r) u 0
          (rw (length-set numbered_at (mask_at o.slot r) m, length-set ys (o.numbers + m) r) (omega (arith, so.numbered.long, row_there, ok.slot, ok.sums, ok.goes, ok.end)))
          ∙ same_sum m l

      number_kept : (C : ℕ) → C < m → number_in o (words_of zs) C ≡ number_in o (words_of ys) C
      number_kept C h =
          untouched (o.numbers + C) (λ p. absurd (omega arith)) (λ p. absurd (omega (arith, row_there, ok.slot, ok.sums, ok.goes)))
          (λ p. absurd (omega (arith, row_there, ok.slot, ok.sums, ok.goes)))

      -- masks without units are before
      earlier_none : (C : ℕ) → C < m + 1 → sum C ≡ 0 → C < m
      earlier_none C h z = split C h (C < m) (λ p. p) (λ e. absurd (omega (arith, ap sum e)))

      lower : (C : ℕ) → C < m → 1 ≤ sum C → rank_of sum C < r
      lower C h p = omega (arith, so.numbered.count, rank_rises sum C m p h)

      -- the last mask's row is row r
      rank_here : {C : ℕ} → C ≡ m → rank_of sum C ≡ r
      rank_here e = ap (rank_of sum) e ∙ sym so.numbered.count

      next_some : NumberedTo o (m + 1) (r + 1) xs zs
      next_some =
          record {
            numbered = record {
              long = ap length q ∙ length-set marked_at (units_at o.contents o.slot r) u ∙ length-set numbered_at (mask_at o.slot r) m ∙ length-set ys (o.numbers + m) r ∙ so.numbered.long;
              count = omega (arith, so.numbered.count, one_more_lem sum m s);
              own = λ C h p. split C h (number_in o (words_of zs) C ≡ rank_of sum C) (λ d. number_kept C d ∙ so.numbered.own C d p)
                  (λ e. ap (λ (D : ℕ). number_in o (words_of zs) D) e ∙ own_number ∙ sym (rank_here e));
              on = λ C h p g. let d = earlier_none C h p in number_kept C d ∙ so.numbered.on C d p g ∙ sym (number_kept (goes C) (omega arith));
              nowhere = λ C h p g. let d = earlier_none C h p in number_kept C d ∙ so.numbered.nowhere C d p g;
              mask = λ C h p. split C h (words_of zs (mask_at o.slot (rank_of sum C)) ≡ C)
                  (λ d. untouched (mask_at o.slot (rank_of sum C)) (λ n. absurd (omega (arith, lower C d p, row_there, ok.slot, ok.sums, ok.goes))) (λ n. absurd (omega (arith, lower C d p)))
                  (λ n. absurd (omega (arith, lower C d p, row_there)))
                  ∙ so.numbered.mask C d p)
                  (λ e. ap (λ (k : ℕ). words_of zs (mask_at o.slot k)) (rank_here e) ∙ own_mask ∙ sym e);
              units = λ C h p. split C h (words_of zs (units_at o.contents o.slot (rank_of sum C)) ≡ sum C)
                  (λ d. untouched (units_at o.contents o.slot (rank_of sum C)) (λ n. absurd (omega (arith, lower C d p, row_there, ok.slot, ok.sums, ok.goes)))
                  (λ n. absurd (omega (arith, lower C d p, row_there)))
                  (λ n. absurd (omega (arith, lower C d p)))
                  ∙ so.numbered.units C d p)
                  (λ e. ap (λ (k : ℕ). words_of zs (units_at o.contents o.slot k)) (rank_here e) ∙ own_units ∙ sym (ap sum e));
            };
            beside = λ i h b. untouched i (λ n. ⊎_elim (λ d. absurd (omega arith)) (λ d. absurd (omega arith)) b.numbers)
                (λ n. ⊎_elim (λ d. absurd (omega arith)) (λ d. absurd (omega arith)) b.masks) (λ n. ⊎_elim (λ d. absurd (omega arith)) (λ d. absurd (omega arith)) b.units)
                ∙ so.beside i h
                (record {
                  masks = ⊎_elim (λ d. inl d) (λ d. inr (omega arith)) b.masks;
                  units = ⊎_elim (λ d. inl d) (λ d. inr (omega arith)) b.units;
                  numbers = ⊎_elim (λ d. inl d) (λ d. inr (omega arith)) b.numbers;
                });
          }

    pub numbered_next : (t : ℕ) (zs : List ℕ) → MaskOpened o m r ys zs t → NumberedTo o (m + 1) t xs zs
    numbered_next t zs new = go (eqb (sum m) 0) refl
      where
        go : (b : Bool) → eqb (sum m) 0 ≡ b → NumberedTo o (m + 1) t xs zs
        go true e =
            let z : sum m ≡ 0 = eqb-true (sum m) 0 e in
            let (p, q) = new.none (same_sum m l ∙ z) in
            rw p (next_none z zs q)
        go false e =
            let s : 1 ≤ sum m = pos_of_ne-zero (eqb-false (sum m) 0 e) in
            let (p, q) = new.some (rw (same_sum m l) s) in
            rw p (next_some s zs q)

  -- ---- the cells

  module _ (r : ℕ) (ys : List ℕ) (so : NumberedTo o o.masks r xs ys) where
    rows_within : r * o.cells ≤ o.contents * o.cells
    rows_within =
        let rows : r ≤ o.contents = omega (arith, so.numbered.count, few) in
        omega (arith, mul-le-mul_left o.cells rows)

    pub cells_there : o.slot + 4 + 2 * o.contents + 2 * o.cells + r * o.cells ≤ length ys
    cells_there = omega (arith, so.numbered.long, rows_within, ok.slot, ok.sums, ok.goes, ok.end)

    module _ (zs : List ℕ) (done : Leaves (λ w. replaced (o.slot + 4 + 2 * o.contents + 2 * o.cells) (r * o.cells) (λ j. 0) w) ys zs) where
      kept : (i : ℕ) → i < length xs → (i < o.slot + 4 + 2 * o.contents + 2 * o.cells) ⊎ (o.slot + 4 + 2 * o.contents + 2 * o.cells + r * o.cells ≤ i) → words_of zs i ≡ words_of ys i
      kept i l h = done.word i (omega (arith, so.numbered.long)) ∙ rw (not_within (o.slot + 4 + 2 * o.contents + 2 * o.cells) (r * o.cells) i h) refl

      number_kept_on : (C : ℕ) → C < o.masks → number_in o (words_of zs) C ≡ number_in o (words_of ys) C
      number_kept_on C l = kept (o.numbers + C) (omega (arith, ok.end)) (inr (omega (arith, rows_within, ok.slot, ok.sums, ok.goes)))

      small : (C : ℕ) → C < o.masks → 1 ≤ sum C → rank_of sum C < o.contents
      small C l s = omega (arith, few, rank_rises sum C o.masks s l)

      pub all_opened : Opened o r xs zs
      all_opened =
          record {
            numbered = record {
              long = done.long ∙ so.numbered.long;
              count = so.numbered.count;
              own = λ C l s. number_kept_on C l ∙ so.numbered.own C l s;
              on = λ C l s g. number_kept_on C l ∙ so.numbered.on C l s g ∙ sym (number_kept_on (goes C) (omega arith));
              nowhere = λ C l s g. number_kept_on C l ∙ so.numbered.nowhere C l s g;
              mask = λ C l s. kept (mask_at o.slot (rank_of sum C)) (omega (arith, small C l s, ok.slot, ok.sums, ok.goes, ok.end)) (inl (omega (arith, small C l s)))
                  ∙ so.numbered.mask C l s;
              units = λ C l s. kept (units_at o.contents o.slot (rank_of sum C)) (omega (arith, small C l s, ok.slot, ok.sums, ok.goes, ok.end)) (inl (omega (arith, small C l s)))
                  ∙ so.numbered.units C l s;
            };
            cells = λ k j l m. done.word (cell_at o.contents o.cells o.slot k j) (omega (arith, cells_there, row_before o.cells k r l))
                ∙ rw (is_within_lem (o.slot + 4 + 2 * o.contents + 2 * o.cells) (r * o.cells) (cell_at o.contents o.cells o.slot k j) (omega arith)
                (omega (arith, row_before o.cells k r l))) refl;
            beside = λ i l b c. kept i l (⊎_elim (λ d. inl (omega arith)) (λ d. inr (omega arith)) c) ∙ so.beside i l b;
          }

-- ---- what follows

module _ (o : Opening) (r : ℕ) (xs ys : List ℕ) (so : Numbered o o.masks r xs ys) where
  -- the mask and the units of row k
  abbrev mask_of : ℕ → ℕ
  mask_of k = words_of ys (mask_at o.slot k)

  -- what is known of row k: its mask has units, which are the row's, and the row's number
  pub record Row (k : ℕ) : Type 0 where
    pub low : mask_of k < o.masks
    pub some : 1 ≤ sum_in o (words_of xs) (mask_of k)
    pub rank : rank_of (sum_in o (words_of xs)) (mask_of k) ≡ k
    pub units : words_of ys (units_at o.contents o.slot k) ≡ sum_in o (words_of xs) (mask_of k)
    pub number : number_in o (words_of ys) (mask_of k) ≡ k

  pub row_known : (k : ℕ) → k < r → Row k
  row_known k l = go (ranked (sum_in o (words_of xs)) o.masks k (omega (arith, so.count)))
    where
      go : (C : ℕ) × (C < o.masks) × (1 ≤ sum_in o (words_of xs) C) × (rank_of (sum_in o (words_of xs)) C ≡ k) → Row k
      go (C, p, s, e) =
          let at : mask_of k ≡ C = ap (λ (j : ℕ). words_of ys (mask_at o.slot j)) (sym e) ∙ so.mask C p s in
          record {
            low = rw at p;
            some = rw at s;
            rank = rw at e;
            units = ap (λ (j : ℕ). words_of ys (units_at o.contents o.slot j)) (sym e) ∙ so.units C p s ∙ ap (sum_in o (words_of xs)) (sym at);
            number = ap (number_in o (words_of ys)) at ∙ so.own C p s ∙ e;
          }

  -- rows rise by mask
  pub masks_rise : (i k : ℕ) → i < k → k < r → mask_of i < mask_of k
  masks_rise i k l m = go (ltb (mask_of i) (mask_of k)) refl
    where
      go : (b : Bool) → ltb (mask_of i) (mask_of k) ≡ b → mask_of i < mask_of k
      go true e = ltb-true (mask_of i) (mask_of k) e
      go false e =
          absurd
          (omega (
            arith,
            (row_known i (omega arith)).rank,
            (row_known k m).rank,
            sum_part (mask_of k) (mask_of i) (λ E. some (sum_in o (words_of xs) E)) (ltb-false (mask_of i) (mask_of k) e),
          ))

  -- every mask has the number of a row, where there is one
  pub number_there : 1 ≤ r → (m C : ℕ) → C < m → C < o.masks → number_in o (words_of ys) C < r
  number_there l zero C p q = absurd (omega arith)
  number_there l (suc m) C p q = go (number_there l m) (eqb (sum_in o (words_of xs) C) 0) refl (ltb (goes_in o (words_of xs) C) C) refl
    where
      go : ((D : ℕ) → D < m → D < o.masks → number_in o (words_of ys) D < r) → (b : Bool) → eqb (sum_in o (words_of xs) C) 0 ≡ b → (c : Bool) → ltb (goes_in o (words_of xs) C) C ≡ c
          → number_in o (words_of ys) C < r
      go before false e c h =
          let s : 1 ≤ sum_in o (words_of xs) C = pos_of_ne-zero (eqb-false (sum_in o (words_of xs) C) 0 e) in
          omega (arith, so.own C q s, so.count, rank_rises (sum_in o (words_of xs)) C o.masks s q)
      go before true e true h =
          let g : goes_in o (words_of xs) C < C = ltb-true (goes_in o (words_of xs) C) C h in
          rw (so.on C q (eqb-true (sum_in o (words_of xs) C) 0 e) g) (before (goes_in o (words_of xs) C) (omega arith) (omega arith))
      go before true e false h = rw (so.nowhere C q (eqb-true (sum_in o (words_of xs) C) 0 e) (ltb-false (goes_in o (words_of xs) C) C h)) l

  -- a mask that goes on has the number of its end, where no such mask has units; the plan's words vs say where masks go on to, from place n on
  pub number_end : (n : ℕ) (vs : List ℕ) → ((C : ℕ) → C < o.masks → get_or vs (n + C) C ≡ goes_in o (words_of xs) C)
      → ((C : ℕ) → C < o.masks → goes_in o (words_of xs) C < C → sum_in o (words_of xs) C ≡ 0) → (f C : ℕ) → C < o.masks
      → number_in o (words_of ys) C ≡ number_in o (words_of ys) (onward f n vs C)
  unfolding onward
  number_end n vs same h zero C l = refl
  number_end n vs same h (suc f) C l = rw (same C l) (go (number_end n vs same h f) (ltb (goes_in o (words_of xs) C) C) refl)
    where
      go : ((D : ℕ) → D < o.masks → number_in o (words_of ys) D ≡ number_in o (words_of ys) (onward f n vs D)) → (b : Bool) → ltb (goes_in o (words_of xs) C) C ≡ b
          → number_in o (words_of ys) C ≡ number_in o (words_of ys) (cond b (onward f n vs (goes_in o (words_of xs) C)) C)
      go further true e =
          let g : goes_in o (words_of xs) C < C = ltb-true (goes_in o (words_of xs) C) C e in
          so.on C l (h C l g) g ∙ further (goes_in o (words_of xs) C) (omega arith)
      go further false e = refl
