-- Rows that go up one after the other. Rows have no cell in common, and no mask or units stand among cells, so that what one row writes leaves all others as they were.
use mathlib.Core.Path.{◌≡◌, refl, sym, ap, ap₂, subst, ◌∙◌}
use mathlib.Core.Logic.{◌⊎◌, inl, inr, ⊎_elim, ◌≢◌}
use mathlib.Core.Bool.{Bool, true, false, cond}
use mathlib.Core.List.{List}
use Prim.Native.Nat.{ℕ, zero, suc, ◌+◌, ◌-◌, ◌*◌, ◌^◌, ◌≤◌, ◌<◌}
use native.Mathlib.Nat.{mul-le-mul_left, pos_of_ne-zero}
use native.Mathlib.Omega.{arith}
use lib.Dec.{eqb, ltb}
use lib.ListN.{length, set, length-set}
use lib.Seq.{get_or-set_same, get_or-set_other}
use borrow.Author.Tests.{eqb-true, eqb-false, eq-eqb, ne_eqb, lt-ltb, ltb-true}
use Rattle.basics.proofs.Sums.{sum_to, sum_eq}
use Rattle.tight_rows.specs.Room.{words_of, Leaves, mask_at, units_at, cell_at, row_at, slot_words}
use Rattle.tight_rows.specs.Rows.{replaced}
use Rattle.tight_ends.specs.Settling.{gathered, gathered_row, Gathering}
use Rattle.tight_ends.specs.Keeping.{row_in, staying_in, Keeping, Beside, RowKept, KeepingAll, KeptTo}
use Rattle.tight_rows.proofs.Writing.{is_within_lem, not_within, row_in_lem, row_before}
use Rattle.tight_rows.proofs.Adding.{sum_part}

-- ---- what is gathered of a row

-- in all: its first cells
pub gathered_sum : (bot wide : ℕ) (f : ℕ → ℕ) → 1 ≤ wide → sum_to wide (gathered bot f) ≡ sum_to (bot + wide) f
unfolding gathered
gathered_sum bot zero f l = absurd (omega arith)
gathered_sum bot (suc zero) f l = omega arith ∙ ap (λ (n : ℕ). sum_to n f) (let z : suc bot ≡ bot + 1 = omega arith in z)
gathered_sum bot (suc (suc w)) f l =
    ap (◌+ gathered bot f (suc w)) (gathered_sum bot (suc w) f (omega arith))
    ∙ rw (ne_eqb (suc w) 0 (λ p. absurd (omega arith))) refl
    ∙ ap (λ (n : ℕ). sum_to n f) (let z : suc (bot + suc w) ≡ bot + suc (suc w) = omega arith in z)

pub gathered_most : (bot wide W : ℕ) (f : ℕ → ℕ) → 1 ≤ wide → bot + wide ≤ W → sum_to wide (gathered bot f) ≤ sum_to W f
gathered_most bot wide W f l m = rw (gathered_sum bot wide f l) (sum_part (bot + wide) W f m)

pub gathered_row_lem : (bot wide : ℕ) (f : ℕ → ℕ) (j : ℕ) → j < wide → gathered_row bot wide f j ≡ gathered bot f j
gathered_row_lem bot wide f j l = rw (lt-ltb j wide l) refl

-- ---- one row

module _ (K W a bot wide k to : ℕ) (xs : List ℕ) (ok : Keeping K W a bot wide k to xs) where
  pub may_gather : Gathering (row_at K W a k) (row_at K W a to) bot wide W xs
  may_gather =
      record {
        down = omega (arith, mul-le-mul_left W ok.up);
        some = ok.some;
        within = ok.within;
        inside = omega (arith, ok.inside, row_in_lem K W k ok.row);
        fits = omega (arith, sum_part (bot + 1) W (row_in K W a (words_of xs) k) (omega (arith, ok.within, ok.some)), ok.most);
      }

  module _ (ys : List ℕ) (done : Leaves (λ w. replaced (row_at K W a to) W (gathered_row bot wide (λ j. w (row_at K W a k + j))) w) xs ys) where
    inside : (j : ℕ) → j < W → cell_at K W a to j < length xs
    inside j l = omega (arith, ok.inside, row_in_lem K W to (omega (arith, ok.up, ok.row)))

    pub cell_done : (j : ℕ) → j < W → words_of ys (cell_at K W a to j) ≡ gathered_row bot wide (row_in K W a (words_of xs) k) j
    cell_done j l =
        done.word (cell_at K W a to j) (inside j l)
        ∙ rw (is_within_lem (row_at K W a to) W (cell_at K W a to j) (omega arith) (omega arith))
        (ap (gathered_row bot wide (row_in K W a (words_of xs) k)) (let z : row_at K W a to + j - row_at K W a to ≡ j = omega arith in z))

    pub word_kept : (i : ℕ) → i < length xs → (i < row_at K W a to) ⊎ (row_at K W a to + W ≤ i) → words_of ys i ≡ words_of xs i
    word_kept i l o = done.word i l ∙ rw (not_within (row_at K W a to) W i o) refl

    pub sum_done : sum_to wide (λ j. words_of ys (row_at K W a to + j)) ≡ staying_in K W a bot wide (words_of xs) k
    sum_done = sum_eq wide _ _ (λ j l. cell_done j (omega (arith, ok.within)) ∙ gathered_row_lem bot wide (row_in K W a (words_of xs) k) j l)

    pub sum_done_fits : sum_to wide (λ j. words_of ys (row_at K W a to + j)) < 2 ^ 64
    sum_done_fits = omega (arith, sum_done, gathered_most bot wide W (row_in K W a (words_of xs) k) ok.some ok.within, ok.most)

    -- nothing stays
    pub kept_none : (u : ℕ) → u ≡ sum_to wide (λ j. words_of ys (row_at K W a to + j)) → u ≡ 0 → RowKept K W a bot wide k to xs ys to
    kept_none u e z =
        record {
          long = done.long;
          cells = cell_done;
          none = λ n. (refl, word_kept (mask_at a to) (omega (arith, ok.inside, ok.up, ok.row)) (inl (omega (arith, ok.up, ok.row))), word_kept (units_at K a to) (omega (arith, ok.inside, ok.up, ok.row)) (inl (omega (arith, ok.up, ok.row))));
          some = λ l. absurd (omega (arith, sum_done));
          beside = λ i l b. word_kept i l b.cells;
        }

    -- something does: the mask and the units are written
    pub kept_some : (u : ℕ) → u ≡ sum_to wide (λ j. words_of ys (row_at K W a to + j)) → u ≢ 0
        → RowKept K W a bot wide k to xs (set (set ys (mask_at a to) (words_of ys (mask_at a k))) (units_at K a to) u) (to + 1)
    kept_some u e n =
        record {
          long = length-set marked (units_at K a to) u ∙ length-set ys (mask_at a to) (words_of ys (mask_at a k)) ∙ done.long;
          cells = λ j l. unwritten (cell_at K W a to j) (λ p. absurd (omega (arith, ok.up, ok.row))) (λ p. absurd (omega (arith, ok.up, ok.row))) ∙ cell_done j l;
          none = λ z. absurd (n (omega (arith, sum_done)));
          some = λ l. (
            refl,
            get_or-set_other marked (units_at K a to) (mask_at a to) u 0 (λ p. absurd (omega (arith, ok.up, ok.row)))
                ∙ get_or-set_same ys (mask_at a to) (words_of ys (mask_at a k)) 0 (omega (arith, done.long, ok.inside, ok.up, ok.row))
                ∙ word_kept (mask_at a k) (omega (arith, ok.inside, ok.row)) (inl (omega (arith, ok.row))),
            get_or-set_same marked (units_at K a to) u 0 (rw (length-set ys (mask_at a to) (words_of ys (mask_at a k))) (omega (arith, done.long, ok.inside, ok.up, ok.row))) ∙ e ∙ sum_done,
          );
          beside = λ i l b. unwritten i b.mask b.units ∙ word_kept i l b.cells;
        }
      where
        marked : List ℕ
        marked = set ys (mask_at a to) (words_of ys (mask_at a k))

        unwritten : (i : ℕ) → i ≢ mask_at a to → i ≢ units_at K a to → words_of (set (set ys (mask_at a to) (words_of ys (mask_at a k))) (units_at K a to) u) i ≡ words_of ys i
        unwritten i p q = get_or-set_other (set ys (mask_at a to) (words_of ys (mask_at a k))) (units_at K a to) i u 0 q ∙ get_or-set_other ys (mask_at a to) i (words_of ys (mask_at a k)) 0 p

  -- the same where the places are known by equations
  module _ (from row : ℕ) (p : from ≡ row_at K W a k) (q : row ≡ row_at K W a to) where
    pub may_gather_at : Gathering from row bot wide W xs
    may_gather_at = rw (p, q) may_gather

    module _ (ys : List ℕ) (done : Leaves (λ w. replaced row W (gathered_row bot wide (λ j. w (from + j))) w) xs ys) where
      there : Leaves (λ w. replaced (row_at K W a to) W (gathered_row bot wide (λ j. w (row_at K W a k + j))) w) xs ys
      there =
          subst (λ (r : ℕ). Leaves (λ w. replaced r W (gathered_row bot wide (λ j. w (row_at K W a k + j))) w) xs ys) q
          (subst (λ (f : ℕ). Leaves (λ w. replaced row W (gathered_row bot wide (λ j. w (f + j))) w) xs ys) p done)

      pub sum_at_lem : sum_to wide (λ j. words_of ys (row + j)) < 2 ^ 64
      sum_at_lem = rw q (sum_done_fits ys there)

      pub none_at : (u : ℕ) → u ≡ sum_to wide (λ j. words_of ys (row + j)) → u ≡ 0 → RowKept K W a bot wide k to xs ys to
      none_at u e z = kept_none ys there u (e ∙ ap (λ (r : ℕ). sum_to wide (λ j. words_of ys (r + j))) q) z

      pub some_at : (u : ℕ) → u ≡ sum_to wide (λ j. words_of ys (row + j)) → u ≢ 0
          → RowKept K W a bot wide k to xs (set (set ys (mask_at a to) (words_of ys (mask_at a k))) (units_at K a to) u) (to + 1)
      some_at u e n = kept_some ys there u (e ∙ ap (λ (r : ℕ). sum_to wide (λ j. words_of ys (r + j))) q) n

-- ---- row after row

gathered_alike : (bot wide W : ℕ) (f g : ℕ → ℕ) → bot + wide ≤ W → ((j : ℕ) → j < W → f j ≡ g j) → (j : ℕ) → j < wide → gathered bot f j ≡ gathered bot g j
unfolding gathered
gathered_alike bot wide W f g l e j m = ap₂ (cond (eqb j 0)) (sum_eq (suc bot) f g (λ i h. e i (omega arith))) (e (bot + j) (omega arith))

row_alike : (bot wide W : ℕ) (f g : ℕ → ℕ) → bot + wide ≤ W → ((j : ℕ) → j < W → f j ≡ g j) → (j : ℕ) → gathered_row bot wide f j ≡ gathered_row bot wide g j
row_alike bot wide W f g l e j = go (ltb j wide) refl
  where
    go : (b : Bool) → ltb j wide ≡ b → cond b (gathered bot f j) 0 ≡ cond b (gathered bot g j) 0
    go true h = gathered_alike bot wide W f g l e j (ltb-true j wide h)
    go false h = refl

module _ (K W a bot wide n : ℕ) (xs : List ℕ) (ok : KeepingAll K W a bot wide n xs) where
  abbrev stay : ℕ → ℕ
  stay k = staying_in K W a bot wide (words_of xs) k

  pub kept_start : KeptTo K W a bot wide 0 0 xs xs
  kept_start =
      record {
        few = omega arith;
        long = refl;
        from = λ i. i;
        before = λ i l. absurd (omega arith);
        rises = λ i l p q. p;
        some = λ i l. absurd (omega arith);
        mask = λ i l. refl;
        units = λ i l. absurd (omega arith);
        cells = λ i j l m. absurd (omega arith);
        all = λ l p s. absurd (omega arith);
        ahead_mask = λ l p q. refl;
        ahead_cells = λ l j p q m. refl;
        rest = λ i l o. refl;
      }

  module _ (k o : ℕ) (ys : List ℕ) (l : k < n) (so : KeptTo K W a bot wide k o xs ys) where
    few_rows_lem : k < K
    few_rows_lem = omega (arith, ok.few)

    -- row k is still what it was
    same_cell : (j : ℕ) → j < W → row_in K W a (words_of ys) k j ≡ row_in K W a (words_of xs) k j
    same_cell j m = so.ahead_cells k j (omega arith) few_rows_lem m

    pub may_keep : Keeping K W a bot wide k o ys
    may_keep =
        record {
          row = few_rows_lem;
          up = so.few;
          some = ok.some;
          within = ok.within;
          inside = omega (arith, so.long, ok.inside);
          most = rw (sum_eq W (row_in K W a (words_of ys) k) (row_in K W a (words_of xs) k) same_cell) (ok.most k l);
        }

    same_stay : staying_in K W a bot wide (words_of ys) k ≡ stay k
    same_stay = sum_eq wide _ _ (gathered_alike bot wide W (row_in K W a (words_of ys) k) (row_in K W a (words_of xs) k) ok.within same_cell)

    module _ (r : ℕ) (zs : List ℕ) (new : RowKept K W a bot wide k o ys zs r) where
      other : (i : ℕ) → i < length xs → Beside K W a o i → words_of zs i ≡ words_of ys i
      other i m b = new.beside i (omega (arith, so.long)) b

      mask_other : (i : ℕ) → i < K → i ≢ o → words_of zs (mask_at a i) ≡ words_of ys (mask_at a i)
      mask_other i m d =
          other (mask_at a i) (omega (arith, ok.inside))
          (record { mask = λ p. d (omega arith); units = λ p. absurd (omega arith); cells = inl (omega arith) })

      units_other : (i : ℕ) → i < K → i ≢ o → words_of zs (units_at K a i) ≡ words_of ys (units_at K a i)
      units_other i m d =
          other (units_at K a i) (omega (arith, ok.inside))
          (record { mask = λ p. absurd (omega (arith, so.few, few_rows_lem)); units = λ p. d (omega arith); cells = inl (omega arith) })

      cell_other : (i j : ℕ) → i < K → (i < o) ⊎ (o < i) → j < W → words_of zs (cell_at K W a i j) ≡ words_of ys (cell_at K W a i j)
      cell_other i j m d q =
          other (cell_at K W a i j) (omega (arith, ok.inside, row_in_lem K W i m))
          (record {
            mask = λ p. absurd (omega (arith, so.few, few_rows_lem));
            units = λ p. absurd (omega (arith, so.few, few_rows_lem));
            cells = ⊎_elim (λ h. inl (omega (arith, row_before W i o h))) (λ h. inr (omega (arith, row_before W o i h))) d;
          })

      -- what both ways have in common
      ahead_mask_lem : (i : ℕ) → k + 1 ≤ i → i < K → words_of zs (mask_at a i) ≡ words_of xs (mask_at a i)
      ahead_mask_lem i p q = mask_other i q (λ e. absurd (omega (arith, so.few))) ∙ so.ahead_mask i (omega arith) q

      ahead_cells_lem : (i j : ℕ) → k + 1 ≤ i → i < K → j < W → words_of zs (cell_at K W a i j) ≡ words_of xs (cell_at K W a i j)
      ahead_cells_lem i j p q m = cell_other i j q (inr (omega (arith, so.few))) m ∙ so.ahead_cells i j (omega arith) q m

      rest_same : (i : ℕ) → i < length xs → (i < a + 4) ⊎ ((a + 4 + 2 * K ≤ i) × (i < a + 4 + 2 * K + 2 * W)) ⊎ (a + slot_words K W ≤ i) → words_of zs i ≡ words_of xs i
      rest_same i m w = other i m (place w) ∙ so.rest i m w
        where
          small : o < K
          small = omega (arith, so.few, few_rows_lem)

          place : (i < a + 4) ⊎ ((a + 4 + 2 * K ≤ i) × (i < a + 4 + 2 * K + 2 * W)) ⊎ (a + slot_words K W ≤ i) → Beside K W a o i
          place (inl p) = record { mask = λ e. absurd (omega arith); units = λ e. absurd (omega arith); cells = inl (omega arith) }
          place (inr (inl (p, q))) = record { mask = λ e. absurd (omega arith); units = λ e. absurd (omega arith); cells = inl (omega arith) }
          place (inr (inr p)) =
              record { mask = λ e. absurd (omega arith); units = λ e. absurd (omega arith); cells = inr (omega (arith, row_in_lem K W o small)) }

      next_none : stay k ≡ 0 → KeptTo K W a bot wide (k + 1) o xs zs
      next_none z =
          record {
            few = omega (arith, so.few);
            long = new.long ∙ so.long;
            from = so.from;
            before = λ i m. omega (arith, so.before i m);
            rises = so.rises;
            some = so.some;
            mask = λ i m. mask_other i (omega (arith, so.few, few_rows_lem)) (λ e. absurd (omega arith)) ∙ so.mask i m;
            units = λ i m. units_other i (omega (arith, so.few, few_rows_lem)) (λ e. absurd (omega arith)) ∙ so.units i m;
            cells = λ i j m q. cell_other i j (omega (arith, so.few, few_rows_lem)) (inl m) q ∙ so.cells i j m q;
            all = λ i m s. so.all i (lower i m s) s;
            ahead_mask = ahead_mask_lem;
            ahead_cells = ahead_cells_lem;
            rest = rest_same;
          }
        where
          lower : (i : ℕ) → i < k + 1 → 1 ≤ stay i → i < k
          lower i m s = go (eqb i k) refl
            where
              go : (b : Bool) → eqb i k ≡ b → i < k
              go true e = absurd (omega (arith, ap stay (eqb-true i k e)))
              go false e = omega (arith, eqb-false i k e)

      next_some : 1 ≤ stay k → KeptTo K W a bot wide (k + 1) (o + 1) xs zs
      next_some s =
          record {
            few = omega (arith, so.few);
            long = new.long ∙ so.long;
            from = from';
            before = λ i m. pick i m (λ f. f < k + 1) (λ h. omega (arith, so.before i h)) (λ h. omega arith);
            rises = λ i h p m. pick h m (λ f. from' i < f) (λ q. rw (old i (omega arith)) (so.rises i h p q)) (λ q. rw (old i (omega arith)) (so.before i (omega arith)));
            some = λ i m. pick i m (λ f. 1 ≤ stay f) (λ h. so.some i h) (λ h. s);
            mask = λ i m. pick i m (λ f. words_of zs (mask_at a i) ≡ words_of xs (mask_at a f)) (λ h. mask_other i (omega arith) (λ e. absurd (omega arith)) ∙ so.mask i h)
                (λ h. ap (λ (x : ℕ). words_of zs (mask_at a x)) h ∙ (new.some here).1 ∙ so.ahead_mask k (omega arith) few_rows_lem);
            units = λ i m. pick i m (λ f. words_of zs (units_at K a i) ≡ stay f) (λ h. units_other i (omega arith) (λ e. absurd (omega arith)) ∙ so.units i h)
                (λ h. ap (λ (x : ℕ). words_of zs (units_at K a x)) h ∙ (new.some here).2 ∙ same_stay);
            cells = λ i j m q. pick i m (λ f. words_of zs (cell_at K W a i j) ≡ gathered_row bot wide (row_in K W a (words_of xs) f) j) (λ h. cell_other i j (omega arith) (inl h) q ∙ so.cells i j h q)
                (λ h. ap (λ (x : ℕ). words_of zs (cell_at K W a x j)) h ∙ new.cells j q ∙ row_alike bot wide W (row_in K W a (words_of ys) k) (row_in K W a (words_of xs) k) ok.within same_cell j);
            all = λ i m t. reach i m t (eqb i k) refl;
            ahead_mask = ahead_mask_lem;
            ahead_cells = ahead_cells_lem;
            rest = rest_same;
          }
        where
          small : o < K
          small = omega (arith, so.few, few_rows_lem)

          here : 1 ≤ staying_in K W a bot wide (words_of ys) k
          here = rw same_stay s

          from' : ℕ → ℕ
          from' i = cond (eqb i o) k (so.from i)

          old : (i : ℕ) → i < o → from' i ≡ so.from i
          old i m = rw (ne_eqb i o (λ e. absurd (omega arith))) refl

          -- the rows before, and the new one
          pick : (i : ℕ) → i < o + 1 → (P : ℕ → Type 0) → (i < o → P (so.from i)) → (i ≡ o → P k) → P (from' i)
          pick i m P x y = go (eqb i o) refl
            where
              go : (b : Bool) → eqb i o ≡ b → P (cond b k (so.from i))
              go true e = y (eqb-true i o e)
              go false e = x (omega (arith, eqb-false i o e))

          reach : (i : ℕ) → i < k + 1 → 1 ≤ stay i → (b : Bool) → eqb i k ≡ b → (j : ℕ) × (j < o + 1) × (from' j ≡ i)
          reach i m t true e = (o, omega arith, rw (eq-eqb o o refl) (sym (eqb-true i k e)))
          reach i m t false e = let (j, p, q) = so.all i (omega (arith, eqb-false i k e)) t in (j, omega arith, old j p ∙ q)

      pub kept_next : KeptTo K W a bot wide (k + 1) r xs zs
      kept_next = go (eqb (stay k) 0) refl
        where
          go : (b : Bool) → eqb (stay k) 0 ≡ b → KeptTo K W a bot wide (k + 1) r xs zs
          go true e =
              let z : stay k ≡ 0 = eqb-true (stay k) 0 e in
              rw (new.none (same_stay ∙ z)).0 (next_none z)
          go false e =
              let s : 1 ≤ stay k = pos_of_ne-zero (eqb-false (stay k) 0 e) in
              rw (new.some (rw same_stay s)).0 (next_some s)
