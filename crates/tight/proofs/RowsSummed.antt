-- The rows of all contents added to the sums by mask, one after the other: what is read for a row is none of the sums, and so it is as it was before the first. And no sum grows beyond
-- what all rows can add.
use mathlib.Core.Path.{◌≡◌, refl, sym, ap₂, ◌∙◌}
use mathlib.Core.Logic.{◌⊎◌, inl, inr, ⊎_elim}
use mathlib.Core.Bool.{Bool, true, false, cond, not, true≢false}
use mathlib.Core.List.{List}
use Prim.Native.Nat.{ℕ, suc, ◌+◌, ◌-◌, ◌*◌, ◌^◌, ◌≤◌, ◌<◌}
use native.Mathlib.Nat.{mul-le-mul_right, sub-le, suc-le-suc_iff}
use native.Mathlib.Numerals.{add-one}
use native.Mathlib.Omega.{arith}
use lib.Bits.{bit_and}
use lib.Dec.{eqb, leb}
use lib.ListN.{length, set}
use borrow.Author.Tests.{ne_eqb, leb-true, leb-false}
use Rattle.basics.proofs.Sums.{sum_to, sum_eq, sum_le, part_most}
use Rattle.rules.specs.declared.Target.{Target}
use Rattle.rules.specs.Contents.{hits, with, without, shared, held, size}
use Rattle.tight.specs.declared.Sender.{Sender}
use Rattle.tight_rows.specs.Room.{words_of, Leaves}
use Rattle.tight_rows.specs.Rows.{replaced, raised, row_sum, if, comes_to}
use Rattle.tight.specs.Access.{risk, lost_to, miss_to, row_goes, Summable}
use Rattle.tight.specs.Splitting.{can_lose}
use Rattle.tight.specs.Sending.{start_at, mask_in, units_in, part_in, stay_in, goes_from, most_from, rest_in, Sending, Addable, Totalling, Totalled}
use Rattle.tight_rows.proofs.Adding.{sum_part}
use Rattle.tight_rows.proofs.Raising.{raised_at, raised_beside, raised_then, raised_same, raised_one, live_most, live_part, lost_everywhere, lost_most}
use Rattle.tight.proofs.Access.{sum_zero}
use Rattle.tight_rows.proofs.Grids.{sum_none}
use Rattle.tight_rows.proofs.Writing.{as_before, written_at, row_before}

-- ---- one row

module _ (N : ℕ) (x : Target) (t : ℕ → Bool) (C all : ℕ) where
  -- where no block can be lost it does not matter what a way would have
  pub goes_whole : can_lose x C ≡ false → (q stay : ℕ) → row_goes N x t C all q stay ≡ row_goes N x t C all 0 0
  unfolding row_goes
  goes_whole e q stay = go (hits x C) (eqb (risk x C) 0) e
    where
      go : (a b : Bool) → cond a false (not b) ≡ false
          → cond a (if (t C) all) (cond b (if (t (with C x.place)) all) (miss_to N x t C q stay)) ≡ cond a (if (t C) all) (cond b (if (t (with C x.place)) all) (miss_to N x t C 0 0))
      go true b p = refl
      go false true p = refl
      go false false p = absurd (true≢false p)

  goes_most : (q stay : ℕ) → row_goes N x t C all q stay ≤ all + 16 * q + N * q + stay
  unfolding row_goes miss_to lost_to
  goes_most q stay = go (hits x C) (eqb (risk x C) 0)
    where
      lost : ℕ
      lost = lost_to x t C (risk x C) q

      lost_few : lost ≤ 16 * q
      lost_few =
          omega (
            arith,
            lost_everywhere (λ e. if (t (with (without C e) x.place)) q) (risk x C),
            lost_most (λ e. if (t (with (without C e) x.place)) q) q (λ e. part_most (t (with (without C e) x.place)) q) (risk x C) 16,
          )

      go : (a b : Bool) → cond a (if (t C) all) (cond b (if (t (with C x.place)) all) (lost + if (t (with C x.place)) ((N - size (risk x C)) * q + stay))) ≤ all + 16 * q + N * q + stay
      go true b = omega (arith, part_most (t C) all)
      go false true = omega (arith, part_most (t (with C x.place)) all)
      go false false =
          omega (arith, lost_few, part_most (t (with C x.place)) ((N - size (risk x C)) * q + stay), mul-le-mul_right q (sub-le N (size (risk x C))))

  -- nothing goes where nothing is meant
  goes_nowhere : ((D : ℕ) → t D ≡ false) → (q stay : ℕ) → row_goes N x t C all q stay ≡ 0
  unfolding row_goes miss_to lost_to
  goes_nowhere none q stay = go (hits x C) (eqb (risk x C) 0)
    where
      nothing : (D u : ℕ) → if (t D) u ≡ 0
      nothing D u = rw (none D) refl

      go : (a b : Bool) → cond a (if (t C) all) (cond b (if (t (with C x.place)) all) (lost_to x t C (risk x C) q + if (t (with C x.place)) ((N - size (risk x C)) * q + stay))) ≡ 0
      go true b = nothing C all
      go false true = nothing (with C x.place) all
      go false false =
          omega (
            arith,
            sum_zero (λ e. if (t (with (without C e) x.place)) q) (λ e. nothing (with (without C e) x.place) q) (held (risk x C)),
            nothing (with C x.place) ((N - size (risk x C)) * q + stay),
          )

-- no contents come to a mask beyond what is live
dead_mask : (L C D : ℕ) → L < C → comes_to L C D ≡ false
dead_mask L C D l = ne_eqb (shared D L) C (λ e. absurd (omega (arith, live_most D L)))

module _ (N : ℕ) (x : Target) (L : ℕ) (s : Sender) (plan k : ℕ) (xs ys : List ℕ) where
  abbrev RowAdded : ℕ → ℕ → Type 0
  RowAdded q stay = Leaves (raised plan (suc L) (λ D. row_goes N x (comes_to L D) (mask_in s (words_of xs) k) (units_in s (words_of xs) k) q stay)) xs ys

  pub kept_added : can_lose x (mask_in s (words_of xs) k) ≡ false → plan + suc L ≤ length xs → RowAdded 0 0 → Leaves (raised plan (suc L) (λ D. goes_from N x L s (words_of xs) D k)) xs ys
  kept_added e l h =
      raised_same plan (suc L) (λ D. row_goes N x (comes_to L D) (mask_in s (words_of xs) k) (units_in s (words_of xs) k) 0 0) (λ D. goes_from N x L s (words_of xs) D k) xs ys l
      (λ D m. goes_whole N x (comes_to L D) (mask_in s (words_of xs) k) (units_in s (words_of xs) k) e (part_in s (words_of xs) k) (stay_in s (words_of xs) k)) h

-- ---- what is read

-- where only words of the plan differ, what is read of row m is the same
module _ (s : Sender) (plan n : ℕ) (xs ys : List ℕ) (ok : Sending s plan n xs) (alike : (i : ℕ) → i < length xs → (i < plan) ⊎ (plan + n ≤ i) → words_of ys i ≡ words_of xs i)
    (m : ℕ) (l : m < s.count) where
  same_mask : mask_in s (words_of ys) m ≡ mask_in s (words_of xs) m
  same_mask = alike (s.masks + m) (omega (arith, ok.masks, ok.lose, ok.lose_end)) (inl (omega (arith, ok.masks)))

  same_units : units_in s (words_of ys) m ≡ units_in s (words_of xs) m
  same_units = alike (s.units + m) (omega (arith, ok.units, ok.lose, ok.lose_end)) (inl (omega (arith, ok.units)))

  same_sum : (select : ℕ) → plan + n ≤ select → select + s.width ≤ length xs → row_sum (start_at s m) select s.width (words_of ys) ≡ row_sum (start_at s m) select s.width (words_of xs)
  same_sum select a b =
      sum_eq s.width _ _
      (λ j h. ap₂ bit_and
      (alike (start_at s m + j) (omega (arith, row_before s.length m s.count l, ok.rows, ok.wide, ok.lose, ok.lose_end))
      (inl (omega (arith, row_before s.length m s.count l, ok.rows, ok.wide))))
      (alike (select + j) (omega arith) (inr (omega arith))))

  same_part : part_in s (words_of ys) m ≡ part_in s (words_of xs) m
  same_part = same_sum s.lose ok.lose ok.lose_end

  same_stay : stay_in s (words_of ys) m ≡ stay_in s (words_of xs) m
  same_stay = same_sum s.keep ok.keep ok.keep_end

  same_goes : (N : ℕ) (x : Target) (L D : ℕ) → goes_from N x L s (words_of ys) D m ≡ goes_from N x L s (words_of xs) D m
  same_goes N x L D = rw (same_mask, same_units, same_part, same_stay) refl

  same_most : (N : ℕ) → most_from N s (words_of ys) m ≡ most_from N s (words_of xs) m
  same_most N = rw (same_units, same_part, same_stay) refl

pub still_sending : (s : Sender) (plan n : ℕ) (xs ys : List ℕ) → length ys ≡ length xs → Sending s plan n xs → Sending s plan n ys
still_sending s plan n xs ys e ok =
    record { wide = ok.wide; masks = ok.masks; units = ok.units; rows = ok.rows; lose = ok.lose; keep = ok.keep; lose_end = rw e ok.lose_end; keep_end = rw e ok.keep_end }

-- ---- row after row

module _ (N : ℕ) (x : Target) (L : ℕ) (s : Sender) (plan : ℕ) (xs : List ℕ) where
  -- the first m rows have been added
  abbrev pub SummedTo : ℕ → List ℕ → Type 0
  SummedTo m ys = Leaves (raised plan (suc L) (λ D. sum_to m (goes_from N x L s (words_of xs) D))) xs ys

  module _ (ok : Sending s plan (suc L) xs) (may : Addable N x L s plan xs) (m : ℕ) (ys : List ℕ) (l : m < s.count) (so : SummedTo m ys) where
    room : plan + suc L ≤ length xs
    room = omega (arith, ok.lose, ok.lose_end)

    beside : (i : ℕ) → i < length xs → (i < plan) ⊎ (plan + suc L ≤ i) → words_of ys i ≡ words_of xs i
    beside = raised_beside plan (suc L) (λ D. sum_to m (goes_from N x L s (words_of xs) D)) xs ys so

    pub may_sum : Summable N x plan L (mask_in s (words_of ys) m) (units_in s (words_of ys) m) (part_in s (words_of ys) m) (stay_in s (words_of ys) m) ys
    may_sum =
        record {
          placed = may.placed;
          room = omega (arith, so.long, room);
          ways = rw (same_mask s plan (suc L) xs ys ok beside m l) (may.ways m l);
          fits = λ D d. omega (
            arith,
            raised_at plan (suc L) (λ D. sum_to m (goes_from N x L s (words_of xs) D)) xs ys so room D (suc-le-suc_iff.1 d),
            same_most s plan (suc L) xs ys ok beside m l N,
            sum_le m (goes_from N x L s (words_of xs) D) (most_from N s (words_of xs))
                (λ k h. goes_most N x (comes_to L D) (mask_in s (words_of xs) k) (units_in s (words_of xs) k) (part_in s (words_of xs) k) (stay_in s (words_of xs) k)),
            sum_part (suc m) s.count (most_from N s (words_of xs)) l,
            may.fits D d,
          );
        }

    pub summed_next : (zs : List ℕ) → Leaves (raised plan (suc L) (λ D. goes_from N x L s (words_of ys) D m)) ys zs → SummedTo (m + 1) zs
    summed_next zs new =
        raised_then plan (suc L) (λ D. sum_to m (goes_from N x L s (words_of xs) D)) (λ D. goes_from N x L s (words_of ys) D m) (λ D. sum_to (m + 1) (goes_from N x L s (words_of xs) D)) xs ys zs so new room
        (λ D d. rw (add-one m, same_goes s plan (suc L) xs ys ok beside m l N x L D) refl)

-- ---- in all

module _ (N : ℕ) (x : Target) (L : ℕ) (s : Sender) (plan n : ℕ) (xs : List ℕ) (ok : Totalling N x L s plan n xs) where
  -- the sums of live masks alone
  live_there : Sending s plan (suc L) xs
  live_there =
      record {
        wide = ok.there.wide;
        masks = ok.there.masks;
        units = ok.there.units;
        rows = ok.there.rows;
        lose = omega (arith, ok.there.lose, ok.live);
        keep = omega (arith, ok.there.keep, ok.live);
        lose_end = ok.there.lose_end;
        keep_end = ok.there.keep_end;
      }

  room_for_all : plan + n ≤ length xs
  room_for_all = omega (arith, ok.rest, ok.rest_end)

  module _ (ys : List ℕ) (clear : Leaves (λ w. replaced plan n (λ j. 0) w) xs ys) where
    cleared_beside : (i : ℕ) → i < length xs → (i < plan) ⊎ (plan + n ≤ i) → words_of ys i ≡ words_of xs i
    cleared_beside = as_before plan (λ w j. 0) n xs ys clear

    cleared_at : (C : ℕ) → C < n → words_of ys (plan + C) ≡ 0
    cleared_at = written_at plan (λ w j. 0) n xs ys clear room_for_all

    pub ready_there : Sending s plan (suc L) ys
    ready_there = still_sending s plan (suc L) xs ys clear.long live_there

    pub ready : Addable N x L s plan ys
    ready =
        record {
          placed = ok.placed;
          ways = λ k l. rw (same_mask s plan n xs ys ok.there cleared_beside k l) (ok.ways k l);
          fits = λ D d. omega (
            arith,
            cleared_at D (omega (arith, ok.live)),
            sum_eq s.count (most_from N s (words_of ys)) (most_from N s (words_of xs)) (λ k l. same_most s plan n xs ys ok.there cleared_beside k l N),
            ok.fits,
          );
        }

    module _ (zs : List ℕ) (summed : SummedTo N x L s plan ys s.count zs) where
      goes_same : (C : ℕ) → sum_to s.count (goes_from N x L s (words_of ys) C) ≡ sum_to s.count (goes_from N x L s (words_of xs) C)
      goes_same C = sum_eq s.count _ _ (λ k l. same_goes s plan n xs ys ok.there cleared_beside k l N x L C)

      live_sum : (C : ℕ) → C ≤ L → words_of zs (plan + C) ≡ sum_to s.count (goes_from N x L s (words_of xs) C)
      live_sum C l =
          raised_at plan (suc L) (λ D. sum_to s.count (goes_from N x L s (words_of ys) D)) ys zs summed (omega (arith, clear.long, room_for_all, ok.live)) C (suc-le-suc_iff.1 l)
          ∙ omega (arith, cleared_at C (omega (arith, ok.live)), goes_same C)

      sum_here : (C : ℕ) → C < n → words_of zs (plan + C) ≡ sum_to s.count (goes_from N x L s (words_of xs) C)
      sum_here C l = go (leb C L) refl
        where
          go : (b : Bool) → leb C L ≡ b → words_of zs (plan + C) ≡ sum_to s.count (goes_from N x L s (words_of xs) C)
          go true e = live_sum C (leb-true C L e)
          go false e =
              raised_beside plan (suc L) (λ D. sum_to s.count (goes_from N x L s (words_of ys) D)) ys zs summed (plan + C) (omega (arith, clear.long, room_for_all)) (inr (omega (arith, leb-false C L e)))
              ∙ cleared_at C l
              ∙ sym (sum_none s.count (goes_from N x L s (words_of xs) C)
              (λ k h. goes_nowhere N x (comes_to L C) (mask_in s (words_of xs) k) (units_in s (words_of xs) k) (λ D. dead_mask L C D (leb-false C L e)) (part_in s (words_of xs) k) (stay_in s (words_of xs) k)))

      pub rest_fits : (C u : ℕ) → C ≤ L → u ≡ rest_in s (words_of xs) → words_of zs (plan + C) + u < 2 ^ 64
      rest_fits C u l e =
          omega (
            arith,
            live_sum C l,
            ok.fits,
            sum_le s.count (goes_from N x L s (words_of xs) C) (most_from N s (words_of xs))
                (λ k h. goes_most N x (comes_to L C) (mask_in s (words_of xs) k) (units_in s (words_of xs) k) (part_in s (words_of xs) k) (stay_in s (words_of xs) k)),
          )

      pub totalled : (D u : ℕ) → D ≡ shared (with 0 x.place) L → u ≡ rest_in s (words_of xs)
          → Totalled N x L s plan n u xs (set zs (plan + D) (words_of zs (plan + D) + u))
      totalled D u d e =
          record {
            long = last.long ∙ summed.long ∙ clear.long;
            left = e;
            sums = λ C l. raised_at plan n (λ j. if (eqb D j) u) zs _ last room_last C l ∙ rw (sum_here C l, e, d) refl;
            beside = λ i l o. raised_beside plan n (λ j. if (eqb D j) u) zs _ last i (omega (arith, summed.long, clear.long)) o
                ∙ raised_beside plan (suc L) (λ C. sum_to s.count (goes_from N x L s (words_of ys) C)) ys zs summed i (omega (arith, clear.long)) (⊎_elim (λ p. inl p) (λ p. inr (omega (arith, ok.live))) o)
                ∙ cleared_beside i l o;
          }
        where
          room_last : plan + n ≤ length zs
          room_last = omega (arith, summed.long, clear.long, room_for_all)

          last : Leaves (raised plan n (λ j. if (eqb D j) u)) zs (set zs (plan + D) (words_of zs (plan + D) + u))
          last = raised_one plan n D u zs (omega (arith, live_part (with 0 x.place) L D d, ok.live)) room_last
