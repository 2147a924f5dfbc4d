-- Rows that become heights, and cells again: cell by cell from the front, where what is read stands there as it was; and row by row, for anything that is made of a row's cells.
use mathlib.Core.Path.{◌≡◌, refl, sym, ap, ap₂, ◌∙◌}
use mathlib.Core.Logic.{inl, inr, ⊎_elim}
use mathlib.Core.Bool.{Bool, true, false, cond}
use mathlib.Core.List.{List}
use Prim.Native.Nat.{ℕ, suc, ◌+◌, ◌-◌, ◌^◌, ◌≤◌, ◌<◌}
use native.Mathlib.Nat.{lt_of_le_of_lt, zero-add}
use native.Mathlib.Decide.{ℕ_discrete}
use native.Mathlib.Omega.{arith}
use lib.Dec.{ltb}
use lib.ListN.{length, set}
use borrow.Author.Tests.{ltb-true, ltb-false}
use Rattle.basics.proofs.Sums.{sum_to, sum_eq}
use Rattle.tight_joins.specs.declared.Band.{Band}
use Rattle.tight_rows.specs.Room.{Words, words_of, Leaves}
use Rattle.tight_rows.specs.Rows.{replaced}
use Rattle.tight_joins.specs.Piling.{height_at, piled, next_height, stepped, row_start, Banded, EachRow, Light}
use Rattle.tight_rows.proofs.Writing.{within_cases, Written, as_before, written_at, one_more_lem, row_before}
use Rattle.tight_rows.proofs.Adding.{sum_part}

-- ---- heights

pub part_light : (a n j : ℕ) (w : Words) → j ≤ n → sum_to n (λ i. w (a + i)) < 2 ^ 64 → sum_to j (λ i. w (a + i)) < 2 ^ 64
part_light a n j w l h = lt_of_le_of_lt (sum_part j n (λ i. w (a + i)) l) h

pub below_all : (a n j : ℕ) (w : Words) → j ≤ n → sum_to j (λ i. w (a + i)) ≤ sum_to n (λ i. w (a + i))
below_all a n j w l = sum_part j n (λ i. w (a + i)) l

pub height_first : (a n by : ℕ) (w : Words) (all below : ℕ) → all ≡ sum_to n (λ i. w (a + i)) → below ≡ sum_to by (λ i. w (a + i)) → all - below ≡ height_at a n w (0 + by)
height_first a n by w all below e f = rw (zero-add by) (ap₂ ◌-◌ e f)

module _ (a n by : ℕ) (xs ys : List ℕ) (j : ℕ) (l : j + by < n) (room : a + n ≤ length xs) (h : Written a (piled by n a) j xs ys) where
  -- the next cell stands there as it was
  cell_there : words_of ys (a + by + j) ≡ words_of xs (a + (j + by))
  cell_there = as_before a (piled by n a) j xs ys h (a + by + j) (omega arith) (inr (omega arith)) ∙ ap (words_of xs) (let e : a + by + j ≡ a + (j + by) = omega arith in e)

  pub height_enough : (left : ℕ) → left ≡ height_at a n (words_of xs) (j + by) → words_of ys (a + by + j) ≤ left
  height_enough left e = omega (arith, cell_there, e, sum_part (suc (j + by)) n (λ i. words_of xs (a + i)) l)

  pub height_next : (left : ℕ) → left ≡ height_at a n (words_of xs) (j + by) → left - words_of ys (a + by + j) ≡ height_at a n (words_of xs) (j + 1 + by)
  height_next left e =
      let s : j + 1 + by ≡ suc (j + by) = omega arith in
      rw (s, cell_there, e) (omega arith)

  pub height_put : (left : ℕ) → left ≡ height_at a n (words_of xs) (j + by) → Written a (piled by n a) (j + 1) xs (set ys (a + j) left)
  height_put left e = one_more_lem a (piled by n a) j xs ys left h (omega arith) e

-- beyond the last nothing lies
pub row_piled : (a n by : ℕ) (xs ys zs : List ℕ) → by ≤ n → a + n ≤ length xs → Leaves (λ w. replaced a (n - by) (piled by n a w) w) xs ys
    → Leaves (λ w. replaced (a + (n - by)) by (λ j. 0) w) ys zs → Leaves (λ w. replaced a n (piled by n a w) w) xs zs
row_piled a n by xs ys zs l room f g =
    record {
      long = g.long ∙ f.long;
      word = λ i m. within_cases a n i (λ b. words_of zs i ≡ cond b (piled by n a (words_of xs) (i - a)) (words_of xs i)) (λ p q. here i p q (ltb (i - a) (n - by)) refl)
          (λ o. as_before (a + (n - by)) (λ w j. 0) by ys zs g i (omega (arith, f.long)) (⊎_elim (λ d. inl (omega arith)) (λ d. inr (omega arith)) o)
          ∙ as_before a (piled by n a) (n - by) xs ys f i m (⊎_elim (λ d. inl d) (λ d. inr (omega arith)) o));
    }
  where
    here : (i : ℕ) → a ≤ i → i < a + n → (b : Bool) → ltb (i - a) (n - by) ≡ b → words_of zs i ≡ piled by n a (words_of xs) (i - a)
    here i p q true e =
        let s : a + (i - a) ≡ i = omega arith in
        let k = ltb-true (i - a) (n - by) e in
        as_before (a + (n - by)) (λ w j. 0) by ys zs g i (omega (arith, f.long)) (inl (omega arith))
        ∙ ap (words_of ys) (sym s) ∙ written_at a (piled by n a) (n - by) xs ys f (omega arith) (i - a) k
    here i p q false e =
        let k = ltb-false (i - a) (n - by) e in
        let s : a + (n - by) + (i - a - (n - by)) ≡ i = omega arith in
        ap (words_of zs) (sym s) ∙ written_at (a + (n - by)) (λ w j. 0) by ys zs g (omega (arith, f.long)) (i - a - (n - by)) (omega arith)
        ∙ omega (arith, sum_part n (i - a + by) (λ j. words_of xs (a + j)) (omega arith))

-- ---- cells again

-- where a height and the one behind it stand as they were
module _ (a n : ℕ) (xs ys : List ℕ) (j : ℕ) (l : j < n) (room : a + n ≤ length xs) (h : Written a (stepped n a) j xs ys) where
  pub step_put : (v : ℕ) → v ≡ words_of ys (a + j) - next_height n a (words_of ys) j → Written a (stepped n a) (j + 1) xs (set ys (a + j) v)
  step_put v e = one_more_lem a (stepped n a) j xs ys v h (omega arith) (e ∙ same (ltb (suc j) n) refl)
    where
      same : (b : Bool) → ltb (suc j) n ≡ b → words_of ys (a + j) - cond b (words_of ys (a + suc j)) 0 ≡ words_of xs (a + j) - cond b (words_of xs (a + suc j)) 0
      same true k =
          let m = ltb-true (suc j) n k in
          rw (as_before a (stepped n a) j xs ys h (a + j) (omega arith) (inr (omega arith)), as_before a (stepped n a) j xs ys h (a + suc j) (omega arith) (inr (omega arith))) refl
      same false k = rw (as_before a (stepped n a) j xs ys h (a + j) (omega arith) (inr (omega arith))) refl

-- ---- row after row

-- what is made of a row is made of its n cells alone
abbrev pub Own : ℕ → (ℕ → Words → ℕ → ℕ) → Type 0
Own n v = (a : ℕ) (w w' : Words) → ((i : ℕ) → i < n → w (a + i) ≡ w' (a + i)) → (j : ℕ) → j < n → v a w j ≡ v a w' j

pub piled_own : (by n : ℕ) → Own n (piled by n)
piled_own by n a w w' h j l = go (ltb (j + by) n) refl
  where
    all : sum_to n (λ i. w (a + i)) ≡ sum_to n (λ i. w' (a + i))
    all = sum_eq n (λ i. w (a + i)) (λ i. w' (a + i)) h

    go : (b : Bool) → ltb (j + by) n ≡ b → piled by n a w j ≡ piled by n a w' j
    go true e =
        let m = ltb-true (j + by) n e in
        omega (arith, all, sum_eq (j + by) (λ i. w (a + i)) (λ i. w' (a + i)) (λ i k. h i (omega arith)))
    go false e =
        let m = ltb-false (j + by) n e in
        omega (arith, sum_part n (j + by) (λ i. w (a + i)) m, sum_part n (j + by) (λ i. w' (a + i)) m)

pub stepped_own : (n : ℕ) → Own n (stepped n)
stepped_own n a w w' h j l = go (ltb (suc j) n) refl
  where
    go : (b : Bool) → ltb (suc j) n ≡ b → w (a + j) - cond b (w (a + suc j)) 0 ≡ w' (a + j) - cond b (w' (a + suc j)) 0
    go true e = let m = ltb-true (suc j) n e in rw (h j l, h (suc j) m) refl
    go false e = rw (h j l) refl

module _ (b : Band) (v : ℕ → Words → ℕ → ℕ) (xs : List ℕ) (ok : Banded b xs) where
  module _ (m : ℕ) (ys : List ℕ) (l : m < b.count) (so : EachRow b v m xs ys) where
    pub row_inside : row_start b m + b.width ≤ length xs
    row_inside = omega (arith, ok.wide, ok.inside, row_before b.length m b.count l)

    pub row_room : row_start b m + b.width ≤ length ys
    row_room = omega (arith, so.long, row_inside)

    -- its cells are as they were
    row_as_before : (i : ℕ) → i < b.width → words_of ys (row_start b m + i) ≡ words_of xs (row_start b m + i)
    row_as_before i h = so.rest (row_start b m + i) (omega (arith, row_inside)) (λ k r. inr (omega (arith, ok.wide, row_before b.length k m r)))

    pub row_light : Light b xs → sum_to b.width (λ i. words_of ys (row_start b m + i)) < 2 ^ 64
    row_light h = rw (sum_eq b.width (λ i. words_of ys (row_start b m + i)) (λ i. words_of xs (row_start b m + i)) row_as_before) (h m l)

    pub row_done : Own b.width v → (zs : List ℕ) → Leaves (λ w. replaced (row_start b m) b.width (v (row_start b m) w) w) ys zs → EachRow b v (m + 1) xs zs
    row_done own zs new =
        record {
          long = new.long ∙ so.long;
          cells = λ k j h i. cell k j h i (ℕ_discrete k m);
          rest = λ i h o. as_before (row_start b m) (v (row_start b m)) b.width ys zs new i (omega (arith, so.long)) (o m (omega arith))
              ∙ so.rest i h (λ k r. o k (omega arith));
        }
      where
        cell : (k j : ℕ) → k < m + 1 → j < b.width → Dec (k ≡ m) → words_of zs (row_start b k + j) ≡ v (row_start b k) (words_of xs) j
        cell k j h i (yes e) =
            rw e (written_at (row_start b m) (v (row_start b m)) b.width ys zs new row_room j i
            ∙ own (row_start b m) (words_of ys) (words_of xs) row_as_before j i)
        cell k j h i (no d) =
            let r = row_before b.length k m (omega (arith, d)) in
            as_before (row_start b m) (v (row_start b m)) b.width ys zs new (row_start b k + j) (omega (arith, so.long, row_inside, r, ok.wide)) (inl (omega (arith, r, ok.wide)))
            ∙ so.cells k j (omega (arith, d)) i
