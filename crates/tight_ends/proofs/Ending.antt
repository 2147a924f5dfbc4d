-- Row ends by columns. The highest and the lowest miss count that stay are found from the units of each column, and so is what leaves at either end. What passes a test
-- afterwards is a sum over the columns that stay, in which those that rise count as the lowest.
use mathlib.Core.Path.{◌≡◌, refl, sym, ap, ◌∙◌}
use mathlib.Core.Logic.{◌⊎◌, inl, inr}
use mathlib.Core.Bool.{Bool, true, false, cond, ◌&&◌, true≢false}
use mathlib.Core.List.{List, [], ◌∷◌}
use Prim.Native.Nat.{ℕ, zero, suc, ◌+◌, ◌-◌, ◌≤◌, ◌<◌, max, min}
use native.Mathlib.Nat.{le_trans, le-max_left, le-max_right, max-le}
use native.Mathlib.Omega.{arith}
use lib.Dec.{ltb}
use borrow.Author.Tests.{ltb-true, ltb-false, lt-ltb, le-ltb}
use Rattle.basics.proofs.Sums.{sum_to, sum_eq}
use Rattle.rules.specs.declared.State.{State}
use Rattle.rules.specs.Shape.{Every}
use Rattle.rules.specs.Table.{units_of, total}
use Rattle.rules.specs.Questions.{above, least, least_from}
use Rattle.rules.proofs.Lists.{every_weaker}
use Rattle.rules.proofs.Questions.{least_least, smallest_is}
use Rattle.tight_rules.specs.Ends.{allowance, up_to, below, highest, lowest}
use Rattle.tight_ends.specs.Ending.{Topped, Bottomed}
use Rattle.tight_rows.proofs.Cells.{Test, passes, units_where, where_alike, below_where, total_where}
use Rattle.tight_ends.proofs.Columns.{under, column, columns, all_columns, above_below, where_fewer}

-- a least number below the last that is looked at passes
pub least_hit : (test : ℕ → Bool) (n : ℕ) → least test n < n → test (least test n) ≡ true
unfolding least
least_hit test n h = from n 0 (omega arith)
  where
    from : (n m : ℕ) → least_from test n (test m) m < n + m → test (least_from test n (test m) m) ≡ true
    from zero m l = absurd (omega arith)
    from (suc n) m l = go (test m) refl (from n (suc m)) l
      where
        go : (b : Bool) → test m ≡ b → (least_from test n (test (suc m)) (suc m) < n + suc m → test (least_from test n (test (suc m)) (suc m)) ≡ true)
            → least_from test (suc n) b m < suc n + m → test (least_from test (suc n) b m) ≡ true
        go true e ih l = e
        go false e ih l = ih (omega arith)

below_rises : (A B : ℕ) (T : List State) → A ≤ B → below A T ≤ below B T
below_rises A B T l =
    rw (below_where A T, below_where B T)
    (where_fewer (λ D m F. ltb m A) (λ D m F. ltb m B) T (each T))
  where
    each : (T : List State) → Every (λ s. ltb s.misses A ≡ true → ltb s.misses B ≡ true) T
    each [] = tt
    each (s ∷ T) = (λ h. lt-ltb s.misses B (omega (arith, ltb-true s.misses A h)), each T)

-- what is left after a cut: what was under it
pub where_up_to : (H : ℕ) (p : Test) (T : List State) → units_where p (up_to H T) ≡ units_where (under (suc H) p) T
unfolding units_where
where_up_to H p [] = refl
where_up_to H p (s ∷ T) = go (ltb H s.misses) refl (where_up_to H p T)
  where
    go : (b : Bool) → ltb H s.misses ≡ b → units_where p (up_to H T) ≡ units_where (under (suc H) p) T
        → units_where p (cond b (up_to H T) (s ∷ up_to H T)) ≡ cond (ltb s.misses (suc H) && passes p s) (units_of s) 0 + units_where (under (suc H) p) T
    go true e h = rw (le-ltb s.misses (suc H) (omega (arith, ltb-true H s.misses e))) (omega (arith, h))
    go false e h = rw (lt-ltb s.misses (suc H) (omega (arith, ltb-false H s.misses e))) (omega (arith, h))

below_up_to : (H B : ℕ) (T : List State) → B ≤ suc H → below B (up_to H T) ≡ below B T
below_up_to H B T l =
    below_where B (up_to H T) ∙ where_up_to H (λ D m F. ltb m B) T
    ∙ where_alike (under (suc H) (λ D m F. ltb m B)) (λ D m F. ltb m B) T (each T) ∙ sym (below_where B T)
  where
    each : (T : List State) → Every (λ s. (ltb s.misses (suc H) && ltb s.misses B) ≡ ltb s.misses B) T
    each [] = tt
    each (s ∷ T) = (go (ltb s.misses B) refl, each T)
      where
        go : (b : Bool) → ltb s.misses B ≡ b → (ltb s.misses (suc H) && b) ≡ b
        go true e = rw (lt-ltb s.misses (suc H) (omega (arith, ltb-true s.misses B e))) refl
        go false e = pick (ltb s.misses (suc H))
          where
            pick : (x : Bool) → (x && false) ≡ false
            pick true = refl
            pick false = refl

-- a table whose states have b misses at least and fewer than b + n, with t units in each column
module _ (b n : ℕ) (T : List State) (within : Every (λ s. (b ≤ s.misses) × (s.misses < b + n)) T)
    (t : ℕ → ℕ) (tots : (j : ℕ) → j < n → units_where (column (b + j) (λ D m F. true)) T ≡ t j) where
  below_sum : (c : ℕ) → c ≤ n → below (b + c) T ≡ sum_to c t
  below_sum c l =
      below_where (b + c) T
      ∙ where_alike (λ D m F. ltb m (b + c)) (under (b + c) (λ D m F. true)) T (each T)
      ∙ columns (λ D m F. true) b c T (every_weaker (λ s. (b ≤ s.misses) × (s.misses < b + n)) (λ s. b ≤ s.misses) (λ s h. h.0) T within)
      ∙ sum_eq c _ t (λ j h. tots j (omega arith))
    where
      each : (T : List State) → Every (λ s. ltb s.misses (b + c) ≡ (ltb s.misses (b + c) && true)) T
      each [] = tt
      each (s ∷ T) = (go (ltb s.misses (b + c)), each T)
        where
          go : (x : Bool) → x ≡ (x && true)
          go true = refl
          go false = refl

  pub total_sum : total T ≡ sum_to n t
  total_sum = total_where T ∙ all_columns (λ D m F. true) b n T within ∙ sum_eq n _ t tots

  module _ (heavy : allowance < total T) (c gone : ℕ) (top : Topped t n (suc c) gone) where
    -- what is above the last column that stays
    pub above_top : above (b + c) T ≡ gone
    above_top = omega (arith, above_below (b + c) T, plus, total_sum, top.leaving)
      where
        plus : below (suc (b + c)) T ≡ sum_to (suc c) t
        plus = ap (λ (m : ℕ). below m T) next ∙ below_sum (suc c) top.within
          where
            next : suc (b + c) ≡ b + suc c
            next = omega arith

    -- the highest miss count
    pub highest_is : highest T ≡ b + c
    unfolding highest
    highest_is = sym (smallest_is allowance T (b + c) (omega (arith, above_top, top.light)) (λ A l. more A l top.full))
      where
        more : (A : ℕ) → A < b + c → (suc c ≡ 1) ⊎ (allowance < gone + t (suc c - 1)) → allowance < above A T
        more A l (inl e) = omega (arith, above_below A T, below_rises (suc A) (b + c) T l, below_sum c (omega (arith, top.within)), none e)
          where
            none : suc c ≡ 1 → sum_to c t ≡ 0
            none e = ap (λ (m : ℕ). sum_to m t) (let z : c ≡ 0 = omega arith in z)
        more A l (inr e) = omega (arith, above_below A T, below_rises (suc A) (b + c) T l, below_sum c (omega (arith, top.within)), total_sum, top.leaving, last)
          where
            last : t (suc c - 1) ≡ t c
            last = ap t (let z : suc c - 1 ≡ c = omega arith in z)

    -- the lowest, and what is below it
    module _ (W bot low : ℕ) (bottom : Bottomed t W (suc c) bot low) where
      below_cut : (i : ℕ) → i ≤ suc c → below (b + i) (up_to (b + c) T) ≡ sum_to i t
      below_cut i l = below_up_to (b + c) (b + i) T (omega arith) ∙ below_sum i (omega (arith, top.within))

      pub below_lowest : below (b + bot) (up_to (b + c) T) ≡ low
      below_lowest = below_cut bot (omega (arith, bottom.within)) ∙ sym bottom.rising

      pub lowest_is : lowest W (b + c) (up_to (b + c) T) ≡ b + bot
      unfolding lowest
      lowest_is = omega (arith, bottom.within, upper bottom.enough, lower bottom.needed)
        where
          U : List State
          U = up_to (b + c) T

          test : ℕ → Bool
          test B = ltb allowance (below (suc B) U)

          L : ℕ
          L = least test (b + c)

          -- a number that passes has more than may rise below it
          heavy_below : L < b + bot → allowance < low
          heavy_below l =
              omega (
                arith,
                ltb-true allowance (below (suc L) U) (least_hit test (b + c) (omega (arith, bottom.within))),
                below_rises (suc L) (b + bot) U l,
                below_lowest,
              )

          lower : (bot ≡ 0) ⊎ (low ≤ allowance) ⊎ (bot + W ≤ suc (suc c)) → b + bot ≤ max L (b + c + 2 - W)
          lower (inl e) = le_trans (go (ltb L (b + bot)) refl) (le-max_left L (b + c + 2 - W))
            where
              go : (x : Bool) → ltb L (b + bot) ≡ x → b + bot ≤ L
              go true h = absurd (omega (arith, heavy_below (ltb-true L (b + bot) h), bottom.rising, nothing))
                where
                  nothing : sum_to bot t ≡ 0
                  nothing = ap (λ (m : ℕ). sum_to m t) e
              go false h = ltb-false L (b + bot) h
          lower (inr (inl e)) = le_trans (go (ltb L (b + bot)) refl) (le-max_left L (b + c + 2 - W))
            where
              go : (x : Bool) → ltb L (b + bot) ≡ x → b + bot ≤ L
              go true h = absurd (omega (arith, heavy_below (ltb-true L (b + bot) h)))
              go false h = ltb-false L (b + bot) h
          lower (inr (inr e)) = le_trans (omega arith) (le-max_right L (b + c + 2 - W))

          upper : (suc bot ≡ suc c) ⊎ (allowance < low + t bot) × (suc c < bot + W) → min (b + c) (max L (b + c + 2 - W)) ≤ b + bot
          upper (inl e) = omega arith
          upper (inr (e, w)) = let z : max L (b + c + 2 - W) ≤ b + bot = max-le (go (ltb (b + bot) L) refl) (omega arith) in omega arith
            where
              sums : below (suc (b + bot)) U ≡ low + t bot
              sums = ap (λ (m : ℕ). below m U) (let z : suc (b + bot) ≡ b + suc bot = omega arith in z) ∙ below_cut (suc bot) bottom.within ∙ ap (◌+ t bot) (sym bottom.rising)

              go : (x : Bool) → ltb (b + bot) L ≡ x → L ≤ b + bot
              go false h = ltb-false (b + bot) L h
              go true h =
                  absurd (true≢false (sym (lt-ltb allowance (below (suc (b + bot)) U) (omega (arith, sums))) ∙ least_least test (b + c) (b + bot) (ltb-true (b + bot) L h)))
