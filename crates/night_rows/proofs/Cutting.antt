-- The list cut into graphs: what is left of it behind each of them, and how many the first pass counts.
use mathlib.Core.Path.{◌≡◌, refl, sym, ap, subst, ◌∙◌}
use mathlib.Core.Logic.{◌≢◌}
use mathlib.Core.Bool.{Bool, true, false, cond, ◌&&◌}
use mathlib.Core.List.{List, [], ◌∷◌}
use Prim.Native.Nat.{ℕ, zero, suc, ◌+◌, ◌-◌, ◌≤◌, ◌<◌}
use native.Mathlib.Nat.{zero-add, add-zero}
use native.Mathlib.Omega.{arith}
use borrow.Author.Tests.{leb-true, leb-false, le-leb, lt-leb}
use lib.Dec.{leb}
use lib.ListN.{length, take, drop, drop_of_length-le}
use lib.Seq.{drop-cons}
use Rattle.curve_numbers.specs.Parts.{Part, counted}
use Rattle.curve_numbers.specs.Places.{end_of}
use Rattle.curve_numbers.proofs.Places.{part_whole, part_short}
use Rattle.night_rows.specs.Graphs.{Cut, cut, exactly, graphs_in, count_of}

-- ---- behind a graph

cut_none : (n : ℕ) → cut n [] ≡ record { exact = true; graphs = [] }
unfolding cut
cut_none zero = refl
cut_none (suc n) = refl

-- there is none behind the end of the list
pub cut_end : (n : ℕ) (ns : List ℕ) (at : ℕ) → length ns ≤ at → cut n (drop at ns) ≡ record { exact = true; graphs = [] }
cut_end n ns at h = ap (cut n) (drop_of_length-le ns h) ∙ cut_none n

-- no more than there may be
pub cut_few : (n : ℕ) (ns : List ℕ) → length (cut n ns).graphs ≤ n
unfolding cut
cut_few zero [] = omega arith
cut_few zero (k ∷ ns) = omega arith
cut_few (suc n) [] = omega arith
cut_few (suc n) (k ∷ ns) = omega (arith, cut_few n (counted 1 (k ∷ ns)).rest)

-- a part, and the graphs behind it
abbrev behind : ℕ → Part → Cut
behind n p = record { exact = p.enough && (cut n p.rest).exact; graphs = p.numbers ∷ (cut n p.rest).graphs }

module _ (ns : List ℕ) (at : ℕ) (l : at < length ns) where
  pub cut_full : cut 0 (drop at ns) ≡ record { exact = false; graphs = [] }
  unfolding cut
  cut_full = subst (λ (xs : List ℕ). cut 0 xs ≡ record { exact = false; graphs = [] }) (sym (drop-cons ns at 0 l)) refl

  cut_next : (n : ℕ) → cut (suc n) (drop at ns) ≡ behind n (counted 1 (drop at ns))
  unfolding cut
  cut_next n = subst (λ (xs : List ℕ). cut (suc n) xs ≡ behind n (counted 1 xs)) (sym (drop-cons ns at 0 l)) refl

  -- the graph that begins there is whole, or cut short
  pub next_whole : (n : ℕ) → end_of 1 ns at ≤ length ns
      → cut (suc n) (drop at ns)
      ≡ record { exact = (cut n (drop (end_of 1 ns at) ns)).exact; graphs = take (end_of 1 ns at - (at + 1)) (drop (at + 1) ns) ∷ (cut n (drop (end_of 1 ns at) ns)).graphs }
  next_whole n h = cut_next n ∙ ap (behind n) (part_whole 1 ns at h)

  pub next_short : (n : ℕ) → length ns < end_of 1 ns at → (cut (suc n) (drop at ns)).exact ≡ false
  next_short n h =
      ap (λ (c : Cut). c.exact) (cut_next n) ∙ ap (λ (b : Bool). b && (cut n (counted 1 (drop at ns)).rest).exact) (part_short 1 ns at h)

-- ---- the first pass

-- k graphs, and those of a cut
abbrev total : ℕ → Cut → ℕ
total k c = cond c.exact (k + length c.graphs) 257

-- what is counted in the end, where the list is counted up to a place
unfoldable pub counting : ℕ → List ℕ → ℕ → ℕ
counting k ns at = cond (leb at (length ns)) (total k (cut (256 - k) (drop at ns))) 257

pub count_start : (ns : List ℕ) → counting 0 ns 0 ≡ count_of ns
unfolding counting count_of
count_start ns =
    ap (λ (b : Bool). cond b (total 0 (cut 256 ns)) 257) (le-leb 0 (length ns) (omega arith)) ∙ ap (λ (m : ℕ). cond (exactly ns) m 257) (zero-add (length (graphs_in ns)))

counted_here : (ns : List ℕ) (at k : ℕ) → at ≤ length ns → (c : Cut) → cut (256 - k) (drop at ns) ≡ c → counting k ns at ≡ total k c
unfolding counting
counted_here ns at k h c e = ap (λ (b : Bool). cond b (total k (cut (256 - k) (drop at ns))) 257) (le-leb at (length ns) h) ∙ ap (total k) e

counted_past : (ns : List ℕ) (at k : ℕ) → length ns < at → counting k ns at ≡ 257
unfolding counting
counted_past ns at k h = ap (λ (b : Bool). cond b (total k (cut (256 - k) (drop at ns))) 257) (lt-leb at (length ns) h)

module _ (ns : List ℕ) (at k : ℕ) where
  -- at the end of the list
  pub count_ends : at ≡ length ns → counting k ns at ≡ k
  count_ends e = counted_here ns at k (omega arith) _ (cut_end (256 - k) ns at (omega arith)) ∙ add-zero k

  pub count_past : length ns ≤ at → at ≢ length ns → counting k ns at ≡ 257
  count_past h d = counted_past ns at k (omega (arith, h, d))

  module _ (l : at < length ns) where
    pub count_full : k ≡ 256 → counting k ns at ≡ 257
    count_full e = counted_here ns at k (omega arith) _ (ap (λ (n : ℕ). cut n (drop at ns)) none ∙ cut_full ns at l)
      where
        none : 256 - k ≡ 0
        none = omega (arith, e)

    pub count_next : k < 256 → counting k ns at ≡ counting (k + 1) ns (end_of 1 ns at)
    count_next few = go (leb (end_of 1 ns at) (length ns)) refl
      where
        one : 256 - k ≡ suc (255 - k)
        one = omega (arith, few)

        rest : 256 - (k + 1) ≡ 255 - k
        rest = omega (arith, few)

        go : (b : Bool) → leb (end_of 1 ns at) (length ns) ≡ b → counting k ns at ≡ counting (k + 1) ns (end_of 1 ns at)
        go true e =
            let h : end_of 1 ns at ≤ length ns = leb-true (end_of 1 ns at) (length ns) e in
            let c = cut (255 - k) (drop (end_of 1 ns at) ns) in
            counted_here ns at k (omega arith) _ (ap (λ (n : ℕ). cut n (drop at ns)) one ∙ next_whole ns at l (255 - k) h)
            ∙ ap (λ (m : ℕ). cond c.exact m 257) (onward (length c.graphs))
            ∙ sym (later h)
          where
            onward : (m : ℕ) → k + suc m ≡ k + 1 + m
            onward m = omega arith

            later : end_of 1 ns at ≤ length ns → counting (k + 1) ns (end_of 1 ns at) ≡ total (k + 1) (cut (255 - k) (drop (end_of 1 ns at) ns))
            later h = counted_here ns (end_of 1 ns at) (k + 1) h (cut (255 - k) (drop (end_of 1 ns at) ns)) (ap (λ (n : ℕ). cut n (drop (end_of 1 ns at) ns)) rest)
        go false e =
            let h : length ns < end_of 1 ns at = leb-false (end_of 1 ns at) (length ns) e in
            counted_here ns at k (omega arith) _ (ap (λ (n : ℕ). cut n (drop at ns)) one)
            ∙ ap (λ (b : Bool). cond b (k + length (cut (suc (255 - k)) (drop at ns)).graphs) 257) (next_short ns at l (255 - k) h)
            ∙ sym (counted_past ns (end_of 1 ns at) (k + 1) h)
