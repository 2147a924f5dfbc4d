-- Where the two parts of a listing's numbers end: the list is complete just where the second ends with it, and what lies between is what the numbers mean.
use mathlib.Core.Path.{◌≡◌, refl, sym, ap, ◌∙◌}
use mathlib.Core.Logic.{◌≢◌}
use mathlib.Core.Bool.{Bool, true, false, ◌&&◌, and-false}
use mathlib.Core.List.{List}
use Prim.Native.Nat.{ℕ, ◌+◌, ◌-◌, ◌≤◌, ◌<◌}
use native.Mathlib.Omega.{arith}
use borrow.Author.Tests.{leb-true, leb-false, le-leb, eq-eqb, ne_eqb}
use lib.Dec.{eqb, leb}
use lib.ListN.{length, take, drop, length-drop}
use Rattle.curve_numbers.specs.Parts.{Part, counted, tracked_part}
use Rattle.curve_numbers.specs.Places.{end_of}
use Rattle.curve_numbers.proofs.Places.{e₁, e₂, counts_within, end_is, part_short, tracked_is, runs_is}
use Rattle.graphs.specs.Listings.{tokens_part, listing_complete}

-- the tracked blocks end at a, and the tokens with the list
pub record Listed (ns : List ℕ) (a : ℕ) : Type 0 where
  pub complete : listing_complete ns ≡ true
  pub tracked : (tracked_part ns).numbers ≡ take (a - 3) (drop 3 ns)
  pub tokens : (tokens_part ns).numbers ≡ take (length ns - (a + 1)) (drop (a + 1) ns)
  pub from : 3 ≤ a
  pub to : a < length ns

module _ (ns : List ℕ) (a b : ℕ) (p : a ≡ end_of 1 ns 2) (q : b ≡ end_of 1 ns a) where
  second : b ≡ e₂ ns
  second = q ∙ ap (end_of 1 ns) p

  pub listing_ends : b ≡ length ns → Listed ns a
  unfolding listing_complete
  listing_ends e =
      let h₂ : e₂ ns ≤ length ns = omega (arith, second, e) in
      let h₁ : e₁ ns ≤ length ns = omega (arith, counts_within 1 ns (e₁ ns) h₂) in
      let two : leb 2 (length ns) ≡ true = le-leb 2 (length ns) (omega (arith, counts_within 1 ns 2 h₁)) in
      record {
        complete =
            (λ i. two i && (tracked_is ns h₁ i).enough && (runs_is ns h₁ h₂ i).enough && eqb (length (runs_is ns h₁ h₂ i).rest) 0)
            ∙ eq-eqb (length (drop (e₂ ns) ns)) 0 (omega (arith, length-drop (e₂ ns) ns, second, e));
        tracked = ap (λ (t : Part). t.numbers) (tracked_is ns h₁) ∙ ap (λ (k : ℕ). take (k - 3) (drop 3 ns)) (sym p);
        tokens =
            ap (λ (t : Part). t.numbers) (runs_is ns h₁ h₂)
            ∙ (λ i. take (sym second i - (sym p i + 1)) (drop (sym p i + 1) ns))
            ∙ ap (λ (k : ℕ). take (k - (a + 1)) (drop (a + 1) ns)) e;
        from = omega (arith, p, end_is 1 ns 2 h₁);
        to = omega (arith, p, counts_within 1 ns (e₁ ns) h₂);
      }

  pub listing_cut : b ≢ length ns → listing_complete ns ≡ false
  unfolding listing_complete
  listing_cut d = go₁ (leb (e₁ ns) (length ns)) refl
    where
      two : Bool
      two = leb 2 (length ns)

      t : Part
      t = tracked_part ns

      u : Part
      u = tokens_part ns

      none : Bool
      none = eqb (length u.rest) 0

      go₂ : e₁ ns ≤ length ns → (c : Bool) → leb (e₂ ns) (length ns) ≡ c → (two && t.enough && u.enough && none) ≡ false
      go₂ h₁ true e =
          let h₂ : e₂ ns ≤ length ns = leb-true (e₂ ns) (length ns) e in
          let over : none ≡ false = ap (λ (v : Part). eqb (length v.rest) 0) (runs_is ns h₁ h₂) ∙ ne_eqb (length (drop (e₂ ns) ns)) 0 (λ z. d (omega (arith, z, second, length-drop (e₂ ns) ns))) in
          ap (λ (x : Bool). two && t.enough && u.enough && x) over ∙ and-false (two && t.enough && u.enough)
      go₂ h₁ false e =
          let short : u.enough ≡ false = ap (λ (v : Part). (counted 1 v.rest).enough) (tracked_is ns h₁) ∙ part_short 1 ns (e₁ ns) (leb-false (e₂ ns) (length ns) e) in
          ap (λ (x : Bool). two && t.enough && x && none) short ∙ ap (λ (x : Bool). x && none) (and-false (two && t.enough))

      go₁ : (c : Bool) → leb (e₁ ns) (length ns) ≡ c → (two && t.enough && u.enough && none) ≡ false
      go₁ true e = go₂ (leb-true (e₁ ns) (length ns) e) (leb (e₂ ns) (length ns)) refl
      go₁ false e =
          ap (λ (x : Bool). two && x && u.enough && none) (part_short 1 ns 2 (leb-false (e₁ ns) (length ns) e))
          ∙ ap (λ (x : Bool). x && u.enough && none) (and-false two)
