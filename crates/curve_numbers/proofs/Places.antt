-- Where the parts of a list of numbers end, and that what lies between is what the numbers mean. A part that is cut short ends past the list, and
-- so do all behind it; the list is complete just where the last part ends with it.
use mathlib.Core.Path.{◌≡◌, refl, sym, ap, ap₂, ◌∙◌}
use mathlib.Core.Logic.{◌≢◌}
use mathlib.Core.Bool.{Bool, true, false, ◌&&◌, and-false}
use mathlib.Core.List.{List, ◌∷◌}
use Prim.Native.Nat.{ℕ, ◌+◌, ◌-◌, ◌*◌, ◌≤◌, ◌<◌}
use native.Mathlib.Numerals.{add-one}
use native.Mathlib.Omega.{arith}
use borrow.Author.Tests.{leb-true, leb-false, ltb-true, ltb-false, le-leb, lt-leb, lt-ltb, le-ltb, eq-eqb, ne_eqb}
use lib.Dec.{eqb, leb, ltb}
use lib.ListN.{length, get_or, take, drop, length-drop, drop_of_length-le}
use lib.Seq.{drop-cons, drop-drop}
use Rattle.curve_numbers.specs.Parts.{Part, counted, tracked_part, runs_part, accesses_part, edges_part, complete}
use Rattle.curve_numbers.specs.Places.{end_of, Ends}

-- ---- the cases of an end

module _ (width : ℕ) (ns : List ℕ) (at : ℕ) where
  pub past_list : length ns ≤ at → length ns + 1 ≡ end_of width ns at
  unfolding end_of
  past_list h = rw (le-ltb at (length ns) h) (add-one (length ns))

  module _ (within : at < length ns) where
    pub cut_short : length ns < at + 1 + get_or ns at 0 * width → length ns + 1 ≡ end_of width ns at
    unfolding end_of
    cut_short h = rw (lt-ltb at (length ns) within, lt-leb (at + 1 + get_or ns at 0 * width) (length ns) h) (add-one (length ns))

    pub ends_within : at + 1 + get_or ns at 0 * width ≤ length ns → at + 1 + get_or ns at 0 * width ≡ end_of width ns at
    unfolding end_of
    ends_within h = rw (lt-ltb at (length ns) within, le-leb (at + 1 + get_or ns at 0 * width) (length ns) h)

-- ---- the part that begins at a place

module _ (width : ℕ) (ns : List ℕ) (at : ℕ) where
  abbrev end : ℕ
  end = end_of width ns at

  -- behind a place past the list there is none
  end_past : length ns ≤ at → length ns < end
  end_past h = omega (arith, past_list width ns at h)

  -- the first number there is the count
  count_first : at < length ns → counted width (drop at ns) ≡ counted width (get_or ns at 0 ∷ drop (at + 1) ns)
  count_first h = ap (counted width) (drop-cons ns at 0 h ∙ ap (λ (k : ℕ). get_or ns at 0 ∷ drop k ns) (sym (add-one at)))

  -- it is whole
  module _ (h : end ≤ length ns) where
    pub counts_within : at < length ns
    counts_within = go (ltb at (length ns)) refl
      where
        go : (b : Bool) → ltb at (length ns) ≡ b → at < length ns
        go true p = ltb-true at (length ns) p
        go false p = absurd (omega (arith, end_past (ltb-false at (length ns) p)))

    pub end_is : end ≡ at + 1 + get_or ns at 0 * width
    end_is = go (leb (at + 1 + get_or ns at 0 * width) (length ns)) refl
      where
        go : (b : Bool) → leb (at + 1 + get_or ns at 0 * width) (length ns) ≡ b → end ≡ at + 1 + get_or ns at 0 * width
        go true p = sym (ends_within width ns at counts_within (leb-true (at + 1 + get_or ns at 0 * width) (length ns) p))
        go false p = absurd (omega (arith, cut_short width ns at counts_within (leb-false (at + 1 + get_or ns at 0 * width) (length ns) p)))

    pub part_whole : counted width (drop at ns) ≡ record { enough = true; numbers = take (end - (at + 1)) (drop (at + 1) ns); rest = drop end ns }
    part_whole =
        let k = get_or ns at 0 * width in
        let few : leb k (length (drop (at + 1) ns)) ≡ true = le-leb k (length (drop (at + 1) ns)) (omega (arith, end_is, length-drop (at + 1) ns)) in
        let many : k ≡ end - (at + 1) = omega (arith, end_is) in
        count_first counts_within
        ∙ rw few (ap₂ (λ (ms rs : List ℕ). record { enough = true; numbers = ms; rest = rs }) (ap (λ (j : ℕ). take j (drop (at + 1) ns)) many) (drop-drop k (at + 1) ns ∙ ap (λ (j : ℕ). drop j ns) (sym end_is)))

  -- it is cut short
  pub part_short : length ns < end → (counted width (drop at ns)).enough ≡ false
  part_short h = go (ltb at (length ns)) refl
    where
      go : (b : Bool) → ltb at (length ns) ≡ b → (counted width (drop at ns)).enough ≡ false
      go true p =
          let l : at < length ns = ltb-true at (length ns) p in
          ap (λ (q : Part). q.enough) (count_first l) ∙ short l (leb (at + 1 + get_or ns at 0 * width) (length ns)) refl
        where
          short : at < length ns → (b : Bool) → leb (at + 1 + get_or ns at 0 * width) (length ns) ≡ b → leb (get_or ns at 0 * width) (length (drop (at + 1) ns)) ≡ false
          short l true q =
              let k : at + 1 + get_or ns at 0 * width ≤ length ns = leb-true (at + 1 + get_or ns at 0 * width) (length ns) q in
              absurd (omega (arith, ends_within width ns at l k))
          short l false q =
              lt-leb (get_or ns at 0 * width) (length (drop (at + 1) ns)) (omega (arith, length-drop (at + 1) ns, leb-false (at + 1 + get_or ns at 0 * width) (length ns) q))
      go false p = ap (λ (ms : List ℕ). (counted width ms).enough) (drop_of_length-le ns (ltb-false at (length ns) p))

-- it ends behind its count
pub ends_later : (width : ℕ) (ns : List ℕ) (at : ℕ) → at < length ns → at < end_of width ns at
ends_later width ns at l = go (leb (at + 1 + get_or ns at 0 * width) (length ns)) refl
  where
    go : (b : Bool) → leb (at + 1 + get_or ns at 0 * width) (length ns) ≡ b → at < end_of width ns at
    go true e =
        let h : at + 1 + get_or ns at 0 * width ≤ length ns = leb-true (at + 1 + get_or ns at 0 * width) (length ns) e in
        omega (arith, ends_within width ns at l h)
    go false e = omega (arith, cut_short width ns at l (leb-false (at + 1 + get_or ns at 0 * width) (length ns) e), l)

-- ---- the four parts

module _ (ns : List ℕ) where
  abbrev pub e₁ : ℕ
  e₁ = end_of 1 ns 2

  abbrev pub e₂ : ℕ
  e₂ = end_of 1 ns e₁

  abbrev e₃ : ℕ
  e₃ = end_of 1 ns e₂

  abbrev e₄ : ℕ
  e₄ = end_of 2 ns e₃

  -- where the last part ends within the list, so do the others
  module _ (h : e₄ ≤ length ns) where
    within₃ : e₃ ≤ length ns
    within₃ = omega (arith, counts_within 2 ns e₃ h)

    within₂ : e₂ ≤ length ns
    within₂ = omega (arith, counts_within 1 ns e₂ within₃)

    within₁ : e₁ ≤ length ns
    within₁ = omega (arith, counts_within 1 ns e₁ within₂)

  -- the parts, as far as they are whole
  pub tracked_is : e₁ ≤ length ns → tracked_part ns ≡ record { enough = true; numbers = take (e₁ - 3) (drop 3 ns); rest = drop e₁ ns }
  tracked_is h = part_whole 1 ns 2 h

  pub runs_is : e₁ ≤ length ns → e₂ ≤ length ns → runs_part ns ≡ record { enough = true; numbers = take (e₂ - (e₁ + 1)) (drop (e₁ + 1) ns); rest = drop e₂ ns }
  runs_is h k = ap (λ (p : Part). counted 1 p.rest) (tracked_is h) ∙ part_whole 1 ns e₁ k

  accesses_is : e₁ ≤ length ns → e₂ ≤ length ns → e₃ ≤ length ns
      → accesses_part ns ≡ record { enough = true; numbers = take (e₃ - (e₂ + 1)) (drop (e₂ + 1) ns); rest = drop e₃ ns }
  accesses_is h k l = ap (λ (p : Part). counted 1 p.rest) (runs_is h k) ∙ part_whole 1 ns e₂ l

  edges_is : e₁ ≤ length ns → e₂ ≤ length ns → e₃ ≤ length ns → e₄ ≤ length ns
      → edges_part ns ≡ record { enough = true; numbers = take (e₄ - (e₃ + 1)) (drop (e₃ + 1) ns); rest = drop e₄ ns }
  edges_is h k l m = ap (λ (p : Part). counted 2 p.rest) (accesses_is h k l) ∙ part_whole 2 ns e₃ m

  -- the tests of the definition
  abbrev tests : Bool → Part → Part → Part → Part → Bool
  tests b p q r s = b && p.enough && q.enough && r.enough && s.enough && eqb (length s.rest) 0

  complete_ends : e₄ ≡ length ns → complete ns ≡ true
  unfolding complete
  complete_ends e =
      let h₄ : e₄ ≤ length ns = omega arith in
      let h₃ = within₃ h₄ in
      let h₂ = within₂ h₄ in
      let h₁ = within₁ h₄ in
      let two : leb 2 (length ns) ≡ true = le-leb 2 (length ns) (omega (arith, counts_within 1 ns 2 h₁)) in
      (λ i. tests (two i) (tracked_is h₁ i) (runs_is h₁ h₂ i) (accesses_is h₁ h₂ h₃ i) (edges_is h₁ h₂ h₃ h₄ i))
      ∙ eq-eqb (length (drop e₄ ns)) 0 (omega (arith, length-drop e₄ ns))

  not_complete : e₄ ≢ length ns → complete ns ≡ false
  unfolding complete
  not_complete d = go₁ (leb e₁ n) refl
    where
      n : ℕ
      n = length ns

      b : Bool
      b = leb 2 n

      p : Part
      p = tracked_part ns

      q : Part
      q = runs_part ns

      r : Part
      r = accesses_part ns

      s : Part
      s = edges_part ns

      none : Bool
      none = eqb (length s.rest) 0

      go₄ : e₁ ≤ n → e₂ ≤ n → e₃ ≤ n → (c : Bool) → leb e₄ n ≡ c → tests b p q r s ≡ false
      go₄ h₁ h₂ h₃ true e =
          let h₄ : e₄ ≤ n = leb-true e₄ n e in
          let over : none ≡ false = ap (λ (t : Part). eqb (length t.rest) 0) (edges_is h₁ h₂ h₃ h₄) ∙ ne_eqb (length (drop e₄ ns)) 0 (λ z. d (omega (arith, z, length-drop e₄ ns))) in
          ap (λ (x : Bool). b && p.enough && q.enough && r.enough && s.enough && x) over ∙ and-false (b && p.enough && q.enough && r.enough && s.enough)
      go₄ h₁ h₂ h₃ false e =
          let short : s.enough ≡ false = ap (λ (t : Part). (counted 2 t.rest).enough) (accesses_is h₁ h₂ h₃) ∙ part_short 2 ns e₃ (leb-false e₄ n e) in
          ap (λ (x : Bool). b && p.enough && q.enough && r.enough && x && none) short ∙ ap (λ (x : Bool). x && none) (and-false (b && p.enough && q.enough && r.enough))

      go₃ : e₁ ≤ n → e₂ ≤ n → (c : Bool) → leb e₃ n ≡ c → tests b p q r s ≡ false
      go₃ h₁ h₂ true e = go₄ h₁ h₂ (leb-true e₃ n e) (leb e₄ n) refl
      go₃ h₁ h₂ false e =
          let short : r.enough ≡ false = ap (λ (t : Part). (counted 1 t.rest).enough) (runs_is h₁ h₂) ∙ part_short 1 ns e₂ (leb-false e₃ n e) in
          ap (λ (x : Bool). b && p.enough && q.enough && x && s.enough && none) short ∙ ap (λ (x : Bool). x && s.enough && none) (and-false (b && p.enough && q.enough))

      go₂ : e₁ ≤ n → (c : Bool) → leb e₂ n ≡ c → tests b p q r s ≡ false
      go₂ h₁ true e = go₃ h₁ (leb-true e₂ n e) (leb e₃ n) refl
      go₂ h₁ false e =
          let short : q.enough ≡ false = ap (λ (t : Part). (counted 1 t.rest).enough) (tracked_is h₁) ∙ part_short 1 ns e₁ (leb-false e₂ n e) in
          ap (λ (x : Bool). b && p.enough && x && r.enough && s.enough && none) short ∙ ap (λ (x : Bool). x && r.enough && s.enough && none) (and-false (b && p.enough))

      go₁ : (c : Bool) → leb e₁ n ≡ c → tests b p q r s ≡ false
      go₁ true e = go₂ (leb-true e₁ n e) (leb e₂ n) refl
      go₁ false e =
          ap (λ (x : Bool). b && x && q.enough && r.enough && s.enough && none) (part_short 1 ns 2 (leb-false e₁ n e))
          ∙ ap (λ (x : Bool). x && q.enough && r.enough && s.enough && none) (and-false b)

-- ---- with the ends by name

-- what is made of what lies between the ends a, b, c and d
abbrev between : {A : Type 0} → (List ℕ → List ℕ → List ℕ → List ℕ → A) → List ℕ → ℕ → ℕ → ℕ → ℕ → A
between f ns a b c d = f (take (a - 3) (drop 3 ns)) (take (b - (a + 1)) (drop (a + 1) ns)) (take (c - (b + 1)) (drop (b + 1) ns)) (take (d - (c + 1)) (drop (c + 1) ns))

module _ (ns : List ℕ) (a b c : ℕ) (ends : Ends ns a b c) where
  is₁ : a ≡ e₁ ns
  is₁ = ends.tracked

  is₂ : b ≡ e₂ ns
  is₂ = ends.runs ∙ ap (end_of 1 ns) is₁

  is₃ : c ≡ e₃ ns
  is₃ = ends.accesses ∙ ap (end_of 1 ns) is₂

  is₄ : e₄ ns ≡ length ns
  is₄ = sym (ap (end_of 2 ns) is₃) ∙ ends.edges

  pub is_complete : complete ns ≡ true
  is_complete = complete_ends ns is₄

  -- what is made of the four lists is made of what lies between the ends
  pub parts_are : {A : Type 0} (f : List ℕ → List ℕ → List ℕ → List ℕ → A)
      → f (tracked_part ns).numbers (runs_part ns).numbers (accesses_part ns).numbers (edges_part ns).numbers
      ≡ between f ns a b c (length ns)
  parts_are f =
      let h₄ : e₄ ns ≤ length ns = omega (arith, is₄) in
      let h₃ = within₃ ns h₄ in
      let h₂ = within₂ ns h₄ in
      let h₁ = within₁ ns h₄ in
      (λ i. f (tracked_is ns h₁ i).numbers (runs_is ns h₁ h₂ i).numbers (accesses_is ns h₁ h₂ h₃ i).numbers (edges_is ns h₁ h₂ h₃ h₄ i).numbers)
      ∙ (λ i. between f ns (sym is₁ i) (sym is₂ i) (sym is₃ i) (is₄ i))

  -- they stand in order
  pub ends_in_order : (3 ≤ a) × (a < b) × (b < c) × (c < length ns)
  ends_in_order =
      let h₄ : e₄ ns ≤ length ns = omega (arith, is₄) in
      let h₃ = within₃ ns h₄ in
      let h₂ = within₂ ns h₄ in
      let h₁ = within₁ ns h₄ in (
        omega (arith, is₁, end_is 1 ns 2 h₁),
        omega (arith, is₁, is₂, end_is 1 ns (e₁ ns) h₂),
        omega (arith, is₂, is₃, end_is 1 ns (e₂ ns) h₃),
        omega (arith, is₃, counts_within 2 ns (e₃ ns) h₄),
      )

-- where the last part ends elsewhere, the list is not complete
pub not_ends : (ns : List ℕ) (a b c d : ℕ) → a ≡ end_of 1 ns 2 → b ≡ end_of 1 ns a → c ≡ end_of 1 ns b → d ≡ end_of 2 ns c → d ≢ length ns → complete ns ≡ false
not_ends ns a b c d p q r s h =
    not_complete ns (λ e. h (s ∙ ap (end_of 2 ns) (r ∙ ap (end_of 1 ns) (q ∙ ap (end_of 1 ns) p)) ∙ e))
