-- The words that the code adds to the table after an access, by cells: what the rows of the grid of before bring to each cell, and what is left over, one cell further on.
use mathlib.Core.Path.{◌≡◌, refl, ap, ap₂, ◌∙◌}
use mathlib.Core.Logic.{inl, inr}
use mathlib.Core.Bool.{Bool, true, false, cond, not, ◌&&◌}
use mathlib.Core.List.{List, [], ◌∷◌}
use Prim.Native.Nat.{ℕ, zero, suc, ◌+◌, ◌-◌, ◌*◌, ◌/◌, ◌≤◌, ◌<◌}
use native.Mathlib.Nat.{le_refl}
use native.Mathlib.Omega.{arith}
use lib.Dec.{eqb, ltb}
use borrow.Author.Tests.{ltb-true, ltb-false}
use Rattle.basics.specs.Sums.{sum_over}
use Rattle.basics.proofs.Sums.{sum_to, sum_eq}
use Rattle.rules.specs.declared.Target.{Target}
use Rattle.rules.specs.Contents.{hits, with, without, shared, held, size}
use Rattle.rules.specs.Units.{whole}
use Rattle.tight.specs.declared.Route.{Route}
use Rattle.tight.specs.declared.Sender.{Sender}
use Rattle.tight.specs.declared.Receiver.{Receiver}
use Rattle.tight_rows.specs.Room.{Words}
use Rattle.tight_rows.specs.Rows.{within, selected, if}
use Rattle.tight.specs.Splitting.{can_lose}
use Rattle.tight.specs.Moving.{comes, end_of, miss_comes, row_comes}
use Rattle.tight.specs.Sending.{start_at, route_at, rest_route, comes_from, rest_comes}
use Rattle.tight.specs.Access.{risk, lost_to, miss_to, goes_to, further}
use Rattle.tight.specs.Accessed.{loses, left_in, brings, cell_for, Sendable}
use Rattle.tight_rows.specs.Grid.{Grid}
use Rattle.tight.proofs.Access.{sum_zero}
use Rattle.tight.proofs.Moving.{comes_cell}
use Rattle.tight_rows.proofs.Writing.{is_within_lem, not_within}
use Rattle.tight.proofs.SumsMeant.{lose_cell, keep_cell, all_cell, rest_part}

-- ---- a row that comes, cell by cell

module _ (r : Route) (w : Words) (wide : r.width < r.length) (n : ℕ) where
  -- whether mask D has row n
  abbrev is_row : ℕ → Bool
  is_row D = eqb (w (r.numbers + D)) n

  -- where cell i of row n stands
  abbrev here : ℕ → ℕ
  here i = r.cells + n * r.length + i

  comes_stays : (D i : ℕ) → i < r.length → comes r 0 1 D w (here i) ≡ if (ltb i r.width) (if (is_row D) (selected w (r.from + i) (r.select + i)))
  comes_stays D i l = comes_cell r 0 1 D w (omega arith) wide n i l ∙ go (ltb i r.width) refl (is_row D)
    where
      part : ℕ
      part = selected w (r.from + i) (r.select + i)

      go : (b : Bool) → ltb i r.width ≡ b → (c : Bool) → if (c && within 0 r.width i) (selected w (r.from + (i - 0)) (r.select + (i - 0)) * 1) ≡ if b (if c part)
      go true e true =
          let z : i - 0 ≡ i = omega arith in
          rw (is_within_lem 0 r.width i (omega arith) (omega (arith, ltb-true i r.width e)), z) (omega arith)
      go true e false = refl
      go false e true = rw (not_within 0 r.width i (inr (omega (arith, ltb-false i r.width e)))) refl
      go false e false = refl

  comes_further : (times D i : ℕ) → i < r.length → comes r 1 times D w (here i) ≡ further r.width (λ j. if (is_row D) (selected w (r.from + j) (r.select + j) * times)) i
  comes_further times D zero l =
      comes_cell r 1 times D w (le_refl 1) wide n 0 l ∙ rw (not_within 1 r.width 0 (inl (le_refl 1))) (go (is_row D))
    where
      go : (c : Bool) → if (c && false) (selected w (r.from + (0 - 1)) (r.select + (0 - 1)) * times) ≡ 0
      go true = refl
      go false = refl
  comes_further times D (suc j) l = comes_cell r 1 times D w (le_refl 1) wide n (suc j) l ∙ go (ltb j r.width) refl (is_row D)
    where
      part : ℕ
      part = selected w (r.from + j) (r.select + j) * times

      go : (b : Bool) → ltb j r.width ≡ b → (c : Bool) → if (c && within 1 r.width (suc j)) (selected w (r.from + (suc j - 1)) (r.select + (suc j - 1)) * times) ≡ if b (if c part)
      go true e true =
          let z : suc j - 1 ≡ j = omega arith in
          rw (is_within_lem 1 r.width (suc j) (omega arith) (omega (arith, ltb-true j r.width e)), z) refl
      go true e false = refl
      go false e true = rw (not_within 1 r.width (suc j) (inr (omega (arith, ltb-false j r.width e)))) refl
      go false e false = refl

sum_same : (F G : ℕ → ℕ) → ((e : ℕ) → F e ≡ G e) → (es : List ℕ) → sum_over F es ≡ sum_over G es
sum_same F G h [] = refl
sum_same F G h (e ∷ es) = ap₂ ◌+◌ (h e) (sum_same F G h es)

further_meant : (n : ℕ) (f h : ℕ → ℕ) (i : ℕ) → ((j : ℕ) → j < n → f j ≡ h j) → further n f i ≡ further n h i
further_meant n f h zero e = refl
further_meant n f h (suc j) e = go (ltb j n) refl
  where
    go : (b : Bool) → ltb j n ≡ b → if b (f j) ≡ if b (h j)
    go true p = e j (ltb-true j n p)
    go false p = refl

-- ---- all rows

module _ (N : ℕ) (x : Target) (L : ℕ) (g : Grid) (s : Sender) (t : Receiver) (w : Words) (ready : Sendable N x g s w) (most : (j : ℕ) → j < g.width → sum_to g.count (λ k. g.cell k j) ≤ whole)
    (wide : s.width < t.length) (n : ℕ) where
  -- whether contents come to row n
  abbrev meant : ℕ → Bool
  meant C = eqb (w (t.numbers + shared C L)) n

  -- where cell i of row n stands
  abbrev at : ℕ → ℕ
  at i = t.cells + n * t.length + i

  -- a row that misses and can lose a block
  miss_meant : (k i : ℕ) → k < g.count → can_lose x (g.mask k) ≡ true → i < t.length
      → miss_comes N x L (route_at t s s.lose k) s.keep (g.mask k) w (at i)
      ≡ further g.width (λ j. miss_to N x meant (g.mask k) (if (loses N x g j) (g.cell k j / N)) (cond (loses N x g j) 0 (g.cell k j))) i
  unfolding miss_comes miss_to lost_to
  miss_meant k i l can m =
      ap₂ ◌+◌
      (ap₂ ◌+◌ (sum_same _ _ (λ e. comes_further (route_at t s s.lose k) w wide n 1 (end_of x L (without C e)) i m) (held (risk x C)))
      (comes_further (route_at t s s.lose k) w wide n (N - size (risk x C)) (end_of x L C) i m))
      (comes_further (route_at t s s.keep k) w wide n 1 (end_of x L C) i m)
      ∙ go i
    where
      C : ℕ
      C = g.mask k

      losing : ℕ → ℕ
      losing j = selected w (start_at s k + j) (s.lose + j)

      keeping : ℕ → ℕ
      keeping j = selected w (start_at s k + j) (s.keep + j)

      part : ℕ → ℕ
      part j = if (loses N x g j) (g.cell k j / N)

      stay : ℕ → ℕ
      stay j = cond (loses N x g j) 0 (g.cell k j)

      stay_is : (j : ℕ) → j < g.width → keeping j ≡ stay j
      stay_is j p = keep_cell N x g s w ready most k j l p can ∙ pick (loses N x g j)
        where
          pick : (b : Bool) → if (not b) (g.cell k j) ≡ cond b 0 (g.cell k j)
          pick true = refl
          pick false = refl

      kept : (b : Bool) (c q u v : ℕ) → q ≡ u → if b (q * c) + if b (v * 1) ≡ if b (c * u + v)
      kept true c q u v e = omega (arith, ap (λ (y : ℕ). y * c) e)
      kept false c q u v e = refl

      go : (i : ℕ)
          → sum_over (λ e. further s.width (λ j. if (meant (with (without C e) x.place)) (losing j * 1)) i) (held (risk x C))
          + further s.width (λ j. if (meant (with C x.place)) (losing j * (N - size (risk x C)))) i
          + further s.width (λ j. if (meant (with C x.place)) (keeping j * 1)) i
          ≡ further g.width
          (λ j. sum_over (λ e. if (meant (with (without C e) x.place)) (part j)) (held (risk x C)) + if (meant (with C x.place)) ((N - size (risk x C)) * part j + stay j)) i
      go zero = omega (arith, sum_zero (λ e. 0) (λ e. refl) (held (risk x C)))
      go (suc j) = rw ready.width (pick (ltb j g.width) refl)
        where
          pick : (b : Bool) → ltb j g.width ≡ b
              → sum_over (λ e. if b (if (meant (with (without C e) x.place)) (losing j * 1))) (held (risk x C)) + if b (if (meant (with C x.place)) (losing j * (N - size (risk x C))))
              + if b (if (meant (with C x.place)) (keeping j * 1))
              ≡ if b (sum_over (λ e. if (meant (with (without C e) x.place)) (part j)) (held (risk x C)) + if (meant (with C x.place)) ((N - size (risk x C)) * part j + stay j))
          pick false p = omega (arith, sum_zero (λ e. 0) (λ e. refl) (held (risk x C)))
          pick true p =
              let in_use : j < g.width = ltb-true j g.width p in
              let once : losing j * 1 ≡ part j = omega (arith, lose_cell N x g s w ready most k j l in_use can) in
              omega (
                arith,
                sum_same (λ e. if (meant (with (without C e) x.place)) (losing j * 1)) (λ e. if (meant (with (without C e) x.place)) (part j))
                    (λ e. ap (if (meant (with (without C e) x.place))) once) (held (risk x C)),
                kept (meant (with C x.place)) (N - size (risk x C)) (losing j) (part j) (keeping j) (lose_cell N x g s w ready most k j l in_use can),
                ap (λ (v : ℕ). if (meant (with C x.place)) ((N - size (risk x C)) * part j + v)) (stay_is j in_use),
              )

  row_meant : (k i : ℕ) → k < g.count → i < t.length → comes_from N x L t s w (at i) k ≡ brings N x g meant k i
  unfolding row_comes goes_to
  row_meant k i l m = rw (ready.mask k l) (go (hits x C) refl (eqb (risk x C) 0) refl)
    where
      C : ℕ
      C = g.mask k

      go : (h : Bool) → hits x C ≡ h → (z : Bool) → eqb (risk x C) 0 ≡ z
          → cond h (comes (route_at t s s.all k) 0 1 (shared C L) w (at i))
          (cond z (comes (route_at t s s.all k) 1 1 (end_of x L C) w (at i)) (miss_comes N x L (route_at t s s.lose k) s.keep C w (at i)))
          ≡ cond h (if (ltb i g.width) (if (meant C) (g.cell k i)))
          (further g.width
          (λ j. cond z (if (meant (with C x.place)) (g.cell k j)) (miss_to N x meant C (if (loses N x g j) (g.cell k j / N)) (cond (loses N x g j) 0 (g.cell k j)))) i)
      go true p z q = comes_stays (route_at t s s.all k) w wide n (shared C L) i m ∙ rw ready.width (pick (ltb i g.width) refl)
        where
          pick : (b : Bool) → ltb i g.width ≡ b → if b (if (meant C) (selected w (start_at s k + i) (s.all + i))) ≡ if b (if (meant C) (g.cell k i))
          pick true e = ap (if (meant C)) (all_cell N x g s w ready most k i l (ltb-true i g.width e) (rw p refl))
          pick false e = refl
      go false p true q =
          comes_further (route_at t s s.all k) w wide n 1 (end_of x L C) i m
          ∙ rw ready.width
          (further_meant g.width _ _ i
          (λ j e. ap (if (meant (with C x.place))) (let once : selected w (start_at s k + j) (s.all + j) ≡ g.cell k j = all_cell N x g s w ready most k j l e (rw (p, q) refl) in omega arith)))
      go false p false q = miss_meant k i l (rw (p, q) refl) m

  rest_meant : (i : ℕ) → i < t.length → rest_comes x L t s w (at i) ≡ further g.width (λ j. if (meant (with 0 x.place)) (left_in N x g j)) i
  rest_meant i m =
      comes_further (rest_route t s) w wide n 1 (end_of x L 0) i m
      ∙ rw ready.width (further_meant g.width _ _ i (λ j l. ap (λ (u : ℕ). if (meant (with 0 x.place)) u) (let z = rest_part N x g s w ready most j l in omega (arith, z))))

  -- what comes to cell i
  pub cell_meant : (i : ℕ) → i < t.length → sum_to s.count (comes_from N x L t s w (at i)) + rest_comes x L t s w (at i) ≡ cell_for N x g meant i
  cell_meant i m = ap₂ ◌+◌ (ap (λ (c : ℕ). sum_to c (comes_from N x L t s w (at i))) ready.count ∙ sum_eq g.count _ _ (λ k l. row_meant k i l m)) (rest_meant i m)
