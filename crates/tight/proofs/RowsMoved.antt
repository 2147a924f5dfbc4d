-- The rows of all contents moved to the table after an access, one after the other, and then what is left over: only words of that table are written, so that each row comes as it would
-- have come first. And no word grows beyond what all rows can add.
use mathlib.Core.Path.{◌≡◌, refl, sym, ap, ap₂, ◌∙◌}
use mathlib.Core.Logic.{◌⊎◌, inl, inr}
use mathlib.Core.Bool.{Bool, true, false, cond}
use mathlib.Core.List.{List, [], ◌∷◌}
use Prim.Native.Nat.{ℕ, zero, suc, ◌+◌, ◌-◌, ◌*◌, ◌^◌, ◌≤◌, ◌<◌}
use native.Mathlib.Nat.{le_refl, le_trans, mul-le-mul_right, sub-le}
use native.Mathlib.Numerals.{add-one}
use native.Mathlib.Omega.{arith}
use lib.Dec.{eqb}
use lib.ListN.{length}
use Rattle.basics.specs.Sums.{sum_over}
use Rattle.basics.proofs.Sums.{sum_to, sum_eq}
use Rattle.rules.specs.declared.Target.{Target}
use Rattle.rules.specs.Contents.{hits, with, without, shared, held, size}
use Rattle.rules.specs.Shape.{Listed}
use Rattle.tight.specs.declared.Route.{Route}
use Rattle.tight.specs.declared.Sender.{Sender}
use Rattle.tight.specs.declared.Receiver.{Receiver}
use Rattle.tight_rows.specs.Room.{Words, words_of, Leaves}
use Rattle.tight.specs.Access.{risk}
use Rattle.tight.specs.Moving.{plus, comes, row_units, Movable, choosing, end_of, miss_comes, row_comes}
use Rattle.tight.specs.Sending.{start_at, mask_in, route_at, rest_route, comes_from, rest_comes, row_in, Clear, Receiving, Fits, RowMovable, Movings}
use Rattle.tight.proofs.Access.{sum_zero}
use Rattle.tight_rows.proofs.Grids.{sum_none}
use Rattle.tight_rows.proofs.Adding.{sum_part, sum_term}
use Rattle.tight_rows.proofs.Raising.{live_most, lost_everywhere, lost_most}
use Rattle.tight_rows.proofs.Writing.{row_before}
use Rattle.tight.proofs.Moving.{comes_quiet, comes_most, same_comes, plus_then}

-- ---- one row, whatever its contents

sum_same : (f g : ℕ → ℕ) → ((e : ℕ) → f e ≡ g e) → (es : List ℕ) → sum_over f es ≡ sum_over g es
sum_same f g h [] = refl
sum_same f g h (e ∷ es) = ap₂ ◌+◌ (h e) (sum_same f g h es)

module _ (N : ℕ) (x : Target) (L : ℕ) (r : Route) (keep all C : ℕ) where
  low : (D : ℕ) → end_of x L D ≤ L
  low D = live_most (with D x.place) L

  -- it comes with some words as with others, if it does to each mask
  row_alike : (v w : Words) (i : ℕ) → ((shift D : ℕ) → D ≤ L → comes (choosing r all) shift 1 D v i ≡ comes (choosing r all) shift 1 D w i)
      → ((D : ℕ) → D ≤ L → comes (choosing r keep) 1 1 D v i ≡ comes (choosing r keep) 1 1 D w i) → ((times D : ℕ) → D ≤ L → comes r 1 times D v i ≡ comes r 1 times D w i)
      → row_comes N x L r keep all C v i ≡ row_comes N x L r keep all C w i
  unfolding row_comes miss_comes
  row_alike v w i whole kept lost = go (hits x C) (eqb (risk x C) 0)
    where
      go : (a b : Bool)
          → cond a (comes (choosing r all) 0 1 (shared C L) v i)
          (cond b (comes (choosing r all) 1 1 (end_of x L C) v i)
          (sum_over (λ e. comes r 1 1 (end_of x L (without C e)) v i) (held (risk x C)) + comes r 1 (N - size (risk x C)) (end_of x L C) v i + comes (choosing r keep) 1 1 (end_of x L C) v i))
          ≡ cond a (comes (choosing r all) 0 1 (shared C L) w i)
          (cond b (comes (choosing r all) 1 1 (end_of x L C) w i)
          (sum_over (λ e. comes r 1 1 (end_of x L (without C e)) w i) (held (risk x C)) + comes r 1 (N - size (risk x C)) (end_of x L C) w i + comes (choosing r keep) 1 1 (end_of x L C) w i))
      go true b = whole 0 (shared C L) (live_most C L)
      go false true = whole 1 (end_of x L C) (low C)
      go false false =
          ap₂ ◌+◌ (ap₂ ◌+◌ (sum_same _ _ (λ e. lost 1 (end_of x L (without C e)) (low (without C e))) (held (risk x C))) (lost (N - size (risk x C)) (end_of x L C) (low C))) (kept (end_of x L C) (low C))

  -- it brings nothing to a word to which nothing comes of any mask
  row_quiet : (w : Words) (p : ℕ) → ((shift D : ℕ) → shift ≤ 1 → D ≤ L → comes (choosing r all) shift 1 D w p ≡ 0) → ((D : ℕ) → D ≤ L → comes (choosing r keep) 1 1 D w p ≡ 0)
      → ((times D : ℕ) → D ≤ L → comes r 1 times D w p ≡ 0) → row_comes N x L r keep all C w p ≡ 0
  unfolding row_comes miss_comes
  row_quiet w p whole kept lost = go (hits x C) (eqb (risk x C) 0)
    where
      go : (a b : Bool)
          → cond a (comes (choosing r all) 0 1 (shared C L) w p)
          (cond b (comes (choosing r all) 1 1 (end_of x L C) w p)
          (sum_over (λ e. comes r 1 1 (end_of x L (without C e)) w p) (held (risk x C)) + comes r 1 (N - size (risk x C)) (end_of x L C) w p + comes (choosing r keep) 1 1 (end_of x L C) w p)) ≡ 0
      go true b = whole 0 (shared C L) (omega arith) (live_most C L)
      go false true = whole 1 (end_of x L C) (le_refl 1) (low C)
      go false false =
          omega (
            arith,
            sum_zero (λ e. comes r 1 1 (end_of x L (without C e)) w p) (λ e. lost 1 (end_of x L (without C e)) (low (without C e))) (held (risk x C)),
            lost (N - size (risk x C)) (end_of x L C) (low C),
            kept (end_of x L C) (low C),
          )

  row_most : N ≤ 16 → (w : Words) (i : ℕ) → row_comes N x L r keep all C w i ≤ 33 * row_units r w
  unfolding row_comes miss_comes
  row_most few w i = go (hits x C) (eqb (risk x C) 0)
    where
      lost_few : sum_over (λ e. comes r 1 1 (end_of x L (without C e)) w i) (held (risk x C)) ≤ 16 * row_units r w
      lost_few =
          omega (
            arith,
            lost_everywhere (λ e. comes r 1 1 (end_of x L (without C e)) w i) (risk x C),
            lost_most (λ e. comes r 1 1 (end_of x L (without C e)) w i) (row_units r w) (λ e. le_trans (comes_most r 1 1 (end_of x L (without C e)) w i) (omega arith)) (risk x C) 16,
          )

      others : N - size (risk x C) ≤ 16
      others = le_trans (sub-le N (size (risk x C))) few

      go : (a b : Bool)
          → cond a (comes (choosing r all) 0 1 (shared C L) w i)
          (cond b (comes (choosing r all) 1 1 (end_of x L C) w i)
          (sum_over (λ e. comes r 1 1 (end_of x L (without C e)) w i) (held (risk x C)) + comes r 1 (N - size (risk x C)) (end_of x L C) w i + comes (choosing r keep) 1 1 (end_of x L C) w i))
          ≤ 33 * row_units r w
      go true b = le_trans (comes_most (choosing r all) 0 1 (shared C L) w i) (omega arith)
      go false true = le_trans (comes_most (choosing r all) 1 1 (end_of x L C) w i) (omega arith)
      go false false =
          omega (
            arith,
            lost_few,
            comes_most r 1 (N - size (risk x C)) (end_of x L C) w i,
            mul-le-mul_right (row_units r w) others,
            comes_most (choosing r keep) 1 1 (end_of x L C) w i,
          )

-- ---- the rows of a table

module _ (t : Receiver) (L : ℕ) (s : Sender) (ws : List ℕ) (ok : Receiving t L s ws) where
  pub row_there : (k : ℕ) → k < s.count → start_at s k + s.length ≤ length ws
  row_there k l = omega (arith, row_before s.length k s.count l, ok.rows_end)

  row_clear : (k : ℕ) → k < s.count → Clear t (start_at s k) s.width
  row_clear k l = go ok.rows
    where
      go : Clear t s.rows (s.count * s.length) → Clear t (start_at s k) s.width
      go (inl h) = inl (omega (arith, row_before s.length k s.count l, ok.long))
      go (inr h) = inr (omega arith)

  movable : (k : ℕ) → k < s.count → (u : ℕ) → Fits t s u k ws → (select : ℕ) → select + s.width ≤ length ws → Clear t select s.width → Movable (route_at t s select k) L u ws
  movable k l u fits select e c =
      record {
        inside = omega (arith, row_there k l, ok.long);
        chosen = e;
        numbered = ok.numbered;
        room = ok.room;
        wide = ok.wide;
        number = ok.number;
        apart = row_clear k l;
        beside = c;
        behind = ok.behind;
        fits = fits;
      }

  -- by each of the three rows that choose
  module _ (k : ℕ) (l : k < s.count) (u : ℕ) (fits : Fits t s u k ws) where
    pub lose_movable : Movable (route_at t s s.lose k) L u ws
    lose_movable = movable k l u fits s.lose ok.lose_end ok.lose

    pub keep_movable : Movable (route_at t s s.keep k) L u ws
    keep_movable = movable k l u fits s.keep ok.keep_end ok.keep

    pub all_movable : Movable (route_at t s s.all k) L u ws
    all_movable = movable k l u fits s.all ok.all_end ok.all

  rest_movable : (u : ℕ) → ((i : ℕ) → t.cells ≤ i → i < t.cells + t.rows * t.length → words_of ws i + u * row_units (rest_route t s) (words_of ws) < 2 ^ 64) → Movable (rest_route t s) L u ws
  rest_movable u fits =
      record {
        inside = ok.rest_end;
        chosen = ok.all_end;
        numbered = ok.numbered;
        room = ok.room;
        wide = ok.wide;
        number = ok.number;
        apart = ok.rest;
        beside = ok.all;
        behind = ok.behind;
        fits = fits;
      }

-- with the route that the code has for it
module _ (N : ℕ) (x : Target) (L : ℕ) (t : Receiver) (s : Sender) (k : ℕ) (xs : List ℕ) where
  pub row_ready : RowMovable N x L t s k xs → (r : Route) → r ≡ route_at t s s.lose k
      → Listed 16 x.place × (N ≤ 16) × (size (risk x (mask_in s (words_of xs) k)) ≤ N) × Movable r L 33 xs × Movable (choosing r s.keep) L 33 xs × Movable (choosing r s.all) L 1 xs
  row_ready ok r e =
      rw e (
        ok.placed,
        ok.few,
        ok.ways,
        lose_movable t L s xs ok.there k ok.row 33 ok.fits,
        keep_movable t L s xs ok.there k ok.row 33 ok.fits,
        all_movable t L s xs ok.there k ok.row 1 (λ i a b. omega (arith, ok.fits i a b)),
      )

-- ---- row after row

module _ (N : ℕ) (x : Target) (L : ℕ) (t : Receiver) (s : Sender) (xs : List ℕ) where
  -- what the first m rows bring
  abbrev bring : ℕ → Words → ℕ → ℕ
  bring m w i = sum_to m (comes_from N x L t s w i)

  -- they have come
  abbrev pub MovedTo : ℕ → List ℕ → Type 0
  MovedTo m ys = Leaves (plus (bring m)) xs ys

  module _ (ok : Receiving t L s xs) (may : Movings N x t s xs) where
    fits_first : (k : ℕ) → k < s.count → Fits t s 33 k xs
    fits_first k l i a b = omega (arith, may.fits i a b, sum_term k s.count (row_in t s (words_of xs)) l)

    -- the words beside the table have no more
    bring_quiet : (m : ℕ) → m ≤ s.count → (p : ℕ) → (p < t.cells) ⊎ (t.cells + t.rows * t.length ≤ p) → bring m (words_of xs) p ≡ 0
    bring_quiet m l p o =
        sum_none m (comes_from N x L t s (words_of xs) p)
        (λ k h. let k-there : k < s.count = omega arith in
        row_quiet N x L (route_at t s s.lose k) s.keep s.all (mask_in s (words_of xs) k) (words_of xs) p
        (λ shift D a b. comes_quiet (route_at t s s.all k) L 33 xs (all_movable t L s xs ok k k-there 33 (fits_first k k-there)) D b shift 1 a p o)
        (λ D b. comes_quiet (route_at t s s.keep k) L 33 xs (keep_movable t L s xs ok k k-there 33 (fits_first k k-there)) D b 1 1 (le_refl 1) p o)
        (λ times D b. comes_quiet (route_at t s s.lose k) L 33 xs (lose_movable t L s xs ok k k-there 33 (fits_first k k-there)) D b 1 times (le_refl 1) p o))

    -- nor by what is left over
    rest_first : Movable (rest_route t s) L 0 xs
    rest_first = rest_movable t L s xs ok 0 (λ i a b. omega (arith, may.fits i a b))

    pub moved_beside : (zs : List ℕ) → Leaves (plus (λ w i. sum_to s.count (comes_from N x L t s w i) + rest_comes x L t s w i)) xs zs
        → (p : ℕ) → p < length xs → (p < t.cells) ⊎ (t.cells + t.rows * t.length ≤ p) → words_of zs p ≡ words_of xs p
    moved_beside zs h p l o =
        h.word p l
        ∙ omega (
          arith,
          bring_quiet s.count (le_refl s.count) p o,
          comes_quiet (rest_route t s) L 0 xs rest_first (end_of x L 0) (live_most (with 0 x.place) L) 1 1 (le_refl 1) p o,
        )

    bring_most : (m i : ℕ) → bring m (words_of xs) i ≤ 33 * sum_to m (row_in t s (words_of xs))
    bring_most zero i = omega arith
    bring_most (suc m) i =
        omega (arith, bring_most m i, row_most N x L (route_at t s s.lose m) s.keep s.all (mask_in s (words_of xs) m) may.few (words_of xs) i)

    module _ (m : ℕ) (ys : List ℕ) (l : m ≤ s.count) (so : MovedTo m ys) where
      stays : (p n j : ℕ) → Clear t p n → j < n → p + n ≤ length xs → words_of ys (p + j) ≡ words_of xs (p + j)
      stays p n j c h e = so.word (p + j) (omega arith) ∙ omega (arith, bring_quiet m l (p + j) (outside c))
        where
          outside : Clear t p n → (p + j < t.cells) ⊎ (t.cells + t.rows * t.length ≤ p + j)
          outside (inl a) = inl (omega arith)
          outside (inr a) = inr (omega arith)

      still_receiving : Receiving t L s ys
      still_receiving =
          record {
            long = ok.long;
            wide = ok.wide;
            room = rw so.long ok.room;
            numbered = rw so.long ok.numbered;
            number = λ D d. rw (stays t.numbers (L + 1) D ok.behind (omega arith) (omega (arith, ok.numbered))) (ok.number D d);
            masks_end = rw so.long ok.masks_end;
            rows_end = rw so.long ok.rows_end;
            lose_end = rw so.long ok.lose_end;
            keep_end = rw so.long ok.keep_end;
            all_end = rw so.long ok.all_end;
            rest_end = rw so.long ok.rest_end;
            behind = ok.behind;
            masks = ok.masks;
            rows = ok.rows;
            lose = ok.lose;
            keep = ok.keep;
            all = ok.all;
            rest = ok.rest;
          }

      same_rest : row_units (rest_route t s) (words_of ys) ≡ row_units (rest_route t s) (words_of xs)
      same_rest = sum_eq s.width _ _ (λ j h. stays s.rest s.width j ok.rest h ok.rest_end)

      rest_fits : m ≡ s.count → (i : ℕ) → t.cells ≤ i → i < t.cells + t.rows * t.length → words_of ys i + 1 * row_units (rest_route t s) (words_of ys) < 2 ^ 64
      rest_fits e i a b = rw same_rest (omega (arith, may.fits i a b, so.word i (omega (arith, ok.room)), bring_most m i, ap (λ (n : ℕ). sum_to n (row_in t s (words_of xs))) e))

      pub rest_ready : m ≡ s.count → Movable (rest_route t s) L 1 ys
      rest_ready e = rest_movable t L s ys still_receiving 1 (rest_fits e)

      -- and then what is left over
      pub rest_came : m ≡ s.count → (zs : List ℕ) → Leaves (plus (rest_comes x L t s)) ys zs → Leaves (plus (λ w i. sum_to s.count (comes_from N x L t s w i) + rest_comes x L t s w i)) xs zs
      rest_came e zs new =
          plus_then (bring m) (rest_comes x L t s) (λ w i. sum_to s.count (comes_from N x L t s w i) + rest_comes x L t s w i) xs ys zs so new
          (λ i. ap₂ ◌+◌ (ap (λ (n : ℕ). sum_to n (comes_from N x L t s (words_of xs) i)) (sym e))
          (sym (same_comes (rest_route t s) L (bring m) xs ys so (bring_quiet m l) 0 rest_first 1 1 (end_of x L 0) (live_most (with 0 x.place) L) i)))

      module _ (h : m < s.count) where
        same_mask : mask_in s (words_of ys) m ≡ mask_in s (words_of xs) m
        same_mask = stays s.masks s.count m ok.masks h ok.masks_end

        same_row : row_in t s (words_of ys) m ≡ row_in t s (words_of xs) m
        same_row = sum_eq s.width _ _ (λ j i. stays (start_at s m) s.width j (row_clear t L s xs ok m h) i (omega (arith, row_there t L s xs ok m h, ok.long)))

        fits_next : Fits t s 33 m ys
        fits_next i a b =
            rw same_row
            (omega (arith, may.fits i a b, so.word i (omega (arith, ok.room)), bring_most m i, sum_part (suc m) s.count (row_in t s (words_of xs)) h))

        pub next_ready : RowMovable N x L t s m ys
        next_ready = record { row = h; placed = may.placed; few = may.few; ways = rw same_mask (may.ways m h); there = still_receiving; fits = fits_next }

        -- the next row comes as it would have come first
        next_alike : (i : ℕ) → comes_from N x L t s (words_of ys) i m ≡ comes_from N x L t s (words_of xs) i m
        next_alike i =
            ap (λ (C : ℕ). row_comes N x L (route_at t s s.lose m) s.keep s.all C (words_of ys) i) same_mask
            ∙ row_alike N x L (route_at t s s.lose m) s.keep s.all (mask_in s (words_of xs) m) (words_of ys) (words_of xs) i
            (λ shift D d. same_comes (route_at t s s.all m) L (bring m) xs ys so (bring_quiet m l) 33 (all_movable t L s xs ok m h 33 (fits_first m h)) shift 1 D d i)
            (λ D d. same_comes (route_at t s s.keep m) L (bring m) xs ys so (bring_quiet m l) 33 (keep_movable t L s xs ok m h 33 (fits_first m h)) 1 1 D d i)
            (λ times D d. same_comes (route_at t s s.lose m) L (bring m) xs ys so (bring_quiet m l) 33 (lose_movable t L s xs ok m h 33 (fits_first m h)) 1 times D d i)

        pub moved_next : (zs : List ℕ) → Leaves (plus (λ w i. comes_from N x L t s w i m)) ys zs → MovedTo (m + 1) zs
        moved_next zs new =
            plus_then (bring m) (λ w i. comes_from N x L t s w i m) (bring (m + 1)) xs ys zs so new (λ i. rw (add-one m) (ap (bring m (words_of xs) i +◌) (sym (next_alike i))))
