-- Rows paired in turn. Pairs of some rows and then of others are pairs of both (paired_then), so that every loop over rows adds its rows to those before; and one pair takes what
-- both rows have left, which uses one of them up: there are never more pairs than rows.
use mathlib.Core.Path.{◌≡◌, refl, sym, ap, ap₂, ◌∙◌, fun_ext}
use mathlib.Core.Logic.{inl, inr, ⊎_elim, ◌≢◌}
use mathlib.Core.Bool.{Bool, true, false, cond}
use mathlib.Core.List.{List, [], ◌∷◌, ◌++◌, append-nil, append_assoc}
use Prim.Native.Nat.{ℕ, zero, suc, ◌+◌, ◌-◌, ◌*◌, ◌≤◌, ◌<◌, min}
use native.Mathlib.Nat.{le_refl, pos_of_ne-zero}
use native.Mathlib.Numerals.{add-one}
use native.Mathlib.Decide.{ℕ_discrete, dec_lt}
use native.Mathlib.Omega.{arith}
use lib.Dec.{eqb}
use lib.ListN.{length, set, length-set}
use lib.Seq.{get_or-set_same, get_or-set_other}
use borrow.Author.Tests.{eqb-true, eqb-false, eq-eqb, ne_eqb, lt-ltb, le-ltb}
use Rattle.basics.proofs.Sums.{sum_le}
use Rattle.rules.specs.AnyTable.{Match}
use Rattle.rules.specs.Contents.{places, shared, size}
use Rattle.tight_rules.specs.Join.{Two}
use Rattle.tight_pairs.specs.declared.Side.{Side}
use Rattle.tight_pairs.specs.declared.Sides.{Sides}
use Rattle.tight_rows.specs.Room.{Words, words_of}
use Rattle.tight_rows.specs.Numbers.{some, rank_of}
use Rattle.tight_pairs.specs.Joining.{taken, amount, left_of, right_of}
use Rattle.tight_pairs.specs.Matching.{two, row_with, rows_with, turns_to, match_of, takes, units_left, rows_left, shared_by, pairs_to, Placed, Pairable, pair_put, PairedTo}
use Rattle.tight_pairs.proofs.Quantiles.{left_append, right_append}

-- ---- lists of pairs

pub takes_append : (cs ds : List Two) (a b : ℕ → ℕ) → takes (cs ++ ds) a b ≡ takes cs a b ++ takes ds (left_of cs a b) (right_of cs a b)
unfolding takes
takes_append [] ds a b = refl
takes_append (c ∷ cs) ds a b =
    let u = amount c a b in
    let a' = taken c.left u a in
    let b' = taken c.right u b in
    ap (λ (ps : List Match). match_of c u ++ ps) (takes_append cs ds a' b') ∙ sym (append_assoc (match_of c u) (takes cs a' b') (takes ds (left_of cs a' b') (right_of cs a' b')))

-- pairs are the same where their words are
pairs_same : (a : ℕ) (v w : Words) (n : ℕ) → ((q : ℕ) → a ≤ q → q < a + 3 * n → v q ≡ w q) → pairs_to a v n ≡ pairs_to a w n
unfolding pairs_to
pairs_same a v w zero h = refl
pairs_same a v w (suc n) h =
    ap₂ (λ (ps : List Match) (m : Match). ps ++ (m ∷ [])) (pairs_same a v w n (λ q k l. h q k (omega arith)))
    (same_pair (h (a + 3 * n) (omega arith) (omega arith)) (h (a + 3 * n + 1) (omega arith) (omega arith)) (h (a + 3 * n + 2) (omega arith) (omega arith)))
  where
    same_pair : {i i' j j' u u' : ℕ} → i ≡ i' → j ≡ j' → u ≡ u' → ◌≡◌ {A = Match} (record { left = i; right = j; units = u }) (record { left = i'; right = j'; units = u' })
    same_pair x y z = rw (x, y, z) refl

-- ---- how many rows have units left

some_less : (u v : ℕ) → v ≤ u → some v ≤ some u
some_less u v l = go (eqb u 0) refl (eqb v 0) refl
  where
    go : (b : Bool) → eqb u 0 ≡ b → (c : Bool) → eqb v 0 ≡ c → cond c 0 1 ≤ cond b 0 1
    go true p true q = omega arith
    go true p false q = absurd (eqb-false v 0 q (omega (arith, eqb-true u 0 p)))
    go false p true q = omega arith
    go false p false q = omega arith

taken_less : (i u : ℕ) (a : ℕ → ℕ) (k : ℕ) → taken i u a k ≤ a k
taken_less i u a k = go (eqb k i)
  where
    go : (b : Bool) → cond b (a k - u) (a k) ≤ a k
    go true = omega arith
    go false = le_refl (a k)

rank_less : (i u : ℕ) (a : ℕ → ℕ) (n : ℕ) → rank_of (taken i u a) n ≤ rank_of a n
rank_less i u a n = sum_le n (λ k. some (taken i u a k)) (λ k. some (a k)) (λ k l. some_less (a k) (taken i u a k) (taken_less i u a k))

rank_most : (a : ℕ → ℕ) (n : ℕ) → rank_of a n ≤ n
rank_most a zero = omega arith
rank_most a (suc n) = go (eqb (a n) 0) (rank_most a n)
  where
    go : (b : Bool) → rank_of a n ≤ n → rank_of a n + cond b 0 1 ≤ suc n
    go true l = omega arith
    go false l = omega arith

-- a row that is used up is one less
rank_used : (i u : ℕ) (a : ℕ → ℕ) → 1 ≤ a i → a i ≤ u → (n : ℕ) → i < n → rank_of (taken i u a) n + 1 ≤ rank_of a n
rank_used i u a s l zero m = absurd (omega arith)
rank_used i u a s l (suc n) m = go (ℕ_discrete i n) (rank_used i u a s l n)
  where
    go : Dec (i ≡ n) → (i < n → rank_of (taken i u a) n + 1 ≤ rank_of a n) → rank_of (taken i u a) n + some (taken i u a n) + 1 ≤ rank_of a n + some (a n)
    go (yes e) ih =
        let none : some (taken i u a n) ≡ 0 = rw (← e, eq-eqb i i refl, eq-eqb (a i - u) 0 (omega arith)) refl in
        let one : some (a n) ≡ 1 = rw (← e, ne_eqb (a i) 0 (λ z. absurd (omega arith))) refl in
        omega (arith, none, one, rank_less i u a n)
    go (no d) ih = omega (arith, ih (omega (arith, d)), some_less (a n) (taken i u a n) (taken_less i u a n))

-- ---- what is left of a table's rows

-- where only row i has other units, u less
side_taken : (s : Side) (v w : Words) (i u : ℕ) → i < s.rows → v (s.units + i) ≡ w (s.units + i) - u → ((k : ℕ) → k < s.rows → k ≢ i → v (s.units + k) ≡ w (s.units + k))
    → units_left s v ≡ taken i u (units_left s w)
side_taken s v w i u l e h = fun_ext (λ k. go k (dec_lt k s.rows) (ℕ_discrete k i))
  where
    go : (k : ℕ) → Dec (k < s.rows) → Dec (k ≡ i) → units_left s v k ≡ taken i u (units_left s w) k
    go k (yes m) (yes d) = rw (d, eq-eqb i i refl, lt-ltb i s.rows l) e
    go k (yes m) (no d) = rw (ne_eqb k i d, lt-ltb k s.rows m) (h k m d)
    go k (no m) d = rw (le-ltb k s.rows (omega (arith, m)), ne_eqb k i (λ z. absurd (omega (arith, m)))) refl

-- ---- pairs after pairs

module _ (p : Sides) where
  -- what is left of row i on the left, and on the right
  abbrev lefts : List ℕ → ℕ → ℕ
  lefts xs = units_left p.left (words_of xs)

  abbrev rights : List ℕ → ℕ → ℕ
  rights xs = units_left p.right (words_of xs)

  pub paired_none : (n : ℕ) (xs : List ℕ) → Pairable p n xs → PairedTo p [] n n xs xs
  unfolding takes
  paired_none n xs ok =
      record {
        long = refl;
        pairs = sym (append-nil (pairs_to p.pairs (words_of xs) n));
        left = refl;
        right = refl;
        more = le_refl n;
        room = ok.room;
        beside = λ q l o. refl;
      }

  pub paired_then : (cs ds : List Two) (n m r : ℕ) (xs ys zs : List ℕ) → PairedTo p cs n m xs ys → PairedTo p ds m r ys zs → PairedTo p (cs ++ ds) n r xs zs
  paired_then cs ds n m r xs ys zs f g =
      let a = lefts xs in
      let b = rights xs in
      record {
        long = g.long ∙ f.long;
        pairs = g.pairs ∙ ap₂ ◌++◌ f.pairs (ap₂ (takes ds) f.left f.right)
            ∙ append_assoc (pairs_to p.pairs (words_of xs) n) (takes cs a b) (takes ds (left_of cs a b) (right_of cs a b))
            ∙ ap (λ (ps : List Match). pairs_to p.pairs (words_of xs) n ++ ps) (sym (takes_append cs ds a b));
        left = g.left ∙ ap₂ (left_of ds) f.left f.right ∙ sym (fun_ext (left_append cs ds a b));
        right = g.right ∙ ap₂ (right_of ds) f.left f.right ∙ sym (fun_ext (right_append cs ds a b));
        more = omega (arith, f.more, g.more);
        room = g.room;
        beside = λ q l o. g.beside q (omega (arith, f.long)) (record { left = o.left; right = o.right; pairs = ⊎_elim (λ d. inl (omega (arith, f.more))) (λ d. inr d) o.pairs })
            ∙ f.beside q l o;
      }

  -- before the first pair no more rows have units left than there are
  pub all_left : (xs : List ℕ) → Placed p xs → Pairable p 0 xs
  all_left xs at = record { placed = at; room = omega (arith, rank_most (lefts xs) p.left.rows, rank_most (rights xs) p.right.rows) }

  -- masks stay
  pub still_shared : (cs : List Two) (n r : ℕ) (xs ys : List ℕ) → Placed p xs → PairedTo p cs n r xs ys → (i j : ℕ) → i < p.left.rows → j < p.right.rows
      → shared_by p (words_of ys) i j ≡ shared_by p (words_of xs) i j
  still_shared cs n r xs ys at f i j k l =
      ap₂ (λ (C D : ℕ). size (shared C D))
      (f.beside (p.left.masks + i) (omega (arith, at.left, at.before, at.end))
      (record {
        left = inl (omega (arith, at.left));
        right = ⊎_elim (λ d. inl (omega (arith, at.left, at.right))) (λ d. inr (omega arith)) at.apart;
        pairs = inl (omega (arith, at.left, at.before));
      }))
      (f.beside (p.right.masks + j) (omega (arith, at.right, at.behind, at.end))
      (record {
        left = ⊎_elim (λ d. inr (omega arith)) (λ d. inl (omega (arith, at.left, at.right))) at.apart;
        right = inl (omega (arith, at.right));
        pairs = inl (omega (arith, at.right, at.behind));
      }))

  -- ---- one pair

  pub left_at : (xs : List ℕ) (i : ℕ) → i < p.left.rows → lefts xs i ≡ words_of xs (p.left.units + i)
  left_at xs i l = rw (lt-ltb i p.left.rows l) refl

  right_at : (xs : List ℕ) (j : ℕ) → j < p.right.rows → rights xs j ≡ words_of xs (p.right.units + j)
  right_at xs j l = rw (lt-ltb j p.right.rows l) refl

  taken_nothing : (i : ℕ) (a : ℕ → ℕ) (k : ℕ) → a k ≡ taken i 0 a k
  taken_nothing i a k = go (eqb k i)
    where
      go : (b : Bool) → a k ≡ cond b (a k - 0) (a k)
      go true = omega arith
      go false = refl

  pub pair_amount : (i j : ℕ) (xs : List ℕ) → i < p.left.rows → j < p.right.rows
      → amount (two i j) (lefts xs) (rights xs) ≡ min (words_of xs (p.left.units + i)) (words_of xs (p.right.units + j))
  pair_amount i j xs k l = ap₂ min (left_at xs i k) (right_at xs j l)

  -- nothing is left of one of them
  pub pair_none : (i j n : ℕ) (xs : List ℕ) → Pairable p n xs → amount (two i j) (lefts xs) (rights xs) ≡ 0 → PairedTo p (two i j ∷ []) n n xs xs
  unfolding takes
  pair_none i j n xs ok e =
      record {
        long = refl;
        pairs = rw e (sym (append-nil (pairs_to p.pairs (words_of xs) n)));
        left = rw e (fun_ext (taken_nothing i (lefts xs)));
        right = rw e (fun_ext (taken_nothing j (rights xs)));
        more = le_refl n;
        room = ok.room;
        beside = λ q l o. refl;
      }

  -- both have units: then there is room for a pair more
  pub pair_room : (i j n : ℕ) (xs : List ℕ) → Pairable p n xs → i < p.left.rows → j < p.right.rows → amount (two i j) (lefts xs) (rights xs) ≢ 0 → n < p.left.rows + p.right.rows
  pair_room i j n xs ok k l s =
      let m = pos_of_ne-zero s in
      omega (
        arith,
        ok.room,
        rank_used i (lefts xs i) (lefts xs) (omega arith) (le_refl (lefts xs i)) p.left.rows k,
      )

  -- and it can be put down
  pub pair_may : (i j u n : ℕ) (xs : List ℕ) → Pairable p n xs → i < p.left.rows → j < p.right.rows → amount (two i j) (lefts xs) (rights xs) ≡ u → u ≢ 0
      → Placed p xs × (i < p.left.rows) × (j < p.right.rows) × (n < p.left.rows + p.right.rows) × (u ≤ words_of xs (p.left.units + i)) × (u ≤ words_of xs (p.right.units + j))
  pair_may i j u n xs ok k l e s = (
    ok.placed,
    k,
    l,
    pair_room i j n xs ok k l (λ z. s (sym e ∙ z)),
    omega (arith, e, left_at xs i k),
    omega (arith, e, right_at xs j l),
  )

  module _ (i j u n : ℕ) (xs ys : List ℕ) (ok : Pairable p n xs) (k : i < p.left.rows) (l : j < p.right.rows) (e : amount (two i j) (lefts xs) (rights xs) ≡ u) (s : u ≢ 0)
      (put : ys ≡ pair_put p i j u n xs) where
    abbrev to : ℕ
    to = p.pairs + 3 * n

    abbrev here : ℕ
    here = p.left.units + i

    abbrev there : ℕ
    there = p.right.units + j

    -- the words that are written, one after the other
    abbrev first : List ℕ
    first = set xs to i

    abbrev second : List ℕ
    second = set (set xs to i) (to + 1) j

    abbrev third : List ℕ
    third = set (set (set xs to i) (to + 1) j) (to + 2) u

    abbrev fourth : List ℕ
    fourth = set (set (set (set xs to i) (to + 1) j) (to + 2) u) here (words_of xs here - u)

    room_left : n < p.left.rows + p.right.rows
    room_left = pair_room i j n xs ok k l (λ z. s (sym e ∙ z))

    inside : to + 3 ≤ length xs
    inside = omega (arith, room_left, ok.placed.end)

    before_pairs : here < to
    before_pairs = omega (arith, ok.placed.before)

    behind_pairs : there < to
    behind_pairs = omega (arith, ok.placed.behind)

    two_places : here ≢ there
    two_places q =
        let at = ok.placed in
        ⊎_elim (λ d. absurd (omega (arith, at.left, at.right))) (λ d. absurd (omega (arith, at.left, at.right))) at.apart

    untouched : (q : ℕ) → q ≢ to → q ≢ to + 1 → q ≢ to + 2 → q ≢ here → q ≢ there → words_of ys q ≡ words_of xs q
    untouched q a b c d f =
        ap (λ (vs : List ℕ). words_of vs q) put ∙ get_or-set_other fourth there q (words_of xs there - u) 0 f ∙ get_or-set_other third here q (words_of xs here - u) 0 d
        ∙ get_or-set_other second (to + 2) q u 0 c ∙ get_or-set_other first (to + 1) q j 0 b ∙ get_or-set_other xs to q i 0 a

    -- beside the two words of units
    not_units : (q : ℕ) → to ≤ q → words_of ys q ≡ words_of third q
    not_units q h =
        ap (λ (vs : List ℕ). words_of vs q) put ∙ get_or-set_other fourth there q (words_of xs there - u) 0 (λ z. absurd (omega (arith, behind_pairs)))
        ∙ get_or-set_other third here q (words_of xs here - u) 0 (λ z. absurd (omega (arith, before_pairs)))

    own_left : words_of ys to ≡ i
    own_left =
        not_units to (le_refl to) ∙ get_or-set_other second (to + 2) to u 0 (λ z. absurd (omega arith)) ∙ get_or-set_other first (to + 1) to j 0 (λ z. absurd (omega arith))
        ∙ get_or-set_same xs to i 0 (omega (arith, inside))

    own_right : words_of ys (to + 1) ≡ j
    own_right =
        not_units (to + 1) (omega arith) ∙ get_or-set_other second (to + 2) (to + 1) u 0 (λ z. absurd (omega arith))
        ∙ get_or-set_same first (to + 1) j 0 (rw (length-set xs to i) (omega (arith, inside)))

    own_units : words_of ys (to + 2) ≡ u
    own_units = not_units (to + 2) (omega arith) ∙ get_or-set_same second (to + 2) u 0 (rw (length-set first (to + 1) j, length-set xs to i) (omega (arith, inside)))

    long_so_far : length third ≡ length xs
    long_so_far = length-set second (to + 2) u ∙ length-set first (to + 1) j ∙ length-set xs to i

    less_here : words_of ys here ≡ words_of xs here - u
    less_here =
        ap (λ (vs : List ℕ). words_of vs here) put ∙ get_or-set_other fourth there here (words_of xs there - u) 0 two_places
        ∙ get_or-set_same third here (words_of xs here - u) 0 (omega (arith, long_so_far, before_pairs, inside))

    less_there : words_of ys there ≡ words_of xs there - u
    less_there =
        ap (λ (vs : List ℕ). words_of vs there) put
        ∙ get_or-set_same fourth there (words_of xs there - u) 0 (omega (arith, length-set third here (words_of xs here - u), long_so_far, behind_pairs, inside))

    left_taken : lefts ys ≡ taken i u (lefts xs)
    left_taken =
        let at = ok.placed in
        side_taken p.left (words_of ys) (words_of xs) i u k less_here
        (λ q h d. untouched (p.left.units + q) (λ z. absurd (omega (arith, at.before))) (λ z. absurd (omega (arith, at.before))) (λ z. absurd (omega (arith, at.before)))
        (λ z. absurd (omega (arith, d))) (λ z. ⊎_elim (λ o. absurd (omega (arith, at.left, at.right))) (λ o. absurd (omega (arith, at.left, at.right))) at.apart))

    right_taken : rights ys ≡ taken j u (rights xs)
    right_taken =
        let at = ok.placed in
        side_taken p.right (words_of ys) (words_of xs) j u l less_there
        (λ q h d. untouched (p.right.units + q) (λ z. absurd (omega (arith, at.behind))) (λ z. absurd (omega (arith, at.behind))) (λ z. absurd (omega (arith, at.behind)))
        (λ z. ⊎_elim (λ o. absurd (omega (arith, at.left, at.right))) (λ o. absurd (omega (arith, at.left, at.right))) at.apart) (λ z. absurd (omega (arith, d))))

    -- one row is used up
    one_used : rank_of (taken i u (lefts xs)) p.left.rows + rank_of (taken j u (rights xs)) p.right.rows + 1 ≤ rows_left p.left (words_of xs) + rows_left p.right (words_of xs)
    one_used = go (dec_lt (rights xs j) (lefts xs i))
      where
        go : Dec (rights xs j < lefts xs i)
            → rank_of (taken i u (lefts xs)) p.left.rows + rank_of (taken j u (rights xs)) p.right.rows + 1 ≤ rows_left p.left (words_of xs) + rows_left p.right (words_of xs)
        go (yes h) =
            let m = pos_of_ne-zero s in
            omega (arith, rank_less i u (lefts xs) p.left.rows, rank_used j u (rights xs) (omega (arith, e)) (omega (arith, e)) p.right.rows l)
        go (no h) =
            let m = pos_of_ne-zero s in
            omega (arith, rank_less j u (rights xs) p.right.rows, rank_used i u (lefts xs) (omega (arith, e)) (omega (arith, e)) p.left.rows k)

    pub pair_made : PairedTo p (two i j ∷ []) n (n + 1) xs ys
    unfolding takes pairs_to
    pair_made =
        record {
          long = ap length put ∙ length-set fourth there (words_of xs there - u) ∙ length-set third here (words_of xs here - u) ∙ long_so_far;
          pairs = rw (add-one n, e, ne_eqb u 0 s)
              (ap₂ ◌++◌ (pairs_same p.pairs (words_of ys) (words_of xs) n
              (λ q a b. untouched q (λ z. absurd (omega arith)) (λ z. absurd (omega arith)) (λ z. absurd (omega arith)) (λ z. absurd (omega (arith, ok.placed.before)))
              (λ z. absurd (omega (arith, ok.placed.behind)))))
              (rw (own_left, own_right, own_units) refl));
          left = rw e left_taken;
          right = rw e right_taken;
          more = omega arith;
          room = omega (arith, ap (λ (f : ℕ → ℕ). rank_of f p.left.rows) left_taken, ap (λ (f : ℕ → ℕ). rank_of f p.right.rows) right_taken, one_used, ok.room);
          beside = λ q h o. untouched q (λ z. ⊎_elim (λ d. absurd (omega arith)) (λ d. absurd (omega (arith, room_left))) o.pairs)
              (λ z. ⊎_elim (λ d. absurd (omega arith)) (λ d. absurd (omega (arith, room_left))) o.pairs)
              (λ z. ⊎_elim (λ d. absurd (omega arith)) (λ d. absurd (omega (arith, room_left))) o.pairs)
              (λ z. ⊎_elim (λ d. absurd (omega arith)) (λ d. absurd (omega arith)) o.left)
              (λ z. ⊎_elim (λ d. absurd (omega arith)) (λ d. absurd (omega arith)) o.right);
        }

  -- rows that share so many blocks are paired, and others are passed over
  pub pair_sharing : (blocks i j n r : ℕ) (xs ys : List ℕ) → shared_by p (words_of xs) i j ≡ blocks → PairedTo p (two i j ∷ []) n r xs ys
      → PairedTo p (cond (eqb (shared_by p (words_of xs) i j) blocks) (two i j ∷ []) []) n r xs ys
  pair_sharing blocks i j n r xs ys e f = rw (eq-eqb (shared_by p (words_of xs) i j) blocks e) f

  pub pair_passed : (blocks i j n : ℕ) (xs : List ℕ) → Pairable p n xs → shared_by p (words_of xs) i j ≢ blocks
      → PairedTo p (cond (eqb (shared_by p (words_of xs) i j) blocks) (two i j ∷ []) []) n n xs xs
  pair_passed blocks i j n xs ok d = rw (ne_eqb (shared_by p (words_of xs) i j) blocks d) (paired_none n xs ok)

  -- ---- a row, and all rows

  module _ (n : ℕ) (xs : List ℕ) (ok : Pairable p n xs) where
    abbrev shares : ℕ → ℕ → ℕ
    shares = shared_by p (words_of xs)

    pub row_start_lem : (blocks i : ℕ) → PairedTo p (row_with shares blocks i 0) n n xs xs
    unfolding row_with
    row_start_lem blocks i = paired_none n xs ok

    pub row_next : (blocks i j m r : ℕ) (ys zs : List ℕ) → i < p.left.rows → j < p.right.rows → PairedTo p (row_with shares blocks i j) n m xs ys
        → PairedTo p (cond (eqb (shared_by p (words_of ys) i j) blocks) (two i j ∷ []) []) m r ys zs → PairedTo p (row_with shares blocks i (j + 1)) n r xs zs
    unfolding row_with
    row_next blocks i j m r ys zs k l f g =
        rw (add-one j) (paired_then (row_with shares blocks i j) (cond (eqb (shares i j) blocks) (two i j ∷ []) []) n m r xs ys zs f
        (rw (← still_shared (row_with shares blocks i j) n m xs ys ok.placed f i j k l) g))

    -- nothing is left of row i
    pub row_none : (blocks i j : ℕ) → lefts xs i ≡ 0 → PairedTo p (row_with shares blocks i j) n n xs xs
    unfolding row_with
    row_none blocks i zero z = paired_none n xs ok
    row_none blocks i (suc j) z = paired_then (row_with shares blocks i j) (cond (eqb (shares i j) blocks) (two i j ∷ []) []) n n n xs xs xs (row_none blocks i j z) (go (eqb (shares i j) blocks))
      where
        go : (b : Bool) → PairedTo p (cond b (two i j ∷ []) []) n n xs xs
        go true = pair_none i j n xs ok (omega (arith, z))
        go false = paired_none n xs ok

    -- what rows share is the same behind the pairs before
    rows_same : (ys : List ℕ) → ((i j : ℕ) → i < p.left.rows → j < p.right.rows → shared_by p (words_of ys) i j ≡ shares i j) → (blocks i j : ℕ) → i < p.left.rows → j ≤ p.right.rows
        → row_with (shared_by p (words_of ys)) blocks i j ≡ row_with shares blocks i j
    unfolding row_with
    rows_same ys h blocks i zero k l = refl
    rows_same ys h blocks i (suc j) k l =
        ap₂ (λ (cs : List Two) (c : ℕ). cs ++ cond (eqb c blocks) (two i j ∷ []) []) (rows_same ys h blocks i j k (omega arith)) (h i j k (omega arith))

    pub rows_start : (blocks : ℕ) → PairedTo p (rows_with shares blocks p.right.rows 0) n n xs xs
    unfolding rows_with
    rows_start blocks = paired_none n xs ok

    pub rows_next : (blocks i m r : ℕ) (ys zs : List ℕ) → i < p.left.rows → PairedTo p (rows_with shares blocks p.right.rows i) n m xs ys
        → PairedTo p (row_with (shared_by p (words_of ys)) blocks i p.right.rows) m r ys zs → PairedTo p (rows_with shares blocks p.right.rows (i + 1)) n r xs zs
    unfolding rows_with
    rows_next blocks i m r ys zs k f g =
        rw (add-one i) (paired_then (rows_with shares blocks p.right.rows i) (row_with shares blocks i p.right.rows) n m r xs ys zs f
        (rw (← rows_same ys (still_shared (rows_with shares blocks p.right.rows i) n m xs ys ok.placed f) blocks i p.right.rows k (le_refl p.right.rows)) g))

    level_same : (ys : List ℕ) → ((i j : ℕ) → i < p.left.rows → j < p.right.rows → shared_by p (words_of ys) i j ≡ shares i j) → (blocks i : ℕ) → i ≤ p.left.rows
        → rows_with (shared_by p (words_of ys)) blocks p.right.rows i ≡ rows_with shares blocks p.right.rows i
    unfolding rows_with
    level_same ys h blocks zero k = refl
    level_same ys h blocks (suc i) k = ap₂ ◌++◌ (level_same ys h blocks i (omega arith)) (rows_same ys h blocks i p.right.rows (omega arith) (le_refl p.right.rows))

    pub turns_start : PairedTo p (turns_to shares p.left.rows p.right.rows 0) n n xs xs
    unfolding turns_to
    turns_start = paired_none n xs ok

    pub turns_next : (k m r : ℕ) (ys zs : List ℕ) → PairedTo p (turns_to shares p.left.rows p.right.rows k) n m xs ys
        → PairedTo p (rows_with (shared_by p (words_of ys)) (places - k) p.right.rows p.left.rows) m r ys zs → PairedTo p (turns_to shares p.left.rows p.right.rows (k + 1)) n r xs zs
    unfolding turns_to
    turns_next k m r ys zs f g =
        rw (add-one k) (paired_then (turns_to shares p.left.rows p.right.rows k) (rows_with shares (places - k) p.right.rows p.left.rows) n m r xs ys zs f
        (rw (← level_same ys (still_shared (turns_to shares p.left.rows p.right.rows k) n m xs ys ok.placed f) (places - k) p.left.rows (le_refl p.left.rows)) g))
