-- What pairs come to, pair after pair: what is read stands before and behind the words that are written, and is as it was.
use mathlib.Core.Path.{◌≡◌, refl, sym, ap, ap₂, ◌∙◌, subst}
use mathlib.Core.Logic.{◌⊎◌, inl, inr, ⊎_elim, ◌≢◌}
use mathlib.Core.Bool.{Bool, true, false}
use mathlib.Core.List.{List}
use Prim.Native.Nat.{ℕ, suc, ◌+◌, ◌-◌, ◌*◌, ◌^◌, ◌≤◌, ◌<◌}
use native.Mathlib.Nat.{le_refl}
use native.Mathlib.Numerals.{add-one}
use native.Mathlib.Decide.{ℕ_discrete, dec_lt}
use native.Mathlib.Omega.{arith}
use lib.Dec.{eqb}
use borrow.Author.Tests.{eq-eqb, ne_eqb}
use lib.ListN.{length, set, length-set}
use lib.Seq.{get_or-set_same, get_or-set_other}
use Rattle.basics.proofs.Sums.{sum_to, sum_le, part_most}
use Rattle.rules.specs.Contents.{shared}
use Rattle.tight_pairs.specs.declared.Sides.{Sides}
use Rattle.tight_joins.specs.declared.Meeting.{Meeting}
use Rattle.tight_rows.specs.Room.{Words, words_of, Leaves}
use Rattle.tight_rows.specs.Rows.{raised, if}
use Rattle.tight_joins.specs.Meeting.{left_row, right_row, units_in, meets, PairsThere, comes_by, pair_added, Summable, met_at, Meetable, MeetPlaces, RowsMeet, RowsMet, Off, used_left, used_right, row_for, gives, MeetAll, MetTo}
use Rattle.tight_joins.specs.declared.Band.{Band}
use Rattle.tight_joins.specs.Piling.{row_start, OffRows}
use Rattle.tight_rows.proofs.Writing.{Written, as_before, written_at, one_more_lem, row_before}
use Rattle.tight_rows.proofs.Raising.{raised_at, raised_beside, raised_then, raised_one}
use Rattle.tight_rows.proofs.Adding.{sum_part, apart_place}

-- ---- pairs whose words are the same

-- all words of pair k and of its rows' masks are as they were
pub record PairSame (p : Sides) (k : ℕ) (v w : Words) : Type 0 where
  pub left : left_row p v k ≡ left_row p w k
  pub right : right_row p v k ≡ right_row p w k
  pub units : units_in p v k ≡ units_in p w k
  pub meet : meets p v k ≡ meets p w k

-- they are, where the pairs and the masks are
pub pair_same : (p : Sides) (n k : ℕ) (xs ys : List ℕ) → PairsThere p n xs → k < n
    → ((q : ℕ) → q < length xs → (p.pairs ≤ q) → words_of ys q ≡ words_of xs q)
    → ((i : ℕ) → i < p.left.rows → words_of ys (p.left.masks + i) ≡ words_of xs (p.left.masks + i))
    → ((j : ℕ) → j < p.right.rows → words_of ys (p.right.masks + j) ≡ words_of xs (p.right.masks + j))
    → PairSame p k (words_of ys) (words_of xs)
pair_same p n k xs ys ok l f g h =
    let there : p.pairs + 3 * k + 3 ≤ length xs = omega (arith, ok.few, ok.placed.end) in
    let i : left_row p (words_of ys) k ≡ left_row p (words_of xs) k = f (p.pairs + 3 * k) (omega arith) (omega arith) in
    let j : right_row p (words_of ys) k ≡ right_row p (words_of xs) k = f (p.pairs + 3 * k + 1) (omega arith) (omega arith) in
    record {
      left = i;
      right = j;
      units = f (p.pairs + 3 * k + 2) (omega arith) (omega arith);
      meet = ap₂ shared (ap (λ (r : ℕ). words_of ys (p.left.masks + r)) i ∙ g (left_row p (words_of xs) k) (ok.left k l))
          (ap (λ (r : ℕ). words_of ys (p.right.masks + r)) j ∙ h (right_row p (words_of xs) k) (ok.right k l));
    }

-- ---- units by mask

module _ (p : Sides) (plan n : ℕ) (xs : List ℕ) (ok : Summable p plan n xs) where
  -- the words between
  abbrev masks : ℕ
  masks = p.pairs - plan

  -- the sums of the first k pairs
  abbrev pub SumsTo : ℕ → List ℕ → Type 0
  SumsTo k ys = Leaves (raised plan (p.pairs - plan) (λ D. sum_to k (comes_by p (words_of xs) D))) xs ys

  inside : plan + masks ≤ length xs
  inside = omega (arith, ok.before, ok.pairs.placed.end)

  meet_low : (k : ℕ) → k < n → meets p (words_of xs) k < masks
  meet_low k l = omega (arith, ok.meeting k l)

  module _ (k : ℕ) (ys : List ℕ) (l : k < n) (so : SumsTo k ys) where
    untouched : (q : ℕ) → q < length xs → (q < plan) ⊎ (plan + masks ≤ q) → words_of ys q ≡ words_of xs q
    untouched = raised_beside plan masks (λ D. sum_to k (comes_by p (words_of xs) D)) xs ys so

    same : (h : ℕ) → h < n → PairSame p h (words_of ys) (words_of xs)
    same h m =
        pair_same p n h xs ys ok.pairs m (λ q a b. untouched q a (inr (omega (arith, ok.before))))
        (λ i a. untouched (p.left.masks + i) (omega (arith, ok.left, ok.pairs.placed.left, inside)) (inl (omega (arith, ok.left, ok.pairs.placed.left))))
        (λ j a. untouched (p.right.masks + j) (omega (arith, ok.right, ok.pairs.placed.right, inside)) (inl (omega (arith, ok.right, ok.pairs.placed.right))))

    still_there : PairsThere p n ys
    still_there =
        let at = ok.pairs.placed in
        record {
          placed = record { left = at.left; right = at.right; apart = at.apart; before = at.before; behind = at.behind; end = omega (arith, so.long, at.end) };
          few = ok.pairs.few;
          left = λ h m. rw (same h m).left (ok.pairs.left h m);
          right = λ h m. rw (same h m).right (ok.pairs.right h m);
        }

    -- what is added so far, and what is added next, is no more than all pairs have
    so_far : (D : ℕ) → sum_to k (comes_by p (words_of xs) D) + units_in p (words_of xs) k ≤ sum_to n (units_in p (words_of xs))
    so_far D =
        omega (
          arith,
          sum_le k (comes_by p (words_of xs) D) (units_in p (words_of xs)) (λ h m. part_most (eqb (meets p (words_of xs) h) D) (units_in p (words_of xs) h)),
          sum_part (suc k) n (units_in p (words_of xs)) l,
        )

    sum_there : words_of ys (plan + meets p (words_of xs) k) ≡ words_of xs (plan + meets p (words_of xs) k) + sum_to k (comes_by p (words_of xs) (meets p (words_of xs) k))
    sum_there = raised_at plan masks (λ D. sum_to k (comes_by p (words_of xs) D)) xs ys so inside (meets p (words_of xs) k) (meet_low k l)

    pub may_sum : PairsThere p n ys × (k < n) × (plan + meets p (words_of ys) k < length ys) × (words_of ys (plan + meets p (words_of ys) k) + units_in p (words_of ys) k < 2 ^ 64)
    may_sum = (
      still_there,
      l,
      omega (arith, (same k l).meet, so.long, inside, meet_low k l),
      omega (arith, ap (λ (D : ℕ). words_of ys (plan + D)) (same k l).meet, (same k l).units, sum_there, so_far (meets p (words_of xs) k), ok.fits k l),
    )

    pub sums_next : (zs : List ℕ) → zs ≡ pair_added p plan k ys → SumsTo (k + 1) zs
    sums_next zs put =
        raised_then plan masks (λ D. sum_to k (comes_by p (words_of xs) D)) (λ D. comes_by p (words_of ys) D k) (λ D. sum_to (k + 1) (comes_by p (words_of xs) D)) xs ys zs so
        (subst (λ (vs : List ℕ). Leaves (raised plan masks (λ D. comes_by p (words_of ys) D k)) ys vs) (sym put)
        (raised_one plan masks (meets p (words_of ys) k) (units_in p (words_of ys) k) ys (omega (arith, (same k l).meet, meet_low k l)) (omega (arith, so.long, inside)))) inside
        (λ D m. rw (add-one k) (ap (λ (u : ℕ). sum_to k (comes_by p (words_of xs) D) + u) (ap₂ (λ (C u : ℕ). if (eqb C D) u) (sym (same k l).meet) (sym (same k l).units))))

-- ---- rows

module _ (left used_left right used_right to n x : ℕ) (xs ys : List ℕ) (ok : Meetable left right to n x xs) (j : ℕ) (l : j < n)
    (h : Written to (λ w i. w (to + i) + met_at left used_left right used_right x w i) j xs ys) where
  read : (p : ℕ) → p + j < length xs → (p + j < to) ⊎ (to + j ≤ p + j) → words_of ys (p + j) ≡ words_of xs (p + j)
  read p = as_before to (λ w i. w (to + i) + met_at left used_left right used_right x w i) j xs ys h (p + j)

  -- what is added is that of the words before
  same_met : words_of ys (to + j) + met_at left used_left right used_right x (words_of ys) j ≡ words_of xs (to + j) + met_at left used_left right used_right x (words_of xs) j
  same_met =
      rw (
        read left (omega (arith, ok.left_end)) (apart_place n to left j ok.apart l),
        read right (omega (arith, ok.right_end)) (apart_place n to right j ok.beside l),
        read to (omega (arith, ok.room)) (inr (omega arith)),
      ) refl

  pub met_fits : (m : ℕ) → m ≡ met_at left used_left right used_right x (words_of ys) j → words_of ys (to + j) + m < 2 ^ 64
  met_fits m e = omega (arith, e, read to (omega (arith, ok.room)) (inr (omega arith)), ok.fits j l)

  pub met_more : (m : ℕ) → m ≡ met_at left used_left right used_right x (words_of ys) j
      → Written to (λ w i. w (to + i) + met_at left used_left right used_right x w i) (j + 1) xs (set ys (to + j) (words_of ys (to + j) + m))
  met_more m e =
      one_more_lem to (λ w i. w (to + i) + met_at left used_left right used_right x w i) j xs ys (words_of ys (to + j) + m) h (omega (arith, ok.room))
      (ap (λ (u : ℕ). words_of ys (to + j) + u) e ∙ same_met)

-- ---- the rows of one pair

module _ (m : Meeting) (i j r x : ℕ) (xs : List ℕ) (ok : RowsMeet m i j r x xs) where
  abbrev at : MeetPlaces m xs
  at = ok.places

  -- the rows are there
  left_row_lem : m.left + i * m.to.length + m.to.length ≤ m.left + m.sides.left.rows * m.to.length
  left_row_lem = omega (arith, row_before m.to.length i m.sides.left.rows ok.left)

  right_row_lem : m.right + j * m.to.length + m.to.length ≤ m.right + m.sides.right.rows * m.to.length
  right_row_lem = omega (arith, row_before m.to.length j m.sides.right.rows ok.right)

  to_row : row_start m.to r + m.to.length ≤ m.to.rows + m.to.count * m.to.length
  to_row = omega (arith, row_before m.to.length r m.to.count ok.row)

  numbers_inside : m.numbers ≤ length xs
  numbers_inside = omega (arith, at.before, at.sides.end)

  pub left_row_end : m.left + i * m.to.length + m.to.width ≤ length xs
  left_row_end = omega (arith, left_row_lem, at.wide, at.left_end, numbers_inside)

  pub right_row_end : m.right + j * m.to.length + m.to.width ≤ length xs
  right_row_end = omega (arith, right_row_lem, at.wide, at.right_end, numbers_inside)

  pub to_row_end : row_start m.to r + m.to.width ≤ length xs
  to_row_end = omega (arith, to_row, at.wide, at.end, numbers_inside)

  -- the words for what is used are before them
  pub left_units_end : m.sides.left.units + i < length xs
  left_units_end = omega (arith, ok.left, at.sides.before, at.sides.end)

  pub right_units_end : m.sides.right.units + j < length xs
  right_units_end = omega (arith, ok.right, at.sides.behind, at.sides.end)

  left_off : (m.sides.left.units + i < row_start m.to r) ⊎ (row_start m.to r + m.to.width ≤ m.sides.left.units + i)
  left_off = ⊎_elim (λ d. inl (omega (arith, ok.left, at.left))) (λ d. inr (omega (arith, to_row, at.wide, at.sides.left))) at.left_to

  right_off : (m.sides.right.units + j < row_start m.to r) ⊎ (row_start m.to r + m.to.width ≤ m.sides.right.units + j)
  right_off = ⊎_elim (λ d. inl (omega (arith, ok.right, at.right))) (λ d. inr (omega (arith, to_row, at.wide, at.sides.right))) at.right_to

  two_units : m.sides.left.units + i ≢ m.sides.right.units + j
  two_units e =
      ⊎_elim (λ d. absurd (omega (arith, ok.left, at.sides.right))) (λ d. absurd (omega (arith, ok.right, at.sides.left))) at.sides.apart

  pub may_meet : Meetable (m.left + i * m.to.length) (m.right + j * m.to.length) (row_start m.to r) m.to.width x xs
  may_meet =
      record {
        left_end = left_row_end;
        right_end = right_row_end;
        room = to_row_end;
        apart = ⊎_elim (λ d. inr (omega (arith, left_row_lem, at.wide))) (λ d. inl (omega (arith, to_row, at.wide, at.sides.left, at.left))) at.left_to;
        beside = ⊎_elim (λ d. inr (omega (arith, right_row_lem, at.wide))) (λ d. inl (omega (arith, to_row, at.wide, at.sides.right, at.right))) at.right_to;
        fits = ok.fits;
      }

  module _ (ys zs : List ℕ)
      (done : Leaves (λ w. raised (row_start m.to r) m.to.width
      (met_at (m.left + i * m.to.length) (words_of xs (m.sides.left.units + i)) (m.right + j * m.to.length) (words_of xs (m.sides.right.units + j)) x w) w) xs ys)
      (put : zs ≡ set (set ys (m.sides.left.units + i) (words_of xs (m.sides.left.units + i) + x)) (m.sides.right.units + j) (words_of xs (m.sides.right.units + j) + x)) where
    abbrev here : ℕ
    here = m.sides.left.units + i

    abbrev there : ℕ
    there = m.sides.right.units + j

    abbrev once : List ℕ
    once = set ys here (words_of xs here + x)

    unwritten : (q : ℕ) → q ≢ here → q ≢ there → words_of zs q ≡ words_of ys q
    unwritten q a b =
        ap (λ (vs : List ℕ). words_of vs q) put ∙ get_or-set_other once there q (words_of xs there + x) 0 b ∙ get_or-set_other ys here q (words_of xs here + x) 0 a

    off_row : (q p : ℕ) → (p < row_start m.to r) ⊎ (row_start m.to r + m.to.width ≤ p) → row_start m.to r ≤ q → q < row_start m.to r + m.to.width → q ≢ p
    off_row q p o a b e = ⊎_elim (λ d. absurd (omega arith)) (λ d. absurd (omega arith)) o

    pub rows_met : RowsMet m i j r x xs zs
    rows_met =
        record {
          long = ap length put ∙ length-set once there (words_of xs there + x) ∙ length-set ys here (words_of xs here + x) ∙ done.long;
          left = ap (λ (vs : List ℕ). words_of vs here) put ∙ get_or-set_other once there here (words_of xs there + x) 0 two_units
              ∙ get_or-set_same ys here (words_of xs here + x) 0 (omega (arith, done.long, left_units_end));
          right = ap (λ (vs : List ℕ). words_of vs there) put
              ∙ get_or-set_same once there (words_of xs there + x) 0 (omega (arith, length-set ys here (words_of xs here + x), done.long, right_units_end));
          cells = λ c l. unwritten (row_start m.to r + c) (off_row (row_start m.to r + c) here left_off (omega arith) (omega arith))
              (off_row (row_start m.to r + c) there right_off (omega arith) (omega arith))
              ∙ written_at (row_start m.to r) (λ w c. w (row_start m.to r + c) + met_at (m.left + i * m.to.length) (words_of xs here) (m.right + j * m.to.length) (words_of xs there) x w c)
              m.to.width xs ys done to_row_end c l;
          rest = λ q l a b o. unwritten q a b
              ∙ as_before (row_start m.to r) (λ w c. w (row_start m.to r + c) + met_at (m.left + i * m.to.length) (words_of xs here) (m.right + j * m.to.length) (words_of xs there) x w c)
              m.to.width xs ys done q l o;
        }

-- ---- pair after pair

-- a part of fewer units is less
if_less : (b : Bool) {u v : ℕ} → u ≤ v → if b u ≤ if b v
if_less true l = l
if_less false l = le_refl 0

-- what is so of four numbers is so of equal ones
of_four : (P : ℕ → ℕ → ℕ → ℕ → Type 0) {a a' b b' c c' d d' : ℕ} → a ≡ a' → b ≡ b' → c ≡ c' → d ≡ d' → P a b c d → P a' b' c' d'
of_four P {a' = a'} {b = b} {b' = b'} {c = c} {c' = c'} {d = d} e f g h t =
    subst (λ (z : ℕ). P a' b' c' z) h (subst (λ (z : ℕ). P a' b' z d) g (subst (λ (z : ℕ). P a' z c d) f (subst (λ (z : ℕ). P z b c d) e t)))

-- what is before or behind all rows is beside each
off_rows : (b : Band) (q : ℕ) → b.width ≤ b.length → (q < b.rows) ⊎ (b.rows + b.count * b.length ≤ q) → OffRows b b.count q
off_rows b q w o k l = ⊎_elim (λ d. inl (omega arith)) (λ d. inr (omega (arith, row_before b.length k b.count l))) o

module _ (m : Meeting) (n : ℕ) (xs : List ℕ) (ok : MeetAll m n xs) where
  module _ (k : ℕ) (ys : List ℕ) (l : k < n) (so : MetTo m k xs ys) where
    abbrev p : Sides
    p = m.sides

    abbrev pl : MeetPlaces m xs
    pl = ok.places

    numbers_there : m.numbers ≤ length xs
    numbers_there = omega (arith, pl.before, pl.sides.end)

    -- what stands behind the tables is as it was
    behind : (q : ℕ) → q < length xs → m.numbers ≤ q → words_of ys q ≡ words_of xs q
    behind q h b = so.rest q h (inr (omega (arith, pl.left, pl.left_end))) (inr (omega (arith, pl.right, pl.right_end))) (off_rows m.to q pl.wide (inr (omega (arith, pl.end))))

    -- so are the words of the left table but for those that say what is used
    in_left : (q : ℕ) → p.left.masks ≤ q → q < m.left + p.left.rows * m.to.length → Off p.left.units p.left.rows q → words_of ys q ≡ words_of xs q
    in_left q a b o =
        so.rest q (omega (arith, pl.left_end, numbers_there)) o
        (⊎_elim (λ d. inl (omega (arith, pl.sides.right))) (λ d. inr (omega (arith, pl.right))) pl.apart)
        (off_rows m.to q pl.wide (⊎_elim (λ d. inl (omega arith)) (λ d. inr (omega arith)) pl.left_to))

    in_right : (q : ℕ) → p.right.masks ≤ q → q < m.right + p.right.rows * m.to.length → Off p.right.units p.right.rows q → words_of ys q ≡ words_of xs q
    in_right q a b o =
        so.rest q (omega (arith, pl.right_end, numbers_there))
        (⊎_elim (λ d. inr (omega (arith, pl.left))) (λ d. inl (omega (arith, pl.sides.left))) pl.apart) o
        (off_rows m.to q pl.wide (⊎_elim (λ d. inl (omega arith)) (λ d. inr (omega arith)) pl.right_to))

    pair_alike : (h : ℕ) → h < n → PairSame p h (words_of ys) (words_of xs)
    pair_alike h b =
        pair_same p n h xs ys ok.pairs b (λ q c d. behind q c (omega (arith, pl.before)))
        (λ i c. in_left (p.left.masks + i) (omega arith) (omega (arith, pl.sides.left, pl.left)) (inl (omega (arith, pl.sides.left))))
        (λ j c. in_right (p.right.masks + j) (omega arith) (omega (arith, pl.sides.right, pl.right)) (inl (omega (arith, pl.sides.right))))

    row_alike : row_for m (words_of ys) k ≡ row_for m (words_of xs) k
    row_alike =
        ap (λ (D : ℕ). words_of ys (m.numbers + D)) (pair_alike k l).meet
        ∙ behind (m.numbers + meets p (words_of xs) k) (omega (arith, ok.numbered k l, pl.sides.end)) (omega arith)

    abbrev i : ℕ
    i = left_row p (words_of xs) k

    abbrev j : ℕ
    j = right_row p (words_of xs) k

    abbrev r : ℕ
    r = row_for m (words_of xs) k

    abbrev x : ℕ
    x = units_in p (words_of xs) k

    -- some of the units before, and those of pair k, are no more than all
    part_fits : (t : ℕ → Bool) → sum_to k (λ h. if (t h) (units_in p (words_of xs) h)) + x ≤ sum_to n (units_in p (words_of xs))
    part_fits t =
        omega (
          arith,
          sum_le k (λ h. if (t h) (units_in p (words_of xs) h)) (units_in p (words_of xs)) (λ h b. part_most (t h) (units_in p (words_of xs) h)),
          sum_part (suc k) n (units_in p (words_of xs)) l,
        )

    -- no pair gives more than its units
    gives_most : (c h : ℕ) → gives m (words_of xs) c h ≤ units_in p (words_of xs) h
    unfolding gives
    gives_most c h = omega arith

    places_still : MeetPlaces m ys
    places_still =
        let at = pl.sides in
        record {
          sides = record { left = at.left; right = at.right; apart = at.apart; before = at.before; behind = at.behind; end = omega (arith, so.long, at.end) };
          wide = pl.wide;
          left = pl.left;
          right = pl.right;
          apart = pl.apart;
          left_to = pl.left_to;
          right_to = pl.right_to;
          left_end = pl.left_end;
          right_end = pl.right_end;
          end = pl.end;
          before = pl.before;
        }

    may_meet_here : RowsMeet m i j r x ys
    may_meet_here =
        record {
          places = places_still;
          left = ok.pairs.left k l;
          right = ok.pairs.right k l;
          row = ok.row k l;
          ours = omega (arith, so.left i (ok.pairs.left k l), part_fits (λ h. eqb (left_row p (words_of xs) h) i), ok.most);
          theirs = omega (arith, so.right j (ok.pairs.right k l), part_fits (λ h. eqb (right_row p (words_of xs) h) j), ok.most);
          fits = λ c h. omega (
            arith,
            so.cells r c (ok.row k l) h,
            sum_le k (λ g. if (eqb (row_for m (words_of xs) g) r) (gives m (words_of xs) c g)) (λ g. if (eqb (row_for m (words_of xs) g) r) (units_in p (words_of xs) g))
                (λ g b. if_less (eqb (row_for m (words_of xs) g) r) (gives_most c g)),
            part_fits (λ g. eqb (row_for m (words_of xs) g) r),
            ok.fits r c (ok.row k l) h,
          );
        }

    pub may_meet_next : PairsThere p n ys × (k < n) × (m.numbers + meets p (words_of ys) k < length ys)
        × RowsMeet m (left_row p (words_of ys) k) (right_row p (words_of ys) k) (row_for m (words_of ys) k) (units_in p (words_of ys) k) ys
    may_meet_next = (
      record {
        placed = places_still.sides;
        few = ok.pairs.few;
        left = λ h b. rw (pair_alike h b).left (ok.pairs.left h b);
        right = λ h b. rw (pair_alike h b).right (ok.pairs.right h b);
      },
      l,
      omega (arith, (pair_alike k l).meet, so.long, ok.numbered k l, pl.sides.end),
      of_four (λ a b c d. RowsMeet m a b c d ys) (sym (pair_alike k l).left) (sym (pair_alike k l).right) (sym row_alike) (sym (pair_alike k l).units) may_meet_here,
    )

    module _ (zs : List ℕ) (new : RowsMet m i j r x ys zs) where
      left_used : (h : ℕ) → h < p.left.rows → Dec (h ≡ i) → words_of zs (p.left.units + h) ≡ used_left p (words_of xs) (suc k) h
      left_used h b (yes e) = rw (e, eq-eqb i i refl) (new.left ∙ ap (λ (u : ℕ). u + x) (so.left i (ok.pairs.left k l)))
      left_used h b (no d) =
          new.rest (p.left.units + h) (omega (arith, so.long, pl.sides.before, pl.sides.end)) (λ e. d (omega arith))
          (λ e. ⊎_elim (λ o. absurd (omega (arith, pl.sides.right, ok.pairs.right k l))) (λ o. absurd (omega (arith, pl.sides.left, ok.pairs.right k l))) pl.sides.apart)
          (⊎_elim (λ o. inl (omega (arith, pl.left))) (λ o. inr (omega (arith, to_row m i j r x ys may_meet_here, pl.wide, pl.sides.left))) pl.left_to)
          ∙ so.left h b ∙ rw (ne_eqb i h (λ e. d (sym e))) (omega arith)

      right_used : (h : ℕ) → h < p.right.rows → Dec (h ≡ j) → words_of zs (p.right.units + h) ≡ used_right p (words_of xs) (suc k) h
      right_used h b (yes e) = rw (e, eq-eqb j j refl) (new.right ∙ ap (λ (u : ℕ). u + x) (so.right j (ok.pairs.right k l)))
      right_used h b (no d) =
          new.rest (p.right.units + h) (omega (arith, so.long, pl.sides.behind, pl.sides.end))
          (λ e. ⊎_elim (λ o. absurd (omega (arith, pl.sides.right, ok.pairs.left k l))) (λ o. absurd (omega (arith, pl.sides.left, ok.pairs.left k l))) pl.sides.apart)
          (λ e. d (omega arith))
          (⊎_elim (λ o. inl (omega (arith, pl.right))) (λ o. inr (omega (arith, to_row m i j r x ys may_meet_here, pl.wide, pl.sides.right))) pl.right_to)
          ∙ so.right h b ∙ rw (ne_eqb j h (λ e. d (sym e))) (omega arith)

      -- what pair k gives is what it gave before the others
      left_cell : (c : ℕ) → c < m.to.width → words_of ys (m.left + i * m.to.length + c) ≡ words_of xs (m.left + i * m.to.length + c)
      left_cell c b =
          in_left (m.left + i * m.to.length + c) (omega (arith, pl.sides.left, pl.left)) (omega (arith, left_row_lem m i j r x ys may_meet_here, pl.wide)) (inr (omega (arith, pl.left)))

      right_cell : (c : ℕ) → c < m.to.width → words_of ys (m.right + j * m.to.length + c) ≡ words_of xs (m.right + j * m.to.length + c)
      right_cell c b =
          in_right (m.right + j * m.to.length + c) (omega (arith, pl.sides.right, pl.right)) (omega (arith, right_row_lem m i j r x ys may_meet_here, pl.wide)) (inr (omega (arith, pl.right)))

      given : (c : ℕ) → c < m.to.width
          → met_at (m.left + i * m.to.length) (words_of ys (p.left.units + i)) (m.right + j * m.to.length) (words_of ys (p.right.units + j)) x (words_of ys) c ≡ gives m (words_of xs) c k
      unfolding gives
      given c b = rw (left_cell c b, right_cell c b, so.left i (ok.pairs.left k l), so.right j (ok.pairs.right k l)) refl

      other_row : (s c : ℕ) → c < m.to.width → s ≢ r → Dec (s < r) → (row_start m.to s + c < row_start m.to r) ⊎ (row_start m.to r + m.to.width ≤ row_start m.to s + c)
      other_row s c b d (yes o) = inl (omega (arith, row_before m.to.length s r o, pl.wide))
      other_row s c b d (no o) = inr (omega (arith, row_before m.to.length r s (omega (arith, o, d)), pl.wide))

      cell_met : (s c : ℕ) → s < m.to.count → c < m.to.width → Dec (s ≡ r)
          → words_of zs (row_start m.to s + c) ≡ words_of xs (row_start m.to s + c) + sum_to (suc k) (λ h. if (eqb (row_for m (words_of xs) h) s) (gives m (words_of xs) c h))
      cell_met s c a b (yes e) = rw (e, eq-eqb r r refl) (new.cells c b ∙ ap₂ ◌+◌ (so.cells r c (ok.row k l) b) (given c b) ∙ omega arith)
      cell_met s c a b (no d) =
          let q = row_start m.to s + c in
          let t = row_before m.to.length s m.to.count a in
          new.rest q (omega (arith, so.long, t, pl.wide, pl.end, numbers_there))
          (λ e. ⊎_elim (λ o. absurd (omega (arith, pl.left, ok.pairs.left k l))) (λ o. absurd (omega (arith, t, pl.wide, pl.sides.left))) pl.left_to)
          (λ e. ⊎_elim (λ o. absurd (omega (arith, pl.right, ok.pairs.right k l))) (λ o. absurd (omega (arith, t, pl.wide, pl.sides.right))) pl.right_to)
          (other_row s c b d (dec_lt s r))
          ∙ so.cells s c a b ∙ rw (ne_eqb r s (λ e. d (sym e))) (omega arith)

      met_here : MetTo m (k + 1) xs zs
      met_here =
          record {
            long = new.long ∙ so.long;
            left = λ h b. rw (add-one k) (left_used h b (ℕ_discrete h i));
            right = λ h b. rw (add-one k) (right_used h b (ℕ_discrete h j));
            cells = λ s c a b. rw (add-one k) (cell_met s c a b (ℕ_discrete s r));
            rest = λ q h a b o. new.rest q (omega (arith, so.long)) (λ e. ⊎_elim (λ d. absurd (omega (arith, ok.pairs.left k l))) (λ d. absurd (omega (arith, ok.pairs.left k l))) a)
                (λ e. ⊎_elim (λ d. absurd (omega (arith, ok.pairs.right k l))) (λ d. absurd (omega (arith, ok.pairs.right k l))) b) (o r (ok.row k l))
                ∙ so.rest q h a b o;
          }

    pub met_next : (zs : List ℕ) → RowsMet m (left_row p (words_of ys) k) (right_row p (words_of ys) k) (row_for m (words_of ys) k) (units_in p (words_of ys) k) ys zs → MetTo m (k + 1) xs zs
    met_next zs new = met_here zs (of_four (λ a b c d. RowsMet m a b c d ys zs) (pair_alike k l).left (pair_alike k l).right row_alike (pair_alike k l).units new)
