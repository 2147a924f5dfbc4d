-- The pairs of two tables by contents: contents after contents, as the definition takes them in turn, each pair of rows quantile by quantile (Quantiles.antt). What is left of a
-- row, and what comes of the pairs, is said by how many units lie at or above each miss count.
use mathlib.Core.Path.{◌≡◌, refl, sym, ap, ap₂, ◌∙◌}
use mathlib.Core.Bool.{Bool, true, false, cond, ◌||◌, ◌&&◌, true≢false}
use mathlib.Core.Logic.{◌≢◌}
use mathlib.Core.List.{List, [], ◌∷◌, ◌++◌, map, flat_map, append-nil}
use Prim.Native.Nat.{ℕ, zero, suc, ◌+◌, ◌-◌, ◌≤◌, min, max}
use native.Mathlib.Omega.{arith}
use borrow.Author.Tests.{eqb-true, eq-eqb, ne_eqb, leb-true, leb-false, le-leb, lt-leb, ltb-true, ltb-false, le-ltb}
use lib.Dec.{eqb, leb, ltb}
use Rattle.basics.specs.Sums.{sum_over}
use Rattle.basics.proofs.Lists.{flat_append}
use Rattle.basics.proofs.Sums.{sum_append}
use Rattle.rules.specs.declared.State.{State}
use Rattle.rules.specs.Shape.{Every}
use Rattle.rules.specs.Ordered.{before, after}
use Rattle.rules.specs.Contents.{places, shared, size}
use Rattle.rules.specs.Units.{whole}
use Rattle.rules.specs.Join.{matched, paired}
use Rattle.rules.specs.AnyTable.{Match, total as total_of, paired as paired_of}
use Rattle.rules.specs.Table.{order, units_of, state_at, total}
use Rattle.rules.proofs.Lists.{every_append, every_map, every_weaker}
use Rattle.rules.proofs.Table.{Rising}
use Rattle.tight_rules.specs.Rows.{contents}
use Rattle.tight_rules.specs.Join.{Two, spend, pair_up, row_of, rows_of, in_turn, pairing}
use Rattle.tight_rows.proofs.Cells.{Test, units_where, where_add}
use Rattle.tight_pairs.specs.Joining.{taken, amount, left_of, right_of, Heights, sharing, turns, amount_of, lowered, joined_to}
use Rattle.tight_pairs.proofs.Quantiles.{units_by, spend_units, counted, counted_append, counted_same, left_away, right_away, meant, meant_same, meant_most, all, Once, First, against, grid, grid_left, grid_away, grid_left_over, grid_right, either, grid_counts}

-- ---- the pairs that the definition makes, by units alone

-- units by place that are the same
abbrev Alike : (ℕ → ℕ) → (ℕ → ℕ) → Type 0
Alike a a' = (k : ℕ) → a k ≡ a' k

alike_taken : (i u v : ℕ) (a a' : ℕ → ℕ) → u ≡ v → Alike a a' → Alike (taken i u a) (taken i v a')
alike_taken i u v a a' e h k = ap₂ (λ (n m : ℕ). cond (eqb k i) (n - m) n) (h k) e

counted_alike : (t : Two → Bool) (cs : List Two) (a a' b b' : ℕ → ℕ) → Alike a a' → Alike b b' → counted t cs a b ≡ counted t cs a' b'
counted_alike t [] a a' b b' h k = refl
counted_alike t (c ∷ cs) a a' b b' h k =
    let e = ap₂ min (h c.left) (k c.right) in
    ap₂ (λ (u n : ℕ). cond (t c) u 0 + n) e
    (counted_alike t cs (taken c.left (amount c a b) a) (taken c.left (amount c a' b') a') (taken c.right (amount c a b) b) (taken c.right (amount c a' b') b')
    (alike_taken c.left _ _ a a' e h) (alike_taken c.right _ _ b b' e k))

-- the places of a match
abbrev pub places_of : Match → Two
places_of p = record { left = p.left; right = p.right }

pub pairs_counted : (t : Two → Bool) (cs : List Two) (S T : List State)
    → sum_over (λ p. cond (t (places_of p)) p.units 0) (pair_up cs S T) ≡ counted t cs (units_by S) (units_by T)
unfolding pair_up
pairs_counted t [] S T = refl
pairs_counted t (c ∷ cs) S T =
    let u = amount c (units_by S) (units_by T) in
    ap (λ (n : ℕ). cond (t c) u 0 + n)
    (pairs_counted t cs (spend c.left u S) (spend c.right u T)
    ∙ counted_alike t cs _ (taken c.left u (units_by S)) _ (taken c.right u (units_by T)) (spend_units c.left u S) (spend_units c.right u T))

-- ---- the places of a row

row_from : (C i : ℕ) (T : List State) → Every (λ k. i ≤ k) (row_of C i T)
row_from C i [] = tt
row_from C i (s ∷ T) =
    every_append (λ k. i ≤ k) (row_of C (suc i) T) (cond (eqb s.mask C) (i ∷ []) [])
    (every_weaker (λ k. suc i ≤ k) (λ k. i ≤ k) (λ k l. omega arith) (row_of C (suc i) T) (row_from C (suc i) T)) (go (eqb s.mask C))
  where
    go : (b : Bool) → Every (λ k. i ≤ k) (cond b (i ∷ []) [])
    go true = (omega arith, tt)
    go false = tt

once_append : (is : List ℕ) (i : ℕ) → Once is → Every (λ k. suc i ≤ k) is → Once (is ++ (i ∷ []))
once_append [] i o h = (tt, tt)
once_append (k ∷ is) i o h = (
  every_append (λ n. n ≢ k) is (i ∷ []) o.0 ((λ e. absurd (omega (arith, h.0))), tt),
  once_append is i o.1 h.1,
)

pub row_once : (C i : ℕ) (T : List State) → Once (row_of C i T)
row_once C i [] = tt
row_once C i (s ∷ T) = go (eqb s.mask C) (row_once C (suc i) T)
  where
    nil : (is : List ℕ) → Once is → Once (is ++ [])
    nil [] o = tt
    nil (k ∷ is) o = (every_append (λ n. n ≢ k) is [] o.0 tt, nil is o.1)

    go : (b : Bool) → Once (row_of C (suc i) T) → Once (row_of C (suc i) T ++ cond b (i ∷ []) [])
    go true o = once_append (row_of C (suc i) T) i o (row_from C (suc i) T)
    go false o = nil (row_of C (suc i) T) o

-- f has the states of T from place i on
abbrev Stand : (ℕ → State) → ℕ → List State → Type 0
Stand f i [] = Unit {0}
Stand f i (s ∷ T) = (f i ≡ s) × Stand f (suc i) T

stand_by : (f : ℕ → State) (i : ℕ) (T : List State) → ((k : ℕ) → f (i + k) ≡ state_at T k) → Stand f i T
stand_by f i [] h = tt
stand_by f i (s ∷ T) h = (ap f (omega arith) ∙ h 0, stand_by f (suc i) T (λ k. ap f (omega arith) ∙ h (suc k)))

pub stands : (T : List State) → Stand (state_at T) 0 T
stands T = stand_by (state_at T) 0 T (λ k. ap (state_at T) (omega arith))

-- what holds of all states holds at the places of a row, which have its contents
row_every : (P : State → Type 0) (f : ℕ → State) (C i : ℕ) (T : List State) → Stand f i T → Every P T → Every (λ k. ((f k).mask ≡ C) × P (f k)) (row_of C i T)
row_every P f C i [] h e = tt
row_every P f C i (s ∷ T) h e =
    every_append (λ k. ((f k).mask ≡ C) × P (f k)) (row_of C (suc i) T) (cond (eqb s.mask C) (i ∷ []) []) (row_every P f C (suc i) T h.1 e.1) (go (eqb s.mask C) refl)
  where
    go : (b : Bool) → eqb s.mask C ≡ b → Every (λ k. ((f k).mask ≡ C) × P (f k)) (cond b (i ∷ []) [])
    go true m = ((ap (λ (t : State). t.mask) h.0 ∙ eqb-true s.mask C m, rw h.0 e.0), tt)
    go false m = tt

-- of two states of the same contents the one that stands before has no more misses
before_misses : (s t : State) → s.mask ≡ t.mask → order s t ≡ before → s.misses ≤ t.misses
unfolding order
before_misses s t e o = go (ltb t.misses s.misses) refl
  where
    go : (b : Bool) → ltb t.misses s.misses ≡ b → s.misses ≤ t.misses
    go false h = ltb-false t.misses s.misses h
    go true h =
        let l = ltb-true t.misses s.misses h in
        absurd (turned (rw (e, le-ltb t.mask t.mask (omega arith), eq-eqb t.mask t.mask refl, le-ltb s.misses t.misses (omega arith), ne_eqb s.misses t.misses (λ n. absurd (omega arith))) at o))
      where
        turned : after ≡ before → ⊥
        turned q = let z : ◌≡◌ {A = ℕ} 0 1 = cc in absurd (omega arith)

-- at least m misses
abbrev pub at_least : ℕ → (ℕ → State) → ℕ → Bool
at_least m f k = leb m (f k).misses

first_append : (q : ℕ → Bool) (is : List ℕ) (i : ℕ) → First q is → Every (λ k. q k ≡ false → q i ≡ false) is → First q (is ++ (i ∷ []))
first_append q [] i f h = ((λ e. tt), tt)
first_append q (k ∷ is) i f h = (λ e. every_append (λ n. q n ≡ false) is (i ∷ []) (f.0 e) (h.0 e, tt), first_append q is i f.1 h.1)

first_nil : (q : ℕ → Bool) (is : List ℕ) → First q is → First q (is ++ [])
first_nil q [] f = tt
first_nil q (k ∷ is) f = (λ e. every_append (λ n. q n ≡ false) is [] (f.0 e) tt, first_nil q is f.1)

-- in a row those of at least m misses come first
pub row_first : (m : ℕ) (f : ℕ → State) (C i : ℕ) (T : List State) → Stand f i T → Rising T → First (at_least m f) (row_of C i T)
row_first m f C i [] h r = tt
row_first m f C i (s ∷ T) h r = go (eqb s.mask C) refl (row_first m f C (suc i) T h.1 r.1)
  where
    go : (b : Bool) → eqb s.mask C ≡ b → First (at_least m f) (row_of C (suc i) T) → First (at_least m f) (row_of C (suc i) T ++ cond b (i ∷ []) [])
    go true e g =
        first_append (at_least m f) (row_of C (suc i) T) i g
        (every_weaker (λ k. ((f k).mask ≡ C) × (order s (f k) ≡ before)) (λ k. at_least m f k ≡ false → at_least m f i ≡ false)
        (λ k (c, o) l. rw h.0 (lt-leb m s.misses (omega (arith, before_misses s (f k) (eqb-true s.mask C e ∙ sym c) o, leb-false m (f k).misses l))))
        (row_of C (suc i) T) (row_every (λ t. order s t ≡ before) f C (suc i) T h.1 r.0))
    go false e g = first_nil (at_least m f) (row_of C (suc i) T) g

-- the units of a row at or above m misses
meant_append : (q : ℕ → Bool) (is js : List ℕ) (b : ℕ → ℕ) → meant q (is ++ js) b ≡ meant q is b + meant q js b
meant_append q is js b = sum_append (λ j. cond (q j) (b j) 0) is js

-- contents C with at least m misses
abbrev pub is_high : ℕ → ℕ → Test
is_high C m D n F = eqb D C && leb m n

pub row_units_lem : (m : ℕ) (f : ℕ → State) (C i : ℕ) (T : List State) → Stand f i T
    → meant (at_least m f) (row_of C i T) (λ k. units_of (f k)) ≡ units_where (is_high C m) T
unfolding units_where
row_units_lem m f C i [] h = refl
row_units_lem m f C i (s ∷ T) h =
    meant_append (at_least m f) (row_of C (suc i) T) (cond (eqb s.mask C) (i ∷ []) []) (λ k. units_of (f k))
    ∙ go (eqb s.mask C) (row_units_lem m f C (suc i) T h.1)
  where
    go : (b : Bool) → meant (at_least m f) (row_of C (suc i) T) (λ k. units_of (f k)) ≡ units_where (is_high C m) T
        → meant (at_least m f) (row_of C (suc i) T) (λ k. units_of (f k)) + meant (at_least m f) (cond b (i ∷ []) []) (λ k. units_of (f k))
        ≡ cond (b && leb m s.misses) (units_of s) 0 + units_where (is_high C m) T
    go true e = rw h.0 (omega (arith, e))
    go false e = omega (arith, e)

-- ---- contents after contents

-- rows that are said the same come to the same
joined_alike : (cs : List Two) (a a' b b' : Heights) → ((C m : ℕ) → a C m ≡ a' C m) → ((C m : ℕ) → b C m ≡ b' C m) → (E m : ℕ) → joined_to cs a b E m ≡ joined_to cs a' b' E m
unfolding joined_to
joined_alike [] a a' b b' h k E m = refl
joined_alike (c ∷ cs) a a' b b' h k E m =
    let e = ap₂ min (h c.left 0) (k c.right 0) in
    ap₂ (λ (n r : ℕ). cond (eqb (shared c.left c.right) E) n 0 + r)
    (ap₂ min e (ap₂ max (h c.left m) (k c.right m)))
    (joined_alike cs (lowered c.left (amount_of c a b) a) (lowered c.left (amount_of c a' b') a') (lowered c.right (amount_of c a b) b) (lowered c.right (amount_of c a' b') b')
    (λ C n. ap₂ (λ (u x : ℕ). cond (eqb C c.left) (u - x) u) (h C n) e) (λ C n. ap₂ (λ (u x : ℕ). cond (eqb C c.right) (u - x) u) (k C n) e) E m)

meant_alike : (q q' : ℕ → Bool) (js : List ℕ) (b : ℕ → ℕ) → ((k : ℕ) → q k ≡ q' k) → meant q js b ≡ meant q' js b
meant_alike q q' [] b h = refl
meant_alike q q' (j ∷ js) b h = ap₂ (λ (v : Bool) (n : ℕ). cond v (b j) 0 + n) (h j) (meant_alike q q' js b h)

counted_none : (cs : List Two) (a b : ℕ → ℕ) → counted (λ c. false) cs a b ≡ 0
counted_none [] a b = refl
counted_none (c ∷ cs) a b = omega (arith, counted_none cs (taken c.left (amount c a b) a) (taken c.right (amount c a b) b))

-- a row of n units, of which u lie at or above: as many are taken as the other row has, or all
taken_off : (u n y z : ℕ) → u ≤ n → y ≡ z → u - y ≡ u - min n z
taken_off u n y z l e = omega arith

taken_off' : (u n y z : ℕ) → u ≤ n → y ≡ z → u - y ≡ u - min z n
taken_off' u n y z l e = omega arith

-- a table, and units by place that are left of it
module _ (T : List State) where
  -- the rows, said by how many units lie at or above each miss count
  abbrev pub heights : (ℕ → ℕ) → Heights
  heights a C m = meant (at_least m (state_at T)) (row_of C 0 T) a

  heights_all : (a : ℕ → ℕ) (C : ℕ) → meant all (row_of C 0 T) a ≡ heights a C 0
  heights_all a C = meant_alike all (at_least 0 (state_at T)) (row_of C 0 T) a (λ k. sym (le-leb 0 (state_at T k).misses (omega arith)))

  heights_most : (a : ℕ → ℕ) (C m : ℕ) → heights a C m ≤ heights a C 0
  heights_most a C m = omega (arith, meant_most (at_least m (state_at T)) (row_of C 0 T) a, heights_all a C)

  -- the places of a row have its contents
  row_all : (C : ℕ) → Every (λ k. ((state_at T k).mask ≡ C) × Unit {0}) (row_of C 0 T)
  row_all C = row_every (λ s. Unit {0}) (state_at T) C 0 T (stands T) (every T)
    where
      every : (T : List State) → Every (λ s. Unit {0}) T
      every [] = tt
      every (s ∷ T) = (tt, every T)

  -- places of other contents are others
  row_others : (C D k : ℕ) → C ≢ D → (state_at T k).mask ≡ D → Every (λ i. i ≢ k) (row_of C 0 T)
  row_others C D k n e =
      every_weaker (λ i. ((state_at T i).mask ≡ C) × Unit {0}) (λ i. i ≢ k) (λ i (c, u) same. n (sym c ∙ ap (λ (j : ℕ). (state_at T j).mask) same ∙ e))
      (row_of C 0 T) (row_all C)

leb_max : (m a b : ℕ) → leb m (max a b) ≡ (leb m a || leb m b)
leb_max m a b = go (leb m a) refl (leb m b) refl
  where
    go : (u : Bool) → leb m a ≡ u → (v : Bool) → leb m b ≡ v → leb m (max a b) ≡ (u || v)
    go true h v k = le-leb m (max a b) (omega (arith, leb-true m a h))
    go false h true k = le-leb m (max a b) (omega (arith, leb-true m b k))
    go false h false k = lt-leb m (max a b) (omega (arith, leb-false m a h, leb-false m b k))

-- two tables
module _ (S T : List State) (climbs : Rising S) (climbs' : Rising T) where
  -- the pairs of two rows
  abbrev rows : Two → List Two
  rows c = grid (row_of c.left 0 S) (row_of c.right 0 T)

  -- what the pair of contents takes
  abbrev takes : Two → (ℕ → ℕ) → (ℕ → ℕ) → ℕ
  takes c a b = amount_of c (heights S a) (heights T b)

  left_heights : (c : Two) (a b : ℕ → ℕ) (C m : ℕ) → heights S (left_of (rows c) a b) C m ≡ lowered c.left (takes c a b) (heights S a) C m
  left_heights c a b C m = go (eqb C c.left) refl
    where
      others : C ≢ c.left → Every (λ k. left_of (rows c) a b k ≡ a k) (row_of C 0 S)
      others n =
          every_weaker (λ k. ((state_at S k).mask ≡ C) × Unit {0}) (λ k. left_of (rows c) a b k ≡ a k)
          (λ k (e, u). left_away (rows c) a b k (grid_left (row_of c.left 0 S) (row_of c.right 0 T) k (row_others S c.left C k (λ q. n (sym q)) e)))
          (row_of C 0 S) (row_all S C)

      go : (v : Bool) → eqb C c.left ≡ v → heights S (left_of (rows c) a b) C m ≡ cond v (heights S a C m - takes c a b) (heights S a C m)
      go true h =
          let e = eqb-true C c.left h in
          rw e (
          grid_left_over (at_least m (state_at S)) (row_of c.left 0 S) (row_of c.right 0 T) (row_once c.left 0 S) (row_once c.right 0 T)
          (row_first m (state_at S) c.left 0 S (stands S) climbs) a b
          ∙ taken_off (heights S a c.left m) (heights S a c.left 0) _ (heights T b c.right 0) (heights_most S a c.left m) (heights_all T b c.right)
          )
      go false h = meant_same (at_least m (state_at S)) (row_of C 0 S) (left_of (rows c) a b) a (others (λ q. absurd (true≢false (sym (eq-eqb C c.left q) ∙ h))))

  right_heights : (c : Two) (a b : ℕ → ℕ) (D m : ℕ) → heights T (right_of (rows c) a b) D m ≡ lowered c.right (takes c a b) (heights T b) D m
  right_heights c a b D m = go (eqb D c.right) refl
    where
      others : D ≢ c.right → Every (λ k. right_of (rows c) a b k ≡ b k) (row_of D 0 T)
      others n =
          every_weaker (λ k. ((state_at T k).mask ≡ D) × Unit {0}) (λ k. right_of (rows c) a b k ≡ b k)
          (λ k (e, u). right_away (rows c) a b k (grid_away (row_of c.left 0 S) (row_of c.right 0 T) k (row_others T c.right D k (λ q. n (sym q)) e)))
          (row_of D 0 T) (row_all T D)

      go : (v : Bool) → eqb D c.right ≡ v → heights T (right_of (rows c) a b) D m ≡ cond v (heights T b D m - takes c a b) (heights T b D m)
      go true h =
          let e = eqb-true D c.right h in
          rw e (
          grid_right (at_least m (state_at T)) (row_of c.left 0 S) (row_of c.right 0 T) (row_once c.left 0 S) (row_once c.right 0 T)
          (row_first m (state_at T) c.right 0 T (stands T) climbs') a b
          ∙ taken_off' (heights T b c.right m) (heights T b c.right 0) _ (heights S a c.left 0) (heights_most T b c.right m) (heights_all S a c.left)
          )
      go false h = meant_same (at_least m (state_at T)) (row_of D 0 T) (right_of (rows c) a b) b (others (λ q. absurd (true≢false (sym (eq-eqb D c.right q) ∙ h))))

  -- a pair of places is meant if it gives contents E and at least m misses
  abbrev comes_to : ℕ → ℕ → Two → Bool
  comes_to E m p = eqb (shared (state_at S p.left).mask (state_at T p.right).mask) E && either (at_least m (state_at S)) (at_least m (state_at T)) p

  -- at the places of two rows the contents are theirs
  rows_masks : (c : Two) → Every (λ p. ((state_at S p.left).mask ≡ c.left) × ((state_at T p.right).mask ≡ c.right)) (rows c)
  unfolding flat_map
  rows_masks c = each (row_of c.left 0 S) (row_all S c.left)
    where
      each : (is : List ℕ) → Every (λ k. ((state_at S k).mask ≡ c.left) × Unit {0}) is
          → Every (λ p. ((state_at S p.left).mask ≡ c.left) × ((state_at T p.right).mask ≡ c.right)) (grid is (row_of c.right 0 T))
      each [] h = tt
      each (i ∷ is) h =
          every_append (λ p. ((state_at S p.left).mask ≡ c.left) × ((state_at T p.right).mask ≡ c.right)) (against i (row_of c.right 0 T)) (grid is (row_of c.right 0 T))
          (every_map (λ k. ((state_at T k).mask ≡ c.right) × Unit {0}) (λ p. ((state_at S p.left).mask ≡ c.left) × ((state_at T p.right).mask ≡ c.right)) (λ j. record { left = i; right = j })
          (λ k (e, u). (h.0.0, e)) (row_of c.right 0 T) (row_all T c.right))
          (each is h.1)

  rows_count : (c : Two) (a b : ℕ → ℕ) (E m : ℕ)
      → counted (comes_to E m) (rows c) a b ≡ cond (eqb (shared c.left c.right) E) (min (takes c a b) (max (heights S a c.left m) (heights T b c.right m))) 0
  rows_count c a b E m = go (eqb (shared c.left c.right) E) refl
    where
      test : (v : Bool) → eqb (shared c.left c.right) E ≡ v → Every (λ p. comes_to E m p ≡ (v && either (at_least m (state_at S)) (at_least m (state_at T)) p)) (rows c)
      test v h =
          every_weaker (λ p. ((state_at S p.left).mask ≡ c.left) × ((state_at T p.right).mask ≡ c.right))
          (λ p. comes_to E m p ≡ (v && either (at_least m (state_at S)) (at_least m (state_at T)) p))
          (λ p (l, r). ap (λ (w : Bool). w && either (at_least m (state_at S)) (at_least m (state_at T)) p) (ap₂ (λ (C D : ℕ). eqb (shared C D) E) l r ∙ h)) (rows c) (rows_masks c)

      go : (v : Bool) → eqb (shared c.left c.right) E ≡ v
          → counted (comes_to E m) (rows c) a b ≡ cond v (min (takes c a b) (max (heights S a c.left m) (heights T b c.right m))) 0
      go true h =
          counted_same (comes_to E m) (either (at_least m (state_at S)) (at_least m (state_at T))) (rows c) a b (test true h)
          ∙ grid_counts (at_least m (state_at S)) (at_least m (state_at T)) (row_of c.left 0 S) (row_of c.right 0 T) (row_once c.left 0 S) (row_once c.right 0 T)
          (row_first m (state_at S) c.left 0 S (stands S) climbs) (row_first m (state_at T) c.right 0 T (stands T) climbs') a b
          ∙ ap (λ (n : ℕ). min n (max (heights S a c.left m) (heights T b c.right m))) (ap₂ min (heights_all S a c.left) (heights_all T b c.right))
      go false h = counted_same (comes_to E m) (λ p. false) (rows c) a b (test false h) ∙ counted_none (rows c) a b

  -- all pairs of contents, one after the other
  pub turns_count : (cs : List Two) (a b : ℕ → ℕ) (E m : ℕ) → counted (comes_to E m) (flat_map rows cs) a b ≡ joined_to cs (heights S a) (heights T b) E m
  unfolding flat_map joined_to
  turns_count [] a b E m = refl
  turns_count (c ∷ cs) a b E m =
      let L = left_of (rows c) a b in
      let R = right_of (rows c) a b in
      counted_append (comes_to E m) (rows c) (flat_map rows cs) a b
      ∙ ap₂ (λ (n r : ℕ). n + r) (rows_count c a b E m)
      (turns_count cs L R E m
      ∙ joined_alike cs (heights S L) (lowered c.left (takes c a b) (heights S a)) (heights T R) (lowered c.right (takes c a b) (heights T b)) (left_heights c a b) (right_heights c a b) E m)

  -- ---- the definition's pairs are these

  sharing_rows : (n : ℕ) (Cs Ds : List ℕ) → flat_map rows (sharing n Cs Ds) ≡ flat_map (λ C. flat_map (λ D. cond (eqb (size (shared C D)) n) (rows_of S T C D) []) Ds) Cs
  unfolding flat_map sharing
  sharing_rows n [] Ds = refl
  sharing_rows n (C ∷ Cs) Ds = flat_append rows (flat_map (λ D. cond (eqb (size (shared C D)) n) (record { left = C; right = D } ∷ []) []) Ds) (sharing n Cs Ds) ∙ ap₂ ◌++◌ (each Ds) (sharing_rows n Cs Ds)
    where
      one : (b : Bool) (D : ℕ) → flat_map rows (cond b (record { left = C; right = D } ∷ []) []) ≡ cond b (rows_of S T C D) []
      one true D = append-nil (rows_of S T C D)
      one false D = refl

      each : (Ds : List ℕ) → flat_map rows (flat_map (λ D. cond (eqb (size (shared C D)) n) (record { left = C; right = D } ∷ []) []) Ds) ≡ flat_map (λ D. cond (eqb (size (shared C D)) n) (rows_of S T C D) []) Ds
      each [] = refl
      each (D ∷ Ds) =
          flat_append rows (cond (eqb (size (shared C D)) n) (record { left = C; right = D } ∷ []) []) (flat_map (λ D. cond (eqb (size (shared C D)) n) (record { left = C; right = D } ∷ []) []) Ds)
          ∙ ap₂ ◌++◌ (one (eqb (size (shared C D)) n) D) (each Ds)

  turns_rows : (n : ℕ) → flat_map rows (turns n (contents S) (contents T)) ≡ in_turn n S T
  unfolding flat_map turns
  turns_rows zero = sharing_rows zero (contents S) (contents T)
  turns_rows (suc n) = flat_append rows (sharing (suc n) (contents S) (contents T)) (turns n (contents S) (contents T)) ∙ ap₂ ◌++◌ (sharing_rows (suc n) (contents S) (contents T)) (turns_rows n)

  -- the rows of a table by its states
  abbrev pub heights_of : List State → Heights
  heights_of U C m = units_where (is_high C m) U

  -- what a pairing makes of two tables, by contents
  pub pairing_heights : sum_over (λ p. p.units) (pairing S T) ≤ whole → (E m : ℕ)
      → units_where (is_high E m) (paired (pairing S T) S T) ≡ joined_to (turns places (contents S) (contents T)) (heights_of S) (heights_of T) E m
  unfolding pairing paired_of units_where total_of
  pairing_heights full E m =
      where_add (is_high E m) (map (matched S T) (pairing S T)) [] (omega (arith, units_all (pairing S T)))
      ∙ omega (arith, by_places (pairing S T))
      ∙ pairs_counted (comes_to E m) (in_turn places S T) S T
      ∙ ap (λ (cs : List Two). counted (comes_to E m) cs (units_by S) (units_by T)) (sym (turns_rows places))
      ∙ turns_count (turns places (contents S) (contents T)) (units_by S) (units_by T) E m
      ∙ joined_alike (turns places (contents S) (contents T)) (heights S (units_by S)) (heights_of S) (heights T (units_by T)) (heights_of T)
      (λ C n. row_units_lem n (state_at S) C 0 S (stands S)) (λ C n. row_units_lem n (state_at T) C 0 T (stands T)) E m
    where
      units_all : (P : List Match) → total (map (matched S T) P) ≡ sum_over (λ p. p.units) P
      units_all [] = refl
      units_all (p ∷ P) = omega (arith, units_all P)

      by_places : (P : List Match) → units_where (is_high E m) (map (matched S T) P) ≡ sum_over (λ p. cond (comes_to E m (places_of p)) p.units 0) P
      by_places [] = refl
      by_places (p ∷ P) =
          ap₂ (λ (v : Bool) (n : ℕ). cond (eqb (shared (state_at S p.left).mask (state_at T p.right).mask) E && v) p.units 0 + n)
          (leb_max m (state_at S p.left).misses (state_at T p.right).misses) (by_places P)
