-- Two rows paired, the highest miss counts of both first: quantile by quantile. How many units lie at or above a miss count says all of a row; x units of each side are
-- taken from the top, and of the pairs as many lie at or above it as of the row that has more there, x at most. Shown for two lists of places, of each of which any first
-- part may be meant (those at or above the miss count), by going through the pairs as they are made.
use mathlib.Core.Path.{◌≡◌, refl, sym, ap, ap₂, ◌∙◌}
use mathlib.Core.Bool.{Bool, true, false, cond, ◌||◌, true≢false}
use mathlib.Core.Logic.{◌≢◌}
use mathlib.Core.List.{List, [], ◌∷◌, ◌++◌, map, flat_map}
use Prim.Native.Nat.{ℕ, zero, suc, ◌+◌, ◌-◌, ◌≤◌, ◌<◌, min, max}
use native.Mathlib.Decide.{dec_lt}
use native.Mathlib.Omega.{arith}
use borrow.Author.Tests.{eq-eqb, ne_eqb}
use lib.Dec.{eqb, eqb-zero-suc, eqb-suc-zero, eqb-suc-suc}
use Rattle.basics.specs.Sums.{sum_over}
use Rattle.rules.specs.declared.State.{State}
use Rattle.rules.specs.Shape.{Every}
use Rattle.rules.proofs.Lists.{every_append}
use Rattle.rules.specs.Table.{units_of, state_at}
use Rattle.tight_rules.specs.Join.{Two, spend}
use Rattle.tight_pairs.specs.Joining.{taken, amount, left_of, right_of}

-- ---- the units that are left, by place

taken_here : (i u : ℕ) (a : ℕ → ℕ) → taken i u a i ≡ a i - u
taken_here i u a = rw (eq-eqb i i refl) refl

taken_there : (i u : ℕ) (a : ℕ → ℕ) (k : ℕ) → k ≢ i → taken i u a k ≡ a k
taken_there i u a k n = rw (ne_eqb k i n) refl

-- the units at the places of a table
abbrev pub units_by : List State → ℕ → ℕ
units_by T k = units_of (state_at T k)

pub spend_units : (i u : ℕ) (T : List State) (k : ℕ) → units_by (spend i u T) k ≡ taken i u (units_by T) k
unfolding spend
spend_units i u [] k = go (eqb k i)
  where
    go : (b : Bool) → 0 ≡ cond b (0 - u) 0
    go true = omega arith
    go false = refl
spend_units zero u (s ∷ T) zero = refl
spend_units zero u (s ∷ T) (suc k) = rw (eqb-suc-zero k) refl
spend_units (suc i) u (s ∷ T) zero = rw (eqb-zero-suc i) refl
spend_units (suc i) u (s ∷ T) (suc k) = rw (eqb-suc-suc k i) (spend_units i u T k)

-- ---- pairs one after the other, by units alone

-- of the units that are paired, those of pairs that are meant
abbrev pub counted : (Two → Bool) → List Two → (ℕ → ℕ) → (ℕ → ℕ) → ℕ
counted t [] a b = 0
counted t (c ∷ cs) a b = let u = amount c a b in cond (t c) u 0 + counted t cs (taken c.left u a) (taken c.right u b)

pub counted_append : (t : Two → Bool) (cs ds : List Two) (a b : ℕ → ℕ) → counted t (cs ++ ds) a b ≡ counted t cs a b + counted t ds (left_of cs a b) (right_of cs a b)
counted_append t [] ds a b = omega arith
counted_append t (c ∷ cs) ds a b =
    let u = amount c a b in
    omega (arith, counted_append t cs ds (taken c.left u a) (taken c.right u b))

pub left_append : (cs ds : List Two) (a b : ℕ → ℕ) (k : ℕ) → left_of (cs ++ ds) a b k ≡ left_of ds (left_of cs a b) (right_of cs a b) k
left_append [] ds a b k = refl
left_append (c ∷ cs) ds a b k = let u = amount c a b in left_append cs ds (taken c.left u a) (taken c.right u b) k

pub right_append : (cs ds : List Two) (a b : ℕ → ℕ) (k : ℕ) → right_of (cs ++ ds) a b k ≡ right_of ds (left_of cs a b) (right_of cs a b) k
right_append [] ds a b k = refl
right_append (c ∷ cs) ds a b k = let u = amount c a b in right_append cs ds (taken c.left u a) (taken c.right u b) k

-- which pairs are meant only matters for those that are made
pub counted_same : (t t' : Two → Bool) (cs : List Two) (a b : ℕ → ℕ) → Every (λ c. t c ≡ t' c) cs → counted t cs a b ≡ counted t' cs a b
counted_same t t' [] a b h = refl
counted_same t t' (c ∷ cs) a b h =
    let u = amount c a b in
    ap₂ (λ (v : Bool) (n : ℕ). cond v u 0 + n) h.0 (counted_same t t' cs (taken c.left u a) (taken c.right u b) h.1)

-- a place that is in no pair keeps its units
pub left_away : (cs : List Two) (a b : ℕ → ℕ) (k : ℕ) → Every (λ c. k ≢ c.left) cs → left_of cs a b k ≡ a k
left_away [] a b k h = refl
left_away (c ∷ cs) a b k h =
    let u = amount c a b in
    left_away cs (taken c.left u a) (taken c.right u b) k h.1 ∙ taken_there c.left u a k h.0

pub right_away : (cs : List Two) (a b : ℕ → ℕ) (k : ℕ) → Every (λ c. k ≢ c.right) cs → right_of cs a b k ≡ b k
right_away [] a b k h = refl
right_away (c ∷ cs) a b k h =
    let u = amount c a b in
    right_away cs (taken c.left u a) (taken c.right u b) k h.1 ∙ taken_there c.right u b k h.0

-- ---- lists of places, each once, of which a first part is meant

-- the units at those that are meant
abbrev pub meant : (ℕ → Bool) → List ℕ → (ℕ → ℕ) → ℕ
meant q js b = sum_over (λ j. cond (q j) (b j) 0) js

-- each place once
abbrev pub Once : List ℕ → Type 0
Once [] = Unit {0}
Once (j ∷ js) = Every (λ k. k ≢ j) js × Once js

-- behind one that is not meant, none is
abbrev pub First : (ℕ → Bool) → List ℕ → Type 0
First q [] = Unit {0}
First q (j ∷ js) = (q j ≡ false → Every (λ k. q k ≡ false) js) × First q js

-- all of them
abbrev pub all : ℕ → Bool
all j = true

pub all_first : (js : List ℕ) → First all js
all_first [] = tt
all_first (j ∷ js) = (λ h. absurd (true≢false h), all_first js)

pub meant_same : (q : ℕ → Bool) (js : List ℕ) (b b' : ℕ → ℕ) → Every (λ k. b k ≡ b' k) js → meant q js b ≡ meant q js b'
meant_same q [] b b' h = refl
meant_same q (j ∷ js) b b' h = ap₂ (λ (u n : ℕ). cond (q j) u 0 + n) h.0 (meant_same q js b b' h.1)

meant_none : (q : ℕ → Bool) (js : List ℕ) (b : ℕ → ℕ) → Every (λ k. q k ≡ false) js → meant q js b ≡ 0
meant_none q [] b h = refl
meant_none q (j ∷ js) b h = rw h.0 (omega (arith, meant_none q js b h.1))

pub meant_most : (q : ℕ → Bool) (js : List ℕ) (b : ℕ → ℕ) → meant q js b ≤ meant all js b
meant_most q [] b = omega arith
meant_most q (j ∷ js) b = go (q j) (meant_most q js b)
  where
    go : (v : Bool) → meant q js b ≤ meant all js b → cond v (b j) 0 + meant q js b ≤ b j + meant all js b
    go true l = omega arith
    go false l = omega arith

away_taken : (j u : ℕ) (b : ℕ → ℕ) (js : List ℕ) → Every (λ k. k ≢ j) js → Every (λ k. taken j u b k ≡ b k) js
away_taken j u b [] h = tt
away_taken j u b (k ∷ js) h = (taken_there j u b k h.0, away_taken j u b js h.1)

-- ---- one place against a list of places

-- the pairs of place i with those of js, in order
abbrev pub against : ℕ → List ℕ → List Two
against i js = map (λ j. record { left = i; right = j }) js

against_left : (i k : ℕ) (js : List ℕ) → k ≢ i → Every (λ c. k ≢ c.left) (against i js)
against_left i k [] n = tt
against_left i k (j ∷ js) n = (n, against_left i k js n)

against_right : (i k : ℕ) (js : List ℕ) → Every (λ j. j ≢ k) js → Every (λ c. k ≢ c.right) (against i js)
against_right i k [] h = tt
against_right i k (j ∷ js) h = (λ e. h.0 (sym e), against_right i k js h.1)

module _ (q : ℕ → Bool) (i : ℕ) where
  -- of place i's units as many are paired with places that are meant as those have
  one_counts : (js : List ℕ) → Once js → First q js → (a b : ℕ → ℕ) → counted (λ c. q c.right) (against i js) a b ≡ min (a i) (meant q js b)
  one_counts [] o f a b = omega arith
  one_counts (j ∷ js) o f a b =
      let u = min (a i) (b j) in
      go (q j) refl
      (one_counts js o.1 f.1 (taken i u a) (taken j u b)
      ∙ ap₂ min (taken_here i u a) (meant_same q js (taken j u b) b (away_taken j u b js o.0)))
    where
      go : (v : Bool) → q j ≡ v
          → counted (λ c. q c.right) (against i js) (taken i (min (a i) (b j)) a) (taken j (min (a i) (b j)) b) ≡ min (a i - min (a i) (b j)) (meant q js b)
          → cond v (min (a i) (b j)) 0 + counted (λ c. q c.right) (against i js) (taken i (min (a i) (b j)) a) (taken j (min (a i) (b j)) b)
          ≡ min (a i) (cond v (b j) 0 + meant q js b)
      go true h e = omega (arith, e)
      go false h e = omega (arith, e, meant_none q js b (f.0 h))

  -- those have so many fewer
  one_right : (js : List ℕ) → Once js → First q js → (a b : ℕ → ℕ) → meant q js (right_of (against i js) a b) ≡ meant q js b - a i
  one_right [] o f a b = omega arith
  one_right (j ∷ js) o f a b =
      let u = min (a i) (b j) in
      go (q j) refl (right_of (against i js) (taken i u a) (taken j u b))
      (one_right js o.1 f.1 (taken i u a) (taken j u b)
      ∙ ap₂ (λ (n m : ℕ). m - n) (taken_here i u a) (meant_same q js (taken j u b) b (away_taken j u b js o.0)))
      (right_away (against i js) (taken i u a) (taken j u b) j (against_right i j js o.0) ∙ taken_here j u b)
    where
      go : (v : Bool) → q j ≡ v → (R : ℕ → ℕ) → meant q js R ≡ meant q js b - (a i - min (a i) (b j)) → R j ≡ b j - min (a i) (b j)
          → cond v (R j) 0 + meant q js R ≡ (cond v (b j) 0 + meant q js b) - a i
      go true h R e r = omega (arith, e, r)
      go false h R e r = omega (arith, meant_none q js R (f.0 h), meant_none q js b (f.0 h))

-- and place i has so many fewer as all of them had
one_left : (i : ℕ) (js : List ℕ) → Once js → (a b : ℕ → ℕ) → left_of (against i js) a b i ≡ a i - meant all js b
one_left i [] o a b = omega arith
one_left i (j ∷ js) o a b =
    let u = min (a i) (b j) in
    omega (
      arith,
      one_left i js o.1 (taken i u a) (taken j u b)
          ∙ ap₂ (λ (n m : ℕ). n - m) (taken_here i u a) (meant_same all js (taken j u b) b (away_taken j u b js o.0)),
    )

-- ---- a list of places against another

-- the pairs of the places of is with those of js: the first with all, then the second, ..
abbrev pub grid : List ℕ → List ℕ → List Two
grid is js = flat_map (λ i. against i js) is

pub grid_left : (is js : List ℕ) (k : ℕ) → Every (λ i. i ≢ k) is → Every (λ c. k ≢ c.left) (grid is js)
unfolding flat_map
grid_left [] js k h = tt
grid_left (i ∷ is) js k h = every_append (λ c. k ≢ c.left) (against i js) (grid is js) (against_left i k js (λ e. h.0 (sym e))) (grid_left is js k h.1)

pub grid_away : (is js : List ℕ) (k : ℕ) → Every (λ j. j ≢ k) js → Every (λ c. k ≢ c.right) (grid is js)
unfolding flat_map
grid_away [] js k h = tt
grid_away (i ∷ is) js k h = every_append (λ c. k ≢ c.right) (against i js) (grid is js) (against_right i k js h) (grid_away is js k h)

away_left : (i : ℕ) (js is : List ℕ) (a b : ℕ → ℕ) → Every (λ k. k ≢ i) is → Every (λ k. left_of (against i js) a b k ≡ a k) is
away_left i js [] a b h = tt
away_left i js (k ∷ is) a b h = (left_away (against i js) a b k (against_left i k js h.0), away_left i js is a b h.1)

module _ (q : ℕ → Bool) where
  -- as many are paired with places that are meant as those have, or all
  all_count : (is js : List ℕ) → Once is → Once js → First q js → (a b : ℕ → ℕ)
      → counted (λ c. q c.right) (grid is js) a b ≡ min (meant all is a) (meant q js b)
  unfolding flat_map
  all_count [] js o p f a b = omega arith
  all_count (i ∷ is) js o p f a b =
      let L = left_of (against i js) a b in
      let R = right_of (against i js) a b in
      omega (
        arith,
        counted_append (λ c. q c.right) (against i js) (grid is js) a b,
        one_counts q i js p f a b,
        all_count is js o.1 p f L R
            ∙ ap₂ min (meant_same all is L a (away_left i js is a b o.0)) (one_right q i js p f a b),
      )

  pub grid_right : (is js : List ℕ) → Once is → Once js → First q js → (a b : ℕ → ℕ) → meant q js (right_of (grid is js) a b) ≡ meant q js b - meant all is a
  unfolding flat_map
  grid_right [] js o p f a b = omega arith
  grid_right (i ∷ is) js o p f a b =
      let L = left_of (against i js) a b in
      let R = right_of (against i js) a b in
      meant_same q js (right_of (grid (i ∷ is) js) a b) (right_of (grid is js) L R) (each js)
      ∙ grid_right is js o.1 p f L R
      ∙ ap₂ (λ (n m : ℕ). n - m) (one_right q i js p f a b) (meant_same all is L a (away_left i js is a b o.0))
      ∙ omega arith
    where
      each : (ks : List ℕ) → Every (λ k. right_of (grid (i ∷ is) js) a b k ≡ right_of (grid is js) (left_of (against i js) a b) (right_of (against i js) a b) k) ks
      each [] = tt
      each (k ∷ ks) = (right_append (against i js) (grid is js) a b k, each ks)

  pub grid_left_over : (is js : List ℕ) → Once is → Once js → First q is → (a b : ℕ → ℕ) → meant q is (left_of (grid is js) a b) ≡ meant q is a - meant all js b
  unfolding flat_map
  grid_left_over [] js o p f a b = omega arith
  grid_left_over (i ∷ is) js o p f a b =
      let L = left_of (against i js) a b in
      let R = right_of (against i js) a b in
      go (q i) refl
      (left_append (against i js) (grid is js) a b i ∙ left_away (grid is js) L R i (grid_left is js i o.0) ∙ one_left i js p a b)
      (meant_same q is (left_of (grid (i ∷ is) js) a b) (left_of (grid is js) L R) (each is)
      ∙ grid_left_over is js o.1 p f.1 L R
      ∙ ap₂ (λ (n m : ℕ). n - m) (meant_same q is L a (away_left i js is a b o.0)) (one_right all i js p (all_first js) a b))
    where
      each : (ks : List ℕ) → Every (λ k. left_of (grid (i ∷ is) js) a b k ≡ left_of (grid is js) (left_of (against i js) a b) (right_of (against i js) a b) k) ks
      each [] = tt
      each (k ∷ ks) = (left_append (against i js) (grid is js) a b k, each ks)

      go : (v : Bool) → q i ≡ v → left_of (grid (i ∷ is) js) a b i ≡ a i - meant all js b
          → meant q is (left_of (grid (i ∷ is) js) a b) ≡ meant q is a - (meant all js b - a i)
          → cond v (left_of (grid (i ∷ is) js) a b i) 0 + meant q is (left_of (grid (i ∷ is) js) a b) ≡ (cond v (a i) 0 + meant q is a) - meant all js b
      go true h e r = omega (arith, e, r)
      go false h e r = omega (arith, e, r, meant_none q is a (f.0 h))

-- ---- places of both that are meant

all_paired : (a P B Q X : ℕ) → B < a → min a B + min 0 X ≡ min B (max (a + P) Q)
all_paired a P B Q X h = omega arith

shift_min : (a x y : ℕ) → min (a + x) (a + y) ≡ a + min x y
shift_min a x y = omega arith

-- a units more on the left, all meant: those paired, and of the rest as before
meet_more : (a A P B Q : ℕ) → Q ≤ B → min a B + min (min A (B - a)) (max P (Q - a)) ≡ min (min (a + A) B) (max (a + P) Q)
meet_more a A P B Q l = go (dec_lt B a)
  where
    few : B < a → min a B + min (min A (B - a)) (max P (Q - a)) ≡ min (min (a + A) B) (max (a + P) Q)
    few h =
        let none : min A (B - a) ≡ 0 = omega arith in
        let full : min (a + A) B ≡ B = omega arith in
        rw (none, full) (all_paired a P B Q (max P (Q - a)) h)

    many : (r : ℕ) → B ≡ a + r → min a B + min (min A (B - a)) (max P (Q - a)) ≡ min (min (a + A) B) (max (a + P) Q)
    many r e =
        let less : min a B ≡ a = omega arith in
        let left : B - a ≡ r = omega arith in
        let most : max (a + P) Q ≡ a + max P (Q - a) = omega arith in
        rw (less, left, most, e) (sym (ap (λ (n : ℕ). min n (a + max P (Q - a))) (shift_min a A r) ∙ shift_min a (min A r) (max P (Q - a))))

    go : Dec (B < a) → min a B + min (min A (B - a)) (max P (Q - a)) ≡ min (min (a + A) B) (max (a + P) Q)
    go (yes h) = few h
    go (no h) = many (B - a) (omega arith)

-- none meant on the left
none_left : (A B P Q : ℕ) → P ≡ 0 → Q ≤ B → min A Q ≡ min (min A B) (max (0 + P) Q)
none_left A B P Q e l = omega arith

module _ (p q : ℕ → Bool) where
  -- the pair's left place is meant, or its right place
  abbrev pub either : Two → Bool
  either c = p c.left || q c.right

  all_meant : (i : ℕ) (js : List ℕ) → p i ≡ true → Every (λ c. either c ≡ all c.right) (against i js)
  all_meant i [] h = tt
  all_meant i (j ∷ js) h = (rw h refl, all_meant i js h)

  right_meant : (is js : List ℕ) → Every (λ i. p i ≡ false) is → Every (λ c. either c ≡ q c.right) (grid is js)
  unfolding flat_map
  right_meant [] js h = tt
  right_meant (i ∷ is) js h = every_append (λ c. either c ≡ q c.right) (against i js) (grid is js) (each js) (right_meant is js h.1)
    where
      each : (js : List ℕ) → Every (λ c. either c ≡ q c.right) (against i js)
      each [] = tt
      each (j ∷ js) = (rw h.0 refl, each js)

  pub grid_counts : (is js : List ℕ) → Once is → Once js → First p is → First q js → (a b : ℕ → ℕ)
      → counted either (grid is js) a b ≡ min (min (meant all is a) (meant all js b)) (max (meant p is a) (meant q js b))
  unfolding flat_map
  grid_counts [] js o o' f g a b = omega arith
  grid_counts (i ∷ is) js o o' f g a b =
      let L = left_of (against i js) a b in
      let R = right_of (against i js) a b in
      go (p i) refl
      (grid_counts is js o.1 o' f.1 g L R
      ∙ ap₂ min (ap₂ min (meant_same all is L a (away_left i js is a b o.0)) (one_right all i js o' (all_first js) a b))
      (ap₂ max (meant_same p is L a (away_left i js is a b o.0)) (one_right q i js o' g a b)))
    where
      go : (v : Bool) → p i ≡ v
          → counted either (grid is js) (left_of (against i js) a b) (right_of (against i js) a b)
          ≡ min (min (meant all is a) (meant all js b - a i)) (max (meant p is a) (meant q js b - a i))
          → counted either (grid (i ∷ is) js) a b
          ≡ min (min (a i + meant all is a) (meant all js b)) (max (cond v (a i) 0 + meant p is a) (meant q js b))
      go true h e =
          counted_append either (against i js) (grid is js) a b
          ∙ ap₂ (λ (n m : ℕ). n + m)
          (counted_same either (λ c. all c.right) (against i js) a b (all_meant i js h) ∙ one_counts all i js o' (all_first js) a b) e
          ∙ meet_more (a i) (meant all is a) (meant p is a) (meant all js b) (meant q js b) (meant_most q js b)
      go false h e =
          counted_same either (λ c. q c.right) (grid (i ∷ is) js) a b (right_meant (i ∷ is) js (h, f.0 h))
          ∙ all_count q (i ∷ is) js o o' g a b
          ∙ none_left (a i + meant all is a) (meant all js b) (meant p is a) (meant q js b) (meant_none p is a (f.0 h)) (meant_most q js b)
