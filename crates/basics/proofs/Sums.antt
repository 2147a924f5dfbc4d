-- Sums over a list, over 0 .. n - 1, and over those of 0 .. n - 1 that pass a test.
use mathlib.Core.Path.{◌≡◌, refl, sym, ap, ap₂}
use mathlib.Core.Logic.{◌≢◌}
use mathlib.Core.Bool.{Bool, true, false, cond}
use mathlib.Core.List.{List, [], ◌∷◌, ◌++◌, map}
use Prim.Native.Nat.{ℕ, zero, suc, ◌+◌, ◌*◌, ◌≤◌, ◌<◌, zero-le}
use native.Mathlib.Nat.{le_refl, le_step, add-le-add, ne_of_lt, not-suc-le-zero, zero-add, suc-add}
use native.Mathlib.Omega.{arith}
use native.Mathlib.Decide.{ℕ_discrete}
use lib.ListN.{length, get_or}
use Rattle.basics.specs.Sums.{sum_over}

-- ---- over a list

pub sum_append : {A : Type 0} (F : A → ℕ) (xs ys : List A) → sum_over F (xs ++ ys) ≡ sum_over F xs + sum_over F ys
sum_append F [] ys = omega arith
sum_append F (x ∷ xs) ys = omega (arith, sum_append F xs ys)

pub sum_map : {A B : Type 0} (F : B → ℕ) (f : A → B) (xs : List A) → sum_over F (map f xs) ≡ sum_over (λ x. F (f x)) xs
sum_map F f [] = refl
sum_map F f (x ∷ xs) = ap (F (f x) +◌) (sum_map F f xs)

pub sum_times : {A : Type 0} (c : ℕ) (F : A → ℕ) (xs : List A) → sum_over (λ x. c * F x) xs ≡ sum_over F xs * c
sum_times c F [] = omega arith
sum_times c F (x ∷ xs) = omega (arith, sum_times c F xs)

-- the same number for each
pub sum_each : {A : Type 0} (c : ℕ) (xs : List A) → sum_over (λ x. c) xs ≡ length xs * c
sum_each c [] = omega arith
sum_each c (x ∷ xs) = omega (arith, sum_each c xs)

-- ---- over 0 .. n - 1

abbrev pub sum_to : ℕ → (ℕ → ℕ) → ℕ
sum_to zero f = 0
sum_to (suc n) f = sum_to n f + f n

pub sum_le : (n : ℕ) (f g : ℕ → ℕ) → ((i : ℕ) → i < n → f i ≤ g i) → sum_to n f ≤ sum_to n g
sum_le zero f g h = zero-le
sum_le (suc n) f g h = add-le-add (sum_le n f g (λ i l. h i (le_step l))) (h n (le_refl (suc n)))

pub sum_eq : (n : ℕ) (f g : ℕ → ℕ) → ((i : ℕ) → i < n → f i ≡ g i) → sum_to n f ≡ sum_to n g
sum_eq zero f g h = refl
sum_eq (suc n) f g h = ap₂ ◌+◌ (sum_eq n f g (λ i l. h i (le_step l))) (h n (le_refl (suc n)))

pub sum_add : (n : ℕ) (f g : ℕ → ℕ) → sum_to n (λ i. f i + g i) ≡ sum_to n f + sum_to n g
sum_add zero f g = refl
sum_add (suc n) f g = omega (arith, sum_add n f g)

pub sum_const : (n c : ℕ) → sum_to n (λ i. c) ≡ n * c
sum_const zero c = omega arith
sum_const (suc n) c = omega (arith, sum_const n c)

sum_front : (n : ℕ) (f : ℕ → ℕ) → sum_to (suc n) f ≡ f 0 + sum_to n (λ i. f (suc i))
sum_front zero f = omega arith
sum_front (suc n) f = omega (arith, sum_front n f)

-- the elements of a list, by place
pub sum_list : {A : Type 0} (h : A → ℕ) (xs : List A) (z : A) → sum_to (length xs) (λ i. h (get_or xs i z)) ≡ sum_over h xs
sum_list h [] z = refl
sum_list h (x ∷ xs) z = omega (arith, sum_front (length xs) (λ i. h (get_or (x ∷ xs) i z)), sum_list h xs z)

-- ---- over those that pass a test

abbrev pub sum_on : ℕ → (ℕ → Bool) → (ℕ → ℕ) → ℕ
sum_on n P f = sum_to n (λ i. cond (P i) (f i) 0)

pub on_eq : (n : ℕ) (P Q : ℕ → Bool) (f : ℕ → ℕ) → ((i : ℕ) → i < n → P i ≡ Q i) → sum_on n P f ≡ sum_on n Q f
on_eq n P Q f e = sum_eq n _ _ (λ i l. ap (λ (b : Bool). cond b (f i) 0) (e i l))

pub on_none : (n : ℕ) (P : ℕ → Bool) (f : ℕ → ℕ) → ((i : ℕ) → i < n → P i ≡ false) → sum_on n P f ≡ 0
on_none zero P f e = refl
on_none (suc n) P f e = rw (e n (le_refl (suc n))) (omega (arith, on_none n P f (λ i h. e i (le_step h))))

-- beyond k nothing passes
pub on_beyond : (k n : ℕ) (P : ℕ → Bool) (f : ℕ → ℕ) → ((i : ℕ) → k ≤ i → P i ≡ false) → sum_on (n + k) P f ≡ sum_on k P f
on_beyond k zero P f e = rw (zero-add k)
on_beyond k (suc n) P f e = rw (suc-add n k, e (n + k) (omega arith)) (omega (arith, on_beyond k n P f e))

-- one element more passes
pub on_point : (n : ℕ) (P Q : ℕ → Bool) (f : ℕ → ℕ) (j : ℕ) → j < n → P j ≡ false → Q j ≡ true
    → ((i : ℕ) → i < n → i ≢ j → P i ≡ Q i) → sum_on n Q f ≡ sum_on n P f + f j
on_point zero P Q f j l p q e = absurd (not-suc-le-zero l)
on_point (suc n) P Q f j l p q e = go (λ k. on_point n P Q f j k p q (λ i h. e i (le_step h))) (ℕ_discrete n j)
  where
    go : (j < n → sum_on n Q f ≡ sum_on n P f + f j) → Dec (n ≡ j) → sum_on (suc n) Q f ≡ sum_on (suc n) P f + f j
    go rest (yes s) =
        rw (s, q, p) (omega (arith, on_eq j P Q f (λ i k. e i (omega arith) (ne_of_lt k))))
    go rest (no s) = rw (e n (le_refl (suc n)) s) (omega (arith, rest (omega arith)))

-- where P and Q agree but for j: at most f j more
pub on_most : (n : ℕ) (P Q : ℕ → Bool) (f : ℕ → ℕ) (j : ℕ) → ((i : ℕ) → i ≢ j → P i ≡ Q i) → sum_on n Q f ≤ sum_on n P f + f j
on_most zero P Q f j e = zero-le
on_most (suc n) P Q f j e = go (on_most n P Q f j e) (ℕ_discrete n j)
  where
    case : (x y : ℕ) (b b' : Bool) → x ≡ y → x + cond b (f j) 0 ≤ y + cond b' (f j) 0 + f j
    case x y true true h = omega arith
    case x y true false h = omega arith
    case x y false true h = omega arith
    case x y false false h = omega arith

    go : sum_on n Q f ≤ sum_on n P f + f j → Dec (n ≡ j) → sum_on (suc n) Q f ≤ sum_on (suc n) P f + f j
    go rest (yes s) = rw s (case _ _ (Q j) (P j) (sym (on_eq j P Q f (λ i k. e i (ne_of_lt k)))))
    go rest (no s) = rw (e n s) (omega arith)

-- a part of some units is not more
pub part_most : (b : Bool) (u : ℕ) → cond b u 0 ≤ u
part_most true u = le_refl u
part_most false u = zero-le
