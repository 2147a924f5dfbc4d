-- The two states of a fold, as they are searched for in the first n states of a list T, in whatever order they stand. Where they rise, the two are document 01's choice:
-- `chosen_is` in proofs/Choosing.
use Rattle.std.specs.Prelude.{Bool, cond, ◌&&◌, ◌||◌, not, List, ℕ, zero, suc, ◌-◌, eqb, ltb, leb, length, take}
use Rattle.rules.specs.declared.State.{State}
use Rattle.rules.specs.Contents.{size}
use Rattle.rules.specs.Ordered.{best}
use Rattle.rules.specs.Table.{state_at}
use Rattle.rules.specs.Fold.{sharing, apart, closer, fewer}
pub use Rattle.folding.specs.Partners.{holds_all, is_alike}
use Rattle.folding.specs.Ends.{none_nearer}
use Rattle.searches.specs.declared.Two.{Two}

-- ---- searches over places

-- the first of the f places from place i on that passes a test; the place behind them where none does
unfoldable pub first_from : (ℕ → Bool) → ℕ → ℕ → ℕ
first_from test zero i = i
first_from test (suc f) i = cond (test i) i (first_from test f (suc i))

-- the best of place k and of the f places from place i on: a later one takes over only where it is better, and one that is enough ends the search
unfoldable pub best_until : (ℕ → ℕ → Bool) → (ℕ → Bool) → ℕ → ℕ → ℕ → ℕ
best_until better enough zero k i = k
best_until better enough (suc f) k i = cond (enough k) k (best_until better enough f (cond (better i k) i k) (suc i))

-- ---- what is tested

-- s, at place i of T, holds tracked blocks only, and the state before it is not alike to it: where T rises, none before it is
abbrev pub leads : State → List State → ℕ → Bool
leads s T i = ltb s.mask 65536 && (eqb i 0 || not (is_alike s (state_at T (i - 1))))

-- t holds all blocks of s and is nearer to it in misses than m
abbrev pub nearer : State → State → ℕ → Bool
nearer s t m = holds_all s t && ltb (apart s t) m

-- where none shares more than b blocks, none is better than one that shares m and is d misses away: m is as many, and d is none
abbrev pub unbeaten : ℕ → ℕ → ℕ → Bool
unbeaten b m d = leb b m && eqb d 0

-- ---- the partner of the state s, which stands at place i

-- the place of the first of the states directly before place i that have the mask m
unfoldable pub first_of_mask : List State → ℕ → ℕ → ℕ
first_of_mask T m zero = zero
first_of_mask T m (suc i) = cond (eqb (state_at T i).mask m) (first_of_mask T m i) (suc i)

module _ (n : ℕ) (T : List State) (s : State) (i : ℕ) where
  -- the state at place q is another one and holds all its blocks
  abbrev pub is_holder : ℕ → Bool
  is_holder q = not (eqb q i) && holds_all s (state_at T q)

  -- and is nearer in misses than the one at place k
  abbrev pub is_nearer : ℕ → ℕ → Bool
  is_nearer q k = not (eqb q i) && nearer s (state_at T q) (apart s (state_at T k))

  -- the state at place q is another one and a better partner than the one at place k
  abbrev pub is_closer : ℕ → ℕ → Bool
  is_closer q k = not (eqb q i) && closer s (state_at T q) (state_at T k)

  -- the first that holds all its blocks, from the first of its mask on
  unfoldable pub first_holder : ℕ
  first_holder = first_from is_holder (n - first_of_mask T s.mask i) (first_of_mask T s.mask i)

  -- the nearest of those that hold all its blocks, the first of which stands at place p; one miss away is near enough
  unfoldable pub nearest_holder : ℕ → ℕ
  nearest_holder p = best_until is_nearer (λ k. none_nearer (apart s (state_at T k))) (n - suc p) p (suc p)

  -- the first place of another one
  abbrev pub first_other : ℕ
  first_other = cond (eqb i 0) 1 0

  -- the best of all others, place by place, where none shares more than b blocks with it
  unfoldable pub nearest_of_all : ℕ → ℕ
  nearest_of_all b =
      best_until is_closer (λ k. unbeaten b (sharing s (state_at T k)) (apart s (state_at T k))) (n - suc first_other) first_other (suc first_other)

  -- where none is alike: the nearest of those that hold all its blocks, and else the best of all, none of which shares all of them
  unfoldable pub nearest : ℕ
  nearest = cond (ltb first_holder n) (nearest_holder first_holder) (nearest_of_all (size s.mask - 1))

  -- the first alike behind it
  unfoldable pub first_alike : ℕ
  first_alike = first_from (λ q. is_alike s (state_at T q)) (n - suc i) (suc i)

  -- the first alike behind it, where none before it is alike, or else the nearest; and otherwise the best of all
  unfoldable pub partner_of : ℕ
  partner_of = cond (leads s T i) (cond (ltb first_alike n) first_alike nearest) (nearest_of_all (size s.mask))

-- ---- both

-- the state of fewest units, the earliest if tied, and its partner
unfoldable pub chosen : ℕ → List State → Two
chosen n T = let i = best fewer (take n T) in record { fewest = i; partner = partner_of n T (state_at T i) i }

-- two of the first n states of T, where there are so many, and two at least
abbrev pub sought : ℕ → List State → Two
sought n T = cond (leb 2 n && leb n (length T)) (chosen n T) (record { fewest = 0; partner = 0 })
