-- The best case's value: what an exact state is worth along the accesses ahead is what the rules say that all draws to come add up to, for a weight of what
-- they end in; an open state is worth only what its counts so far are, at every draw. Smaller counts never raise it, and an open state is never worth
-- more than an exact one of its counts, since counts never fall.
use mathlib.Core.Path.{◌≡◌, refl, sym, ◌∙◌}
use mathlib.Core.Bool.{Bool, true, false, cond, true≢false}
use mathlib.Core.List.{List, [], ◌∷◌}
use Prim.Native.Nat.{ℕ, suc, ◌*◌, ◌≤◌, suc-le-suc}
use native.Mathlib.Nat.{le_refl, le_trans, le_step, mul-le-mul_left}
use Rattle.rules.specs.declared.Target.{Target}
use Rattle.rules.specs.declared.BestState.{BestState}
use Rattle.rules.specs.Contents.{has, with, without, shared}
use Rattle.rules.specs.Best.{misses_of, hits_of}
use Rattle.rules.specs.Shape.{Aimed, RoomFor, BestLoose}
use Rattle.rules.proofs.Step.{over_ways}
use Rattle.rules.proofs.Best.{StandsFor, weigh, risk_room, joined_room, moved_room}
use Rattle.promises.proofs.Value.{over_ways_rises, over_ways_least}

-- ---- one access ahead

-- what exact contents C with m misses and h hits are worth before an access of x, summed over the N ways, where e says what they are worth after it
abbrev pub ahead_exact : ℕ → Target → (ℕ → ℕ → ℕ → ℕ) → ℕ → ℕ → ℕ → ℕ
ahead_exact N x e C m h = cond (has C false x.place) (N * e C m (suc h)) (over_ways N C (shared C x.mates) (λ D. e (with D x.place) (suc m) h))

-- and what an open state is worth, which never counts again
abbrev pub ahead_open : ℕ → (ℕ → ℕ → ℕ) → ℕ → ℕ → ℕ
ahead_open N o m h = N * o m h

-- ---- all accesses ahead of an exact state

unfoldable pub exact_value : (ℕ → ℕ → ℕ → ℕ) → ℕ → List Target → ℕ → ℕ → ℕ → ℕ
exact_value e N [] = e
exact_value e N (x ∷ p) = ahead_exact N x (exact_value e N p)

-- ---- what grows with the counts

module _ (N Z : ℕ) (ts : List ℕ) where
  -- both weights grow with misses and with hits, and the open one is the smaller
  pub record Grows (e : ℕ → ℕ → ℕ → ℕ) (o : ℕ → ℕ → ℕ) : Type 0 where
    pub exact_grows : (C m n h g : ℕ) → m ≤ n → h ≤ g → RoomFor N Z ts C → e C m h ≤ e C n g
    pub open_grows : (m n h g : ℕ) → m ≤ n → h ≤ g → o m h ≤ o n g
    pub open_below : (C m h : ℕ) → RoomFor N Z ts C → o m h ≤ e C m h

  module _ (e : ℕ → ℕ → ℕ → ℕ) (o : ℕ → ℕ → ℕ) (grows : Grows e o) where
    -- what stands for a state is worth no more
    pub stands_below : (M : ℕ) (s t : BestState) → StandsFor s t → BestLoose N Z ts M t → weigh e o s ≤ weigh e o t
    stands_below M s t stands loose = go s.exact t.exact refl refl
      where
        m : ℕ
        m = misses_of t

        h : ℕ
        h = hits_of t

        counts : o (misses_of s) (hits_of s) ≤ o m h
        counts = grows.open_grows (misses_of s) m (hits_of s) h stands.misses_least stands.hits_least

        contents : s.mask ≡ t.mask → e s.mask (misses_of s) (hits_of s) ≤ e t.mask m h
        contents q = rw q (grows.exact_grows t.mask (misses_of s) m (hits_of s) h stands.misses_least stands.hits_least loose.small)

        go : (a b : Bool) → s.exact ≡ a → t.exact ≡ b
            → cond a (e s.mask (misses_of s) (hits_of s)) (o (misses_of s) (hits_of s)) ≤ cond b (e t.mask m h) (o m h)
        go true true p q = contents (stands.same_contents_fact p).1
        go true false p q = absurd (true≢false (sym (stands.same_contents_fact p).0 ∙ q))
        go false true p q = le_trans counts (grows.open_below t.mask m h loose.small)
        go false false p q = counts

    module _ (small : N ≤ 16) (x : Target) (aim : Aimed Z ts x) where
      -- each way is worth at least what the counts so far are
      pub ways_least : (C m h : ℕ) → RoomFor N Z ts C → N * o (suc m) h ≤ over_ways N C (shared C x.mates) (λ D. e (with D x.place) (suc m) h)
      ways_least C m h room =
          over_ways_least N C (shared C x.mates) (o (suc m) h) (λ D. e (with D x.place) (suc m) h) (risk_room N Z ts small x aim C room)
          (λ i l t. grows.open_below (with (without C i) x.place) (suc m) h (moved_room N Z ts small x aim C i room l t))
          (λ l. grows.open_below (with C x.place) (suc m) h (joined_room N Z ts small x aim C room l))

      pub ahead_grows : Grows (ahead_exact N x e) (ahead_open N o)
      ahead_grows =
          record {
            exact_grows = λ C m n h g a b room. exact C m n h g a b room (has C false x.place);
            open_grows = λ m n h g a b. mul-le-mul_left N (grows.open_grows m n h g a b);
            open_below = λ C m h room. below C m h room (has C false x.place);
          }
        where
          exact : (C m n h g : ℕ) → m ≤ n → h ≤ g → RoomFor N Z ts C → (c : Bool)
              → cond c (N * e C m (suc h)) (over_ways N C (shared C x.mates) (λ D. e (with D x.place) (suc m) h))
              ≤ cond c (N * e C n (suc g)) (over_ways N C (shared C x.mates) (λ D. e (with D x.place) (suc n) g))
          exact C m n h g a b room true = mul-le-mul_left N (grows.exact_grows C m n (suc h) (suc g) a (suc-le-suc b) room)
          exact C m n h g a b room false =
              over_ways_rises N C (shared C x.mates) C (shared C x.mates) (λ D. e (with D x.place) (suc m) h) (λ D. e (with D x.place) (suc n) g) (λ i t. t)
              (risk_room N Z ts small x aim C room)
              (λ i l t. grows.exact_grows _ (suc m) (suc n) h g (suc-le-suc a) b (moved_room N Z ts small x aim C i room l t))
              (λ i l t f. absurd (true≢false (sym t ∙ f)))
              (λ l. grows.exact_grows _ (suc m) (suc n) h g (suc-le-suc a) b (joined_room N Z ts small x aim C room l))

          below : (C m h : ℕ) → RoomFor N Z ts C → (c : Bool)
              → N * o m h ≤ cond c (N * e C m (suc h)) (over_ways N C (shared C x.mates) (λ D. e (with D x.place) (suc m) h))
          below C m h room true =
              mul-le-mul_left N (le_trans (grows.open_grows m m h (suc h) (le_refl m) (le_step (le_refl h))) (grows.open_below C m (suc h) room))
          below C m h room false =
              le_trans (mul-le-mul_left N (grows.open_grows m (suc m) h h (le_step (le_refl m)) (le_refl h))) (ways_least C m h room)
