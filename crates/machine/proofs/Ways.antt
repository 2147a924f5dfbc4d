-- What an access does: a way is drawn at a hit too and changes nothing; a miss overwrites one way of the block's set and no other: the
-- drawn one, an empty one as any; in the second revision an empty one while there is one; there are always Z sets of N ways, and no block ever stands in two ways of a set.
use mathlib.Core.Path.{◌≡◌, refl, sym, ap, ◌∙◌}
use mathlib.Core.Logic.{◌≢◌, ◌⊎◌, inl, inr}
use mathlib.Core.Bool.{Bool, true, false, cond, ◌||◌, true≢false}
use mathlib.Core.List.{List, [], ◌∷◌}
use Prim.Native.Nat.{ℕ, zero, suc, ◌+◌, ◌%◌, ◌<◌, ◌≤◌, zero-le, suc-le-suc}
use native.Mathlib.Nat.{le_of_suc-le-suc, not-suc-le-zero, le_of_eq, mod-lt}
use native.Mathlib.Decide.{ℕ_discrete, dec_lt}
use native.Mathlib.Omega.{arith}
use lib.Dec.{eqb, ltb}
use lib.ListN.{length, get_or, set, replicate, length-set, length-replicate, get_or-replicate, get_or-eq_default}
use lib.Seq.{get_or-set_same, get_or-set_other}
use borrow.Author.Tests.{eqb-true, eq-eqb, ne_eqb, ltb-true, ltb-false}
use Rattle.basics.proofs.Bools.{or_right, neither, not_left, not_right}
use Rattle.machine.specs.Cache.{Way, empty, holding, is_holding, holds, Cache, start, set_of, ways_of, in_cache, Revision, first, second, has_empty, first_empty, victim, overwrite, access, run, Fresh, Apart, Built}

-- ---- the overwritten way

-- how many of the ways hold a block
abbrev pub filled_ways : List Way → ℕ
filled_ways [] = 0
filled_ways (empty ∷ ws) = filled_ways ws
filled_ways (holding b ∷ ws) = suc (filled_ways ws)

-- how many may: in the first revision any way may be overwritten at any time, so all of them
abbrev pub may_fill : Revision → List Way → ℕ
may_fill first ws = length ws
may_fill second ws = filled_ways ws

pub filled_most : (ws : List Way) → filled_ways ws ≤ length ws
filled_most [] = omega arith
filled_most (empty ∷ ws) = omega (arith, filled_most ws)
filled_most (holding b ∷ ws) = omega (arith, filled_most ws)

-- while not all are filled one is empty; then the first empty way is one of them
some_empty : (ws : List Way) → filled_ways ws < length ws → has_empty ws ≡ true
some_empty [] l = absurd (omega arith)
some_empty (empty ∷ ws) l = refl
some_empty (holding b ∷ ws) l = some_empty ws (le_of_suc-le-suc l)

none_empty : (ws : List Way) → length ws ≤ filled_ways ws → has_empty ws ≡ false
none_empty [] l = refl
none_empty (empty ∷ ws) l = absurd (omega (arith, filled_most ws))
none_empty (holding b ∷ ws) l = none_empty ws (le_of_suc-le-suc l)

first_empty_lem : (ws : List Way) → has_empty ws ≡ true → (first_empty ws < length ws) × (get_or ws (first_empty ws) empty ≡ empty)
first_empty_lem [] h = absurd (true≢false (sym h))
first_empty_lem (empty ∷ ws) h = (omega arith, refl)
first_empty_lem (holding b ∷ ws) h = let (l, e) = first_empty_lem ws h in (suc-le-suc l, e)

module _ (v : Revision) (ws : List Way) (d : ℕ) where
  -- an empty one while not all may be filled, and the drawn one when all may
  pub victim_spare : may_fill v ws < length ws → get_or ws (victim v ws d) empty ≡ empty
  unfolding victim
  victim_spare l = pick v l
    where
      pick : (v : Revision) → may_fill v ws < length ws → get_or ws (victim v ws d) empty ≡ empty
      pick first l = absurd (omega arith)
      pick second l = let h = some_empty ws l in rw h (first_empty_lem ws h).1

  pub victim_drawn : length ws ≤ may_fill v ws → victim v ws d ≡ d
  unfolding victim
  victim_drawn l = pick v l
    where
      pick : (v : Revision) → length ws ≤ may_fill v ws → victim v ws d ≡ d
      pick first l = refl
      pick second l = rw (none_empty ws l)

  -- it is one of the ways, and always the drawn one or an empty one
  pub victim_way : d < length ws → victim v ws d < length ws
  unfolding victim
  victim_way l = pick v
    where
      go : (a : Bool) → has_empty ws ≡ a → cond a (first_empty ws) d < length ws
      go true h = (first_empty_lem ws h).0
      go false h = l

      pick : (v : Revision) → victim v ws d < length ws
      pick first = l
      pick second = go (has_empty ws) refl

  pub victim_cases : (victim v ws d ≡ d) ⊎ (get_or ws (victim v ws d) empty ≡ empty)
  unfolding victim
  victim_cases = pick v
    where
      go : (a : Bool) → has_empty ws ≡ a → (cond a (first_empty ws) d ≡ d) ⊎ (get_or ws (cond a (first_empty ws) d) empty ≡ empty)
      go true h = inr (first_empty_lem ws h).1
      go false h = inl refl

      pick : (v : Revision) → (victim v ws d ≡ d) ⊎ (get_or ws (victim v ws d) empty ≡ empty)
      pick first = inl refl
      pick second = go (has_empty ws) refl

-- a block more in an empty way, and one for another
filled_new : (ws : List Way) (d b : ℕ) → d < length ws → get_or ws d empty ≡ empty → filled_ways (set ws d (holding b)) ≡ suc (filled_ways ws)
filled_new [] d b l e = absurd (omega arith)
filled_new (empty ∷ ws) zero b l e = refl
filled_new (holding a ∷ ws) zero b l e = let z : ◌≡◌ {A = ℕ} 0 1 = cc in absurd (omega arith)
filled_new (empty ∷ ws) (suc d) b l e = filled_new ws d b (le_of_suc-le-suc l) e
filled_new (holding a ∷ ws) (suc d) b l e = ap suc (filled_new ws d b (le_of_suc-le-suc l) e)

filled_same : (ws : List Way) (d b : ℕ) → length ws ≤ filled_ways ws → filled_ways (set ws d (holding b)) ≡ filled_ways ws
filled_same [] d b l = refl
filled_same (empty ∷ ws) d b l = absurd (omega (arith, filled_most ws))
filled_same (holding a ∷ ws) zero b l = refl
filled_same (holding a ∷ ws) (suc d) b l = ap suc (filled_same ws d b (le_of_suc-le-suc l))

-- so a miss makes it one more of those that may be filled, until all may
pub may_more : (v : Revision) (ws : List Way) (d b : ℕ) → d < length ws
    → may_fill v (set ws (victim v ws d) (holding b)) ≡ cond (ltb (may_fill v ws) (length ws)) (suc (may_fill v ws)) (may_fill v ws)
may_more v ws d b l = go (ltb (may_fill v ws) (length ws)) refl
  where
    more : (v : Revision) → may_fill v ws < length ws → may_fill v (set ws (victim v ws d) (holding b)) ≡ suc (may_fill v ws)
    more first k = absurd (omega arith)
    more second k = filled_new ws (victim second ws d) b (victim_way second ws d l) (victim_spare second ws d k)

    all : (v : Revision) → length ws ≤ may_fill v ws → may_fill v (set ws (victim v ws d) (holding b)) ≡ may_fill v ws
    all first k = length-set ws (victim first ws d) (holding b)
    all second k = filled_same ws (victim second ws d) b k

    go : (t : Bool) → ltb (may_fill v ws) (length ws) ≡ t → may_fill v (set ws (victim v ws d) (holding b)) ≡ cond t (suc (may_fill v ws)) (may_fill v ws)
    go true e = more v (ltb-true (may_fill v ws) (length ws) e)
    go false e = all v (ltb-false (may_fill v ws) (length ws) e)

pub may_most : (v : Revision) (ws : List Way) → may_fill v ws ≤ length ws
may_most first ws = omega arith
may_most second ws = filled_most ws

-- the ways that are filled may be
pub filled_may : (v : Revision) (ws : List Way) → filled_ways ws ≤ may_fill v ws
filled_may first ws = filled_most ws
filled_may second ws = omega arith

-- ---- one access

-- at a hit the draw is unused
pub access_hit : (v : Revision) (c : Cache) (b d : ℕ) → in_cache c b ≡ true → access v c b d ≡ c
unfolding access
access_hit v c b d h = rw (h, access)

pub access_miss : (v : Revision) (c : Cache) (b d : ℕ) → in_cache c b ≡ false → access v c b d ≡ overwrite c b (victim v (ways_of c b) d)
unfolding access
access_miss v c b d h = rw (h, access)

-- the cache has as many sets as it had
pub sets_stay : (c : Cache) (b d : ℕ) → length (overwrite c b d).sets ≡ length c.sets
unfolding overwrite
sets_stay c b d = length-set c.sets _ _

-- and the block's set is one of them
pub set_there : (c : Cache) (b : ℕ) → 0 < length c.sets → set_of c b < length c.sets
set_there c b some = mod-lt b some

module _ (c : Cache) (b d : ℕ) where
  -- what is overwritten is a way of the block's set; each other set is as it was
  pub this_set : 0 < length c.sets → get_or (overwrite c b d).sets (set_of c b) [] ≡ set (ways_of c b) d (holding b)
  unfolding overwrite
  this_set some = get_or-set_same c.sets (set_of c b) (set (ways_of c b) d (holding b)) [] (set_there c b some)

  pub other_set : (j : ℕ) → j ≢ set_of c b → get_or (overwrite c b d).sets j [] ≡ get_or c.sets j []
  unfolding overwrite
  other_set j n = get_or-set_other c.sets (set_of c b) j (set (ways_of c b) d (holding b)) [] n

  -- what is so of every set as it was, and of the overwritten one, is so of every set
  pub each_set : (P : ℕ → List Way → Type 0) → 0 < length c.sets → (j : ℕ) → P j (get_or c.sets j []) → P (set_of c b) (set (ways_of c b) d (holding b))
      → P j (get_or (overwrite c b d).sets j [])
  each_set P some j old new = go (ℕ_discrete j (set_of c b))
    where
      go : Dec (j ≡ set_of c b) → P j (get_or (overwrite c b d).sets j [])
      go (yes e) = rw (e, this_set some) new
      go (no n) = rw (other_set j n) old

  -- so a block of that set is held where its ways then hold it, and any other where it was
  pub held_same : 0 < length c.sets → (t : ℕ) → set_of c t ≡ set_of c b → in_cache (overwrite c b d) t ≡ holds (set (ways_of c b) d (holding b)) t
  held_same some t e =
      ap (λ (j : ℕ). holds (get_or (overwrite c b d).sets j []) t) (ap (t %◌) (sets_stay c b d) ∙ e) ∙ ap (λ (ws : List Way). holds ws t) (this_set some)

  pub held_other : (t : ℕ) → set_of c t ≢ set_of c b → in_cache (overwrite c b d) t ≡ in_cache c t
  held_other t n =
      ap (λ (j : ℕ). holds (get_or (overwrite c b d).sets j []) t) (ap (t %◌) (sets_stay c b d)) ∙ ap (λ (ws : List Way). holds ws t) (other_set (set_of c t) n)

-- at a miss the overwritten way of the block's set then holds the block, and each other way what it held
pub miss_victim : (v : Revision) (c : Cache) (b d : ℕ) → in_cache c b ≡ false → 0 < length c.sets → d < length (ways_of c b)
    → get_or (get_or (access v c b d).sets (set_of c b) []) (victim v (ways_of c b) d) empty ≡ holding b
miss_victim v c b d h some l =
    let e : ℕ = victim v (ways_of c b) d in
    rw (access_miss v c b d h, this_set c b e some) (get_or-set_same (ways_of c b) e (holding b) empty (victim_way v (ways_of c b) d l))

pub miss_others : (v : Revision) (c : Cache) (b d j e : ℕ) → in_cache c b ≡ false → 0 < length c.sets → (j ≡ set_of c b → e ≢ victim v (ways_of c b) d)
    → get_or (get_or (access v c b d).sets j []) e empty ≡ get_or (get_or c.sets j []) e empty
miss_others v c b d j e h some n = rw (access_miss v c b d h) (go (ℕ_discrete j (set_of c b)))
  where
    w : ℕ
    w = victim v (ways_of c b) d

    go : Dec (j ≡ set_of c b) → get_or (get_or (overwrite c b w).sets j []) e empty ≡ get_or (get_or c.sets j []) e empty
    go (yes q) = rw (q, this_set c b w some) (get_or-set_other (ways_of c b) w e (holding b) empty (n q))
    go (no q) = rw (other_set c b w j q)

-- ---- the misses of a path

-- at most one for each access; the other accesses are its hits
pub run_misses : (v : Revision) (c : Cache) (p ds : List ℕ) → (run v c p ds).misses ≤ c.misses + length p
unfolding run overwrite
run_misses v c [] ds = omega arith
run_misses v c (b ∷ p) [] = omega arith
run_misses v c (b ∷ p) (d ∷ ds) = omega (arith, run_misses v (access v c b d) p ds, one (in_cache c b) refl)
  where
    one : (a : Bool) → in_cache c b ≡ a → (access v c b d).misses ≤ suc c.misses
    one true h = rw (access_hit v c b d h) (omega arith)
    one false h = rw (access_miss v c b d h) (omega arith)

-- ---- what is held after a way is overwritten

pub holds_new : (ws : List Way) (d b : ℕ) → d < length ws → holds (set ws d (holding b)) b ≡ true
holds_new [] d b l = absurd (not-suc-le-zero l)
holds_new (w ∷ ws) zero b l = cc (eq-eqb b b refl)
holds_new (w ∷ ws) (suc d) b l = or_right (is_holding w b) _ (holds_new ws d b (le_of_suc-le-suc l))

-- what the way did not hold stays
pub holds_kept : (ws : List Way) (d c : ℕ) (w : Way) → is_holding (get_or ws d empty) c ≡ false → holds ws c ≡ true → holds (set ws d w) c ≡ true
holds_kept [] d c w n h = h
holds_kept (v ∷ ws) zero c w n h = or_right (is_holding w c) _ (sym (ap (λ (b : Bool). b || holds ws c) n) ∙ h)
holds_kept (v ∷ ws) (suc d) c w n h = go (is_holding v c) h (holds_kept ws d c w n)
  where
    go : (a : Bool) → (a || holds ws c) ≡ true → (holds ws c ≡ true → holds (set ws d w) c ≡ true) → (a || holds (set ws d w) c) ≡ true
    go true h r = refl
    go false h r = r h

-- nothing comes in but what is stored
pub holds_old : (ws : List Way) (d c b : ℕ) → b ≢ c → holds ws c ≡ false → holds (set ws d (holding b)) c ≡ false
holds_old [] d c b n h = h
holds_old (v ∷ ws) zero c b n h = neither (eqb b c) (holds ws c) (ne_eqb b c n) (not_right (is_holding v c) (holds ws c) h)
holds_old (v ∷ ws) (suc d) c b n h =
    neither (is_holding v c) _ (not_left (is_holding v c) (holds ws c) h) (holds_old ws d c b n (not_right (is_holding v c) (holds ws c) h))

-- ---- no block stands in two ways

pub apart_set : (ws : List Way) (d b : ℕ) → holds ws b ≡ false → Apart ws → Apart (set ws d (holding b))
apart_set [] d b n h = h
apart_set (v ∷ ws) zero b n h = (not_right (is_holding v b) (holds ws b) n, h.1)
apart_set (v ∷ ws) (suc d) b n h = (fresh v n h.0, apart_set ws d b (not_right (is_holding v b) (holds ws b) n) h.1)
  where
    fresh : (v : Way) → holds (v ∷ ws) b ≡ false → Fresh v ws → Fresh v (set ws d (holding b))
    fresh empty n f = tt
    fresh (holding c) n f = holds_old ws d c b (λ e. true≢false (sym (eq-eqb c b (sym e)) ∙ not_left (eqb c b) (holds ws b) n)) f

-- ---- Z sets of N ways

-- a set that there is has N ways, and any other none
pub built_narrow : (Z N : ℕ) (c : Cache) → Built Z N c → (j : ℕ) → length (get_or c.sets j []) ≤ N
built_narrow Z N c h j = go (dec_lt j Z)
  where
    go : Dec (j < Z) → length (get_or c.sets j []) ≤ N
    go (yes l) = le_of_eq (h.wide j l)
    go (no l) = rw (get_or-eq_default c.sets [] {n = j} (omega (arith, h.count))) zero-le

pub built_start : (Z N : ℕ) → Built Z N (start Z N)
built_start Z N = record {
  count = length-replicate Z (replicate N empty);
  wide = λ j l. rw (get_or-replicate Z j (replicate N empty) [] l) (length-replicate N empty);
  apart = apart_empty Z;
}
  where
    no_block : (n : ℕ) → Apart (replicate n empty)
    no_block zero = tt
    no_block (suc n) = (tt, no_block n)

    apart_empty : (n j : ℕ) → Apart (get_or (replicate n (replicate N empty)) j [])
    apart_empty zero j = tt
    apart_empty (suc n) zero = no_block N
    apart_empty (suc n) (suc j) = apart_empty n j

module _ (Z N : ℕ) (some : 0 < Z) where
  pub built_miss : (c : Cache) (b d : ℕ) → in_cache c b ≡ false → Built Z N c → Built Z N (overwrite c b d)
  built_miss c b d e h =
      record {
        count = sets_stay c b d ∙ h.count;
        wide = λ j l. each_set c b d (λ k ws. length ws ≡ N) there j (h.wide j l)
            (length-set (ways_of c b) d (holding b) ∙ h.wide (set_of c b) (omega (arith, h.count, set_there c b there)));
        apart = λ j. each_set c b d (λ k ws. Apart ws) there j (h.apart j) (apart_set (ways_of c b) d b e (h.apart (set_of c b)));
      }
    where
      there : 0 < length c.sets
      there = omega (arith, h.count)

  pub built_access : (v : Revision) (c : Cache) (b d : ℕ) → Built Z N c → Built Z N (access v c b d)
  built_access v c b d h = go (in_cache c b) refl
    where
      go : (a : Bool) → in_cache c b ≡ a → Built Z N (access v c b d)
      go true e = rw (access_hit v c b d e) h
      go false e = rw (access_miss v c b d e) (built_miss c b (victim v (ways_of c b) d) e h)

  -- whatever is accessed and drawn from the start on
  pub built_run : (v : Revision) (c : Cache) (p ds : List ℕ) → Built Z N c → Built Z N (run v c p ds)
  unfolding run
  built_run v c [] ds h = h
  built_run v c (b ∷ p) [] h = h
  built_run v c (b ∷ p) (d ∷ ds) h = built_run v (access v c b d) p ds (built_access v c b d h)

  pub never_twice : (v : Revision) (p ds : List ℕ) → Built Z N (run v (start Z N) p ds)
  never_twice v p ds = built_run v (start Z N) p ds (built_start Z N)

-- so the block that a miss overwrites is gone
pub holds_gone : (ws : List Way) (d c b : ℕ) → Apart ws → b ≢ c → is_holding (get_or ws d empty) c ≡ true → holds (set ws d (holding b)) c ≡ false
holds_gone [] d c b h n e = refl
holds_gone (v ∷ ws) zero c b h n e = neither (eqb b c) (holds ws c) (ne_eqb b c n) (out v h.0 e)
  where
    out : (v : Way) → Fresh v ws → is_holding v c ≡ true → holds ws c ≡ false
    out empty f t = absurd (true≢false (sym t))
    out (holding x) f t = rw (eqb-true x c t) at f
holds_gone (v ∷ ws) (suc d) c b h n e = neither (is_holding v c) _ (other v h.0) (holds_gone ws d c b h.1 n e)
  where
    there : (ws : List Way) (d : ℕ) → is_holding (get_or ws d empty) c ≡ true → holds ws c ≡ true
    there [] d t = t
    there (w ∷ ws) zero t = rw t
    there (w ∷ ws) (suc d) t = or_right (is_holding w c) _ (there ws d t)

    other : (v : Way) → Fresh v ws → is_holding v c ≡ false
    other empty f = refl
    other (holding x) f = ne_eqb x c (λ q. true≢false (sym (there ws d e) ∙ sym (ap (holds ws) q) ∙ f))

-- ---- any starting contents

-- no block in two ways of all sets: then none in two ways of a set, which is what `Built` asks; that each block is in its own set is not
-- asked at all, since a block is looked for in its own set only
holds_at : (ws : List Way) (b : ℕ) → holds ws b ≡ true → (e : ℕ) × (get_or ws e empty ≡ holding b)
holds_at [] b h = absurd (true≢false (sym h))
holds_at (empty ∷ ws) b h = let (e, q) = holds_at ws b h in (suc e, q)
holds_at (holding x ∷ ws) b h = go (eqb x b) refl h (holds_at ws b)
  where
    go : (t : Bool) → eqb x b ≡ t → (t || holds ws b) ≡ true → (holds ws b ≡ true → (e : ℕ) × (get_or ws e empty ≡ holding b))
        → (e : ℕ) × (get_or (holding x ∷ ws) e empty ≡ holding b)
    go true p q rest = (0, ap holding (eqb-true x b p))
    go false p q rest = let (e, r) = rest q in (suc e, r)

apart_so : (ws : List Way) → ((d e b : ℕ) → get_or ws d empty ≡ holding b → get_or ws e empty ≡ holding b → d ≡ e) → Apart ws
apart_so [] h = tt
apart_so (w ∷ ws) h = (fresh w h, apart_so ws (λ d e b p q. let z : suc d ≡ suc e = h (suc d) (suc e) b p q in omega arith))
  where
    fresh : (w : Way) → ((d e b : ℕ) → get_or (w ∷ ws) d empty ≡ holding b → get_or (w ∷ ws) e empty ≡ holding b → d ≡ e) → Fresh w ws
    fresh empty h = tt
    fresh (holding x) h = go (holds ws x) refl
      where
        go : (t : Bool) → holds ws x ≡ t → t ≡ false
        go true p = let (e, q) = holds_at ws x p in let z : 0 ≡ suc e = h 0 (suc e) x refl q in absurd (omega arith)
        go false p = refl

pub built_so : (Z N : ℕ) (c : Cache) → length c.sets ≡ Z → ((j : ℕ) → j < Z → length (get_or c.sets j []) ≡ N)
    → ((j d k e b : ℕ) → get_or (get_or c.sets j []) d empty ≡ holding b → get_or (get_or c.sets k []) e empty ≡ holding b → (j ≡ k) × (d ≡ e))
    → Built Z N c
built_so Z N c count wide once =
    record { count = count; wide = wide; apart = λ j. apart_so (get_or c.sets j []) (λ d e b p q. (once j d j e b p q).1) }
