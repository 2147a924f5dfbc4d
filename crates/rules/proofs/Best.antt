-- The best case's table: its order is one, and what is in the same place is equal in all but units; each state keeps its shape (contents with room in their
-- sets, open ones with the mask 0, hits and misses together no more than the accesses); all units of an access go on, and what the states that follow a miss are
-- worth. So its tables are tables, at every node, and the finished one is accepted as a table.
use mathlib.Core.Path.{◌≡◌, refl, sym, ap₂, ◌∙◌, subst}
use mathlib.Core.Logic.{◌≢◌}
use mathlib.Core.Bool.{Bool, true, false, cond, ◌&&◌, true≢false}
use mathlib.Core.List.{List, [], ◌∷◌, ◌++◌, map, flat_map}
use Prim.Native.Nat.{ℕ, suc, ◌+◌, ◌-◌, ◌*◌, ◌/◌, ◌%◌, ◌^◌, ◌≤◌, ◌<◌, min, suc-le-suc}
use native.Mathlib.Nat.{le_trans, le_of_eq, le_step, add-le-add, mul-le-mul, min-le_left, min-le_right, div-add-mod}
use native.Mathlib.Decide.{dec_lt}
use native.Mathlib.Omega.{arith}
use lib.Dec.{eqb}
use lib.ListN.{length, length-map, get_or-replicate}
use lib.Pow.{pow_pos}
use borrow.Author.Tests.{eqb-true, eq-eqb, ne_eqb}
use Rattle.basics.specs.Sums.{sum_over}
use Rattle.basics.proofs.Bools.{three}
use Rattle.basics.proofs.Sums.{sum_append, sum_map, sum_times}
use Rattle.rules.specs.Units.{whole}
use Rattle.rules.specs.Contents.{places, Target, bit, has, with, without, shared, held, size}
use Rattle.rules.specs.Filling.{filled_at, evenly, fill_one}
use Rattle.rules.specs.Ordered.{same, by_number}
use Rattle.rules.specs.AnyTable.{total, present, access}
use Rattle.rules.specs.Step.{at_risk}
use Rattle.rules.specs.Best.{BestState, exact_state, open_state, misses_of, hits_of, units_of, order, hit, missed, miss, successors, folds, same_contents, joins, listing, kind}
use Rattle.rules.specs.Shape.{Every, Present, Sound, Aimed, Room, RoomFor, BestLoose}
use Rattle.rules.proofs.Lists.{every_append, every_map, every_weaker}
use Rattle.rules.proofs.Contents.{every_held, with_lt, without_lt, sub_shared_left}
use Rattle.rules.proofs.Filling.{no_more, evenly_at, evenly_most}
use Rattle.rules.proofs.Sets.{risk_set, room_zero, room_risk, room_joined, room_moved}
use Rattle.rules.proofs.Ordered.{Orders, by_number_lem, then_by_lem, then_both, said_same, turned_before}
use Rattle.rules.proofs.Listings.{Lawful, Weight, worth_of, worth, length_present, length_present_append, length_follow, length_add}
use Rattle.rules.proofs.Step.{over_ways, over_ways_each}
use Rattle.rules.proofs.AnyTable.{Keeps, Starts, Follows}

-- ---- the order of states

-- exact ones first
abbrev side : BestState → ℕ
side s = cond s.exact 0 1

pub best_orders : Orders order
unfolding order
best_orders =
    then_by_lem _ (by_number_lem side) _
    (then_by_lem _ (by_number_lem (λ s. s.mask)) _ (then_by_lem _ (by_number_lem misses_of) _ (by_number_lem hits_of)))

-- only wholly equal states stand in the same place
pub order_same : (s t : BestState) → order s t ≡ same
    → (s.exact ≡ t.exact) × (s.mask ≡ t.mask) × (misses_of s ≡ misses_of t) × (hits_of s ≡ hits_of t)
unfolding order
order_same s t e =
    let (a, r) = then_both (by_number (side s) (side t)) _ e in
    let (b, q) = then_both (by_number s.mask t.mask) _ r in
    let (c, d) = then_both (by_number (misses_of s) (misses_of t)) _ q in
    (alike s.exact t.exact (said_same (side s) (side t) a), said_same s.mask t.mask b, said_same (misses_of s) (misses_of t) c, said_same (hits_of s) (hits_of t) d)
  where
    alike : (a b : Bool) → ◌≡◌ {A = ℕ} (cond a 0 1) (cond b 0 1) → a ≡ b
    alike true true e = refl
    alike true false e = absurd (omega arith)
    alike false true e = absurd (omega arith)
    alike false false e = refl

pub best_lawful : Lawful listing
unfolding order
best_lawful =
    record {
      counts = λ s u. refl;
      empty = refl;
      onward = best_orders.onward;
      turned = turned_before order best_orders;
      left = λ s u t. refl;
      right = λ t s u. refl;
    }

-- ---- what is said of open states, each by itself

pub open_stays : (N : ℕ) (x : Target) (s : BestState) → s.exact ≡ false → successors N x s ≡ s ∷ []
unfolding successors
open_stays N x s e = rw e refl

pub different_open : (s t : BestState) → eqb s.mask t.mask ≡ false → (joins s t).exact ≡ false
different_open s t e = go s.exact t.exact (eqb s.mask t.mask) e
  where
    -- whether the state that is made is exact, of the three tests of `same_contents`
    go : (a b c : Bool) → c ≡ false
        → (cond (a && b && c) (exact_state s.mask (min (misses_of s) (misses_of t)) (min (hits_of s) (hits_of t)) 0) (open_state (min (misses_of s) (misses_of t)) (min (hits_of s) (hits_of t)) 0)).exact ≡ false
    go true true true e = e
    go true true false e = refl
    go true false c e = refl
    go false b c e = refl

-- ---- what stands for a state

-- s stands for t: it counts no more misses and no more hits, and it is open or holds exactly what t holds
pub record StandsFor (s t : BestState) : Type 0 where
  pub misses_least : misses_of s ≤ misses_of t
  pub hits_least : hits_of s ≤ hits_of t
  pub same_contents_fact : s.exact ≡ true → (t.exact ≡ true) × (s.mask ≡ t.mask)

-- a fold's state stands for both
pub folds_left : (s t : BestState) → StandsFor (folds s t) s
folds_left s t = record { misses_least = min-le_left _ _; hits_least = min-le_left _ _; same_contents_fact = λ e. absurd (true≢false (sym e)) }

pub folds_right : (s t : BestState) → StandsFor (folds s t) t
folds_right s t = record { misses_least = min-le_right _ _; hits_least = min-le_right _ _; same_contents_fact = λ e. absurd (true≢false (sym e)) }

-- and so does a join's
pub joins_left : (s t : BestState) → StandsFor (joins s t) s
joins_left s t = go (same_contents s t) refl
  where
    m : ℕ
    m = min (misses_of s) (misses_of t)

    h : ℕ
    h = min (hits_of s) (hits_of t)

    go : (c : Bool) → same_contents s t ≡ c → StandsFor (cond c (exact_state s.mask m h 0) (open_state m h 0)) s
    go true q =
        record {
          misses_least = min-le_left _ _;
          hits_least = min-le_left _ _;
          same_contents_fact = λ e. ((three s.exact t.exact (eqb s.mask t.mask) q).0, refl);
        }
    go false q = folds_left s t

pub joins_right : (s t : BestState) → StandsFor (joins s t) t
joins_right s t = go (same_contents s t) refl
  where
    m : ℕ
    m = min (misses_of s) (misses_of t)

    h : ℕ
    h = min (hits_of s) (hits_of t)

    go : (c : Bool) → same_contents s t ≡ c → StandsFor (cond c (exact_state s.mask m h 0) (open_state m h 0)) t
    go true q =
        let (a, b, d) = three s.exact t.exact (eqb s.mask t.mask) q in
        record { misses_least = min-le_right _ _; hits_least = min-le_right _ _; same_contents_fact = λ e. (b, eqb-true s.mask t.mask d) }
    go false q = folds_right s t

-- ---- worth: e of an exact state's contents, misses and hits, o of an open one's misses and hits

abbrev pub weigh : (ℕ → ℕ → ℕ → ℕ) → (ℕ → ℕ → ℕ) → BestState → ℕ
weigh e o s = cond s.exact (e s.mask (misses_of s) (hits_of s)) (o (misses_of s) (hits_of s))

pub weigh_weight : (e : ℕ → ℕ → ℕ → ℕ) (o : ℕ → ℕ → ℕ) → Weight listing (weigh e o)
weigh_weight e o =
    record {
      blind = λ s u. refl;
      alike = λ s t h. let (a, b, c, d) = order_same s t h in rw (a, b, c, d);
    }

module _ (N : ℕ) (x : Target) (e : ℕ → ℕ → ℕ → ℕ) (o : ℕ → ℕ → ℕ) where
  -- the units that are left over go on where all ways lead to one successor, and become open otherwise
  pub worth_miss : (s : BestState) → worth listing (weigh e o) (miss N x s)
      ≡ over_ways N s.mask (shared s.mask x.mates) (λ D. e (with D x.place) (suc (misses_of s)) (hits_of s)) * (units_of s / N)
      + (cond (eqb (size (shared s.mask x.mates)) 0) (units_of s % N) 0 * e (with s.mask x.place) (suc (misses_of s)) (hits_of s)
      + cond (eqb (size (shared s.mask x.mates)) 0) 0 (units_of s % N) * o (suc (misses_of s)) (hits_of s))
  unfolding miss
  worth_miss s =
      sum_append (worth_of listing (weigh e o)) (map (λ i. missed x s (without C i) q) (held E)) _
      ∙ ap₂ ◌+◌ (sum_map (worth_of listing (weigh e o)) (λ i. missed x s (without C i) q) (held E) ∙ sum_times q (λ i. g (without C i)) (held E)) refl
      ∙ ring (N - size E) (sum_over (λ i. g (without C i)) (held E)) (g C) (o (suc (misses_of s)) (hits_of s)) (cond (eqb (size E) 0) (units_of s % N) 0) (cond (eqb (size E) 0) 0 (units_of s % N))
    where
      C : ℕ
      C = s.mask

      E : ℕ
      E = shared C x.mates

      q : ℕ
      q = units_of s / N

      g : ℕ → ℕ
      g D = e (with D x.place) (suc (misses_of s)) (hits_of s)

      ring : (d S y z a b : ℕ) → S * q + ((d * q + a) * y + (b * z + 0)) ≡ (S + d * y) * q + (a * y + b * z)
      ring d S y z a b = omega arith

-- ---- room: every way of every set may be filled

module _ (N Z : ℕ) (ts : List ℕ) where
  module _ (few : N ≤ 16) where
    -- nothing held leaves room
    pub none_room : RoomFor N Z ts 0
    none_room = room_zero N Z ts (evenly 16 N) (evenly_most 16 N (omega arith) (omega arith))

    module _ (x : Target) (aim : Aimed Z ts x) where
      full : N ≤ filled_at (evenly 16 N) x.set
      full = le_of_eq (sym (evenly_at 16 N (omega arith) (omega arith) x.set ∙ get_or-replicate 16 x.set N 0 aim.near))

      -- so what a miss can evict are the held blocks of the set
      risk : (C : ℕ) → at_risk N x (evenly 16 N) C ≡ shared C x.mates
      risk C = risk_set N x (evenly 16 N) C full

      -- and no more are filled after it
      none_more : (C : ℕ) → Room N Z ts C (fill_one N x.set (evenly 16 N)) → RoomFor N Z ts C
      none_more C = subst (Room N Z ts C) (no_more N few x.set aim.near (evenly 16 N) full)

      pub risk_room : (C : ℕ) → RoomFor N Z ts C → size (shared C x.mates) ≤ N
      risk_room C r = subst (λ (D : ℕ). size D ≤ N) (risk C) (room_risk N Z ts few x aim C (evenly 16 N) r)

      -- the block comes in where its set has room for it, or for a block of its set that goes
      pub joined_room : (C : ℕ) → RoomFor N Z ts C → size (shared C x.mates) < N → RoomFor N Z ts (with C x.place)
      joined_room C r l = none_more _ (room_joined N Z ts few x aim C (evenly 16 N) r (subst (λ (D : ℕ). size D < N) (sym (risk C)) l))

      pub moved_room : (C e : ℕ) → RoomFor N Z ts C → e < places → bit (shared C x.mates) e ≡ true → RoomFor N Z ts (with (without C e) x.place)
      moved_room C e r l h = none_more _ (room_moved N Z ts few x aim C e (evenly 16 N) r l (subst (λ (D : ℕ). bit D e ≡ true) (sym (risk C)) h))

-- ---- shape

module _ (N : ℕ) (x : Target) (s : BestState) (some : 0 < N) (small_risk : size (shared s.mask x.mates) ≤ N) where
  -- at most N + 1 states follow
  pub length_after : length (present listing (successors N x s)) ≤ suc N
  unfolding successors miss size
  length_after = by_exact s.exact (has s.mask false x.place)
    where
      C : ℕ
      C = s.mask

      E : ℕ
      E = shared C x.mates

      q : ℕ
      q = units_of s / N

      r : ℕ
      r = units_of s % N

      lost : List BestState
      lost = map (λ i. missed x s (without C i) q) (held E)

      stays : BestState
      stays = missed x s C ((N - size E) * q + cond (eqb (size E) 0) r 0)

      left : BestState
      left = open_state (suc (misses_of s)) (hits_of s) (cond (eqb (size E) 0) 0 r)

      -- where all ways hold a block of E, no units go to contents that lose nothing
      gone : (d n : ℕ) → d ≡ 0 → 0 < n → eqb (d * q + cond (eqb n 0) r 0) 0 ≡ true
      gone d n e h = rw (e, ne_eqb n 0 (λ z. omega arith)) (eq-eqb (0 * q + 0) 0 (omega arith))

      last : Dec (size E < N) → length (held E) + length (present listing (stays ∷ left ∷ [])) ≤ suc N
      last (yes l) = omega (arith, length_present listing (stays ∷ left ∷ []))
      last (no l) = rw (gone (N - size E) (size E) (omega arith) (omega arith)) (omega (arith, small_risk, length_present listing (left ∷ [])))

      by_exact : (a b : Bool) → length (present listing (cond a (cond b (hit s ∷ []) (lost ++ stays ∷ left ∷ [])) (s ∷ []))) ≤ suc N
      by_exact true true = omega (arith, length_present listing (hit s ∷ []))
      by_exact true false =
          omega (
            arith,
            length_present_append listing lost (stays ∷ left ∷ []),
            length_present listing lost,
            length-map (held E) (λ i. missed x s (without C i) q),
            last (dec_lt (size E) N),
          )
      by_exact false b = omega (arith, length_present listing (s ∷ []))

module _ (N Z : ℕ) (ts : List ℕ) where
  loose_exact : (M C m h u : ℕ) → C < 2 ^ length ts → RoomFor N Z ts C → m + h ≤ M → BestLoose N Z ts M (exact_state C m h u)
  loose_exact M C m h u c r l = record { masked = c; small = r; nothing = λ e. absurd (true≢false e); few = l }

  loose_open : N ≤ 16 → (M m h u : ℕ) → m + h ≤ M → BestLoose N Z ts M (open_state m h u)
  loose_open few M m h u l = record { masked = pow_pos (length ts); small = none_room N Z ts few; nothing = λ e. refl; few = l }

  -- the smaller of each count
  fewest : (M : ℕ) (s t : BestState) → BestLoose N Z ts M s → min (misses_of s) (misses_of t) + min (hits_of s) (hits_of t) ≤ M
  fewest M s t h = le_trans (add-le-add (min-le_left (misses_of s) (misses_of t)) (min-le_left (hits_of s) (hits_of t))) h.few

  loose_joins : N ≤ 16 → (M : ℕ) (s t : BestState) → BestLoose N Z ts M s → BestLoose N Z ts M t → BestLoose N Z ts M (joins s t)
  loose_joins few M s t a b = go (same_contents s t)
    where
      m : ℕ
      m = min (misses_of s) (misses_of t)

      h : ℕ
      h = min (hits_of s) (hits_of t)

      go : (c : Bool) → BestLoose N Z ts M (cond c (exact_state s.mask m h 0) (open_state m h 0))
      go true = loose_exact M s.mask m h 0 a.masked a.small (fewest M s t a)
      go false = loose_open few M m h 0 (fewest M s t a)

  module _ (M : ℕ) (x : Target) (s : BestState) (some : 0 < N) (few : N ≤ 16) (aim : Aimed Z ts x) (loose : BestLoose N Z ts M s) where
    abbrev C : ℕ
    C = s.mask

    abbrev E : ℕ
    E = shared C x.mates

    abbrev After : BestState → Type 0
    After t = units_of t ≢ 0 → BestLoose N Z ts (suc M) t

    small_risk : size E ≤ N
    small_risk = risk_room N Z ts few x aim C loose.small

    after_miss : (D u : ℕ) → D < 2 ^ length ts → RoomFor N Z ts (with D x.place) → BestLoose N Z ts (suc M) (missed x s D u)
    after_miss D u d r = loose_exact (suc M) _ _ _ u (with_lt (length ts) D x.place d aim.placed) r (omega (arith, loose.few))

    -- where units go to contents that lose nothing, there is a way that holds none of them
    kept : (q r : ℕ) → After (missed x s C ((N - size E) * q + cond (eqb (size E) 0) r 0))
    kept q r n = after_miss C _ loose.masked (joined_room N Z ts few x aim C loose.small (go (dec_lt (size E) N) (eqb (size E) 0) refl n))
      where
        none : (d : ℕ) → d ≡ 0 → d * q + 0 ≡ 0
        none d e = rw e (omega arith)

        go : Dec (size E < N) → (b : Bool) → eqb (size E) 0 ≡ b → (N - size E) * q + cond b r 0 ≢ 0 → size E < N
        go (yes l) b e n = l
        go (no l) true e n = absurd (l (omega (arith, eqb-true (size E) 0 e)))
        go (no l) false e n = absurd (n (none (N - size E) (omega (arith, small_risk))))

    loose_after : Every After (successors N x s)
    unfolding successors miss
    loose_after = by_exact s.exact refl
      where
        q : ℕ
        q = units_of s / N

        r : ℕ
        r = units_of s % N

        lost : Every After (map (λ i. missed x s (without C i) q) (held E))
        lost =
            every_map (λ i. (i < places) × (bit E i ≡ true)) After (λ i. missed x s (without C i) q)
            (λ i p n. after_miss (without C i) q (without_lt (length ts) C i loose.masked (sub_shared_left C x.mates i p.1))
            (moved_room N Z ts few x aim C i loose.small p.0 p.1))
            (held E) (every_held E)

        missing : Every After (miss N x s)
        missing =
            every_append After (map (λ i. missed x s (without C i) q) (held E)) _ lost
            (kept q r, (λ n. loose_open few (suc M) _ _ _ (omega (arith, loose.few)), tt))

        by_has : (a : Bool) → Every After (cond a (hit s ∷ []) (miss N x s))
        by_has true = (λ n. loose_exact (suc M) C _ _ _ loose.masked loose.small (omega (arith, loose.few)), tt)
        by_has false = missing

        by_exact : (a : Bool) → s.exact ≡ a → Every After (cond a (cond (has C false x.place) (hit s ∷ []) (miss N x s)) (s ∷ []))
        by_exact true e = by_has (has C false x.place)
        by_exact false e = (λ n. record { masked = loose.masked; small = loose.small; nothing = loose.nothing; few = le_step loose.few }, tt)

    -- all units go on
    total_after : total listing (successors N x s) ≡ units_of s
    unfolding successors total
    total_after = by_exact s.exact (has C false x.place)
      where
        r : ℕ
        r = units_of s % N

        rest : (b : Bool) → cond b r 0 * 1 + cond b 0 r * 1 ≡ r
        rest true = omega arith
        rest false = omega arith

        units : (T : List BestState) → sum_over units_of T ≡ worth listing (weigh (λ D m h. 1) (λ m h. 1)) T
        units [] = refl
        units (t ∷ T) = omega (arith, units T, each t.exact)
          where
            each : (b : Bool) → units_of t ≡ units_of t * cond b 1 1
            each true = omega arith
            each false = omega arith

        missing : sum_over units_of (miss N x s) ≡ units_of s
        missing =
            units (miss N x s) ∙ worth_miss N x (λ D m h. 1) (λ m h. 1) s
            ∙ rw (over_ways_each N C E 1 small_risk) (omega (arith, rest (eqb (size E) 0), div-add-mod (units_of s) N))

        by_exact : (a b : Bool) → sum_over units_of (cond a (cond b (hit s ∷ []) (miss N x s)) (s ∷ [])) ≡ units_of s
        by_exact true true = omega arith
        by_exact true false = missing
        by_exact false b = omega arith

  -- an access of a table of at most K states lists at most 17 × K before adding, and so gives no more
  pub best_access_room : (K M : ℕ) (x : Target) (T : List BestState) → 0 < N → N ≤ 16 → Aimed Z ts x → Sound listing (BestLoose N Z ts M) K T
      → (length (present listing (flat_map (successors N x) T)) ≤ 17 * K) × (length (access listing (successors N x) T) ≤ 17 * K)
  unfolding access
  best_access_room K M x T some few aim t = (all, omega (arith, all, length_add listing (flat_map (successors N x) T) []))
    where
      all : length (present listing (flat_map (successors N x) T)) ≤ 17 * K
      all =
          omega (
            arith,
            length_follow listing (suc N) (successors N x) T
                (every_weaker (Present listing (BestLoose N Z ts M)) (λ s. length (present listing (successors N x s)) ≤ suc N) (λ s h. length_after N x s some (risk_room N Z ts few x aim s.mask h.0.small)) T t.shaped),
            mul-le-mul t.short (suc-le-suc few),
          )

  pub best_keep : N ≤ 16 → Keeps kind (BestLoose N Z ts)
  best_keep few =
      record {
        laws = best_lawful;
        wider = λ M L s l h. record { masked = h.masked; small = h.small; nothing = h.nothing; few = le_trans h.few l };
        blind = λ M s u h. record { masked = h.masked; small = h.small; nothing = h.nothing; few = h.few };
        none = λ M. loose_open few M 0 0 0 (omega arith);
        folds = λ M s t a b. loose_open few M _ _ 0 (fewest M s t a);
        joins = loose_joins few;
      }

  -- the start: nothing held, no miss and no hit
  pub best_start : N ≤ 16 → Starts listing (BestLoose N Z ts) (exact_state 0 0 0 whole)
  best_start few = record { shape = loose_exact 0 0 0 0 whole (pow_pos (length ts)) (none_room N Z ts few) (omega arith); all = refl }

  pub best_follow : 0 < N → N ≤ 16 → Follows kind N (Aimed Z ts) (BestLoose N Z ts)
  best_follow some few =
      record {
        keeps = best_keep few;
        after = λ M x s aim h. loose_after M x s some few aim h;
        totals = λ M x s aim h. total_after M x s some few aim h;
      }
