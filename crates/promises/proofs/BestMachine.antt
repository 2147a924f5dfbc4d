-- The machine along a path of an accepted input, where every access is tracked: what an exact state is worth along the accesses ahead, with a weight of misses
-- and hits, is what the machine does, since each access is a hit or a miss. The weights are 1 above a number of misses, or of hits.
use Rattle.std.specs.Prelude.{None, Some}
use mathlib.Core.Path.{◌≡◌, refl, ap, ap₂, ◌∙◌}
use mathlib.Core.Logic.{◌≢◌}
use mathlib.Core.Bool.{Bool, true, false, cond}
use mathlib.Core.List.{List, [], ◌∷◌, ◌++◌, flat_map}
use Prim.Native.Nat.{ℕ, zero, suc, ◌+◌, ◌-◌, ◌*◌, ◌^◌, ◌≤◌, ◌<◌, zero-le}
use native.Mathlib.Nat.{le_refl, mod-lt}
use native.Mathlib.Omega.{arith}
use lib.Dec.{ltb}
use lib.ListN.{length, get_or, take, drop}
use borrow.Author.Tests.{ltb-true, ltb-false}
use Rattle.basics.specs.Sums.{sum_over}
use Rattle.basics.proofs.Bools.{and_left, and_right, both}
use Rattle.machine.specs.Cache.{first, start}
use Rattle.machine.specs.Draws.{count_from, count}
use Rattle.machine.proofs.Draws.{total}
use Rattle.rules.specs.declared.Target.{Target}
use Rattle.rules.specs.declared.BestState.{BestState}
use Rattle.rules.specs.Contents.{among, find, has, hits, is_last, with, without, shared, held, size, all_tracked, target_of, Last, Place}
use Rattle.rules.specs.Filling.{evenly}
use Rattle.rules.specs.Input.{Input, run_of, offset}
use Rattle.rules.specs.Units.{whole}
use Rattle.rules.specs.Counts.{above}
use Rattle.rules.specs.Best.{misses_of, hits_of, units_of, listing, best_table}
use Rattle.rules.specs.BestQuestions.{misses_above, hits_above}
use Rattle.rules.proofs.Listings.{worth}
use Rattle.rules.proofs.Step.{over_ways}
use Rattle.rules.proofs.Best.{weigh}
use Rattle.rules.proofs.Lookup.{among_found}
use Rattle.rules.proofs.Table.{Weight}
use Rattle.rules.proofs.Revisions.{full_risk, full_more}
use Rattle.rules.proofs.Refusals.{Checked, BestChecked}
use Rattle.rules.specs.Graph.{at_start}
use Rattle.promises.specs.Paths.{is_path, accesses_of}
use Rattle.promises.specs.Ends.{over, over_hits}
use Rattle.promises.proofs.Value.{value, targets_of}
use Rattle.promises.proofs.Safe.{seen}
use Rattle.promises.proofs.Straight.{first_filled, machine_even}
use Rattle.promises.proofs.BestValue.{exact_value}
use Rattle.promises.proofs.BestTables.{path_within}

-- ---- hits are the accesses that are no misses

-- the same for each contents, the same over the ways
ways_same : (N C E : ℕ) (g k : ℕ → ℕ) → ((D : ℕ) → g D ≡ k D) → over_ways N C E g ≡ over_ways N C E k
ways_same N C E g k e = ap₂ ◌+◌ (each (held E)) (ap ((N - size E) *◌) (e C))
  where
    each : (is : List ℕ) → sum_over (λ i. g (without C i)) is ≡ sum_over (λ i. k (without C i)) is
    each [] = refl
    each (i ∷ is) = ap₂ ◌+◌ (e (without C i)) (each is)

-- of L accesses in all, m misses and h hits so far and the tracked accesses bs ahead; every way of every set may be filled
module _ (G : ℕ → ℕ → ℕ) (N Z L : ℕ) (ts : List ℕ) (few : N ≤ 16) (sets : 0 < Z) (few_sets : Z ≤ 16) where
  abbrev weight : Weight
  weight D n F = G n (L - n)

  -- a tracked block is surely held where the contents have it, whatever was accessed directly before
  tracked_has : (b C : ℕ) (r : Bool) → among ts b ≡ true → has C r (find ts b) ≡ has C false (find ts b)
  tracked_has b C r h = go (find ts b) (among_found ts b h)
    where
      go : (x : Place) → x ≢ None → has C r x ≡ has C false x
      go (Some i) n = refl
      go None n = absurd (n refl)

  set_below : (l : Last) (b : ℕ) → (target_of Z ts l b).set < Z
  unfolding target_of
  set_below l b = mod-lt b sets

  hit_tracked : (l : Last) (b C : ℕ) → among ts b ≡ true → hits (target_of Z ts l b) C ≡ has C false (target_of Z ts l b).place
  unfolding target_of
  hit_tracked l b C h = tracked_has b C (is_last l b) h

  hits_are : (l : Last) (bs : List ℕ) (C m h : ℕ) → all_tracked ts bs ≡ true → m + h + length bs ≡ L
      → exact_value (λ D m h. G m h) N (targets_of Z ts l bs) C m h ≡ value weight N (targets_of Z ts l bs) C m (evenly Z N)
  unfolding exact_value value
  hits_are l [] C m h all e = ap (G m) (omega arith)
  hits_are l (b ∷ bs) C m h all e =
      rw (full_risk N Z few few_sets x set C, full_more N Z few few_sets x set, hit_same)
      (go (has C false x.place) (hits_are (Some b) bs C m (suc h) rest (omega arith))
      (λ D. hits_are (Some b) bs (with D x.place) (suc m) h rest (omega arith)))
    where
      x : Target
      x = target_of Z ts l b

      rest : all_tracked ts bs ≡ true
      rest = and_right (among ts b) _ all

      set : x.set < Z
      set = set_below l b

      hit_same : hits x C ≡ has C false x.place
      hit_same = hit_tracked l b C (and_left (among ts b) _ all)

      q : List Target
      q = targets_of Z ts (Some b) bs

      go : (c : Bool) → exact_value (λ D m h. G m h) N q C m (suc h) ≡ value weight N q C m (evenly Z N)
          → ((D : ℕ) → exact_value (λ D m h. G m h) N q (with D x.place) (suc m) h ≡ value weight N q (with D x.place) (suc m) (evenly Z N))
          → cond c (N * exact_value (λ D m h. G m h) N q C m (suc h)) (over_ways N C (shared C x.mates) (λ D. exact_value (λ D m h. G m h) N q (with D x.place) (suc m) h))
          ≡ cond c (N * value weight N q C m (evenly Z N)) (over_ways N C (shared C x.mates) (λ D. value weight N q (with D x.place) (suc m) (evenly Z N)))
      go true hit miss = ap (N *◌) hit
      go false hit miss = ways_same N C (shared C x.mates) _ _ miss

-- ---- every access of a path is tracked

module _ (ts : List ℕ) where
  tracked_append : (p q : List ℕ) → all_tracked ts p ≡ true → all_tracked ts q ≡ true → all_tracked ts (p ++ q) ≡ true
  tracked_append [] q a b = b
  tracked_append (x ∷ p) q a b = both (among ts x) _ (and_left (among ts x) _ a) (tracked_append p q (and_right (among ts x) _ a) b)

  tracked_take : (n : ℕ) (p : List ℕ) → all_tracked ts p ≡ true → all_tracked ts (take n p) ≡ true
  tracked_take zero p a = refl
  tracked_take (suc n) [] a = refl
  tracked_take (suc n) (x ∷ p) a = both (among ts x) _ (and_left (among ts x) _ a) (tracked_take n p (and_right (among ts x) _ a))

  tracked_drop : (n : ℕ) (p : List ℕ) → all_tracked ts p ≡ true → all_tracked ts (drop n p) ≡ true
  tracked_drop zero p a = a
  tracked_drop (suc n) [] a = refl
  tracked_drop (suc n) (x ∷ p) a = tracked_drop n p (and_right (among ts x) _ a)

tracked_path : (i : Input) → all_tracked i.tracked i.accesses ≡ true → (path : List ℕ) → all_tracked i.tracked (accesses_of i path) ≡ true
unfolding accesses_of flat_map run_of
tracked_path i a [] = refl
tracked_path i a (j ∷ path) =
    tracked_append i.tracked (run_of i j) (flat_map (run_of i) path)
    (tracked_take i.tracked (get_or i.lengths j 0) (drop (offset i.lengths j) i.accesses) (tracked_drop i.tracked (offset i.lengths j) i.accesses a))
    (tracked_path i a path)

-- ---- the finished table against the machine

module _ (i : Input) (ok : BestChecked i) (G : ℕ → ℕ → ℕ) where
  -- the machine's sum of what G says of misses and hits where the path p ends
  abbrev pub ends : List ℕ → ℕ
  ends p = total (seen first i.tracked (λ D n F. G n (length p - n))) first i.ways (start i.sets i.ways) p

  pub best_within : ((m n h g : ℕ) → m ≤ n → h ≤ g → G m h ≤ G n g) → (path : List ℕ) → is_path i path ≡ true
      → i.ways ^ length (accesses_of i path) * worth listing (weigh (λ D m h. G m h) G) (best_table i) ≤ whole * ends (accesses_of i path)
  unfolding best_table at_start accesses_of run_of
  best_within grows path h =
      rw (
        machine,
        ← hits_are G i.ways i.sets (length p) i.tracked c.few_ways c.some_sets c.few_sets None p 0 0 0 all (omega arith),
      )
      (path_within i ok.checked path h (λ D m h. G m h) G
      (record { exact_grows = λ C m n h g a b r. grows m n h g a b; open_grows = grows; open_below = λ C m h r. le_refl (G m h) }))
    where
      p : List ℕ
      p = accesses_of i path

      c : Checked i
      c = ok.checked

      all : all_tracked i.tracked p ≡ true
      all = tracked_path i ok.all_tracked_fact path

      -- the machine of the first revision, in which every way may be filled at the start
      machine : ends p ≡ value (λ D n F. G n (length p - n)) i.ways (targets_of i.sets i.tracked None p) 0 0 (evenly i.sets i.ways)
      machine = rw ok.first_revision at (machine_even i c (first_filled i c ok.first_revision) p all (λ D n F. G n (length p - n)))

-- ---- above a number

-- 1 above B
abbrev pub one_above : ℕ → ℕ → ℕ
one_above B n = cond (ltb B n) 1 0

above_grows : (B m n : ℕ) → m ≤ n → one_above B m ≤ one_above B n
above_grows B m n l = go (ltb B m) (ltb B n) refl refl
  where
    go : (a b : Bool) → ltb B m ≡ a → ltb B n ≡ b → cond a 1 0 ≤ cond b 1 0
    go true true p q = le_refl 1
    go true false p q = omega (arith, ltb-true B m p, ltb-false B n q)
    go false b p q = zero-le

worth_above : (count : BestState → ℕ) (f : BestState → ℕ) (B : ℕ) → ((s : BestState) → f s ≡ one_above B (count s)) → (T : List BestState)
    → worth listing f T ≡ above units_of count B T
unfolding above
worth_above count f B e [] = refl
worth_above count f B e (s ∷ T) = ap₂ ◌+◌ (ap (units_of s *◌) (e s) ∙ go (ltb B (count s))) (worth_above count f B e T)
  where
    go : (b : Bool) → units_of s * cond b 1 0 ≡ cond b (units_of s) 0
    go true = omega arith
    go false = omega arith

-- the same for exact and for open states
alike : (G : ℕ → ℕ → ℕ) (s : BestState) → weigh (λ D m h. G m h) G s ≡ G (misses_of s) (hits_of s)
alike G s = go s.exact
  where
    go : (a : Bool) → cond a (G (misses_of s) (hits_of s)) (G (misses_of s) (hits_of s)) ≡ G (misses_of s) (hits_of s)
    go true = refl
    go false = refl

module _ (i : Input) (ok : BestChecked i) (path : List ℕ) (h : is_path i path ≡ true) (B : ℕ) where
  abbrev p : List ℕ
  p = accesses_of i path

  pub misses_within : i.ways ^ length p * misses_above B (best_table i) ≤ whole * count (over B) first i.sets i.ways p
  unfolding count count_from total misses_above
  misses_within =
      rw (← worth_above misses_of (weigh (λ D m h. one_above B m) (λ m h. one_above B m)) B (alike (λ m h. one_above B m)) (best_table i))
      (best_within i ok (λ m h. one_above B m) (λ m n h g a b. above_grows B m n a) path h)

  pub hits_within : i.ways ^ length p * hits_above B (best_table i) ≤ whole * count (over_hits (length p) B) first i.sets i.ways p
  unfolding count count_from total hits_above
  hits_within =
      rw (← worth_above hits_of (weigh (λ D m h. one_above B h) (λ m h. one_above B h)) B (alike (λ m h. one_above B h)) (best_table i))
      (best_within i ok (λ m h. one_above B h) (λ m n h g a b. above_grows B h g b) path h)
