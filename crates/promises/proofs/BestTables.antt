-- What an access, a fold of any two places and a join by any pairing that uses each state's units exactly do to the worth of a best case's table, for weights
-- that grow with the counts: none of them adds to it. So along a path (AnyPath).
use Rattle.std.specs.Prelude.{None}
use mathlib.Core.Path.{◌≡◌, refl, ap}
use mathlib.Core.Bool.{Bool, true, false, cond}
use mathlib.Core.List.{List, [], ◌∷◌, flat_map}
use Prim.Native.Nat.{ℕ, suc, ◌+◌, ◌-◌, ◌*◌, ◌/◌, ◌%◌, ◌^◌, ◌≤◌, ◌<◌}
use native.Mathlib.Nat.{le_refl, le_trans, le_of_eq, add-le-add, mul-le-mul_left, div-add-mod}
use native.Mathlib.Omega.{arith}
use lib.Dec.{eqb}
use lib.ListN.{length}
use borrow.Author.Tests.{eqb-true}
use Rattle.basics.specs.Sums.{sum_over}
use Rattle.basics.proofs.Sums.{sum_append}
use Rattle.rules.specs.declared.Pair.{Pair}
use Rattle.rules.specs.declared.Target.{Target}
use Rattle.rules.specs.declared.BestState.{BestState}
use Rattle.rules.specs.Units.{whole}
use Rattle.rules.specs.Ordered.{remove}
use Rattle.rules.specs.Contents.{has, with, without, shared, held, size, target_of, Last}
use Rattle.rules.specs.Input.{Input}
use Rattle.rules.specs.Shape.{Every, Present, Aimed, BestLoose}
use Rattle.rules.specs.AnyTable.{Match, no_pairings, total, at, Work, access, fold_at, paired, finished}
use Rattle.rules.specs.Best.{misses_of, hits_of, units_of, hit, miss, successors, folds, joins, listing, kind}
use Rattle.rules.proofs.Lists.{every_remove}
use Rattle.rules.proofs.Sets.{aimed}
use Rattle.rules.proofs.Step.{over_ways}
use Rattle.rules.proofs.Listings.{worth_of, worth, worth_add}
use Rattle.rules.proofs.Pairings.{Uses, matched_worth}
use Rattle.rules.proofs.AnyTable.{Keeps, Follows, first_of, second_of, fold_before, fold_after, shaped_at, paired_worth, successors_total}
use Rattle.rules.proofs.Best.{best_lawful, folds_left, folds_right, joins_left, joins_right, weigh, weigh_weight, worth_miss, best_keep, best_start, best_follow}
use Rattle.rules.proofs.Graph.{Vaguer}
use Rattle.rules.proofs.Refusals.{Checked}
use Rattle.promises.specs.Paths.{is_path, accesses_of}
use Rattle.promises.proofs.AnyPath.{along, Carries, path_covers}
use Rattle.promises.proofs.Value.{targets_of}
use Rattle.promises.proofs.BestValue.{ahead_exact, ahead_open, exact_value, Grows, stands_below, ways_least, ahead_grows}

module _ (N Z : ℕ) (ts : List ℕ) (some : 0 < N) (few : N ≤ 16) where
  abbrev In : ℕ → BestState → Type 0
  In M s = Present listing (BestLoose N Z ts M) s

  abbrev keeps : Keeps kind (BestLoose N Z ts)
  keeps = best_keep N Z ts few

  abbrev follows : Follows kind N (Aimed Z ts) (BestLoose N Z ts)
  follows = best_follow N Z ts some few

  -- ---- an access

  module _ (M : ℕ) (x : Target) (aim : Aimed Z ts x) (e : ℕ → ℕ → ℕ → ℕ) (o : ℕ → ℕ → ℕ) (grows : Grows N Z ts e o) where
    abbrev f : BestState → ℕ
    f = weigh e o

    abbrev before : BestState → ℕ
    before = weigh (ahead_exact N x e) (ahead_open N o)

    -- the states that follow one
    one_low : (s : BestState) → BestLoose N Z ts M s → N * worth listing f (successors N x s) ≤ units_of s * before s
    unfolding successors size
    one_low s loose = go s.exact (has C false x.place) refl
      where
        C : ℕ
        C = s.mask

        E : ℕ
        E = shared C x.mates

        m : ℕ
        m = misses_of s

        h : ℕ
        h = hits_of s

        q : ℕ
        q = units_of s / N

        r : ℕ
        r = units_of s % N

        g : ℕ → ℕ
        g D = e (with D x.place) (suc m) h

        W : ℕ
        W = over_ways N C E g

        -- where nothing of the set is held, all ways lead to one successor
        none_held : size E ≡ 0 → W ≡ N * g C
        none_held z = go (held E) z
          where
            every : (d : ℕ) → d ≡ N → 0 + d * g C ≡ N * g C
            every d t = rw t (omega arith)

            go : (is : List ℕ) → length is ≡ 0 → sum_over (λ i. g (without C i)) is + (N - length is) * g C ≡ N * g C
            go [] z = every (N - length {A = ℕ} []) (omega arith)
            go (i ∷ is) z = absurd (omega arith)

        rest : (c : Bool) → eqb (size E) 0 ≡ c → N * (cond c r 0 * g C + cond c 0 r * o (suc m) h) ≤ r * W
        rest true t = rw (none_held (eqb-true (size E) 0 t)) (omega arith)
        rest false t = omega (arith, mul-le-mul_left r (ways_least N Z ts e o grows few x aim C m h loose.small))

        ring : (y : ℕ) → N * y ≤ r * W → N * (W * q + y) ≤ (N * q + r) * W
        ring y t = omega arith

        missing : N * worth listing f (miss N x s) ≤ units_of s * W
        missing =
            rw (worth_miss N x e o s)
            (le_trans (ring _ (rest (eqb (size E) 0) refl)) (le_of_eq (ap (◌* W) (div-add-mod (units_of s) N))))

        go : (a b : Bool) → s.exact ≡ a
            → N * worth listing f (cond a (cond b (hit s ∷ []) (miss N x s)) (s ∷ []))
            ≤ units_of s * cond a (cond b (N * e C m (suc h)) W) (N * o m h)
        go true true t = omega arith
        go true false t = missing
        go false b t = rw t (omega arith)

    pub access_falls : (T : List BestState) → Every (In M) T → total listing T ≤ whole → N * worth listing f (access listing (successors N x) T) ≤ worth listing before T
    unfolding access total flat_map
    access_falls T shaped full =
        rw (worth_add listing best_lawful f (weigh_weight e o) (flat_map (successors N x) T) []
        (omega (arith, successors_total follows M x aim T shaped)))
        (omega (arith, all T shaped))
      where
        all : (T : List BestState) → Every (In M) T → N * worth listing f (flat_map (successors N x) T) ≤ worth listing before T
        all [] h = omega arith
        all (s ∷ T) h =
            rw (sum_append (worth_of listing f) (successors N x s) (flat_map (successors N x) T))
            (omega (arith, one_low s h.0.0, all T h.1))

  -- ---- folds

  module _ (M : ℕ) (e : ℕ → ℕ → ℕ → ℕ) (o : ℕ → ℕ → ℕ) (grows : Grows N Z ts e o) where
    abbrev w : BestState → ℕ
    w = weigh e o

    pub fold_falls : (p : Pair) (v : Work BestState) → Every (In M) v.table → total listing v.table ≤ whole
        → worth listing w (fold_at kind p v).table ≤ worth listing w v.table
    fold_falls p v shaped full =
        rw (fold_after kind best_lawful p v.table full w (weigh_weight e o) v.aside, ← fold_before kind best_lawful p v.table w)
        (omega (
          arith,
          mul-le-mul_left (units_of s) (stands_below N Z ts e o grows M (folds s t) s (folds_left s t) (shape p.fewest v.table shaped)),
          mul-le-mul_left (units_of t) (stands_below N Z ts e o grows M (folds s t) t (folds_right s t) (shape p.partner (remove p.fewest v.table) out)),
        ))
      where
        s : BestState
        s = first_of kind p v.table

        t : BestState
        t = second_of kind p v.table

        shape : (i : ℕ) (T : List BestState) → Every (In M) T → BestLoose N Z ts M (at listing T i)
        shape = shaped_at keeps M

        out : Every (In M) (remove p.fewest v.table)
        out = every_remove (In M) p.fewest v.table shaped

    -- ---- joins

    module _ (S T : List BestState) (a : Every (In M) S) (b : Every (In M) T) (full : total listing S ≤ whole) where
      -- by any pairing, where each pair weighs no more than the state on one side of it
      paired_below : (P : List Match) (side : Match → ℕ) (U : List BestState) → Uses listing side P U → Uses listing (λ p. p.left) P S
          → ((p : Match) → w (joins (at listing S p.left) (at listing T p.right)) ≤ w (at listing U (side p)))
          → worth listing w (paired kind P S T) ≤ worth listing w U
      paired_below P side U u l below =
          rw (matched_worth listing side P U u w, paired_worth kind best_lawful P S T l full w (weigh_weight e o)) (each P)
        where
          each : (P : List Match) → sum_over (λ p. p.units * w (joins (at listing S p.left) (at listing T p.right))) P
              ≤ sum_over (λ p. p.units * w (at listing U (side p))) P
          each [] = le_refl 0
          each (p ∷ P) = add-le-add (mul-le-mul_left p.units (below p)) (each P)

      shape_left : (i : ℕ) → BestLoose N Z ts M (at listing S i)
      shape_left i = shaped_at keeps M i S a

      shape_right : (i : ℕ) → BestLoose N Z ts M (at listing T i)
      shape_right i = shaped_at keeps M i T b

      pub pairing_below : (P : List Match) → Uses listing (λ p. p.left) P S → Uses listing (λ p. p.right) P T
          → (worth listing w (paired kind P S T) ≤ worth listing w S) × (worth listing w (paired kind P S T) ≤ worth listing w T)
      pairing_below P l r = (
        paired_below P (λ p. p.left) S l l (λ p. stands_below N Z ts e o grows M _ _ (joins_left (at listing S p.left) (at listing T p.right)) (shape_left p.left)),
        paired_below P (λ p. p.right) T r l (λ p. stands_below N Z ts e o grows M _ _ (joins_right (at listing S p.left) (at listing T p.right)) (shape_right p.right)),
      )

  -- ---- an access, a fold and a join add nothing, to weights that grow

  -- a weight of exact and one of open states
  abbrev pub Weights : Type 0
  Weights = (ℕ → ℕ → ℕ → ℕ) × (ℕ → ℕ → ℕ)

  abbrev pub weigh_both : Weights → BestState → ℕ
  weigh_both f = weigh f.0 f.1

  abbrev pub ahead_both : Target → Weights → Weights
  ahead_both x f = (ahead_exact N x f.0, ahead_open N f.1)

  pub best_carry : Carries kind N (Aimed Z ts) (BestLoose N Z ts) weigh_both (λ f. Grows N Z ts f.0 f.1) ahead_both (λ a b. b ≤ a)
  best_carry =
      record {
        follows = follows;
        same = le_refl;
        onward = λ a b c l m. le_trans m l;
        times = λ n a b l. mul-le-mul_left n l;
        good_ahead = λ x f aim grows. ahead_grows N Z ts f.0 f.1 grows few x aim;
        by_access = λ M x f T aim grows shaped full. access_falls M x aim f.0 f.1 grows T shaped full;
        by_fold = λ M f p v grows shaped full. fold_falls M f.0 f.1 grows p v shaped full;
        by_pairing = λ M f S T grows a b full Q left right. pairing_below M f.0 f.1 grows S T a b full Q left right;
      }

  -- what the exact weight is before accesses is the value along them
  exact_along : (f : Weights) (p : List Target) → (along ahead_both p f).0 ≡ exact_value f.0 N p
  unfolding exact_value
  exact_along f [] = refl
  exact_along f (x ∷ p) = ap {B = ℕ → ℕ → ℕ → ℕ} (λ (g : ℕ → ℕ → ℕ → ℕ) C m h. ahead_exact N x g C m h) (exact_along f p)

-- ---- along a path

-- every path from first node to last leads from the start to the finished table; the block accessed directly before changes nothing
pub path_within : (i : Input) → Checked i → (path : List ℕ) → is_path i path ≡ true → (e : ℕ → ℕ → ℕ → ℕ) (o : ℕ → ℕ → ℕ) → Grows i.ways i.sets i.tracked e o
    → i.ways ^ length (accesses_of i path) * worth listing (weigh e o) (finished kind i).table
    ≤ whole * exact_value e i.ways (targets_of i.sets i.tracked None (accesses_of i path)) 0 0 0
unfolding target_of
path_within i ok path h e o grows =
    rw (← exact_along N Z ts ok.some_ways ok.few_ways (e, o) (targets_of Z ts None (accesses_of i path)))
    (path_covers no_pairings i ok (best_carry N Z ts ok.some_ways ok.few_ways) (best_start N Z ts ok.few_ways) (aimed Z ts ok.some_sets ok.few_sets) vague path h (e, o) grows)
  where
    N : ℕ
    N = i.ways

    Z : ℕ
    Z = i.sets

    ts : List ℕ
    ts = i.tracked

    both : Target → Weights N Z ts ok.some_ways ok.few_ways → Weights N Z ts ok.some_ways ok.few_ways
    both = ahead_both N Z ts ok.some_ways ok.few_ways

    alike : (l k : Last) (bs : List ℕ) (f : Weights N Z ts ok.some_ways ok.few_ways) → along both (targets_of Z ts l bs) f ≡ along both (targets_of Z ts k bs) f
    alike l k [] f = refl
    alike l k (b ∷ bs) f = refl

    vague : (f : Weights N Z ts ok.some_ways ok.few_ways) → Grows N Z ts f.0 f.1 → (M : ℕ) (l k : Last) → Vaguer l k → (bs : List ℕ) (T : List BestState)
        → Every (In N Z ts ok.some_ways ok.few_ways M) T
        → worth listing (weigh_both N Z ts ok.some_ways ok.few_ways (along both (targets_of Z ts l bs) f)) T
        ≤ worth listing (weigh_both N Z ts ok.some_ways ok.few_ways (along both (targets_of Z ts k bs) f)) T
    vague f g M l k v bs T shaped = rw (alike l k bs f) (le_refl _)
