-- What is left over of states, and one way's part of each. Of a state that is a hit, or fills an empty way, or holds no block of the set nothing is left over; of the others the remainder is, and it
-- goes to the accessed block only: so it is for a whole run, whose states are alike. The runs of a table may be taken in any order. Of the parts each is right once it is written, and none that is right
-- is lost when others are.
use mathlib.Core.Path.{◌≡◌, refl, sym, ap, ap₂, ◌∙◌, subst}
use mathlib.Core.Logic.{◌≢◌, ◌⊎◌, inl, inr}
use mathlib.Core.Bool.{Bool, true, false, cond, ◌||◌, true≢false}
use mathlib.Core.List.{List, [], ◌∷◌, ◌++◌, map, flat_map, append_assoc, append-nil, map-append}
use Prim.Native.Nat.{ℕ, zero, suc, ◌+◌, ◌*◌, ◌/◌, ◌%◌, ◌≤◌, ◌<◌}
use native.Mathlib.Nat.{le_refl, le_trans, le_of_suc-le-suc, mod-le}
use native.Mathlib.Numerals.{add-one}
use native.Mathlib.Decide.{ℕ_discrete}
use native.Mathlib.Omega.{arith}
use lib.Dec.{eqb}
use lib.ListN.{length, get_or, set, take, drop, take-append-drop, length-map}
use lib.Seq.{take_all, take-suc, get_or-take, get_or-drop, get_or-set_same, get_or-set_other}
use borrow.Author.Tests.{ltb-false}
use Rattle.basics.specs.Sums.{sum_over}
use Rattle.basics.proofs.Sums.{sum_append, sum_each}
use Rattle.rules.specs.declared.Filled.{Filled}
use Rattle.rules.specs.declared.State.{State}
use Rattle.rules.specs.declared.Target.{Target}
use Rattle.rules.specs.Contents.{bit, hits, with, shared}
use Rattle.rules.specs.Shape.{Every}
use Rattle.rules.specs.Step.{at_risk, left_over}
use Rattle.rules.specs.Table.{listing, state, units_of, rising, add, no_state, state_at}
use Rattle.rules.specs.Units.{whole}
use Rattle.rules.proofs.Filling.{no_more}
use Rattle.rules.proofs.Lists.{every_append, every_weaker}
use Rattle.rules.proofs.Table.{rising_is, rising_add, add_append, length_add_all}
use Rattle.states.proofs.Steps.{over_rest}
use Rattle.words.specs.Tables.{table_of}
use Rattle.words.proofs.Tables.{row_at}
use Rattle.tables.proofs.Following.{take_next}
use Rattle.tables.proofs.Insertion.{add_grows}
use Rattle.tables.proofs.Scratch.{stretch_long}
use Rattle.heads.specs.Head.{length_in, start_in, streams_in}
use Rattle.estimate.specs.Merging.{alone, comes, fills, InRun}
use Rattle.estimate.specs.Rooms.{InScratch}
use Rattle.estimate.specs.Sharing.{share_of, CanLose}
use Rattle.estimate.specs.Splitting.{rest_in, SplitIn, Parted}
use Rattle.estimate.specs.ToCome.{run_in, mask_in, Whole, Runs}
use Rattle.estimate.proofs.Adding.{add_nothing, add_none}
use Rattle.estimate.proofs.Mixing.{all_mapped, all_summed}
use Rattle.estimate.proofs.RunListing.{state_there}
use Rattle.estimate.proofs.Runs.{state_has}
use Rattle.estimate.proofs.StreamParts.{keep_comes}

-- ---- sums and lists of a table's states

module _ (g : State → ℕ) (S : List State) where
  pub sum_next : (i : ℕ) (s : State) → i < length S → s ≡ state_at S i → sum_over g (take i S) + g s ≡ sum_over g (take (i + 1) S)
  sum_next i s l e = omega (arith, sum_append g (take i S) (s ∷ [])) ∙ ap (sum_over g) (take_next listing S i s l e)

  pub sum_all : (m : ℕ) → length S ≤ m → sum_over g (take m S) ≡ sum_over g S
  sum_all m l = ap (sum_over g) (take_all m S l)

-- no more than so many for each
pub sum_to : (g : State → ℕ) (b : ℕ) (S : List State) → Every (λ s. g s ≤ b) S → (i : ℕ) → sum_over g (take i S) ≤ i * b
sum_to g b S h zero = omega arith
sum_to g b [] h (suc i) = omega arith
sum_to g b (s ∷ S) h (suc i) = omega (arith, h.0, sum_to g b S h.1 i)

pub sum_same : (f g : State → ℕ) (S : List State) → Every (λ s. f s ≡ g s) S → sum_over f S ≡ sum_over g S
sum_same f g [] h = refl
sum_same f g (s ∷ S) h = ap₂ ◌+◌ h.0 (sum_same f g S h.1)

pub map_same : (f g : State → State) (S : List State) → Every (λ s. f s ≡ g s) S → map f S ≡ map g S
map_same f g [] h = refl
map_same f g (s ∷ S) h = ap₂ ◌∷◌ h.0 (map_same f g S h.1)

-- ---- what is left over of a state

module _ (N : ℕ) (x : Target) (s : State) where
  -- what is left over are the units that go to the accessed block only
  pub alone_units : units_of (alone N x s) ≡ left_over N x s
  unfolding alone
  alone_units = refl

  -- nothing, where the stream that keeps has nothing of such states: they are hits, or fill an empty way
  pub left_none : comes (hits x s.mask) (fills N x s) (shared s.mask x.mates) 16 ≡ false → left_over N x s ≡ 0
  unfolding comes left_over at_risk
  left_none e = go (hits x s.mask) (fills N x s) refl refl e
    where
      go : (h f : Bool) → hits x s.mask ≡ h → fills N x s ≡ f → comes h f (shared s.mask x.mates) 16 ≡ false → left_over N x s ≡ 0
      go true f p q e = rw p
      go false true p q e = rw (p, q)
      go false false p q e = absurd (true≢false e)

  -- nor where no block of the set is held
  pub left_safe : shared s.mask x.mates ≡ 0 → left_over N x s ≡ 0
  unfolding left_over at_risk
  left_safe e = go (hits x s.mask) (fills N x s) refl refl
    where
      go : (h f : Bool) → hits x s.mask ≡ h → fills N x s ≡ f → left_over N x s ≡ 0
      go true f p q = rw p
      go false true p q = rw (p, q)
      go false false p q = rw (p, q, e)

  -- and never more than there is
  left_few : left_over N x s ≤ units_of s
  unfolding left_over
  left_few = go (hits x s.mask || eqb (at_risk N x s.filled s.mask) 0)
    where
      go : (b : Bool) → cond b 0 (units_of s % N) ≤ units_of s
      go true = omega arith
      go false = mod-le (units_of s) N

  -- a state that can lose a block
  module _ (can : CanLose N x s) where
    pub left_rest : left_over N x s ≡ units_of s % N
    unfolding at_risk
    left_rest = sym (over_rest N x s can.0 (shared s.mask x.mates) (rw can.1) can.2 (units_of s % N) refl)

    pub alone_rest : N ≤ 16 → x.set < 16 → alone N x s ≡ rest_in N (with 0 x.place) s
    unfolding alone
    alone_rest few near =
        ap₂ (λ (F : Filled) (u : ℕ). state (with 0 x.place) (suc s.misses) F u) (no_more N few x.set near s.filled (ltb-false _ N can.1)) left_rest

    -- the stream that keeps has something of it
    pub loses_keeps : comes (hits x s.mask) (fills N x s) (shared s.mask x.mates) 16 ≡ true
    unfolding comes
    loses_keeps = rw (can.0, can.1)

-- the remainder in the scratch
pub rest_put : (N o : ℕ) (s : State) (u : ℕ) → u ≡ units_of s % N → (X : List State) (r : ℕ) (T T' : List State) → InScratch (add (share_of o s u ∷ []) X) r T T' → InScratch (add (rest_in N o s ∷ []) X) r T T'
rest_put N o s u e X r T T' h = rw (← e) h

-- ---- parts

module _ (N from start : ℕ) (W : List State) where
  abbrev Done : List ℕ → ℕ → Type 0
  Done Q i = (j : ℕ) → j < i → get_or Q (start + j) 0 ≡ units_of (state_at W (from + start + j)) / N

  -- one part more
  module _ (Q₀ Q : List ℕ) (i q : ℕ) (l : start + i < length Q) (e : q ≡ units_of (state_at W (from + start + i)) / N) where
    pub part_done : Done Q i → Done (set Q (start + i) q) (i + 1)
    part_done h j k = go (ℕ_discrete j i)
      where
        go : Dec (j ≡ i) → get_or (set Q (start + i) q) (start + j) 0 ≡ units_of (state_at W (from + start + j)) / N
        go (yes s) = rw s (get_or-set_same Q (start + i) q 0 l ∙ e)
        go (no d) = get_or-set_other Q (start + i) (start + j) q 0 (λ s. d (omega arith)) ∙ h j (omega arith)

    pub part_kept : Parted N from W Q₀ Q → Parted N from W Q₀ (set Q (start + i) q)
    part_kept h j = go (ℕ_discrete j (start + i))
      where
        there : from + start + i ≡ from + (start + i)
        there = omega arith

        old : j ≢ start + i → (get_or Q j 0 ≡ get_or Q₀ j 0) ⊎ (get_or Q j 0 ≡ units_of (state_at W (from + j)) / N)
            → (get_or (set Q (start + i) q) j 0 ≡ get_or Q₀ j 0) ⊎ (get_or (set Q (start + i) q) j 0 ≡ units_of (state_at W (from + j)) / N)
        old d (inl p) = inl (get_or-set_other Q (start + i) j q 0 d ∙ p)
        old d (inr p) = inr (get_or-set_other Q (start + i) j q 0 d ∙ p)

        go : Dec (j ≡ start + i) → (get_or (set Q (start + i) q) j 0 ≡ get_or Q₀ j 0) ⊎ (get_or (set Q (start + i) q) j 0 ≡ units_of (state_at W (from + j)) / N)
        go (yes s) = inr (rw s (get_or-set_same Q (start + i) q 0 l ∙ e ∙ ap (λ (p : ℕ). units_of (state_at W p) / N) there))
        go (no d) = old d (h j)

pub parts_same : (N from : ℕ) (W : List State) (Q : List ℕ) → Parted N from W Q Q
parts_same N from W Q j = inl refl

flat_append : (f : ℕ → List State) (hs gs : List ℕ) → flat_map f (hs ++ gs) ≡ flat_map f hs ++ flat_map f gs
unfolding flat_map
flat_append f [] gs = refl
flat_append f (h ∷ hs) gs = ap (f h ++◌) (flat_append f hs gs) ∙ sym (append_assoc (f h) (flat_map f hs) (flat_map f gs))

-- ---- a run in its table

module _ (from m : ℕ) (W : List State) where
  abbrev table : List State
  table = take m (drop from W)

  -- the parts of a run, written
  pub split_done : (N : ℕ) (x : Target) (Q : List ℕ) (h start n : ℕ) → start ≡ start_in h → n ≡ length_in h → start_in h + length_in h ≤ m
      → ((j : ℕ) → j < n → get_or Q (start + j) 0 ≡ units_of (state_at W (from + start + j)) / N) → SplitIn N x table Q h
  split_done N x Q h start n e d l done i k can =
      ap (λ (j : ℕ). get_or Q (j + i) 0) (sym e) ∙ done i (omega arith) ∙ ap (λ (s : State). units_of s / N) (ap (state_at W) there ∙ sym (state_there W from m (start_in h + i) (omega arith)))
    where
      there : from + start + i ≡ from + (start_in h + i)
      there = omega arith

  -- a part that was right stays so
  pub split_kept : (N : ℕ) (x : Target) (Q Q' : List ℕ) → Parted N from W Q Q' → (T : List State) → table ≡ T → (h : ℕ) → start_in h + length_in h ≤ m → SplitIn N x T Q h → SplitIn N x T Q' h
  split_kept N x Q Q' kept T is h l = subst (λ (T : List State). SplitIn N x T Q h → SplitIn N x T Q' h) is (λ split i k can. go i k (split i k can) (kept (start_in h + i)))
    where
      go : (i : ℕ) → i < length_in h → get_or Q (start_in h + i) 0 ≡ units_of (state_at table (start_in h + i)) / N
          → (get_or Q' (start_in h + i) 0 ≡ get_or Q (start_in h + i) 0) ⊎ (get_or Q' (start_in h + i) 0 ≡ units_of (state_at W (from + (start_in h + i))) / N)
          → get_or Q' (start_in h + i) 0 ≡ units_of (state_at table (start_in h + i)) / N
      go i k split (inl e) = e ∙ split
      go i k split (inr e) = e ∙ ap (λ (s : State). units_of s / N) (sym (state_there W from m (start_in h + i) (omega arith)))

-- the contents of its first state, as they are read
pub mask_there : (from m : ℕ) (ws : List ℕ) (h start : ℕ) → start ≡ start_in h → start_in h < m → (from + m) * 5 ≤ length ws → mask_in (take m (drop from (table_of ws))) h ≡ get_or ws ((from + start) * 5) 0
mask_there from m ws h start e l room =
    ap (λ (s : State). s.mask) (state_there (table_of ws) from m (start_in h) l ∙ row_at ws (from + start_in h) no_state (omega arith)) ∙ ap (λ (j : ℕ). get_or ws ((from + j) * 5) 0) (sym e)

-- ---- a run of which nothing has come

module _ (N : ℕ) (x : Target) (T : List State) (h : ℕ) where
  -- none of it can lose a block, and nothing of it is left over
  abbrev Still : State → Type 0
  Still s = (left_over N x s ≡ 0) × (CanLose N x s → ⊥)

  module _ (still : Every Still (run_in T h)) where
    pub still_added : (X : List State) → add (map (alone N x) (run_in T h)) X ≡ X
    still_added X = add_none (alone N x) (run_in T h) (every_weaker Still (λ s. units_of (alone N x s) ≡ 0) (λ s p. alone_units N x s ∙ p.0) (run_in T h) still) X

    pub still_left : sum_over (left_over N x) (run_in T h) ≡ 0
    still_left = sum_same (left_over N x) (λ s. 0) (run_in T h) (every_weaker Still (λ s. left_over N x s ≡ 0) (λ s p. p.0) (run_in T h) still) ∙ sum_each 0 (run_in T h) ∙ omega arith

    pub still_split : start_in h + length_in h ≤ length T → (Q : List ℕ) → SplitIn N x T Q h
    still_split inside Q i l can =
        absurd
        ((state_has Still (run_in T h) i (omega (arith, l, stretch_long (start_in h) (length_in h) T inside)) still).1
        (subst (CanLose N x) (sym (get_or-take (length_in h) (drop (start_in h) T) i no_state l ∙ get_or-drop (start_in h) T i no_state)) can))

  module _ (whole : Whole N x T h) where
    -- as the head says of all
    pub still_kept : bit (streams_in h) 16 ≡ false → Every Still (run_in T h)
    still_kept e = every_weaker (InRun N x (mask_in T h) (fills N x (state_at T (start_in h)))) Still each (run_in T h) whole.0.alike
      where
        each : (s : State) → InRun N x (mask_in T h) (fills N x (state_at T (start_in h))) s → Still s
        each s (p, q) =
            let none : comes (hits x s.mask) (fills N x s) (shared s.mask x.mates) 16 ≡ false = rw (p, q) (sym (whole.1 16 (omega arith)) ∙ e) in
            (left_none N x s none, λ can. absurd (true≢false (sym (loses_keeps N x s can) ∙ none)))

    -- or as the contents do
    pub still_safe : shared (mask_in T h) x.mates ≡ 0 → Every Still (run_in T h)
    still_safe e = every_weaker (InRun N x (mask_in T h) (fills N x (state_at T (start_in h)))) Still each (run_in T h) whole.0.alike
      where
        each : (s : State) → InRun N x (mask_in T h) (fills N x (state_at T (start_in h))) s → Still s
        each s (p, q) = let none : shared s.mask x.mates ≡ 0 = rw p e in (left_safe N x s none, λ can. can.2 none)

    -- or all of it can
    pub run_loses : bit (streams_in h) 16 ≡ true → shared (mask_in T h) x.mates ≢ 0 → Every (CanLose N x) (run_in T h)
    run_loses e n = every_weaker (InRun N x (mask_in T h) (fills N x (state_at T (start_in h)))) (CanLose N x) each (run_in T h) whole.0.alike
      where
        misses : (hits x (mask_in T h) ≡ false) × (fills N x (state_at T (start_in h)) ≡ false)
        misses = keep_comes _ _ _ 16 (sym (whole.1 16 (omega arith)) ∙ e) refl

        each : (s : State) → InRun N x (mask_in T h) (fills N x (state_at T (start_in h))) s → CanLose N x s
        each s (p, q) = (ap (hits x) p ∙ misses.0, q ∙ misses.1, λ z. n (sym (ap (λ (C : ℕ). shared C x.mates) p) ∙ z))

pub loses_added : (N : ℕ) (x : Target) → N ≤ 16 → x.set < 16 → (o : ℕ) → o ≡ with 0 x.place → (S : List State) → Every (CanLose N x) S → map (rest_in N o) S ≡ map (alone N x) S
loses_added N x few near o e S h =
    map_same (rest_in N o) (alone N x) S
    (every_weaker (CanLose N x) (λ s. rest_in N o s ≡ alone N x s) (λ s can. sym (alone_rest N x s can few near ∙ ap (λ (o : ℕ). rest_in N o s) (sym e))) S h)

pub loses_left : (N : ℕ) (x : Target) (S : List State) → Every (CanLose N x) S → sum_over (λ s. units_of s % N) S ≡ sum_over (left_over N x) S
loses_left N x S h = sum_same (λ s. units_of s % N) (left_over N x) S (every_weaker (CanLose N x) (λ s. units_of s % N ≡ left_over N x s) (λ s can. sym (left_rest N x s can)) S h)

-- ---- head by head

module _ (T : List State) (hs : List ℕ) where
  -- the states of the runs of the first i heads
  abbrev pub runs_to : ℕ → List State
  runs_to i = flat_map (run_in T) (take i hs)

  -- one head more
  module _ (i h : ℕ) (l : i < length hs) (e : h ≡ get_or hs i 0) where
    one_more_lem : take (i + 1) hs ≡ take i hs ++ (h ∷ [])
    one_more_lem = ap (λ (n : ℕ). take n hs) (add-one i) ∙ take-suc hs i 0 l ∙ ap (λ (g : ℕ). take i hs ++ (g ∷ [])) (sym e)

    run_more : runs_to (i + 1) ≡ runs_to i ++ run_in T h
    unfolding flat_map
    run_more = ap (flat_map (run_in T)) one_more_lem ∙ flat_append (run_in T) (take i hs) (h ∷ []) ∙ ap (runs_to i ++◌) (append-nil (run_in T h))

    pub rests_next : (f : State → State) → add (map f (run_in T h)) (add (map f (runs_to i)) []) ≡ add (map f (runs_to (i + 1))) []
    rests_next f = sym (ap (λ (S : List State). add S []) (ap (map f) run_more ∙ map-append f (runs_to i) (run_in T h)) ∙ add_append (map f (runs_to i)) (map f (run_in T h)) [])

    pub left_next : (g : State → ℕ) → sum_over g (runs_to i) + sum_over g (run_in T h) ≡ sum_over g (runs_to (i + 1))
    left_next g = sym (ap (sum_over g) run_more ∙ sum_append g (runs_to i) (run_in T h))

    pub every_next : (P : ℕ → Type 0) → Every P (take i hs) → P h → Every P (take (i + 1) hs)
    every_next P b p = subst (λ (gs : List ℕ). Every P gs) (sym one_more_lem) (every_append P (take i hs) (h ∷ []) b (p, tt))

  pub rests_none : (f : State → State) → add (map f (runs_to 0)) [] ≡ []
  unfolding flat_map
  rests_none f = add_nothing []

  pub left_none_yet : (g : State → ℕ) → sum_over g (runs_to 0) ≡ 0
  unfolding flat_map
  left_none_yet g = refl

  pub rests_rising : (f : State → State) (i : ℕ) → rising (add (map f (runs_to i)) []) ≡ true
  rests_rising f i = rising_is (add (map f (runs_to i)) []) (rising_add (map f (runs_to i)) [] tt)

  -- the runs are the table, so that no more comes of the first of them
  module _ (N : ℕ) (x : Target) (runs : Runs N x T hs) where
    pub rests_all : (i : ℕ) → length hs ≤ i → (f : State → State) → add (map f (runs_to i)) [] ≡ add (map f T) []
    rests_all i l f = ap (λ (gs : List ℕ). add (map f (flat_map (run_in T) gs)) []) (take_all i hs l) ∙ all_mapped T N x hs runs f []

    pub left_all : (i : ℕ) → length hs ≤ i → (g : State → ℕ) → sum_over g (runs_to i) ≡ sum_over g T
    left_all i l g = ap (λ (gs : List ℕ). sum_over g (flat_map (run_in T) gs)) (take_all i hs l) ∙ all_summed T N x hs runs g

    pub head_whole : (i : ℕ) → i < length hs → Whole N x T (get_or hs i 0)
    head_whole i l = there hs i l runs.heads
      where
        there : (gs : List ℕ) (i : ℕ) → i < length gs → Every (Whole N x T) gs → Whole N x T (get_or gs i 0)
        there [] i l e = absurd (omega arith)
        there (g ∷ gs) zero l e = e.0
        there (g ∷ gs) (suc i) l e = there gs i (le_of_suc-le-suc l) e.1

    abbrev rest : ℕ → List State
    rest i = flat_map (run_in T) (drop i hs)

    runs_all : (i : ℕ) → runs_to i ++ rest i ≡ flat_map (run_in T) hs
    runs_all i = sym (flat_append (run_in T) (take i hs) (drop i hs)) ∙ ap (flat_map (run_in T)) (take-append-drop i hs)

    pub rests_room : (f : State → State) (i n : ℕ) → n ≡ length (add (map f (runs_to i)) []) → n ≤ length T
    rests_room f i n e =
        omega (
          arith,
          add_grows listing (map f (rest i)) (add (map f (runs_to i)) []),
          ap length (sym (add_append (map f (runs_to i)) (map f (rest i)) []) ∙ ap (λ (S : List State). add S []) (sym (map-append f (runs_to i) (rest i)) ∙ ap (map f) (runs_all i)) ∙ all_mapped T N x hs runs f []),
          length_add_all (map f T) [],
          length-map T f,
        )

    pub left_room : Every (λ s. units_of s ≤ whole) T → (i : ℕ) → sum_over (left_over N x) (runs_to i) ≤ length T * whole
    left_room few i =
        omega (
          arith,
          sym (sum_append (left_over N x) (runs_to i) (rest i)) ∙ ap (sum_over (left_over N x)) (runs_all i) ∙ all_summed T N x hs runs (left_over N x),
          sym (sum_all (left_over N x) T (length T) (le_refl (length T))),
          sum_to (left_over N x) whole T (every_weaker (λ s. units_of s ≤ whole) (λ s. left_over N x s ≤ whole) (λ s p. le_trans (left_few N x s) p) T few) (length T),
        )
