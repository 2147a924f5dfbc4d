-- What is to come put head by head. All that is still to come of the heads, added to what has come, is the same at every turn: what comes next of a head goes over from the one to the other,
-- and the head goes on to some place among the others or is done. The streams that are left become fewer.
use mathlib.Core.Path.{◌≡◌, refl, sym, ap, ◌∙◌, subst}
use mathlib.Core.Logic.{◌≢◌}
use mathlib.Core.Bool.{Bool, true, cond, true≢false}
use mathlib.Core.List.{List, [], ◌∷◌, ◌++◌, map, flat_map}
use Prim.Native.Nat.{ℕ, zero, suc, ◌+◌, ◌-◌, ◌/◌, ◌≤◌, ◌<◌}
use native.Mathlib.Nat.{le_of_suc-le-suc, le_trans}
use native.Mathlib.Decide.{dec_lt}
use native.Mathlib.Omega.{arith}
use lib.Dec.{ltb}
use lib.ListN.{length, take, drop, get_or, take-append-drop, length-take, length-drop, drop_of_length-le}
use lib.Seq.{drop-cons, get_or-take, get_or-drop, length-take-le}
use borrow.Author.Tests.{lt-ltb, le-ltb}
use Rattle.basics.specs.Sums.{sum_over}
use Rattle.rules.specs.declared.State.{State}
use Rattle.rules.specs.declared.Target.{Target}
use Rattle.rules.specs.Contents.{with}
use Rattle.rules.specs.Ordered.{before}
use Rattle.rules.specs.Shape.{Every, Listed}
use Rattle.rules.specs.Table.{listing, order, rising, add, state_at, no_state, units_of}
use Rattle.rules.proofs.Lists.{every_take, every_weaker}
use Rattle.rules.proofs.Table.{Rising, rising_so, rising_is, rising_add, add_append}
use Rattle.tables.proofs.Insertion.{add_grows}
use Rattle.tables.proofs.Scratch.{scratch_more, slot_same}
use Rattle.heads.specs.Head.{streams_in, stream_in, length_in, start_in, contents_in, next_head}
use Rattle.heads.specs.Row.{moved_on}
use Rattle.heads.proofs.Reading.{next_fits}
use Rattle.heads.proofs.Rows.{Moved, moved}
use Rattle.estimate.specs.Following.{Workable}
use Rattle.estimate.specs.Going.{Goes, Waits}
use Rattle.estimate.specs.Merging.{part, InRun, fills}
use Rattle.estimate.specs.Rooms.{InScratch}
use Rattle.estimate.specs.Sharing.{CanLose}
use Rattle.estimate.specs.ToCome.{run_in, mask_in, to_come}
use Rattle.estimate.proofs.Adding.{add_nothing}
use Rattle.estimate.proofs.Deciding.{less_held}
use Rattle.estimate.proofs.StillToCome.{among_first}
use Rattle.estimate.proofs.RunHeads.{contents_is, coming_all, next_less, then_start, then_length, head_goes_on, head_comes, head_done}
use Rattle.estimate.proofs.Mixing.{among_every, sum_first}
use Rattle.estimate.proofs.Runs.{state_has}
use Rattle.estimate.proofs.RunListing.{state_there, run_there}

-- ---- contents below

-- of two states the one that stands before has no higher contents
mask_before : (s t : State) → order s t ≡ before → s.mask ≤ t.mask
mask_before s t e = go (dec_lt t.mask s.mask)
  where
    go : Dec (t.mask < s.mask) → s.mask ≤ t.mask
    go (yes l) = absurd (true≢false (sym (less_held s t (lt-ltb t.mask s.mask l)) ∙ rw e refl))
    go (no n) = omega arith

-- where the contents of one state are below D, so are those of all before it
masks_below : (D : ℕ) (X : List State) → Rising X → (i : ℕ) → i < length X → (state_at X i).mask < D → Every (λ t. t.mask < D) (take (suc i) X)
masks_below D [] h i l b = absurd (omega arith)
masks_below D (t ∷ X) h zero l b = (b, tt)
masks_below D (t ∷ X) h (suc i) l b =
    (omega (arith, mask_before t (state_at X i) (state_has (λ u. order t u ≡ before) X i (le_of_suc-le-suc l) h.0), b), masks_below D X h.1 i (le_of_suc-le-suc l) b)

-- the same in the scratch, of the first n states of W behind the slots: of `at` of them, where the last of these has such contents
pub below_there : (D : ℕ) (W : List State) (n at : ℕ) → 4096 + n ≤ length W → rising (take n (drop 4096 W)) ≡ true → at ≢ 0 → at ≤ n → (state_at W (4095 + at)).mask < D
    → Every (λ t. t.mask < D) (take at (take n (drop 4096 W)))
below_there D W n zero l h some k b = absurd (some refl)
below_there D W n (suc i) l h some k b =
    masks_below D X (rising_so X h) i (omega (arith, length-take-le n (drop 4096 W) (omega (arith, length-drop 4096 W)))) (subst (λ (t : State). t.mask < D) here b)
  where
    X : List State
    X = take n (drop 4096 W)

    here : state_at W (4095 + suc i) ≡ state_at X i
    here = let there : 4095 + suc i ≡ 4096 + i = omega arith in ap (state_at W) there ∙ sym (get_or-take n (drop 4096 W) i no_state (omega arith) ∙ get_or-drop 4096 W i no_state)

-- ---- a stretch of a table

every_rear : (P : State → Type 0) (R S : List State) → Every P (R ++ S) → Every P S
every_rear P [] S h = h
every_rear P (t ∷ R) S h = every_rear P R S h.1

rising_rear : (R S : List State) → Rising (R ++ S) → Rising S
rising_rear [] S h = h
rising_rear (t ∷ R) S h = rising_rear R S h.1

rising_front : (n : ℕ) (T : List State) → Rising T → Rising (take n T)
rising_front zero T h = tt
rising_front (suc n) [] h = tt
rising_front (suc n) (t ∷ T) h = (every_take (λ u. order t u ≡ before) n T h.0, rising_front n T h.1)

module _ (T : List State) (s n : ℕ) where
  pub stretch_has : (P : State → Type 0) → Every P T → Every P (take n (drop s T))
  stretch_has P h = every_take P n (drop s T) (every_rear P (take s T) (drop s T) (subst (Every P) (sym (take-append-drop s T)) h))

  stretch_rises : rising T ≡ true → rising (take n (drop s T)) ≡ true
  stretch_rises h = rising_is (take n (drop s T)) (rising_front n (drop s T) (rising_rear (take s T) (drop s T) (subst Rising (sym (take-append-drop s T)) (rising_so T h))))

-- the parts of a stretch, one by one
parts_are : (g : State → ℕ) (S : List State) (Q : List ℕ) → length Q ≡ length S → ((i : ℕ) → i < length S → get_or Q i 0 ≡ g (state_at S i)) → Q ≡ map g S
parts_are g [] [] e h = refl
parts_are g [] (q ∷ Q) e h = absurd (omega arith)
parts_are g (s ∷ S) [] e h = absurd (omega arith)
parts_are g (s ∷ S) (q ∷ Q) e h = ap (λ (r : ℕ). r ∷ Q) (h 0 (omega arith)) ∙ ap (g s ∷◌) (parts_are g S Q (omega arith) (λ i l. h (suc i) (omega arith)))

-- ---- a head that goes on waits as it did

waits_on : (N : ℕ) (x : Target) (T : List State) (Q : List ℕ) (h : ℕ) → Waits N x T Q h → stream_in h < 16 → Waits N x T Q (next_head (mask_in T h) (with 0 x.place) h)
waits_on N x T Q h (head, split) k = (head_goes_on N x T h head k, subst₂ Parts (sym (then_start N x T h head)) (sym (then_length N x T h head)) split)
  where
    Parts : ℕ → ℕ → Type 0
    Parts s n = (i : ℕ) → i < n → CanLose N x (state_at T (s + i)) → get_or Q (s + i) 0 ≡ units_of (state_at T (s + i)) / N

    subst₂ : (P : ℕ → ℕ → Type 0) {a b c d : ℕ} → a ≡ b → c ≡ d → P a c → P b d
    subst₂ P {c = c} e f p = subst (P _) f (subst (λ (k : ℕ). P k c) e p)

-- ---- what comes next of a head

-- h is a head of the m states at place `from` of W, whose parts are in Q
module _ (N : ℕ) (x : Target) (W : List State) (from m : ℕ) (Q : List ℕ) (h : ℕ) (has : length (take m (drop from W)) ≡ m) (few : m ≤ 64) (inside : from + m ≤ 4096) (long : 64 ≤ length Q)
    (waits : Waits N x (take m (drop from W)) Q h) where
  abbrev T : List State
  T = take m (drop from W)

  -- its run
  abbrev R : List State
  R = run_in T h

  within : start_in h + length_in h ≤ m
  within = omega (arith, waits.0.inside, has)

  there : R ≡ take (length_in h) (drop (from + start_in h) W)
  there = run_there W from m (start_in h) (length_in h) within

  state_in : (i : ℕ) → i < length_in h → state_at R i ≡ state_at T (start_in h + i)
  state_in i l = get_or-take (length_in h) (drop (start_in h) T) i no_state l ∙ get_or-drop (start_in h) T i no_state

  run_long : length R ≡ length_in h
  run_long = length-take-le (length_in h) (drop (start_in h) T) (omega (arith, length-drop (start_in h) T, within, has))

  split : Every (CanLose N x) R → take (length_in h) (drop (start_in h) Q) ≡ map (λ s. units_of s / N) R
  split lose =
      parts_are (λ s. units_of s / N) R (take (length_in h) (drop (start_in h) Q))
      (length-take-le (length_in h) (drop (start_in h) Q) (omega (arith, length-drop (start_in h) Q, within)) ∙ sym run_long) one
    where
      one : (i : ℕ) → i < length R → get_or (take (length_in h) (drop (start_in h) Q)) i 0 ≡ units_of (state_at R i) / N
      one i l = let k : i < length_in h = omega (arith, l, run_long) in
          get_or-take (length_in h) (drop (start_in h) Q) i 0 k ∙ get_or-drop (start_in h) Q i 0
          ∙ waits.1 i k (subst (CanLose N x) (state_in i k) (state_has (CanLose N x) R i l lose))
          ∙ ap (λ (s : State). units_of s / N) (sym (state_in i k))

  goes : Listed 16 x.place → Every (Workable N x) T → rising T ≡ true → Goes N x (stream_in h) (mask_in T h) (contents_in h) R (take (length_in h) (drop (start_in h) Q))
  goes p works rises = record {
    rises = stretch_rises T (start_in h) (length_in h) rises;
    workable = stretch_has T (start_in h) (length_in h) (Workable N x) works;
    coming = coming_all N x T h waits.0 (stream_in h) waits.0.next;
    alike = every_weaker (InRun N x (mask_in T h) (fills N x (state_at T (start_in h)))) (λ s. s.mask ≡ mask_in T h) (λ s e. e.0) R waits.0.alike;
    contents = contents_is N x T h waits.0 p;
    split = split;
  }

  -- what is asked for where it is put: s, n, k, D and C are what the head says
  module _ (s n k D C : ℕ) (at-start : s ≡ start_in h) (so-many : n ≡ length_in h) (in-stream : k ≡ stream_in h) (to : D ≡ contents_in h) (of : C ≡ mask_in T h) where
    found : R ≡ take n (drop (from + s) W)
    found = there ∙ ap (λ (i : ℕ). take i (drop (from + start_in h) W)) (sym so-many) ∙ ap (λ (i : ℕ). take n (drop (from + i) W)) (sym at-start)

    put_room : (X : List State) → length (add (map (part N x (stream_in h)) R) X) ≤ 1088 → length (add (map (part N x k) (take n (drop (from + s) W))) X) ≤ 1088
    put_room X l = rw (in-stream) (subst (λ (S : List State). length (add (map (part N x (stream_in h)) S) X) ≤ 1088) found l)

    pub put_needs : (X : List State) → length (add (map (part N x (stream_in h)) R) X) ≤ 1088 → Listed 16 x.place → Every (Workable N x) T → rising T ≡ true
        → (1 ≤ n) × (from + s + n ≤ 4096) × (s + n ≤ length Q) × (length (add (map (part N x k) (take n (drop (from + s) W))) X) ≤ 1088)
        × Goes N x k C D (take n (drop (from + s) W)) (take n (drop s Q))
    put_needs X l p works rises = (
      omega (arith, so-many, waits.0.some),
      omega (arith, so-many, at-start, within),
      omega (arith, so-many, at-start, within),
      put_room X l,
      rw (in-stream, to, of)
          (subst (λ (S : List State). Goes N x (stream_in h) (mask_in T h) (contents_in h) S (take n (drop s Q))) found
          (rw (so-many, at-start) (goes p works rises))),
    )

    -- and what has come of it
    pub put_gives : (X : List State) (r : ℕ) (W' : List State) → InScratch (add (map (part N x k) (take n (drop (from + s) W))) X) r W W'
        → InScratch (add (map (part N x (stream_in h)) R) X) r W W' × (length X ≤ r)
    put_gives X r W' g = (in_scratch, omega (arith, in_scratch.count, add_grows listing (map (part N x (stream_in h)) R) X))
      where
        in_scratch : InScratch (add (map (part N x (stream_in h)) R) X) r W W'
        in_scratch = subst (λ (S : List State). InScratch (add (map (part N x (stream_in h)) S) X) r W W') (sym found) (subst (λ (i : ℕ). InScratch (add (map (part N x i) (take n (drop (from + s) W))) X) r W W') in-stream g)

-- ---- turn by turn

-- E were the heads and W₀ the room; now the heads are hs and the room W. The first i of the `count` heads are done, the others wait, and what is to come of them with what stands in the
-- first `states` states of the scratch is G
pub record PutTo (N : ℕ) (x : Target) (T : List State) (Q E : List ℕ) (count : ℕ) (G W₀ W : List State) (hs : List ℕ) (i states at : ℕ) : Type 0 where
  pub within : i ≤ count
  pub same : length hs ≡ length E
  pub beyond : drop count hs ≡ drop count E
  pub waits : Every (Waits N x T Q) (drop i (take count hs))
  pub near : at ≤ states
  pub table : List State
  pub scratch : InScratch table states W₀ W
  pub rises : rising table ≡ true
  pub rest : add (flat_map (to_come N x T) (drop i (take count hs))) table ≡ G

-- the streams that are left of all heads that wait, and one more for each
abbrev pub left_in : ℕ → ℕ → List ℕ → ℕ
left_in i count hs = sum_over (λ h. suc (streams_in h)) (drop i (take count hs))

module _ (N : ℕ) (x : Target) (T : List State) (Q E : List ℕ) (count : ℕ) (G W₀ : List State) where
  pub put_start : (n : ℕ) → n ≡ length (take n (drop 4096 W₀)) → rising (take n (drop 4096 W₀)) ≡ true → Every (Waits N x T Q) (take count E)
      → add (flat_map (to_come N x T) (take count E)) (take n (drop 4096 W₀)) ≡ G → PutTo N x T Q E count G W₀ W₀ E 0 n 0
  put_start n c r w g = record {
    within = omega arith;
    same = refl;
    beyond = refl;
    waits = w;
    near = omega arith;
    table = take n (drop 4096 W₀);
    scratch = record { count = c; table = refl; slots = refl };
    rises = r;
    rest = g;
  }

  pub put_end : (W : List State) (hs : List ℕ) (i states at : ℕ) → PutTo N x T Q E count G W₀ W hs i states at → count ≤ i → InScratch G states W₀ W
  unfolding flat_map
  put_end W hs i states at p l = subst (λ (Y : List State). InScratch Y states W₀ W) all p.scratch
    where
      none : drop i (take count hs) ≡ []
      none = drop_of_length-le (take count hs) {i = i} (omega (arith, length-take count hs))

      all : p.table ≡ G
      all = sym (add_nothing p.table) ∙ ap (λ (gs : List ℕ). add (flat_map (to_come N x T) gs) p.table) (sym none) ∙ p.rest

  module _ (W : List State) (hs : List ℕ) (i states at : ℕ) (p : PutTo N x T Q E count G W₀ W hs i states at) (l : i < count) (full : count < length E) where
    -- the head that is next, those behind it, and what comes of it
    abbrev h : ℕ
    h = get_or hs i 0

    abbrev others : List ℕ
    others = drop (suc i) (take count hs)

    abbrev coming : List State
    coming = map (part N x (stream_in h)) (run_in T h)

    first : drop i (take count hs) ≡ h ∷ others
    first =
        drop-cons (take count hs) i 0 (omega (arith, length-take-le count hs (omega (arith, p.same))))
        ∙ ap (λ (g : ℕ). g ∷ others) (get_or-take count hs i 0 l)

    waiting : Every (Waits N x T Q) (h ∷ others)
    waiting = subst (Every (Waits N x T Q)) first p.waits

    pub next_waits : Waits N x T Q h
    next_waits = waiting.0

    -- the contents of its run, as they are read in the room: T are the m states at place `from`
    pub next_mask : (from m : ℕ) → from + m ≤ 4096 → T ≡ take m (drop from W₀) → length T ≡ m → (s C : ℕ) → s ≡ start_in h → C ≡ (state_at W (from + s)).mask → C ≡ mask_in T h
    next_mask from m inside are has s C e f =
        f ∙ ap (λ (k : ℕ). (state_at W (from + k)).mask) e
        ∙ ap (λ (t : State). t.mask) (sym (state_there W from m (start_in h) (omega (arith, next_waits.0.inside, next_waits.0.some, has))))
        ∙ ap (λ (S : List State). mask_in S h) (slot_same listing p.table states W₀ W p.scratch from m inside ∙ sym are)

    goal : add (flat_map (to_come N x T) others) (add (to_come N x T h) p.table) ≡ G
    unfolding flat_map
    goal =
        sym (add_append (to_come N x T h) (flat_map (to_come N x T) others) p.table)
        ∙ ap (λ (gs : List ℕ). add (flat_map (to_come N x T) gs) p.table) (sym first) ∙ p.rest

    -- the head when that has come
    abbrev onward_head : ℕ
    onward_head = next_head (mask_in T h) (with 0 x.place) h

    done : 15 < stream_in h → add (flat_map (to_come N x T) others) (add coming p.table) ≡ G
    done k = ap (add (flat_map (to_come N x T) others)) (head_done N x T h next_waits.0 k p.table) ∙ goal

    on : add (flat_map (to_come N x T) others) (add (to_come N x T onward_head) (add coming p.table)) ≡ G
    on = ap (add (flat_map (to_come N x T) others)) (head_comes N x T h next_waits.0 p.table) ∙ goal

    -- there is room for it, as for all
    pub next_room : length (add coming (take states (drop 4096 W))) ≤ length G
    next_room = subst (λ (Y : List State). length (add coming Y) ≤ length G) (sym p.scratch.table) (go (dec_lt 15 (stream_in h)))
      where
        go : Dec (15 < stream_in h) → length (add coming p.table) ≤ length G
        go (yes k) = subst (λ (Y : List State). length (add coming p.table) ≤ length Y) (done k) (add_grows listing (flat_map (to_come N x T) others) (add coming p.table))
        go (no k) =
            subst (λ (Y : List State). length (add coming p.table) ≤ length Y) on
            (le_trans (add_grows listing (to_come N x T onward_head) (add coming p.table)) (add_grows listing (flat_map (to_come N x T) others) (add (to_come N x T onward_head) (add coming p.table))))

    -- it has come: i' and gs are the place of the next head, and the heads
    module _ (W' : List State) (r at' : ℕ) (g : InScratch (add coming (take states (drop 4096 W))) r W W') (n : at' ≤ r)
        (last : get_or E count 0 ≡ 18446744073709551615) (end : get_or E (length E - 1) 0 ≡ 18446744073709551615) where
      put_more : InScratch (add coming p.table) r W₀ W'
      put_more = scratch_more listing p.table states W₀ W p.scratch coming r W' g

      more_rises : rising (add coming p.table) ≡ true
      more_rises = rising_is (add coming p.table) (rising_add coming p.table (rising_so p.table p.rises))

      put_done : 15 < stream_in h → PutTo N x T Q E count G W₀ W' hs (suc i) r at'
      put_done k = record {
        within = l;
        same = p.same;
        beyond = p.beyond;
        waits = waiting.1;
        near = n;
        table = add coming p.table;
        scratch = put_more;
        rises = more_rises;
        rest = done k;
      }

      -- behind the heads nothing has changed
      still : (j : ℕ) → count ≤ j → get_or hs j 0 ≡ get_or E j 0
      still j m =
          ap (λ (k : ℕ). get_or hs k 0) far ∙ sym (get_or-drop count hs (j - count) 0) ∙ ap (λ (gs : List ℕ). get_or gs (j - count) 0) p.beyond
          ∙ get_or-drop count E (j - count) 0 ∙ ap (λ (k : ℕ). get_or E k 0) (sym far)
        where
          far : j ≡ count + (j - count)
          far = omega arith

      is_moved : (X : List ℕ) → X ≡ moved_on i onward_head hs → Moved i count onward_head hs X
      is_moved X e =
          moved i count onward_head hs X l (omega (arith, p.same)) (omega (arith, still count (omega arith), last, next_fits (mask_in T h) (with 0 x.place) h))
          (omega (arith, ap (λ (k : ℕ). get_or hs (k - 1) 0) p.same, still (length E - 1) (omega arith), end, next_fits (mask_in T h) (with 0 x.place) h)) e

      put_on : stream_in h < 16 → (X : List ℕ) → X ≡ moved_on i onward_head hs → PutTo N x T Q E count G W₀ W' X i r at'
      put_on k X e = record {
        within = p.within;
        same = (is_moved X e).same ∙ p.same;
        beyond = (is_moved X e).beyond ∙ p.beyond;
        waits = among_every (Waits N x T Q) onward_head others (drop i (take count X)) (is_moved X e).among (waits_on N x T Q h (next_waits) k) waiting.1;
        near = n;
        table = add coming p.table;
        scratch = put_more;
        rises = more_rises;
        rest =
            ap (λ (gs : List ℕ). add (flat_map (to_come N x T) gs) (add coming p.table)) (is_moved X e).among.with
            ∙ among_first (to_come N x T) (is_moved X e).among.before (is_moved X e).among.behind onward_head (add coming p.table)
            ∙ ap (λ (gs : List ℕ). add (flat_map (to_come N x T) gs) (add (to_come N x T onward_head) (add coming p.table))) (sym (is_moved X e).among.without)
            ∙ on;
      }

      left_now : left_in i count hs ≡ suc (streams_in h) + left_in (suc i) count hs
      left_now = ap (sum_over (λ g. suc (streams_in g))) first

      less_done : left_in (suc i) count hs < left_in i count hs
      less_done = omega (arith, left_now)

      less_on : (X : List ℕ) → X ≡ moved_on i onward_head hs → left_in i count X < left_in i count hs
      less_on X e = omega (arith, left_now, sum_first (λ g. suc (streams_in g)) onward_head others (drop i (take count X)) (is_moved X e).among, next_less N x T h next_waits.0)

      pub put_turn : (C o i' : ℕ) (X : List ℕ) → C ≡ mask_in T h → o ≡ with 0 x.place → i' ≡ cond (ltb 15 (stream_in h)) (suc i) i → X ≡ cond (ltb 15 (stream_in h)) hs (moved_on i (next_head C o h) hs)
          → PutTo N x T Q E count G W₀ W' X i' r at' × (left_in i' count X < left_in i count hs)
      put_turn C o i' X c q e f = go (dec_lt 15 (stream_in h))
        where
          go : Dec (15 < stream_in h) → PutTo N x T Q E count G W₀ W' X i' r at' × (left_in i' count X < left_in i count hs)
          go (yes k) =
              rw (e ∙ ap (λ (b : Bool). cond b (suc i) i) (lt-ltb 15 (stream_in h) k), f ∙ ap (λ (b : Bool). cond b hs (moved_on i (next_head C o h) hs)) (lt-ltb 15 (stream_in h) k))
              (put_done k, less_done)
          go (no k) =
              let moves : X ≡ moved_on i onward_head hs =
              f ∙ ap (λ (b : Bool). cond b hs (moved_on i (next_head C o h) hs)) (le-ltb 15 (stream_in h) (omega arith))
              ∙ ap (λ (D : ℕ). moved_on i (next_head D o h) hs) c ∙ ap (λ (w : ℕ). moved_on i (next_head (mask_in T h) w h) hs) q in
              rw (e ∙ ap (λ (b : Bool). cond b (suc i) i) (le-ltb 15 (stream_in h) (omega arith))) (put_on (omega arith) X moves, less_on X moves)
