-- The work on tables of any kind: what a fold of any two places and a join by any pairing that uses each state's units exactly do to the worth of a table;
-- that folds end at K states; and that every table of the work is one, at every node: rising, at most K states, each in shape, units totalling WHOLE.
use Rattle.std.specs.Prelude.{Some}
use mathlib.Core.Path.{◌≡◌, refl, sym, ap, ◌∙◌}
use mathlib.Core.Logic.{◌≢◌, ◌⊎◌, inl, inr}
use mathlib.Core.Bool.{Bool, true, false, cond, ◌&&◌}
use mathlib.Core.List.{List, [], ◌∷◌, ◌++◌, map, flat_map}
use Prim.Native.Nat.{ℕ, zero, suc, ◌+◌, ◌-◌, ◌*◌, ◌≤◌, ◌<◌, zero-le}
use native.Mathlib.Nat.{le_refl, pos_of_ne-zero, eq-or-lt_of_le, le_of_suc-le-suc, not-suc-le-zero, zero-add, suc-add, add-suc}
use native.Mathlib.Omega.{arith}
use lib.Dec.{leb}
use lib.ListN.{length, get_or, length-append, length-map, get_or-append}
use lib.Seq.{get_or_at}
use borrow.Author.Tests.{leb-true, leb-false}
use Rattle.basics.specs.Sums.{sum_over}
use Rattle.basics.proofs.Sums.{sum_append, sum_map}
use Rattle.rules.specs.declared.Pair.{Pair}
use Rattle.rules.specs.Units.{whole, more}
use Rattle.rules.specs.Contents.{Target, Last, among, target_of}
use Rattle.rules.specs.Input.{Input, nodes, offset, run_of, edges_of, predecessors, joins_to}
use Rattle.rules.specs.Ordered.{remove, best}
use Rattle.rules.specs.AnyTable.{Listing, Match, plus, total, at, from_front, Work, Kind, access, fewer, choice, fold_at, fold, folds_of, folded, advance, run, matched, paired, join, join_by, Entry, no_pairing, pairing, fits, Worked, table_at, Entries, later, behind, join_one, join_all_by, enter_by, node_by, worked_by, finished_by, entry_fits, joins_fit}
use Rattle.rules.specs.Shape.{Every, Present, Sound}
use Rattle.rules.proofs.Splitting.{more_adds}
use Rattle.rules.proofs.Lists.{every_remove, every_at, every_weaker, every_flat_map, length_remove, best_lt}
use Rattle.rules.proofs.Ordered.{InOrder, in_order_rises, in_order_remove}
use Rattle.rules.proofs.Listings.{Lawful, Weight, worth_of, worth, one, one_weight, worth_total, length_add_all, every_add, rising_add, worth_add, total_add, worth_remove, shaped_plus}
use Rattle.rules.proofs.Pairings.{Uses, matched_worth, length_front, front_uses, fits_uses}
use Rattle.rules.proofs.Refusals.{Checked, predecessor_lower}
use Rattle.rules.proofs.Nodes.{first_and_others, each_node, run_long, offset_next, offset_rises, offset_most}

module _ {A : Type 0} (k : Kind A) where
  abbrev l : Listing A
  l = k.listing

  -- ---- folds

  -- what a fold of any two places keeps, folds keep
  pub folded_keeps : (Q : Work A → Type 0) → ((p : Pair) (w : Work A) → Q w → Q (fold_at k p w)) → (K : ℕ) (w : Work A) → Q w → Q (folded k K w)
  unfolding folded fold
  folded_keeps Q keep K w h = go (length w.table) (leb (length w.table) K) w h
    where
      go : (n : ℕ) (enough : Bool) (w : Work A) → Q w → Q (folds_of k n enough K w)
      go zero enough w h = h
      go (suc n) true w h = h
      go (suc n) false w h = go n (leb (length (fold k w).table) K) (fold k w) (keep (choice k w.table) w h)

  module _ (p : Pair) (T : List A) where
    -- the two states, the others, and what the two become
    abbrev pub first_of : A
    first_of = at l T p.fewest

    abbrev pub second_of : A
    second_of = at l (remove p.fewest T) p.partner

    abbrev pub others_of : List A
    others_of = remove p.partner (remove p.fewest T)

    abbrev pub meet_of : A
    meet_of = l.having (k.folds first_of second_of) (more (l.units first_of) (l.units second_of))

  -- each makes the table shorter
  pub fold_shorter : (w : Work A) → 1 < length w.table → length (fold k w).table < length w.table
  unfolding fold fold_at choice
  fold_shorter w h =
      omega (
        arith,
        length_add_all l (meet_of p w.table ∷ []) (others_of p w.table),
        first,
        length_remove p.partner (remove i w.table) (best_lt (k.closer (at l w.table i)) (remove i w.table) (omega (arith, first))),
      )
    where
      p : Pair
      p = choice k w.table

      i : ℕ
      i = best (fewer k) w.table

      first : suc (length (remove i w.table)) ≡ length w.table
      first = length_remove i w.table (best_lt (fewer k) w.table (omega arith))

  length_folds : (n K : ℕ) (w : Work A) → 0 < K → length w.table ≤ n → length (folds_of k n (leb (length w.table) K) K w).table ≤ K
  length_folds zero K w h few = omega arith
  length_folds (suc n) K w h few = go (leb (length w.table) K) refl (length_folds n K (fold k w) h)
    where
      go : (b : Bool) → leb (length w.table) K ≡ b
          → (length (fold k w).table ≤ n → length (folds_of k n (leb (length (fold k w).table) K) K (fold k w)).table ≤ K)
          → length (folds_of k (suc n) b K w).table ≤ K
      go true e ih = leb-true (length w.table) K e
      go false e ih =
          let many = leb-false (length w.table) K e in
          ih (omega (arith, fold_shorter w (omega arith)))

  pub length_folded : (K : ℕ) (w : Work A) → 0 < K → length (folded k K w).table ≤ K
  unfolding folded
  length_folded K w h = length_folds (length w.table) K w h (le_refl _)

  module _ (laws : Lawful l) where
    -- ---- what a fold does to the worth of a table

    module _ (p : Pair) (T : List A) where
      -- before: both states and the others
      pub fold_before : (f : A → ℕ) → worth_of l f (first_of p T) + (worth_of l f (second_of p T) + worth l f (others_of p T)) ≡ worth l f T
      fold_before f = ap (worth_of l f (first_of p T) +◌) (worth_remove l laws f p.partner (remove p.fewest T)) ∙ worth_remove l laws f p.fewest T

      -- after: the units of both, at what they become, and the others
      pub fold_after : total l T ≤ whole → (f : A → ℕ) → Weight l f → (a : ℕ)
          → worth l f (fold_at k p (record { table = T; aside = a })).table
          ≡ (l.units (first_of p T) + l.units (second_of p T)) * f (k.folds (first_of p T) (second_of p T)) + worth l f (others_of p T)
      unfolding fold_at total
      fold_after h f weight a =
          worth_add l laws f weight (meet_of p T ∷ []) (others_of p T) (omega (arith, all, sum, worth_total l (others_of p T)))
          ∙ rw (sum, weight.blind (k.folds (first_of p T) (second_of p T)) (more (l.units (first_of p T)) (l.units (second_of p T)))) (omega arith)
        where
          all : l.units (first_of p T) + l.units (second_of p T) + worth l (one l) (others_of p T) ≤ whole
          all = omega (arith, fold_before (one l), worth_total l T)

          sum : l.units (meet_of p T) ≡ l.units (first_of p T) + l.units (second_of p T)
          sum = laws.counts _ _ ∙ more_adds (l.units (first_of p T)) (l.units (second_of p T)) (omega (arith, all))

    pub fold_total : (p : Pair) (w : Work A) → total l w.table ≤ whole → total l (fold_at k p w).table ≡ total l w.table
    fold_total p w h =
        rw (← worth_total l (fold_at k p w).table, ← worth_total l w.table)
        (omega (arith, fold_before p w.table (one l), fold_after p w.table h (one l) (one_weight l) w.aside))

    pub rising_fold : (p : Pair) (w : Work A) → InOrder l.order w.table → InOrder l.order (fold_at k p w).table
    unfolding fold_at
    rising_fold p w h = rising_add l laws _ _ (in_order_remove _ _ _ (in_order_remove _ _ w.table h))

    pub folded_total : (K : ℕ) (w : Work A) → total l w.table ≤ whole → total l (folded k K w).table ≡ total l w.table
    folded_total K w h =
        folded_keeps (λ v. total l v.table ≡ total l w.table) (λ p v e. fold_total p v (omega arith) ∙ e) K w refl

    pub rising_folded : (K : ℕ) (w : Work A) → InOrder l.order w.table → InOrder l.order (folded k K w).table
    rising_folded K w h = folded_keeps (λ v. InOrder l.order v.table) rising_fold K w h

    -- ---- and what a join does, by any pairing that uses each state's units exactly

    module _ (P : List Match) (S T : List A) (uses : Uses l (λ m. m.left) P S) (full : total l S ≤ whole) where
      -- as many units are paired as the first table has
      units_paired : total l (map (matched k S T) P) ≡ total l S
      unfolding total
      units_paired =
          sum_map l.units (matched k S T) P
          ∙ omega (arith, matched_worth l (λ m. m.left) P S uses (one l), worth_total l S, each P)
        where
          each : (P : List Match) → sum_over (λ m. m.units * 1) P ≡ sum_over (λ m. l.units (matched k S T m)) P
          each [] = refl
          each (m ∷ P) = omega (arith, each P, laws.counts (k.joins (at l S m.left) (at l T m.right)) m.units)

      pub paired_worth : (f : A → ℕ) → Weight l f
          → worth l f (paired k P S T) ≡ sum_over (λ m. m.units * f (k.joins (at l S m.left) (at l T m.right))) P
      unfolding paired total
      paired_worth f weight =
          worth_add l laws f weight (map (matched k S T) P) [] (omega (arith, units_paired))
          ∙ ap (◌+ 0) (sum_map (worth_of l f) (matched k S T) P)
          ∙ omega (arith, each P)
        where
          each : (P : List Match) → sum_over (λ m. worth_of l f (matched k S T m)) P ≡ sum_over (λ m. m.units * f (k.joins (at l S m.left) (at l T m.right))) P
          each [] = refl
          each (m ∷ P) =
              rw (laws.counts (k.joins (at l S m.left) (at l T m.right)) m.units, weight.blind (k.joins (at l S m.left) (at l T m.right)) m.units)
              (omega (arith, each P))

      pub paired_total : total l (paired k P S T) ≡ total l S
      unfolding paired total
      paired_total = total_add l laws (map (matched k S T) P) [] (omega (arith, units_paired)) ∙ omega (arith, units_paired)

    pub join_total : (S T : List A) → total l S ≡ total l T → total l S ≤ whole → total l (join k S T) ≡ total l S
    unfolding join
    join_total S T e full = paired_total (from_front l S T) S T (front_uses l laws S T e).0 full

    pub rising_paired : (P : List Match) (S T : List A) → InOrder l.order (paired k P S T)
    unfolding paired
    rising_paired P S T = rising_add l laws (map (matched k S T) P) [] tt

    pub rising_join : (S T : List A) → InOrder l.order (join k S T)
    unfolding join
    rising_join S T = rising_paired (from_front l S T) S T

    -- ---- a join by what is handed in

    -- what is so of a join by any pairing that uses the units of both tables exactly is so of it
    pub by_entry : (Q : List A → Type 0) (e : Entry) (S T : List A) → total l S ≡ total l T
        → ((P : List Match) → Uses l (λ m. m.left) P S → Uses l (λ m. m.right) P T → Q (paired k P S T)) → Q (join_by k e S T)
    unfolding join
    by_entry Q no_pairing S T q h = let (a, b) = front_uses l laws S T q in h (from_front l S T) a b
    by_entry Q (pairing P) S T q h = go (fits l P S T) refl
      where
        go : (b : Bool) → fits l P S T ≡ b → Q (cond b (paired k P S T) (join k S T))
        go true f = let (a, b) = fits_uses l P S T f in h P a b
        go false f = let (a, b) = front_uses l laws S T q in h (from_front l S T) a b

    -- ---- an access

    pub rising_access : (follow : A → List A) (T : List A) → InOrder l.order (access l follow T)
    unfolding access
    rising_access follow T = rising_add l laws (flat_map follow T) [] tt

-- there are at most as many states after a join as before it
pub length_join : {A : Type 0} (k : Kind A) (S T : List A) → length (join k S T) ≤ length S + length T
unfolding join paired
length_join k S T =
    omega (
      arith,
      length_add_all k.listing (map (matched k S T) (from_front k.listing S T)) [],
      length-map (from_front k.listing S T) (matched k S T),
      length_front k.listing S T,
    )

-- ---- the shape of states

-- what a kind keeps of its states: P M s is so of every state s of a table after at most M accesses
pub record Keeps {A : Type 0} (k : Kind A) (P : ℕ → A → Type 0) : Type 0 where
  pub laws : Lawful k.listing
  pub wider : (M L : ℕ) (s : A) → M ≤ L → P M s → P L s
  pub blind : (M : ℕ) (s : A) (u : ℕ) → P M s → P M (k.listing.having s u)
  pub none : (M : ℕ) → P M k.listing.none
  pub folds : (M : ℕ) (s t : A) → P M s → P M t → P M (k.folds s t)
  pub joins : (M : ℕ) (s t : A) → P M s → P M t → P M (k.joins s t)

-- and of the state that the work starts from, which has all units
pub record Starts {A : Type 0} (l : Listing A) (P : ℕ → A → Type 0) (s : A) : Type 0 where
  pub shape : P 0 s
  pub all : l.units s ≡ whole

-- and at an access of x, of which X is so: of the states that follow, those that have units are in shape, and all units go on
pub record Follows {A : Type 0} (k : Kind A) (N : ℕ) (X : Target → Type 0) (P : ℕ → A → Type 0) : Type 0 where
  pub keeps : Keeps k P
  pub after : (M : ℕ) (x : Target) (s : A) → X x → P M s → Every (λ t. k.listing.units t ≢ 0 → P (suc M) t) (k.successors N x s)
  pub totals : (M : ℕ) (x : Target) (s : A) → X x → P M s → total k.listing (k.successors N x s) ≡ k.listing.units s

module _ {A : Type 0} {k : Kind A} {P : ℕ → A → Type 0} (keeps : Keeps k P) where
  abbrev li : Listing A
  li = k.listing

  abbrev laws : Lawful li
  laws = keeps.laws

  -- the state at a place, or none
  pub shaped_at : (M i : ℕ) (T : List A) → Every (Present li (P M)) T → P M (at li T i)
  shaped_at M i T h = every_at (P M) li.none (keeps.none M) i T (every_weaker (Present li (P M)) (P M) (λ s p. p.0) T h)

  -- with units of its own it is in shape
  with_units : (M : ℕ) (s : A) (u : ℕ) → P M s → li.units (li.having s u) ≢ 0 → Present li (P M) (li.having s u)
  with_units M s u p n = (keeps.blind M s u p, pos_of_ne-zero n)

  lasts : (M : ℕ) (t s : A) → Present li (P M) t → Present li (P M) (plus li t s)
  lasts M = shaped_plus li laws (P M) (keeps.blind M)

  pub shaped_fold : (M : ℕ) (p : Pair) (w : Work A) → Every (Present li (P M)) w.table → Every (Present li (P M)) (fold_at k p w).table
  unfolding fold_at
  shaped_fold M p w h =
      every_add li (Present li (P M)) (lasts M) _ (others_of k p w.table)
      (with_units M _ _ (keeps.folds M _ _ (shaped_at M p.fewest w.table h) (shaped_at M p.partner (remove p.fewest w.table) out)), tt)
      (every_remove (Present li (P M)) p.partner (remove p.fewest w.table) out)
    where
      out : Every (Present li (P M)) (remove p.fewest w.table)
      out = every_remove (Present li (P M)) p.fewest w.table h

  pub shaped_folded : (M K : ℕ) (w : Work A) → Every (Present li (P M)) w.table → Every (Present li (P M)) (folded k K w).table
  shaped_folded M K w h = folded_keeps k (λ v. Every (Present li (P M)) v.table) (shaped_fold M) K w h

  pub shaped_paired : (M : ℕ) (Q : List Match) (S T : List A) → Every (Present li (P M)) S → Every (Present li (P M)) T → Every (Present li (P M)) (paired k Q S T)
  unfolding paired
  shaped_paired M Q S T a b = every_add li (Present li (P M)) (lasts M) (map (matched k S T) Q) [] (met Q) tt
    where
      met : (Q : List Match) → Every (λ s. li.units s ≢ 0 → Present li (P M) s) (map (matched k S T) Q)
      met [] = tt
      met (m ∷ Q) = (with_units M _ m.units (keeps.joins M _ _ (shaped_at M m.left S a) (shaped_at M m.right T b)), met Q)

  pub shaped_join : (M : ℕ) (S T : List A) → Every (Present li (P M)) S → Every (Present li (P M)) T → Every (Present li (P M)) (join k S T)
  unfolding join
  shaped_join M S T a b = shaped_paired M (from_front li S T) S T a b

  -- ---- every table of the work is one

  pub sound_wider : (K M L : ℕ) (T : List A) → M ≤ L → Sound li (P M) K T → Sound li (P L) K T
  sound_wider K M L T h t =
      record {
        rises = t.rises;
        short = t.short;
        shaped = every_weaker (Present li (P M)) (Present li (P L)) (λ s p. (keeps.wider M L s h p.0, p.1)) T t.shaped;
        full = t.full;
      }

  module _ (K : ℕ) (room : 0 < K) where
    pub sound_start : (s : A) → Starts li P s → Sound li (P 0) K (s ∷ [])
    unfolding total
    sound_start s starts =
        record {
          rises = refl;
          short = omega arith;
          shaped = ((starts.shape, omega (arith, starts.all)), tt);
          full = omega (arith, starts.all);
        }

    -- folds make a table of at most K states of any rising list of shaped states that total WHOLE
    pub sound_folded : (M : ℕ) (w : Work A) → InOrder li.order w.table → Every (Present li (P M)) w.table → total li w.table ≡ whole
        → Sound li (P M) K (folded k K w).table
    sound_folded M w r s e =
        record {
          rises = in_order_rises li.order (folded k K w).table (rising_folded k laws K w r);
          short = length_folded k K w room;
          shaped = shaped_folded M K w s;
          full = folded_total k laws K w (omega arith) ∙ e;
        }

    pub sound_join : (M : ℕ) (e : Entry) (w : Work A) (T : List A) → Sound li (P M) K w.table → Sound li (P M) K T → Sound li (P M) K (join_one k e K w T).table
    sound_join M e w T s t =
        by_entry k laws (λ U. Sound li (P M) K (folded k K (record { table = U; aside = w.aside })).table) e w.table T (s.full ∙ sym t.full)
        (λ Q left right. sound_folded M _ (rising_paired k laws Q w.table T) (shaped_paired M Q w.table T s.shaped t.shaped)
        (paired_total k laws Q w.table T left (omega (arith, s.full)) ∙ s.full))

    module _ (M : ℕ) (d : Worked A) where
      sound_join_all : (q : Entries) (is : List ℕ) (w : Work A) → ((j : ℕ) → among is j ≡ true → Sound li (P M) K (table_at d j))
          → Sound li (P M) K w.table → Sound li (P M) K (join_all_by k q K d is w).table
      unfolding join_all_by
      sound_join_all q [] w h t = t
      sound_join_all q (a ∷ is) w h t =
          let (p, rest) = first_and_others (λ j. Sound li (P M) K (table_at d j)) a is h in
          sound_join_all (later q) is _ rest (sound_join M (q 0) w (table_at d a) t p)

      pub sound_enter : (q : Entries) (s : A) → Starts li P s → (is : List ℕ) → ((j : ℕ) → among is j ≡ true → Sound li (P M) K (table_at d j))
          → Sound li (P M) K (enter_by k q K s d is).table
      unfolding enter_by
      sound_enter q s starts [] h = sound_wider K 0 M (s ∷ []) zero-le (sound_start s starts)
      sound_enter q s starts (a ∷ is) h =
          let (p, rest) = first_and_others (λ j. Sound li (P M) K (table_at d j)) a is h in
          sound_join_all q is _ rest p

-- ---- an access, and a run

module _ {A : Type 0} {k : Kind A} {N : ℕ} {X : Target → Type 0} {P : ℕ → A → Type 0} (follows : Follows k N X P) where
  abbrev la : Listing A
  la = k.listing

  module _ (M : ℕ) (x : Target) (aim : X x) where
    pub shaped_access : (T : List A) → Every (Present la (P M)) T → Every (Present la (P (suc M))) (access la (k.successors N x) T)
    unfolding access
    shaped_access T h =
        every_add la (Present la (P (suc M))) (shaped_plus la follows.keeps.laws (P (suc M)) (follows.keeps.blind (suc M))) (flat_map (k.successors N x) T) []
        (every_flat_map (Present la (P M)) (λ t. la.units t ≢ 0 → Present la (P (suc M)) t) (k.successors N x) after T h) tt
      where
        after : (s : A) → Present la (P M) s → Every (λ t. la.units t ≢ 0 → Present la (P (suc M)) t) (k.successors N x s)
        after s h =
            every_weaker (λ t. la.units t ≢ 0 → P (suc M) t) (λ t. la.units t ≢ 0 → Present la (P (suc M)) t) (λ t p n. (p n, pos_of_ne-zero n))
            (k.successors N x s) (follows.after M x s aim h.0)

    -- all units go on
    pub successors_total : (T : List A) → Every (Present la (P M)) T → total la (flat_map (k.successors N x) T) ≡ total la T
    unfolding total flat_map
    successors_total [] h = refl
    successors_total (s ∷ T) h =
        sum_append la.units (k.successors N x s) (flat_map (k.successors N x) T) ∙ omega (arith, follows.totals M x s aim h.0.0, successors_total T h.1)

    pub access_total : (T : List A) → Every (Present la (P M)) T → total la T ≤ whole → total la (access la (k.successors N x) T) ≡ total la T
    unfolding access total
    access_total T h few = total_add la follows.keeps.laws (flat_map (k.successors N x) T) [] (omega (arith, successors_total T h)) ∙ omega (arith, successors_total T h)

  module _ (K : ℕ) (room : 0 < K) where
    pub sound_advance : (M : ℕ) (x : Target) (w : Work A) → X x → Sound la (P M) K w.table → Sound la (P (suc M)) K (advance k N K x w).table
    unfolding advance
    sound_advance M x w aim t =
        sound_folded follows.keeps K room (suc M) _ (rising_access k follows.keeps.laws (k.successors N x) w.table) (shaped_access M x aim w.table t.shaped)
        (access_total M x aim w.table t.shaped (omega (arith, t.full)) ∙ t.full)

    -- along the accesses bs, Z sets and the tracked blocks ts
    pub sound_run : (Z : ℕ) (ts : List ℕ) → ((p : Last) (b : ℕ) → X (target_of Z ts p b)) → (M : ℕ) (p : Last) (bs : List ℕ) (w : Work A)
        → Sound la (P M) K w.table → Sound la (P (length bs + M)) K (run k N Z K ts p bs w).table
    unfolding run
    sound_run Z ts aims M p [] w t = rw (zero-add M) t
    sound_run Z ts aims M p (b ∷ bs) w t =
        rw (suc-add (length bs) M, ← add-suc (length bs) M)
        (sound_run Z ts aims (suc M) (Some b) bs (advance k N K (target_of Z ts p b) w) (sound_advance M (target_of Z ts p b) w (aims p b) t))

-- ---- the nodes that are worked

-- with any pairings that are handed in

module _ {A : Type 0} (k : Kind A) (K : ℕ) (d : Worked A) where
  -- only what is handed in for each join matters
  pub joins_alike : (q p : Entries) → ((m : ℕ) → q m ≡ p m) → (is : List ℕ) (w : Work A) → join_all_by k q K d is w ≡ join_all_by k p K d is w
  unfolding join_all_by
  joins_alike q p e [] w = refl
  joins_alike q p e (a ∷ is) w =
      joins_alike (later q) (later p) (λ m. e (suc m)) is (join_one k (q 0) K w (table_at d a))
      ∙ ap (λ (x : Entry). join_all_by k (later p) K d is (join_one k x K w (table_at d a))) (e 0)

  pub fit_alike : (q p : Entries) → ((m : ℕ) → q m ≡ p m) → (is : List ℕ) (w : Work A) → joins_fit k q K d is w ≡ joins_fit k p K d is w
  unfolding joins_fit
  fit_alike q p e [] w = refl
  fit_alike q p e (a ∷ is) w =
      ap (entry_fits k.listing (q 0) w.table (table_at d a) &&◌) (fit_alike (later q) (later p) (λ m. e (suc m)) is (join_one k (q 0) K w (table_at d a)))
      ∙ ap (λ (x : Entry). entry_fits k.listing x w.table (table_at d a) && joins_fit k (later p) K d is (join_one k x K w (table_at d a))) (e 0)

module _ {A : Type 0} (k : Kind A) (q : Entries) where
  -- node j's table
  abbrev pub node_table : Input → ℕ → List A
  node_table i j = (node_by k q i j (worked_by k q i j)).table

  length_worked : (i : Input) (n : ℕ) → length (worked_by k q i n).tables ≡ n
  unfolding worked_by
  length_worked i zero = refl
  length_worked i (suc n) = omega (arith, length-append (worked_by k q i n).tables (node_table i n ∷ []), length_worked i n)

  -- it stays as it was made
  pub table_stays : (i : Input) (n j : ℕ) → j < n → table_at (worked_by k q i n) j ≡ node_table i j
  unfolding worked_by
  table_stays i zero j h = absurd (not-suc-le-zero h)
  table_stays i (suc n) j h = go (eq-or-lt_of_le (le_of_suc-le-suc h)) (table_stays i n j)
    where
      go : (j ≡ n) ⊎ (j < n) → (j < n → table_at (worked_by k q i n) j ≡ node_table i j)
          → get_or ((worked_by k q i n).tables ++ (node_table i n ∷ [])) j [] ≡ node_table i j
      go (inl e) ih = rw e (get_or_at (worked_by k q i n).tables (node_table i n) [] [] n (length_worked i n))
      go (inr b) ih = get_or-append (worked_by k q i n).tables (node_table i n ∷ []) [] j (omega (arith, length_worked i n)) ∙ ih b

  pub finished_table : (i : Input) → 0 < nodes i → (finished_by k q i).table ≡ node_table i (nodes i - 1)
  unfolding finished_by
  finished_table i h = table_stays i (nodes i) (nodes i - 1) (omega arith)

module _ {A : Type 0} {k : Kind A} {X : Target → Type 0} {P : ℕ → A → Type 0} (q : Entries) (i : Input) (ok : Checked i) (follows : Follows k i.ways X P)
    (starts : Starts k.listing P (k.start i)) (aims : (p : Last) (b : ℕ) → X (target_of i.sets i.tracked p b)) where
  abbrev pub NodeSound : ℕ → ℕ → Type 0
  NodeSound M j = Sound k.listing (P M) i.limit (node_table k q i j)

  -- a node whose predecessors' tables are tables after at most M accesses
  pub sound_node : (M n : ℕ) → n < nodes i → ((a : ℕ) → among (predecessors (edges_of i.edges) n) a ≡ true → NodeSound M a)
      → NodeSound (get_or i.lengths n 0 + M) n
  unfolding node_by
  sound_node M n h before =
      rw (← run_long i ok n h)
      (sound_run follows i.limit ok.some_states i.sets i.tracked aims M _ (run_of i n) _
      (sound_enter follows.keeps i.limit ok.some_states M (worked_by k q i n) (behind (joins_to (edges_of i.edges) n) q) (k.start i) starts (predecessors (edges_of i.edges) n)
      (λ a e. rw (table_stays k q i n a (predecessor_lower i ok a n e).0) (before a e))))

  -- after at most the accesses up to the end of its node's run
  pub sound_so_far : (n : ℕ) → n < nodes i → NodeSound (offset i.lengths (suc n)) n
  sound_so_far =
      each_node i ok (λ n. NodeSound (offset i.lengths (suc n)) n)
      (λ n h before. rw (offset_next i.lengths n h)
      (sound_node (offset i.lengths n) n h
      (λ a e. sound_wider follows.keeps _ _ _ (node_table k q i a)
      (offset_rises i.lengths (suc a) n (predecessor_lower i ok a n e).0) (before a e))))

  -- in all, at most the accesses
  pub node_sound : (j : ℕ) → j < nodes i → NodeSound (length i.accesses) j
  node_sound j h =
      sound_wider follows.keeps _ _ _ (node_table k q i j)
      (omega (arith, offset_most i.lengths (suc j), ok.all_accesses)) (sound_so_far j h)

  pub finished_sound : Sound k.listing (P (length i.accesses)) i.limit (finished_by k q i).table
  finished_sound = rw (finished_table k q i ok.some_nodes) (node_sound (nodes i - 1) (omega (arith, ok.some_nodes)))
