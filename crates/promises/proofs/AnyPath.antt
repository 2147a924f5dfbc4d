-- Along a path, for any kind of table and any pairings that are handed in: what holds of an access, a fold of any two places and a join of two tables
-- by any pairing that uses their units exactly holds from the first access of a run to its
-- last, at the joins of a node and from node to node, whichever edges the path takes. R is ≤ for a bound from above, and ≥ for one from below.
use Rattle.std.specs.Prelude.{None, Some}
use mathlib.Core.Path.{◌≡◌, refl, sym, ap, ◌∙◌, subst}
use mathlib.Core.Bool.{true, true≢false}
use mathlib.Core.Logic.{inr}
use mathlib.Core.List.{List, [], ◌∷◌, ◌++◌}
use Prim.Native.Nat.{ℕ, suc, ◌+◌, ◌*◌, ◌^◌, ◌≤◌, ◌<◌}
use native.Mathlib.Nat.{le_trans, le_of_eq, pow-zero, pow-succ'}
use native.Mathlib.Omega.{arith}
use lib.Dec.{eqb}
use lib.ListN.{length, length-append}
use lib.Pow.{pow-add}
use borrow.Author.Tests.{eq-eqb}
use Rattle.basics.proofs.Bools.{or_left}
use Rattle.rules.specs.declared.Pair.{Pair}
use Rattle.rules.specs.declared.Target.{Target}
use Rattle.rules.specs.Units.{whole}
use Rattle.rules.specs.Contents.{among, last_after, target_of, Last}
use Rattle.rules.specs.Input.{Input, nodes, run_of, edges_of, predecessors, joins_to}
use Rattle.rules.specs.Lasts.{last_before, node_last, lasts_to}
use Rattle.rules.specs.Shape.{Every, Present, Sound}
use Rattle.rules.specs.AnyTable.{Match, Entry, Entries, later, behind, total, access, Work, Kind, fold_at, folded, advance, run, paired, Worked, table_at, join_one, join_all_by, enter_by, node_by, worked_by, finished_by}
use Rattle.rules.proofs.Listings.{worth}
use Rattle.rules.proofs.Pairings.{Uses}
use Rattle.rules.proofs.AnyTable.{Starts, Follows, folded_keeps, fold_total, shaped_fold, by_entry, paired_total, shaped_paired, shaped_access, access_total, sound_advance, sound_join, sound_enter, node_table, table_stays, finished_table, node_sound}
use Rattle.rules.proofs.Refusals.{Checked, predecessor_lower}
use Rattle.rules.proofs.Nodes.{first_and_others, first_or_other}
use Rattle.rules.proofs.Graph.{last_of, last_stays, Vaguer, vaguer_trans, last_before_lem}
use Rattle.promises.specs.Paths.{is_path, accesses_of}
use Rattle.promises.proofs.Paths.{along_path}
use Rattle.promises.proofs.Value.{targets_of, targets_append}

-- a weight before the accesses p, where `ahead` says what it is before one
abbrev pub along : {W : Type 0} → (Target → W → W) → List Target → W → W
along ahead [] f = f
along ahead (x ∷ p) f = ahead x (along ahead p f)

pub along_append : {W : Type 0} (ahead : Target → W → W) (p q : List Target) (f : W) → along ahead (p ++ q) f ≡ along ahead p (along ahead q f)
along_append ahead [] q f = refl
along_append ahead (x ∷ p) q f = ap (ahead x) (along_append ahead p q f)

-- weights W of states, which of them are good, and what they are before an access; an access, a fold and a join by any pairing that uses the units of both
-- tables exactly keep R between what a table is worth before and after, to every good weight
pub record Carries {A W : Type 0} (k : Kind A) (N : ℕ) (X : Target → Type 0) (P : ℕ → A → Type 0) (weigh : W → A → ℕ) (Good : W → Type 0) (ahead : Target → W → W)
    (R : ℕ → ℕ → Type 0) : Type 0 where
  pub follows : Follows k N X P
  pub same : (a : ℕ) → R a a
  pub onward : (a b c : ℕ) → R a b → R b c → R a c
  pub times : (n a b : ℕ) → R a b → R (n * a) (n * b)
  pub good_ahead : (x : Target) (f : W) → X x → Good f → Good (ahead x f)
  pub by_access : (M : ℕ) (x : Target) (f : W) (T : List A) → X x → Good f → Every (Present k.listing (P M)) T → total k.listing T ≤ whole
      → R (worth k.listing (weigh (ahead x f)) T) (N * worth k.listing (weigh f) (access k.listing (k.successors N x) T))
  pub by_fold : (M : ℕ) (f : W) (p : Pair) (w : Work A) → Good f → Every (Present k.listing (P M)) w.table → total k.listing w.table ≤ whole
      → R (worth k.listing (weigh f) w.table) (worth k.listing (weigh f) (fold_at k p w).table)
  pub by_pairing : (M : ℕ) (f : W) (S T : List A) → Good f → Every (Present k.listing (P M)) S → Every (Present k.listing (P M)) T
      → total k.listing S ≤ whole → (Q : List Match) → Uses k.listing (λ m. m.left) Q S → Uses k.listing (λ m. m.right) Q T
      → R (worth k.listing (weigh f) S) (worth k.listing (weigh f) (paired k Q S T)) × R (worth k.listing (weigh f) T) (worth k.listing (weigh f) (paired k Q S T))

module _ {A W : Type 0} {k : Kind A} {N : ℕ} {X : Target → Type 0} {P : ℕ → A → Type 0} {weigh : W → A → ℕ} {Good : W → Type 0} {ahead : Target → W → W}
    {R : ℕ → ℕ → Type 0} (c : Carries k N X P weigh Good ahead R) where
  open k use {listing as l}

  abbrev worth_to : W → List A → ℕ
  worth_to f T = worth l (weigh f) T

  good_along : (p : List Target) → Every X p → (f : W) → Good f → Good (along ahead p f)
  good_along [] aim f g = g
  good_along (x ∷ p) aim f g = c.good_ahead x (along ahead p f) aim.0 (good_along p aim.1 f g)

  -- ---- folds

  -- v is in shape, has no more units than WHOLE, and R holds between y and what it is worth
  record Carried (M : ℕ) (f : W) (y : ℕ) (v : Work A) : Type 0 where
    shaped : Every (Present l (P M)) v.table
    full : total l v.table ≤ whole
    stands : R y (worth_to f v.table)

  pub folded_carries : (M : ℕ) (f : W) (K : ℕ) (w : Work A) → Good f → Every (Present l (P M)) w.table → total l w.table ≤ whole
      → R (worth_to f w.table) (worth_to f (folded k K w).table)
  folded_carries M f K w g shaped full =
      (folded_keeps k (Carried M f (worth_to f w.table)) once K w (record { shaped = shaped; full = full; stands = c.same _ })).stands
    where
      once : (p : Pair) (v : Work A) → Carried M f (worth_to f w.table) v → Carried M f (worth_to f w.table) (fold_at k p v)
      once p v h =
          record {
            shaped = shaped_fold c.follows.keeps M p v h.shaped;
            full = le_trans (le_of_eq (fold_total k c.follows.keeps.laws p v h.full)) h.full;
            stands = c.onward _ _ _ h.stands (c.by_fold M f p v g h.shaped h.full);
          }

  -- ---- a run

  module _ (K : ℕ) (room : 0 < K) where
    advance_carries : (M : ℕ) (x : Target) → X x → (f : W) → Good f → (w : Work A) → Sound l (P M) K w.table
        → R (worth_to (ahead x f) w.table) (N * worth_to f (advance k N K x w).table)
    unfolding advance
    advance_carries M x aim f g w t =
        c.onward _ _ _ (c.by_access M x f w.table aim g t.shaped full)
        (c.times N _ _ (folded_carries (suc M) f K _ g (shaped_access c.follows M x aim w.table t.shaped)
        (le_trans (le_of_eq (access_total c.follows M x aim w.table t.shaped full)) full)))
      where
        full : total l w.table ≤ whole
        full = omega (arith, t.full)

    -- each access is one factor N; o was accessed directly before
    pub run_carries : (Z : ℕ) (ts : List ℕ) → ((o : Last) (b : ℕ) → X (target_of Z ts o b)) → (f : W) → Good f → (M : ℕ) (o : Last) (bs : List ℕ) (w : Work A)
        → Sound l (P M) K w.table
        → R (worth_to (along ahead (targets_of Z ts o bs) f) w.table) (N ^ length bs * worth_to f (run k N Z K ts o bs w).table)
    unfolding run
    run_carries Z ts aims f g M o [] w t = rw (pow-zero N, one_times (worth_to f w.table)) (c.same _)
      where
        one_times : (n : ℕ) → 1 * n ≡ n
        one_times n = omega arith
    run_carries Z ts aims f g M o (b ∷ bs) w t =
        rw (pow-succ' N (length bs), regroup (worth_to f (run k N Z K ts o (b ∷ bs) w).table))
        (c.onward _ _ _
        (advance_carries M (target_of Z ts o b) (aims o b) (along ahead (targets_of Z ts (Some b) bs) f) (good_along (targets_of Z ts (Some b) bs) (all (Some b) bs) f g) w t)
        (c.times N _ _ (run_carries Z ts aims f g (suc M) (Some b) bs (advance k N K (target_of Z ts o b) w) (sound_advance c.follows K room M (target_of Z ts o b) w (aims o b) t))))
      where
        regroup : (n : ℕ) → N * N ^ length bs * n ≡ N * (N ^ length bs * n)
        regroup n = omega arith

        all : (o : Last) (bs : List ℕ) → Every X (targets_of Z ts o bs)
        all o [] = tt
        all o (b ∷ bs) = (aims o b, all (Some b) bs)

    -- ---- the joins at a node

    -- R holds between T and U, to every good weight
    abbrev pub Stands : List A → List A → Type 0
    Stands T U = (f : W) → Good f → R (worth_to f T) (worth_to f U)

    module _ (M : ℕ) where
      abbrev Tab : List A → Type 0
      Tab T = Sound l (P M) K T

      module _ (S T : List A) (a : ℕ) (s : Tab S) (t : Tab T) where
        abbrev folded_to : List A → List A
        folded_to U = (folded k K (record { table = U; aside = a })).table

        full : total l S ≤ whole
        full = omega (arith, s.full)

        pairing_stands : (Q : List Match) → Uses l (λ m. m.left) Q S → Uses l (λ m. m.right) Q T
            → Stands S (folded_to (paired k Q S T)) × Stands T (folded_to (paired k Q S T))
        pairing_stands Q left right = (λ f g. c.onward _ _ _ (met f g).0 (folds f g), λ f g. c.onward _ _ _ (met f g).1 (folds f g))
          where
            met : (f : W) → Good f → R (worth_to f S) (worth_to f (paired k Q S T)) × R (worth_to f T) (worth_to f (paired k Q S T))
            met f g = c.by_pairing M f S T g s.shaped t.shaped full Q left right

            folds : (f : W) → Good f → R (worth_to f (paired k Q S T)) (worth_to f (folded_to (paired k Q S T)))
            folds f g =
                folded_carries M f K (record { table = paired k Q S T; aside = a }) g (shaped_paired c.follows.keeps M Q S T s.shaped t.shaped)
                (le_trans (le_of_eq (paired_total k c.follows.keeps.laws Q S T left full)) full)

      joined_stands : (e : Entry) (w : Work A) (T : List A) → Tab w.table → Tab T → Stands w.table (join_one k e K w T).table × Stands T (join_one k e K w T).table
      joined_stands e w T s t =
          by_entry k c.follows.keeps.laws (λ U. Stands w.table (folded_to w.table T w.aside s t U) × Stands T (folded_to w.table T w.aside s t U)) e w.table T
          (s.full ∙ sym t.full) (pairing_stands w.table T w.aside s t)

      module _ (d : Worked A) where
        abbrev Tables : List ℕ → Type 0
        Tables is = (j : ℕ) → among is j ≡ true → Tab (table_at d j)

        join_all_stands : (q : Entries) (is : List ℕ) (w : Work A) → Tables is → Tab w.table
            → Stands w.table (join_all_by k q K d is w).table × ((j : ℕ) → among is j ≡ true → Stands (table_at d j) (join_all_by k q K d is w).table)
        unfolding join_all_by
        join_all_stands q [] w h t = (λ f g. c.same _, λ j e. absurd (true≢false (sym e)))
        join_all_stands q (i ∷ is) w h t =
            let (p, others) = first_and_others (λ j. Tab (table_at d j)) i is h in
            let v = join_one k (q 0) K w (table_at d i) in
            let (x, y) = joined_stands (q 0) w (table_at d i) t p in
            let (z, rest) = join_all_stands (later q) is v others (sound_join c.follows.keeps K room M (q 0) w (table_at d i) t p) in (
              λ f g. c.onward _ _ _ (x f g) (z f g),
              first_or_other (λ j. Stands (table_at d j) (join_all_by k (later q) K d is v).table) i is (λ f g. c.onward _ _ _ (y f g) (z f g)) rest,
            )

        pub enter_stands : (q : Entries) (s : A) (is : List ℕ) → Tables is → (j : ℕ) → among is j ≡ true → Stands (table_at d j) (enter_by k q K s d is).table
        unfolding enter_by
        enter_stands q s [] h j e = absurd (true≢false (sym e))
        enter_stands q s (i ∷ is) h j e =
            let (p, others) = first_and_others (λ j. Tab (table_at d j)) i is h in
            let w : Work A = record { table = table_at d i; aside = d.aside } in
            let (z, rest) = join_all_stands q is w others p in
            first_or_other (λ j. Stands (table_at d j) (join_all_by k q K d is w).table) i is z rest j e

-- ---- the start

-- node 0 has no predecessor: it starts from the start, and no last block is known
pub no_predecessors : (i : Input) → Checked i → predecessors (edges_of i.edges) 0 ≡ []
no_predecessors i ok = none (predecessors (edges_of i.edges) 0) (λ a e. (predecessor_lower i ok a 0 e).0)
  where
    none : (is : List ℕ) → ((a : ℕ) → among is a ≡ true → a < 0) → is ≡ []
    none [] h = refl
    none (a ∷ is) h = let z : a < 0 = h a (or_left (eqb a a) _ (eq-eqb a a refl)) in absurd (omega arith)

pub first_start : {A : Type 0} (k : Kind A) (q p : Entries) (i : Input) → Checked i
    → enter_by k p i.limit (k.start i) (worked_by k q i 0) (predecessors (edges_of i.edges) 0) ≡ record { table = k.start i ∷ []; aside = 0 }
unfolding worked_by enter_by
first_start k q p i ok = ap (enter_by k p i.limit (k.start i) (worked_by k q i 0)) (no_predecessors i ok)

-- the block accessed directly before node j
abbrev pub known : Input → ℕ → Last
known i j = last_before (lasts_to i j) (predecessors (edges_of i.edges) j)

pub first_known : (i : Input) → Checked i → known i 0 ≡ None
unfolding last_before
first_known i ok = ap (last_before (lasts_to i 0)) (no_predecessors i ok)

pub last_on : (o p : Last) (bs : List ℕ) → Vaguer o p → Vaguer (last_after o bs) (last_after p bs)
unfolding last_after
last_on o p [] v = v
last_on o p (b ∷ bs) v = inr refl

pub last_append : (o : Last) (p q : List ℕ) → last_after o (p ++ q) ≡ last_after (last_after o p) q
unfolding last_after
last_append o [] q = refl
last_append o (b ∷ p) q = last_append (Some b) p q

-- ---- from node to node

module _ {A W : Type 0} {k : Kind A} {X : Target → Type 0} {P : ℕ → A → Type 0} {weigh : W → A → ℕ} {Good : W → Type 0} {ahead : Target → W → W}
    {R : ℕ → ℕ → Type 0} (q : Entries) (i : Input) (ok : Checked i) (c : Carries k i.ways X P weigh Good ahead R) (starts : Starts k.listing P (k.start i))
    (aims : (o : Last) (b : ℕ) → X (target_of i.sets i.tracked o b)) where
  abbrev N : ℕ
  N = i.ways

  -- what the accesses to bs are after, where o was accessed directly before, and a weight before them
  abbrev targets : Last → List ℕ → List Target
  targets o bs = targets_of i.sets i.tracked o bs

  abbrev pub before : Last → List ℕ → W → W
  before o bs f = along ahead (targets o bs) f

  abbrev worth_at : W → List A → ℕ
  worth_at f T = worth k.listing (weigh f) T

  good_before : (o : Last) (bs : List ℕ) (f : W) → Good f → Good (before o bs f)
  good_before o bs f g = good_along c (targets o bs) (all o bs) f g
    where
      all : (o : Last) (bs : List ℕ) → Every X (targets o bs)
      all o [] = tt
      all o (b ∷ bs) = (aims o b, all (Some b) bs)

  abbrev NodeIs : List A → Type 0
  NodeIs T = Sound k.listing (P (length i.accesses)) i.limit T

  node_is : (j : ℕ) → j < nodes i → NodeIs (node_table k q i j)
  node_is = node_sound q i ok c.follows starts aims

  -- after o the accesses bs lead from T to U
  abbrev Leads : Last → List A → List ℕ → List A → Type 0
  Leads o T bs U = (f : W) → Good f → R (worth_at (before o bs f) T) (N ^ length bs * worth_at f U)

  -- the entries for the joins at node j, and what it starts from
  abbrev entries : ℕ → Entries
  entries j = behind (joins_to (edges_of i.edges) j) q

  abbrev entered : ℕ → Work A
  entered j = enter_by k (entries j) i.limit (k.start i) (worked_by k q i j) (predecessors (edges_of i.edges) j)

  module _ (j : ℕ) (here : j < nodes i) where
    tables_before : (a : ℕ) → among (predecessors (edges_of i.edges) j) a ≡ true → NodeIs (table_at (worked_by k q i j) a)
    tables_before a e =
        let a<j = (predecessor_lower i ok a j e).0 in
        rw (table_stays k q i j a a<j) (node_is a (omega (arith, a<j)))

    node_run : Leads (known i j) (entered j).table (run_of i j) (node_table k q i j)
    unfolding node_by
    node_run f g =
        run_carries c i.limit ok.some_states i.sets i.tracked aims f g (length i.accesses) (known i j) (run_of i j) (entered j)
        (sound_enter c.follows.keeps i.limit ok.some_states (length i.accesses) (worked_by k q i j) (entries j) (k.start i) starts _ tables_before)

    module _ (a : ℕ) (e : among (predecessors (edges_of i.edges) j) a ≡ true) where
      -- from each predecessor
      node_leads : Leads (known i j) (node_table k q i a) (run_of i j) (node_table k q i j)
      node_leads f g =
          c.onward _ _ _
          (rw (table_stays k q i j a (predecessor_lower i ok a j e).0) at
          (enter_stands c i.limit ok.some_states (length i.accesses) (worked_by k q i j) (entries j) (k.start i) (predecessors (edges_of i.edges) j) tables_before a e
          (before (known i j) (run_of i j) f) (good_before (known i j) (run_of i j) f g)))
          (node_run f g)

      -- which knows what is known before the node
      node_known : Vaguer (known i j) (last_of i a)
      node_known = rw (last_stays i j a (predecessor_lower i ok a j e).0) at (last_before_lem (lasts_to i j) (predecessors (edges_of i.edges) j) a e)

  -- ---- along a path

  -- R holds between what a table is worth to accesses where more is known of the last block, and where less is
  abbrev pub Vague : Type 0
  Vague = (f : W) → Good f → (M : ℕ) (o p : Last) → Vaguer o p → (bs : List ℕ) (T : List A) → Every (Present k.listing (P M)) T
      → R (worth_at (before p bs f) T) (worth_at (before o bs f) T)

  module _ (vague : Vague) where
    -- the accesses p lead from the start to T, and o is known of the last of them
    record Covers (p : List ℕ) (T : List A) (o : Last) : Type 0 where
      stands : (f : W) → Good f → R (whole * weigh (before None p f) (k.start i)) (N ^ length p * worth_at f T)
      last : Vaguer o (last_after None p)

    -- and on to the next node
    covers_on : (p : List ℕ) (a b : ℕ) → among (predecessors (edges_of i.edges) b) a ≡ true → Covers p (node_table k q i a) (last_of i a)
        → Covers (p ++ run_of i b) (node_table k q i b) (last_of i b)
    unfolding node_last
    covers_on p a b e c' = record { stands = on; last = rw (last_append None p bs) (last_on (known i b) (last_after None p) bs less) }
      where
        bs : List ℕ
        bs = run_of i b

        here : b < nodes i
        here = (predecessor_lower i ok a b e).1

        less : Vaguer (known i b) (last_after None p)
        less = vaguer_trans _ _ _ (node_known b here a e) c'.last

        regroup : (n : ℕ) → N ^ length p * N ^ length bs * n ≡ N ^ length p * (N ^ length bs * n)
        regroup n = omega arith

        on : (f : W) → Good f → R (whole * weigh (before None (p ++ bs) f) (k.start i)) (N ^ length (p ++ bs) * worth_at f (node_table k q i b))
        on f g =
            rw (
              targets_append i.sets i.tracked None p bs,
              along_append ahead (targets None p) (targets (last_after None p) bs) f,
              length-append p bs,
              pow-add N (length p) (length bs),
              regroup (worth_at f (node_table k q i b)),
            )
            (c.onward _ _ _ (c'.stands (before (last_after None p) bs f) (good_before (last_after None p) bs f g))
            (c.times (N ^ length p) _ _
            (c.onward _ _ _ (vague f g (length i.accesses) (known i b) (last_after None p) less bs (node_table k q i a)
            (node_is a (omega (arith, here, (predecessor_lower i ok a b e).0))).shaped)
            (node_leads b here a e f g))))

    -- every path from first node to last leads from the start to the finished table
    pub path_covers : (path : List ℕ) → is_path i path ≡ true → (f : W) → Good f
        → R (whole * weigh (before None (accesses_of i path) f) (k.start i)) (N ^ length (accesses_of i path) * worth_at f (finished_by k q i).table)
    unfolding node_last
    path_covers path h =
        rw (finished_table k q i ok.some_nodes) (along_path i (λ p a. Covers p (node_table k q i a) (last_of i a)) covers_on begun path h).stands
      where
        begun : Covers (run_of i 0) (node_table k q i 0) (last_of i 0)
        begun =
            record {
              stands = λ f g.
                  subst (λ (n : ℕ). R n (N ^ length (run_of i 0) * worth_at f (node_table k q i 0)))
                  (ap (λ (u : ℕ). u * weigh (before None (run_of i 0) f) (k.start i) + 0) starts.all ∙ omega arith)
                  (subst (λ (w : Work A). R (worth_at (before None (run_of i 0) f) w.table) (N ^ length (run_of i 0) * worth_at f (node_table k q i 0)))
                  (first_start k q (entries 0) i ok)
                  (subst (λ (o : Last). R (worth_at (before o (run_of i 0) f) (entered 0).table) (N ^ length (run_of i 0) * worth_at f (node_table k q i 0)))
                  (first_known i ok) (node_run 0 ok.some_nodes f g)));
              last = inr (ap (λ (o : Last). last_after o (run_of i 0)) (first_known i ok));
            }
