-- What an accepted input is: none of section 5's reasons applies to it. Each fact here is one of those tests, turned round.
use Rattle.std.specs.Prelude.{Err, Ok}
use mathlib.Core.Path.{◌≡◌, refl, sym, ap, ◌∙◌}
use mathlib.Core.Logic.{◌≢◌, ◌⊎◌, inl, inr, ⊎_elim}
use mathlib.Core.Bool.{Bool, true, false, cond, ◌||◌, ◌&&◌, not, true≢false}
use mathlib.Core.List.{List, [], ◌∷◌, map}
use Prim.Native.Nat.{ℕ, zero, suc, ◌≤◌, ◌<◌}
use native.Mathlib.Nat.{eq-or-lt_of_le, le_of_suc-le-suc, not-suc-le-zero}
use native.Mathlib.Omega.{arith}
use lib.Dec.{eqb, ltb}
use lib.ListN.{length}
use borrow.Author.Tests.{ltb-true, ltb-false, eqb-true, eqb-false, not-false}
use Rattle.basics.specs.Sums.{sum_over}
use Rattle.basics.proofs.Bools.{and_left, and_right, or_cases, not_left, not_right}
use Rattle.rules.specs.declared.Refusal.{Refusal}
use Rattle.rules.specs.declared.Refusal.TheVariants.{Text, Ways, Limit, Tracked, Accesses, Graph, Room, Row, SpreadRoom, Sets, Revision, NoCore, UntrackedAccess, SecondRevision, TraceLength, TraceRoom, ListingRoom, Listing, Expansion, Nightly, Pairing}
use Rattle.rules.specs.Answers.{number_of, Reason, first, verdict_says, outcome_says, number_says, Verdict}
use Rattle.rules.specs.Contents.{among, once, all_tracked}
use Rattle.rules.specs.Ordered.{before, by_number, rises}
use Rattle.rules.specs.Input.{Input, nodes, Edge, edges_of, predecessors}
use Rattle.rules.specs.Graph.{finished}
use Rattle.rules.specs.Refusals.{outside, forward, in_pairs, edge_order, each_below, has_edge_in, has_edge_out, edges_kept, set_counts, reasons, verdict, answered, outcome, best_reasons, best_verdict, best_answered, best_outcome}
use Rattle.rules.specs.Shape.{Every}
use Rattle.rules.proofs.Lookup.{among_every}
use Rattle.rules.proofs.Ordered.{InOrder, in_order_rises, rises_in_order, number_same, by_number_lem, then_by_lem}

-- ---- no reason applies

pub numbered : (r : Refusal) → number_of r ≢ 0
numbered Text e = omega arith
numbered Ways e = omega arith
numbered Limit e = omega arith
numbered Tracked e = omega arith
numbered Accesses e = omega arith
numbered Graph e = omega arith
numbered Room e = omega arith
numbered Row e = omega arith
numbered SpreadRoom e = omega arith
numbered Sets e = omega arith
numbered Revision e = omega arith
numbered NoCore e = omega arith
numbered UntrackedAccess e = omega arith
numbered SecondRevision e = omega arith
numbered TraceLength e = omega arith
numbered TraceRoom e = omega arith
numbered ListingRoom e = omega arith
numbered Listing e = omega arith
numbered Expansion e = omega arith
numbered Pairing e = omega arith
numbered Nightly e = omega arith

pub none_applies : (rs : List Reason) → verdict_says (first rs) ≡ 0 → Every (λ r. r.applies ≡ false) rs
none_applies [] h = tt
none_applies (r ∷ rs) h = go r.applies refl h (none_applies rs)
  where
    go : (b : Bool) → r.applies ≡ b → verdict_says (cond b (Err r.gives) (first rs)) ≡ 0
        → (verdict_says (first rs) ≡ 0 → Every (λ r. r.applies ≡ false) rs) → Every (λ r. r.applies ≡ false) (r ∷ rs)
    go true e h rest = absurd (numbered r.gives h)
    go false e h rest = (e, rest h)

-- ---- what is then known

pub record Checked (i : Input) : Type 0 where
  pub some_ways : 0 < i.ways
  pub few_ways : i.ways ≤ 16
  pub known_sets : among set_counts i.sets ≡ true
  pub some_sets : 0 < i.sets
  pub few_sets : i.sets ≤ 16
  pub low_revision : 1 ≤ i.revision
  pub high_revision : i.revision ≤ 2
  pub some_states : 0 < i.limit
  pub few_states : i.limit ≤ 64
  pub few_tracked : length i.tracked ≤ 16
  pub distinct : once i.tracked ≡ true
  pub few_accesses : length i.accesses ≤ 4096
  pub some_nodes : 0 < nodes i
  pub few_nodes : nodes i ≤ 64
  pub all_accesses : sum_over (λ n. n) i.lengths ≡ length i.accesses
  pub edges_kept_lem : edges_kept (nodes i) i.edges ≡ true
  pub result_room_fact : i.limit ≤ i.result_room
  pub working_room_fact : 5184 ≤ i.working_room

pub within : (low high n : ℕ) → outside low high n ≡ false → (low ≤ n) × (n ≤ high)
within low high n h =
    (ltb-false n low (not_left (ltb n low) (ltb high n) h), ltb-false high n (not_right (ltb n low) (ltb high n) h))

-- there is no set count of 0
pub counts_some : (n : ℕ) → among set_counts n ≡ true → 0 < n
counts_some n h = among_every (λ m. 0 < m) set_counts n h (omega arith, (omega arith, (omega arith, (omega arith, (omega arith, tt)))))

pub counts_few : (n : ℕ) → among set_counts n ≡ true → n ≤ 16
counts_few n h = among_every (λ m. m ≤ 16) set_counts n h (omega arith, (omega arith, (omega arith, (omega arith, (omega arith, tt)))))

-- none of the graph call's reasons applies
pub facts : (i : Input) → Every (λ r. r.applies ≡ false) (reasons i) → Checked i
unfolding reasons
facts i (w, (n, (v, (k, (t, (a, (g, (r, _)))))))) =
    let ways = within 1 16 i.ways w in
    let sets = not-false _ n in
    let revision = within 1 2 i.revision v in
    let limit = within 1 64 i.limit k in
    let g₁ = not_left (unnumbered || uneven) broken g in
    let count = within 1 64 (nodes i) (not_left unnumbered uneven g₁) in
    record {
      some_ways = ways.0;
      few_ways = ways.1;
      known_sets = sets;
      some_sets = counts_some i.sets sets;
      few_sets = counts_few i.sets sets;
      low_revision = revision.0;
      high_revision = revision.1;
      some_states = limit.0;
      few_states = limit.1;
      few_tracked = ltb-false 16 (length i.tracked) (not_left crowded twice t);
      distinct = not-false _ (not_right crowded twice t);
      few_accesses = ltb-false 4096 (length i.accesses) a;
      some_nodes = count.0;
      few_nodes = count.1;
      all_accesses = eqb-true _ _ (not-false _ (not_right unnumbered uneven g₁));
      edges_kept_lem = not-false _ (not_right (unnumbered || uneven) broken g);
      result_room_fact = ltb-false i.result_room i.limit (not_left small_result small_working r);
      working_room_fact = ltb-false i.working_room 5184 (not_right small_result small_working r);
    }
  where
    crowded : Bool
    crowded = ltb 16 (length i.tracked)

    twice : Bool
    twice = not (once i.tracked)

    unnumbered : Bool
    unnumbered = outside 1 64 (nodes i)

    uneven : Bool
    uneven = not (eqb (sum_over (λ n. n) i.lengths) (length i.accesses))

    broken : Bool
    broken = not (edges_kept (nodes i) i.edges)

    small_result : Bool
    small_result = ltb i.result_room i.limit

    small_working : Bool
    small_working = ltb i.working_room 5184

-- an input is accepted where the call's answer carries no refusal's number
pub accepted : (i : Input) → (outcome_says (outcome i)).number ≡ 0 → Checked i
unfolding outcome verdict
accepted i h = facts i (none_applies (reasons i) (says (first (reasons i)) h))
  where
    says : (v : Verdict) → (outcome_says (answered v i)).number ≡ 0 → verdict_says v ≡ 0
    says (Ok tt) h = refl
    says (Err r) h = h

-- the call for the best case has the same reasons, so what it accepts is known to be so too; and the revision is the first, and every access is
-- tracked
pub record BestChecked (i : Input) : Type 0 where
  pub checked : Checked i
  pub first_revision : i.revision ≡ 1
  pub all_tracked_fact : all_tracked i.tracked i.accesses ≡ true

pub best_accepted : (i : Input) → (number_says (best_outcome i)).number ≡ 0 → BestChecked i
unfolding best_outcome best_verdict best_reasons reasons
best_accepted i h =
    let (w, (n, (v, (e, (k, (t, (a, (g, (u, (r, _)))))))))) = none_applies (best_reasons i) (says (first (best_reasons i)) h) in
    let some : (1 ≤ i.revision) × (i.revision ≤ 2) = within 1 2 i.revision v in
    let other : i.revision ≢ 2 = eqb-false i.revision 2 e in
    record {
      checked = facts i (w, (n, (v, (k, (t, (a, (g, (r, tt))))))));
      first_revision = omega (arith, some.0, some.1, other);
      all_tracked_fact = not-false _ u;
    }
  where
    says : (v : Verdict) → (number_says (best_answered v i)).number ≡ 0 → verdict_says v ≡ 0
    says (Ok tt) h = refl
    says (Err r) h = h

-- and then it carries the finished work's set-aside count
pub says_aside : (i : Input) → (outcome_says (outcome i)).number ≡ 0 → (outcome_says (outcome i)).aside ≡ (finished i).aside
unfolding outcome
says_aside i h = go (verdict i) h
  where
    go : (v : Verdict) → (outcome_says (answered v i)).number ≡ 0 → (outcome_says (answered v i)).aside ≡ (finished i).aside
    go (Ok tt) h = refl
    go (Err r) h = absurd (numbered r h)

-- an input is accepted as well where its verdict says so
pub checked : (i : Input) → Ok tt ≡ verdict i → Checked i
unfolding outcome
checked i v = accepted i (rw (← v) refl)

-- ---- edges

forward_pred : (n : ℕ) (es : List Edge) → forward n es ≡ true → (i j : ℕ) → among (predecessors es j) i ≡ true → (i < j) × (j < n)
unfolding predecessors
forward_pred n [] h i j e = absurd (true≢false (sym e))
forward_pred n (x ∷ es) h i j e =
    go (forward_pred n es (and_right (ltb x.from x.to && ltb x.to n) (forward n es) h) i j) (eqb x.to j) refl e
  where
    here : (ltb x.from x.to && ltb x.to n) ≡ true
    here = and_left (ltb x.from x.to && ltb x.to n) (forward n es) h

    up : x.from < x.to
    up = ltb-true x.from x.to (and_left (ltb x.from x.to) _ here)

    in_range : x.to < n
    in_range = ltb-true x.to n (and_right (ltb x.from x.to) _ here)

    go : (among (predecessors es j) i ≡ true → (i < j) × (j < n)) → (a : Bool) → eqb x.to j ≡ a
        → among (cond a (x.from ∷ predecessors es j) (predecessors es j)) i ≡ true → (i < j) × (j < n)
    go rest false t q = rest q
    go rest true t q = pick (or_cases (eqb x.from i) (among (predecessors es j) i) q)
      where
        to : x.to ≡ j
        to = eqb-true x.to j t

        pick : (eqb x.from i ≡ true) ⊎ (among (predecessors es j) i ≡ true) → (i < j) × (j < n)
        pick (inl s) = let from : x.from ≡ i = eqb-true x.from i s in omega (arith, up, in_range, to)
        pick (inr s) = rest s

-- they lead forward, and rise, and enter every node but 0
edges_are : (n : ℕ) (ns : List ℕ) → edges_kept n ns ≡ true
    → (forward n (edges_of ns) ≡ true) × (rises edge_order (edges_of ns) ≡ true) × (has_edge_in n (edges_of ns) ≡ true)
unfolding edges_kept
edges_are n ns h =
    let all = and_left (in_pairs ns && forward n es && rises edge_order es && has_edge_in n es) (has_edge_out n es) h in
    let both = and_left (in_pairs ns && forward n es && rises edge_order es) (has_edge_in n es) all in (
      and_right (in_pairs ns) (forward n es) (and_left (in_pairs ns && forward n es) (rises edge_order es) both),
      and_right (in_pairs ns && forward n es) (rises edge_order es) both,
      and_right (in_pairs ns && forward n es && rises edge_order es) (has_edge_in n es) all,
    )
  where
    es : List Edge
    es = edges_of ns

-- an edge comes from a lower node, and leads to a node
pub predecessor_lower : (i : Input) → Checked i → (a j : ℕ) → among (predecessors (edges_of i.edges) j) a ≡ true → (a < j) × (j < nodes i)
predecessor_lower i ok a j e =
    forward_pred (nodes i) (edges_of i.edges) (edges_are (nodes i) i.edges ok.edges_kept_lem).0 a j e

each_below_lem : (test : ℕ → Bool) (n : ℕ) → each_below n test ≡ true → (j : ℕ) → j < n → test j ≡ true
each_below_lem test zero h j l = absurd (not-suc-le-zero l)
each_below_lem test (suc n) h j l =
    ⊎_elim (λ e. rw e (and_left (test n) (each_below n test) h)) (each_below_lem test n (and_right (test n) (each_below n test) h) j)
    (eq-or-lt_of_le (le_of_suc-le-suc l))

-- a node with an edge in has a predecessor
entered_from : (es : List Edge) (j : ℕ) → among (map (λ e. e.to) es) j ≡ true → 0 < length (predecessors es j)
unfolding predecessors
entered_from [] j h = absurd (true≢false (sym h))
entered_from (e ∷ es) j h = go (eqb e.to j) h (entered_from es j)
  where
    go : (b : Bool) → (b || among (map (λ e. e.to) es) j) ≡ true → (among (map (λ e. e.to) es) j ≡ true → 0 < length (predecessors es j))
        → 0 < length (cond b (e.from ∷ predecessors es j) (predecessors es j))
    go true h rest = omega arith
    go false h rest = rest h

-- only node 0 has none
pub no_predecessor : (i : Input) → Checked i → (j : ℕ) → j < nodes i → predecessors (edges_of i.edges) j ≡ [] → j ≡ 0
no_predecessor i ok j l none =
    ⊎_elim (eqb-true j 0) (λ h. absurd (omega (arith, ap length none, entered_from (edges_of i.edges) j h)))
    (or_cases (eqb j 0) _ (each_below_lem _ (nodes i) (edges_are (nodes i) i.edges ok.edges_kept_lem).2 j l))

-- predecessors are listed rising, the lowest first
pub predecessors_rise : (i : Input) → Checked i → (j : ℕ) → rises by_number (predecessors (edges_of i.edges) j) ≡ true
unfolding predecessors
predecessors_rise i ok j =
    in_order_rises by_number (predecessors (edges_of i.edges) j)
    (go (edges_of i.edges)
    (rises_in_order edge_order (then_by_lem _ (by_number_lem (λ e. e.to)) _ (by_number_lem (λ e. e.from))).onward (edges_of i.edges) (edges_are (nodes i) i.edges ok.edges_kept_lem).1))
  where
    behind : (e f : Edge) → e.to ≡ f.to → edge_order e f ≡ before → by_number e.from f.from ≡ before
    behind e f t b = rw (number_same e.to f.to t) at b

    later : (e : Edge) → e.to ≡ j → (es : List Edge) → Every (λ f. edge_order e f ≡ before) es → Every (λ a. by_number e.from a ≡ before) (predecessors es j)
    later e t [] h = tt
    later e t (f ∷ es) h = pick (eqb f.to j) refl (later e t es h.1)
      where
        pick : (b : Bool) → eqb f.to j ≡ b → Every (λ a. by_number e.from a ≡ before) (predecessors es j)
            → Every (λ a. by_number e.from a ≡ before) (cond b (f.from ∷ predecessors es j) (predecessors es j))
        pick true q r = (behind e f (t ∙ sym (eqb-true f.to j q)) h.0, r)
        pick false q r = r

    go : (es : List Edge) → InOrder edge_order es → InOrder by_number (predecessors es j)
    go [] h = tt
    go (e ∷ es) h = pick (eqb e.to j) refl (go es h.1)
      where
        pick : (b : Bool) → eqb e.to j ≡ b → InOrder by_number (predecessors es j)
            → InOrder by_number (cond b (e.from ∷ predecessors es j) (predecessors es j))
        pick true q r = (later e (eqb-true e.to j q) es h.0, r)
        pick false q r = r
