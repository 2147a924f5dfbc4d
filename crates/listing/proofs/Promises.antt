-- The promises of request 8/13, each under the sentence that says it in words. c, K, ts, r and w stand for whatever else document 01's graph call is
-- handed: cache, state limit, tracked blocks and the two rooms.
use Rattle.std.specs.Prelude.{Err, Ok}
use mathlib.Core.Path.{◌≡◌, refl, sym, ap, subst, ◌∙◌}
use mathlib.Core.Logic.{◌↔◌, ◌≢◌}
use mathlib.Core.Bool.{Bool, true, false, not, ◌||◌, ◌&&◌, true≢false}
use mathlib.Core.List.{List, [], ◌∷◌}
use Prim.Native.Nat.{ℕ, ◌*◌, ◌^◌, ◌≤◌, ◌<◌}
use native.Mathlib.Omega.{arith}
use lib.Dec.{eqb, ltb}
use lib.ListN.{length, length-append}
use borrow.Author.Tests.{eq-eqb, le-ltb}
use Rattle.basics.specs.Sums.{sum_over}
use Rattle.basics.proofs.Bools.{both, or_left, neither, not_right}
use Rattle.machine.specs.Draws.{count}
use Rattle.rules.specs.declared.Cache.{Cache}
use Rattle.rules.specs.Answers.{number_of, Reason, first, verdict_says, outcome_says, Verdict}
use Rattle.rules.specs.Cycles.{cores, core_at, above_cycles}
use Rattle.rules.specs.Graph.{finished}
use Rattle.rules.specs.Input.{Input, nodes}
use Rattle.rules.specs.Longest.{longest}
use Rattle.rules.specs.Questions.{above}
use Rattle.rules.specs.Refusals as Rules
use Rattle.rules.specs.Refusals.{outside, edges_kept, verdict, answered, outcome}
use Rattle.rules.specs.Units.{whole}
use Rattle.promises.specs.Ends.{revision_of, over, over_cycles}
use Rattle.promises.specs.Paths.{is_path, accesses_of}
use Rattle.promises.proofs.Promises.{safe, safe_cycles}
use Rattle.listing_form.specs.Listing.{Listing}
use Rattle.listing_form.specs.Reading.{found, listing_of, listing_in}
use Rattle.listing.specs.Expansion.{graph_of, lengths, accesses, flat}
use Rattle.listing_form.specs.Counting.{nodes_in}
use Rattle.listing.specs.Runs.{Makes}
use Rattle.listing.specs.Call.{expansion_says, after_expanding}
use Rattle.listing_form.proofs.Reading.{Lists, form}
use Rattle.listing.proofs.Edges.{edges_kept_lem, lengths_sum, node_count}
use Rattle.listing.proofs.SameSequences.{input_for, same_sequences}
use Rattle.listing.proofs.Calls.{checked, none_refused, graph_nodes, graph_accesses}

-- A listing is read from tokens exactly where they are its tokens, branches and loops nest at most 8 deep and every count is from 1 to 64.
pub reads_listings : (ts : List ℕ) (s : Listing) → (listing_of ts ≡ found s []) ↔ Lists ts s
reads_listings ts s = form ts s

-- The listing's runs and the graph's paths give the same access sequences: one is a run of the listing exactly when it is the accesses of a path of
-- the graph from first node to last.
pub same_accesses : (s : Listing) (c : Cache) (K : ℕ) (ts : List ℕ) (r w : ℕ) (x : List ℕ)
    → let i = input_for (graph_of s) c K ts r w in
    Makes s x ↔ ((path : List ℕ) × (is_path i path ≡ true) × (accesses_of i path ≡ x))
same_accesses s c K ts r w x = same_sequences s c K ts r w x

-- ---- the graph call takes the graph

-- a reason applies whose number is n
abbrev given : ℕ → List Reason → Bool
given n [] = false
given n (r ∷ rs) = eqb (number_of r.gives) n && r.applies || given n rs

-- where none does, the first that applies has another number
not_given : (n : ℕ) → n ≢ 0 → (rs : List Reason) → given n rs ≡ false → verdict_says (first rs) ≢ n
not_given n z [] h e = z (sym e)
not_given n z (r ∷ rs) h e = go r.applies h (not_given n z rs) e
  where
    go : (b : Bool) → (eqb (number_of r.gives) n && b || given n rs) ≡ false → (given n rs ≡ false → verdict_says (first rs) ≢ n)
        → verdict_says (first (record { applies = b; gives = r.gives } ∷ rs)) ≢ n
    go true h rest e =
        let same = eqb (number_of r.gives) n in
        true≢false (sym (or_left (same && true) (given n rs) (both same true (eq-eqb (number_of r.gives) n e) refl)) ∙ h)
    go false h rest e = rest (not_right (eqb (number_of r.gives) n && false) (given n rs) h) e

number_is : (v : Verdict) (i : Input) → (outcome_says (answered v i)).number ≡ verdict_says v
number_is (Ok tt) i = refl
number_is (Err r) i = refl

module _ (i : Input) (few : ltb 4096 (length i.accesses) ≡ false)
    (kept : (outside 1 64 (nodes i) || not (eqb (sum_over (λ n. n) i.lengths) (length i.accesses)) || not (edges_kept (nodes i) i.edges)) ≡ false) where
  other : (n : ℕ) → n ≢ 0 → given n (Rules.reasons i) ≡ false → (outcome_says (outcome i)).number ≢ n
  unfolding outcome verdict
  other n z h e = not_given n z (Rules.reasons i) h (sym (number_is (first (Rules.reasons i)) i) ∙ e)

  not_four_five : ((outcome_says (outcome i)).number ≢ 4) × ((outcome_says (outcome i)).number ≢ 5)
  unfolding Rules.reasons
  not_four_five = (other 4 (λ e. omega (arith, e)) (neither _ false few refl), other 5 (λ e. omega (arith, e)) (neither _ false kept refl))

-- Where the call refuses nothing, the graph call never refuses the graph of the listing with 4 or 5: it keeps the rules of document 01, section 2.
pub graph_taken : (ts ns bs es : List ℕ) → (expansion_says (after_expanding ts ns bs es).answer).number ≡ 0
    → (c : Cache) (K : ℕ) (tracked : List ℕ) (r w : ℕ)
    → let i = input_for (graph_of (listing_in (listing_of ts))) c K tracked r w in
    ((outcome_says (outcome i)).number ≢ 4) × ((outcome_says (outcome i)).number ≢ 5)
graph_taken ts ns bs es ok c K tracked r w =
    let s = listing_in (listing_of ts) in
    let g = graph_of s in
    let sizes = checked ts (length ns) (length bs) (length es) (none_refused ts ns bs es ok) in
    not_four_five (input_for g c K tracked r w)
    (le-ltb 4096 (length (accesses g)) (omega (arith, graph_accesses s, sizes.few_accesses)))
    (neither _ (not (edges_kept (length (lengths g)) (flat g.edges)))
    (neither (outside 1 64 (length (lengths g))) _
    (neither (ltb (length (lengths g)) 1) _ (le-ltb (length (lengths g)) 1 (omega (arith, node_count g))) (le-ltb 64 (length (lengths g)) (few s sizes.few_nodes)))
    (ap not (eq-eqb (sum_over (λ n. n) (lengths g)) (length (accesses g)) (lengths_sum g))))
    (ap not (edges_kept_lem s)))
  where
    few : (s : Listing) → nodes_in s ≤ 63 → length (lengths (graph_of s)) ≤ 64
    few s l = omega (arith, graph_nodes s, node_count (graph_of s), l, length-append (graph_of s).earlier ((graph_of s).current ∷ []))

-- ---- the bound reads over the listing

-- Safe over a listing. Where the graph call accepts its graph, for every run x of the listing and every budget B:
-- (choice sequences of x with more misses than B) × 2^48 ≤ (units above B) × N^L, N being the ways of a set and L the accesses of x.
pub safe_run : (s : Listing) (c : Cache) (K : ℕ) (ts : List ℕ) (r w : ℕ)
    → let i = input_for (graph_of s) c K ts r w in
    (outcome_says (outcome i)).number ≡ 0 → (x : List ℕ) → Makes s x → (B : ℕ)
    → count (over B) (revision_of i) i.sets i.ways x * whole ≤ above B (finished i).table * i.ways ^ length x
safe_run s c K ts r w ok x run B =
    let i = input_for (graph_of s) c K ts r w in
    let (path, is, same) = (same_sequences s c K ts r w x).0 run in
    subst (λ x. count (over B) (revision_of i) i.sets i.ways x * whole ≤ above B (finished i).table * i.ways ^ length x) same (safe i ok path is B)

-- The same in cycles, for every core k, with the run's own cycles and the longest path's accesses L handed in.
pub safe_run_cycles : (s : Listing) (c : Cache) (K : ℕ) (ts : List ℕ) (r w : ℕ)
    → let i = input_for (graph_of s) c K ts r w in
    (outcome_says (outcome i)).number ≡ 0 → (L : ℕ) → L ≡ longest i → (x : List ℕ) → Makes s x → (k : ℕ) → k < length cores → (B : ℕ)
    → count (over_cycles (core_at k) (length x) B) (revision_of i) i.sets i.ways x * whole ≤ above_cycles (core_at k) L B (finished i).table * i.ways ^ length x
safe_run_cycles s c K ts r w ok L e x run k known B =
    let i = input_for (graph_of s) c K ts r w in
    let (path, is, same) = (same_sequences s c K ts r w x).0 run in
    subst (λ x. count (over_cycles (core_at k) (length x) B) (revision_of i) i.sets i.ways x * whole ≤ above_cycles (core_at k) L B (finished i).table * i.ways ^ length x) same
    (safe_cycles i ok L e path is k known B)
