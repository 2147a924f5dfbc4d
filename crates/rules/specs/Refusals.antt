-- When the work says no: document 01, section 5. Reasons are checked in this order; the first that applies is given.
use Rattle.std.specs.Prelude.{Bool, true, false, ◌||◌, ◌&&◌, not, List, [], ◌∷◌, map, ℕ, zero, suc, eqb, ltb, length, Err, Ok, Result}
use Rattle.basics.specs.Sums.{sum_over}
use Rattle.rules.specs.declared.Refusal.{Refusal}
use Rattle.rules.specs.declared.Refusal.TheVariants.{Ways, Sets, Revision, Limit, Tracked, Accesses, Graph, Room, UntrackedAccess, SecondRevision}
use Rattle.rules.specs.Units.{units}
use Rattle.rules.specs.Answers.{Reason, when, first, Outcome, Verdict}
use Rattle.rules.specs.Contents.{among, once, all_tracked}
use Rattle.rules.specs.Ordered.{Order, by_two, rises}
use Rattle.rules.specs.Input.{Input, Edge, edges_of}
use Rattle.rules.specs.Graph.{finished}
use Rattle.rules.specs.Best.{best_table}

-- n is not one of low .. high
abbrev pub outside : ℕ → ℕ → ℕ → Bool
outside low high n = ltb n low || ltb high n

-- ---- the edge rules of section 2

-- the numbers come in pairs
abbrev pub in_pairs : List ℕ → Bool
in_pairs [] = true
in_pairs (a ∷ []) = false
in_pairs (a ∷ b ∷ ns) = in_pairs ns

-- from lower than to, and to below the node count
abbrev pub forward : ℕ → List Edge → Bool
forward n [] = true
forward n (e ∷ es) = ltb e.from e.to && ltb e.to n && forward n es

-- by to, then by from
abbrev pub edge_order : Edge → Edge → Order
edge_order e f = by_two (λ e. e.to) (λ e. e.from) e f

-- the test passes for each number below n
abbrev pub each_below : ℕ → (ℕ → Bool) → Bool
each_below zero test = true
each_below (suc n) test = test n && each_below n test

-- every node but 0 has an edge in
abbrev pub has_edge_in : ℕ → List Edge → Bool
has_edge_in n es = each_below n (λ j. eqb j 0 || among (map (λ e. e.to) es) j)

-- every node but the last has an edge out
abbrev pub has_edge_out : ℕ → List Edge → Bool
has_edge_out n es = each_below n (λ j. eqb (suc j) n || among (map (λ e. e.from) es) j)

-- the flat list of a graph of n nodes keeps every edge rule
unfoldable pub edges_kept : ℕ → List ℕ → Bool
edges_kept n ns = let es = edges_of ns in in_pairs ns && forward n es && rises edge_order es && has_edge_in n es && has_edge_out n es

-- the node count, the run lengths, which sum to the accesses, or the edges break a rule
abbrev pub graph_broken : List ℕ → ℕ → List ℕ → Bool
graph_broken runs accesses edges =
    outside 1 64 (length runs) || not (eqb (sum_over (λ n. n) runs) accesses) || not (edges_kept (length runs) edges)

-- ---- the table of section 5, with document 02's refusals in their places

-- the set counts that there are
abbrev pub set_counts : List ℕ
set_counts = 1 ∷ 2 ∷ 4 ∷ 8 ∷ 16 ∷ []

-- 1: the ways
abbrev pub ways_reason : Input → Reason
ways_reason i = when (outside 1 16 i.ways) Ways

-- 10: the set count
abbrev pub sets_reason : Input → Reason
sets_reason i = when (not (among set_counts i.sets)) Sets

-- 11: the revision
abbrev pub revision_reason : Input → Reason
revision_reason i = when (outside 1 2 i.revision) Revision

-- 2: the state limit
abbrev pub limit_reason : Input → Reason
limit_reason i = when (outside 1 64 i.limit) Limit

-- 3: the tracked blocks
abbrev pub tracked_reason : Input → Reason
tracked_reason i = when (ltb 16 (length i.tracked) || not (once i.tracked)) Tracked

-- 4: the number of accesses
abbrev pub accesses_reason : Input → Reason
accesses_reason i = when (ltb 4096 (length i.accesses)) Accesses

-- 5: the nodes, the run lengths and the edges
abbrev pub graph_reason : Input → Reason
graph_reason i = when (graph_broken i.lengths (length i.accesses) i.edges) Graph

-- 6: the rooms
abbrev pub room_reason : Input → Reason
room_reason i = when (ltb i.result_room i.limit || ltb i.working_room 5184) Room

-- 1, 10, 11 and 2 to 6, in order
unfoldable pub reasons : Input → List Reason
reasons i =
    ways_reason i
    ∷ sets_reason i
    ∷ revision_reason i
    ∷ limit_reason i
    ∷ tracked_reason i
    ∷ accesses_reason i
    ∷ graph_reason i
    ∷ room_reason i
    ∷ []

-- the first reason that applies
unfoldable pub verdict : Input → Verdict
verdict i = first (reasons i)

-- ---- what the graph call answers

-- accepted: the finished table's number of states and its set-aside count; refused: the refusal
abbrev pub answered : Verdict → Input → Outcome
answered (Ok tt) i = let w = finished i in Ok (record { states = length w.table; aside = units w.aside })
answered (Err r) i = Err r

-- the answer: a refusal, or how many states there are and what is set aside
unfoldable pub outcome : Input → Outcome
outcome i = answered (verdict i) i

-- ---- the best case: document 02, request 10/13

-- 18: the second revision, for which there is no best case
abbrev pub second_reason : Input → Reason
second_reason i = when (eqb i.revision 2) SecondRevision

-- 17: an accessed block that is not tracked
abbrev pub untracked_reason : Input → Reason
untracked_reason i = when (not (all_tracked i.tracked i.accesses)) UntrackedAccess

-- 1, 10, 11, 18, 2 to 5, 17 and 6, in order
unfoldable pub best_reasons : Input → List Reason
best_reasons i =
    ways_reason i
    ∷ sets_reason i
    ∷ revision_reason i
    ∷ second_reason i
    ∷ limit_reason i
    ∷ tracked_reason i
    ∷ accesses_reason i
    ∷ graph_reason i
    ∷ untracked_reason i
    ∷ room_reason i
    ∷ []

-- the first reason that applies
unfoldable pub best_verdict : Input → Verdict
best_verdict i = first (best_reasons i)

-- accepted: the number of states of the best case's table; refused: the refusal
abbrev pub best_answered : Verdict → Input → Result ℕ Refusal
best_answered (Ok tt) i = Ok (length (best_table i))
best_answered (Err r) i = Err r

-- the answer: a refusal, or how many states the best case's table has
unfoldable pub best_outcome : Input → Result ℕ Refusal
best_outcome i = best_answered (best_verdict i) i
