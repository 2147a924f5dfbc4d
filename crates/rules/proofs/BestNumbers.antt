-- The best case worked: document 01's cases 1 to 6 and 9 and request 1/13's read as best cases, and three more: one table of inputs and what comes out, and
-- one statement about the definitions: each comes out as it was worked. Then the refusals, each before all that follow it.
-- By hand, case 4: WHOLE is 3 × 93824992236885 + 1. At a nothing is held, and all units go to {a} with 1 miss. At b a third, rounded down, loses a, two
-- thirds lose nothing, and the 1 unit left over becomes open; all have 2 misses. Case 9: at the join {b} and {a, b}, each with 2^47 units and 2 misses, are
-- paired with {a}, with 1 miss; the contents differ, so both become open with 1 miss, are added together, and stay as they are at the last a.
use mathlib.Core.Path.{◌≡◌, refl}
use mathlib.Core.List.{List, [], ◌∷◌, map, flat_map}
use Prim.Native.Nat.{ℕ, ◌^◌}
use lib.ListN.{length}
use Rattle.rules.specs.declared.Cache.{Cache}
use Rattle.rules.specs.Units.{whole, more}
use Rattle.rules.specs.Answers.{AnswerSays, number_says}
use Rattle.rules.specs.Contents.{places, find, bit, with, without, shared, held_below, held, size, mask_of, of_set, last_after, target_of}
use Rattle.rules.specs.Input.{cold, Input, cache, input_in, input_of, offset, run_of, predecessors}
use Rattle.rules.specs.Lasts.{agree_all, last_before, node_last, lasts_to}
use Rattle.rules.specs.Ordered.{insert, insert_all, remove, best}
use Rattle.rules.specs.AnyTable.{add, walk, from_front, access, choice, fold_at, fold, folded, advance, run, paired, join, join_all_by, enter_by, node_by, worked_by, finished_by}
use Rattle.rules.specs.Best.{BestState, exact_state, open_state, order, miss, successors, best_table}
use Rattle.rules.specs.Refusals.{edges_kept, best_reasons, best_verdict, best_outcome}

-- an input, the final states, and what the call says of it: the number 0 for accepted, and how many states
pub record Case : Type 0 where
  pub input : Input
  pub states : List BestState
  pub said : AnswerSays

abbrev comes : Input → List BestState → Case
comes i T = record { input = i; states = T; said = record { number = 0; value = length T } }

-- what the definitions make of a case's input
pub worked_out : Case → Case
worked_out c = record { input = c.input; states = best_table c.input; said = number_says (best_outcome c.input) }

-- blocks a, b, c, tracked as bits 0, 1, 2; one set unless said
abbrev a : ℕ
a = 10

abbrev b : ℕ
b = 11

abbrev c : ℕ
c = 12

abbrev abc : List ℕ
abc = a ∷ b ∷ c ∷ []

-- Z sets of N ways, the first revision
abbrev found : ℕ → ℕ → Cache
found N Z = cache Z N 1 cold

pub cases : List Case
cases =
    -- 1: the empty run
    comes (input_of (found 2 1) 64 abc (0 ∷ []) [] []) (exact_state 0 0 0 whole ∷ [])
    -- 2: a b c b a. Every block is tracked and nothing is rounded, so the misses are the machine's, and the hits are the rest of 5
    ∷ comes (input_of (found 2 1) 64 abc (5 ∷ []) (a ∷ b ∷ c ∷ b ∷ a ∷ []) [])
    (exact_state 1 5 0 17592186044416 ∷ exact_state 3 4 1 105553116266496 ∷ exact_state 3 5 0 52776558133248 ∷ exact_state 5 4 1 70368744177664 ∷ exact_state 5 5 0 35184372088832 ∷ [])
    -- 3: one way: a misses, hits, is lost to b, misses
    ∷ comes (input_of (found 1 1) 64 abc (4 ∷ []) (a ∷ a ∷ b ∷ a ∷ []) []) (exact_state 1 3 1 whole ∷ [])
    -- 4: three ways: the remainder of the first access is sent on, that of the second, 1 unit, becomes open
    ∷ comes (input_of (found 3 1) 64 abc (2 ∷ []) (a ∷ b ∷ []) [])
    (exact_state 2 2 0 93824992236885 ∷ exact_state 3 2 0 187649984473770 ∷ open_state 2 0 1 ∷ [])
    -- 5: one state: at b two states are folded with 2 misses and never count again
    ∷ comes (input_of (found 2 1) 1 abc (5 ∷ []) (a ∷ b ∷ c ∷ b ∷ a ∷ []) []) (open_state 2 0 whole ∷ [])
    -- 6: two states
    ∷ comes (input_of (found 2 1) 2 abc (3 ∷ []) (a ∷ b ∷ c ∷ []) []) (exact_state 6 3 0 (2 ^ 47) ∷ open_state 3 0 (2 ^ 47) ∷ [])
    -- 9: nodes a; b; empty; a: contents differ at the join, and on one path only one miss is sure
    ∷ comes (input_of (found 2 1) 64 abc (1 ∷ 1 ∷ 0 ∷ 1 ∷ []) (a ∷ b ∷ a ∷ []) (0 ∷ 1 ∷ 0 ∷ 2 ∷ 1 ∷ 3 ∷ 2 ∷ 3 ∷ [])) (open_state 1 0 whole ∷ [])
    -- request 1/13: two sets, a and c in one, b in the other
    ∷ comes (input_of (found 2 2) 64 abc (3 ∷ []) (a ∷ b ∷ c ∷ []) []) (exact_state 6 3 0 (2 ^ 47) ∷ exact_state 7 3 0 (2 ^ 47) ∷ [])
    -- nodes a; a; empty; a: contents agree at the join, which stays exact with the smaller number of hits; the last a hits
    ∷ comes (input_of (found 2 1) 64 abc (1 ∷ 1 ∷ 0 ∷ 1 ∷ []) (a ∷ a ∷ a ∷ []) (0 ∷ 1 ∷ 0 ∷ 2 ∷ 1 ∷ 3 ∷ 2 ∷ 3 ∷ [])) (exact_state 1 1 1 whole ∷ [])
    -- two states, a b a b c: open states that differ in hits alone
    ∷ comes (input_of (found 2 1) 2 abc (5 ∷ []) (a ∷ b ∷ a ∷ b ∷ c ∷ []) []) (open_state 3 0 (2 ^ 47) ∷ open_state 3 2 (2 ^ 47) ∷ [])
    -- three ways, a b c a: open states of two and of four misses
    ∷ comes (input_of (found 3 1) 64 abc (4 ∷ []) (a ∷ b ∷ c ∷ a ∷ []) [])
    (exact_state 1 4 0 10424999137431
    ∷ exact_state 3 4 0 41699996549726
    ∷ exact_state 5 3 1 62549994824590
    ∷ exact_state 5 4 0 62549994824588
    ∷ exact_state 7 3 1 62549994824590
    ∷ exact_state 7 4 0 41699996549726
    ∷ open_state 2 0 1
    ∷ open_state 4 0 4
    ∷ [])
    ∷ []

pub each_comes_out : map worked_out cases ≡ cases
unfolding worked_out cases more places find bit with without shared held_below held size mask_of of_set last_after target_of offset run_of predecessors insert insert_all remove best order add miss successors access choice fold_at fold folded advance run paired walk from_front join join_all_by enter_by agree_all last_before node_last lasts_to node_by worked_by finished_by best_table flat_map edges_kept best_reasons best_verdict best_outcome
each_comes_out = refl

-- ---- refusals, in their order

-- an input, and the number that the call says
pub record Refused : Type 0 where
  pub input : Input
  pub number : ℕ

abbrev says : Input → ℕ → Refused
says i n = record { input = i; number = n }

pub answered : Refused → Refused
answered r = says r.input (number_says (best_outcome r.input)).number

-- revision v, N ways, Z sets, at most K states, the tracked blocks a and b, the accesses bs of one node, room for r states
abbrev small : ℕ → ℕ → ℕ → ℕ → List ℕ → ℕ → Input
small v N Z K bs r = input_in (cache Z N v cold) K (a ∷ b ∷ []) (length bs ∷ []) bs [] r 5184

pub refusals : List Refused
refusals =
    says (small 1 2 1 4 (a ∷ b ∷ a ∷ []) 4) 0
    -- each reason before all that follow it
    ∷ says (small 3 0 3 0 (c ∷ []) 0) 1
    ∷ says (small 3 2 3 0 (c ∷ []) 0) 10
    ∷ says (small 0 2 2 0 (c ∷ []) 0) 11
    ∷ says (small 3 2 2 0 (c ∷ []) 0) 11
    ∷ says (small 2 2 2 0 (c ∷ []) 0) 18
    ∷ says (small 1 2 2 0 (c ∷ []) 0) 2
    ∷ says (input_in (found 2 1) 4 (a ∷ a ∷ []) (2 ∷ []) (c ∷ []) [] 0 0) 3
    ∷ says (input_in (found 2 1) 4 (a ∷ b ∷ []) (2 ∷ []) (c ∷ []) [] 0 0) 5
    ∷ says (small 1 2 1 4 (a ∷ c ∷ []) 0) 17
    ∷ says (small 1 2 1 4 (a ∷ b ∷ []) 3) 6
    ∷ []

pub each_is_refused : map answered refusals ≡ refusals
unfolding answered refusals more places find bit with without shared held_below held size mask_of of_set last_after target_of offset run_of predecessors insert insert_all remove best order add miss successors access choice fold_at fold folded advance run paired walk from_front join join_all_by enter_by agree_all last_before node_last lasts_to node_by worked_by finished_by best_table flat_map edges_kept best_reasons best_verdict best_outcome
each_is_refused = refl
