-- The numbers worked by hand, document 01, section 6, [P], as document 02 changes them: one table of inputs and what comes out, and one
-- statement about the definitions: each comes out as it was worked.
use mathlib.Core.Path.{◌≡◌, refl}
use mathlib.Core.List.{List, [], ◌∷◌, map, flat_map}
use Prim.Native.Nat.{ℕ, ◌^◌}
use Rattle.rules.specs.Units.{whole, more}
use Rattle.rules.specs.Answers.{OutcomeSays, outcome_says}
use Rattle.rules.specs.Contents.{places, find, bit, with, without, shared, held_below, held, size, mask_of, of_set, last_after, target_of}
use Rattle.rules.specs.Filling.{bytes_of, word_from, numbers_of, filled_from, filled_at, with_filled, of_sets, evenly, fill_one, fullest}
use Rattle.rules.specs.Input.{cold, warm, Input, cache, input_of, offset, run_of, predecessors}
use Rattle.rules.specs.Ordered.{insert, insert_all, remove, best}
use Rattle.rules.specs.AnyTable.{add, access, walk, from_front, choice, fold_at, fold, folded, advance, run, paired, join, join_all_by, enter_by, node_by, worked_by, finished_by as finished_of}
use Rattle.rules.specs.Table.{State, state, order}
use Rattle.rules.specs.Step.{at_risk, miss, successors, left_over}
use Rattle.rules.specs.Graph.{at_start, agree_all, last_before, node_last, lasts_to, finished}
use Rattle.rules.specs.Refusals.{edges_kept, reasons, verdict, outcome}

-- an input; the final states; what the call says of it: the number 0 for accepted, how many states, the set-aside count
pub record Case : Type 0 where
  pub input : Input
  pub states : List State
  pub said : OutcomeSays

abbrev comes : Input → List State → ℕ → ℕ → Case
comes i T n aside = record { input = i; states = T; said = record { number = 0; states = n; aside = aside } }

-- what the definitions make of a case's input
pub worked_out : Case → Case
worked_out c = record { input = c.input; states = (finished c.input).table; said = outcome_says (outcome c.input) }

-- blocks a, b, c, tracked as bits 0, 1, 2 unless said; u and v are untracked; one set and the first revision, started cold, unless said
abbrev a : ℕ
a = 10

abbrev b : ℕ
b = 11

abbrev c : ℕ
c = 12

abbrev u : ℕ
u = 7

abbrev v : ℕ
v = 8

abbrev abc : List ℕ
abc = a ∷ b ∷ c ∷ []

-- a state of the first revision, where every way of Z sets of N may be filled
abbrev full : ℕ → ℕ → ℕ → ℕ → ℕ → State
full Z N C m u = state C m (evenly Z N) u

pub cases : List Case
cases =
    -- 1: the empty run
    comes (input_of (cache 1 2 1 cold) 64 abc (0 ∷ []) [] []) (full 1 2 0 0 whole ∷ []) 1 0
    -- 2: a b c b a
    ∷ comes (input_of (cache 1 2 1 cold) 64 abc (5 ∷ []) (a ∷ b ∷ c ∷ b ∷ a ∷ []) [])
    (full 1 2 1 5 17592186044416 ∷ full 1 2 3 4 105553116266496 ∷ full 1 2 3 5 52776558133248 ∷ full 1 2 5 4 70368744177664 ∷ full 1 2 5 5 35184372088832 ∷ [])
    5 0
    -- 3: one way
    ∷ comes (input_of (cache 1 1 1 cold) 64 abc (4 ∷ []) (a ∷ a ∷ b ∷ a ∷ []) []) (full 1 1 1 3 whole ∷ []) 1 0
    -- 4, as request 4/13 has it: three ways
    ∷ comes (input_of (cache 1 3 1 cold) 64 abc (2 ∷ []) (a ∷ b ∷ []) []) (full 1 3 2 2 93824992236886 ∷ full 1 3 3 2 187649984473770 ∷ []) 2 1
    -- 5: one state
    ∷ comes (input_of (cache 1 2 1 cold) 1 abc (5 ∷ []) (a ∷ b ∷ c ∷ b ∷ a ∷ []) []) (full 1 2 1 5 whole ∷ []) 1 whole
    -- 6: two states
    ∷ comes (input_of (cache 1 2 1 cold) 2 abc (3 ∷ []) (a ∷ b ∷ c ∷ []) []) (full 1 2 4 3 (2 ^ 47) ∷ full 1 2 6 3 (2 ^ 47) ∷ []) 2 70368744177664
    -- 7: only a tracked
    ∷ comes (input_of (cache 1 2 1 cold) 64 (a ∷ []) (3 ∷ []) (a ∷ u ∷ a ∷ []) []) (full 1 2 1 2 (2 ^ 47) ∷ full 1 2 1 3 (2 ^ 47) ∷ []) 2 0
    -- 8, as request 3/13 has it: only a tracked, u twice running
    ∷ comes (input_of (cache 1 2 1 cold) 64 (a ∷ []) (4 ∷ []) (a ∷ u ∷ u ∷ a ∷ []) []) (full 1 2 1 2 (2 ^ 47) ∷ full 1 2 1 3 (2 ^ 47) ∷ []) 2 0
    -- 9: nodes a; b; empty; a
    ∷ comes (input_of (cache 1 2 1 cold) 64 abc (1 ∷ 1 ∷ 0 ∷ 1 ∷ []) (a ∷ b ∷ a ∷ []) (0 ∷ 1 ∷ 0 ∷ 2 ∷ 1 ∷ 3 ∷ 2 ∷ 3 ∷ []))
    (full 1 2 1 2 (2 ^ 47) ∷ full 1 2 1 3 (2 ^ 47) ∷ []) 2 0
    -- 10, as request 3/13 has it: nothing tracked, u twice running
    ∷ comes (input_of (cache 1 2 1 cold) 64 [] (2 ∷ []) (u ∷ u ∷ []) []) (full 1 2 0 1 whole ∷ []) 1 0
    -- request 3/13: an empty run passes the last block on, and both predecessors know it; the same with v in one of them
    ∷ comes (input_of (cache 1 2 1 cold) 64 [] (1 ∷ 0 ∷ 0 ∷ 1 ∷ []) (u ∷ u ∷ []) (0 ∷ 1 ∷ 0 ∷ 2 ∷ 1 ∷ 3 ∷ 2 ∷ 3 ∷ [])) (full 1 2 0 1 whole ∷ []) 1 0
    ∷ comes (input_of (cache 1 2 1 cold) 64 [] (1 ∷ 1 ∷ 0 ∷ 1 ∷ []) (u ∷ v ∷ u ∷ []) (0 ∷ 1 ∷ 0 ∷ 2 ∷ 1 ∷ 3 ∷ 2 ∷ 3 ∷ [])) (full 1 2 0 3 whole ∷ []) 1 0
    -- request 1/13: two sets, a and c in one, b in the other
    ∷ comes (input_of (cache 2 2 1 cold) 64 abc (3 ∷ []) (a ∷ b ∷ c ∷ []) []) (full 2 2 6 3 (2 ^ 47) ∷ full 2 2 7 3 (2 ^ 47) ∷ []) 2 0
    -- requests 1/13 and 4/13: three ways in two sets, where b's set holds nothing yet
    ∷ comes (input_of (cache 2 3 1 cold) 64 abc (2 ∷ []) (a ∷ b ∷ []) []) (full 2 3 3 2 whole ∷ []) 1 0
    -- request 6/13, the second revision: a b c; two ways are filled before one is lost
    ∷ comes (input_of (cache 1 2 2 cold) 64 abc (3 ∷ []) (a ∷ b ∷ c ∷ []) []) (full 1 2 5 3 (2 ^ 47) ∷ full 1 2 6 3 (2 ^ 47) ∷ []) 2 0
    -- three ways: two are filled, nothing is lost or set aside
    ∷ comes (input_of (cache 1 3 2 cold) 64 abc (2 ∷ []) (a ∷ b ∷ []) []) (state 3 2 (evenly 1 2) whole ∷ []) 1 0
    -- two sets, a and c in one: the numbers are those of each set
    ∷ comes (input_of (cache 2 2 2 cold) 64 abc (3 ∷ []) (a ∷ b ∷ c ∷ []) []) (state 7 3 (of_sets (2 ∷ 1 ∷ [])) whole ∷ []) 1 0
    -- request 12/13: the same started warm, where any way may be filled: a b as in the first revision
    ∷ comes (input_of (cache 1 3 2 warm) 64 abc (2 ∷ []) (a ∷ b ∷ []) []) (full 1 3 2 2 93824992236886 ∷ full 1 3 3 2 187649984473770 ∷ []) 2 1
    ∷ []

pub each_comes_out : map worked_out cases ≡ cases
unfolding worked_out cases more places find bit with without shared held_below held size mask_of of_set last_after target_of bytes_of word_from numbers_of filled_from filled_at with_filled of_sets fill_one fullest at_risk offset run_of predecessors insert insert_all remove best order add miss successors left_over access choice fold_at fold folded advance run paired walk from_front join join_all_by at_start enter_by agree_all last_before node_last lasts_to node_by worked_by finished_of edges_kept reasons verdict outcome flat_map
each_comes_out = refl
