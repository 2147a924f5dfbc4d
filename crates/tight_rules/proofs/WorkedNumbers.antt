-- Numbers of the second curve, which a plain program in C, not in this repository, works out too: one table of inputs and what comes out, and one statement about the
-- definitions: each comes out so.
use mathlib.Core.Path.{◌≡◌, refl}
use mathlib.Core.List.{List, [], ◌∷◌, map, flat_map}
use Prim.Native.Nat.{ℕ, ◌^◌}
use lib.ListN.{length}
use Rattle.rules.specs.Units.{whole, more}
use Rattle.rules.specs.Contents.{places, find, bit, with, without, shared, held_below, held, size, mask_of, of_set, last_after, target_of}
use Rattle.rules.specs.Filling.{bytes_of, word_from, numbers_of, filled_from, filled_at, with_filled, of_sets, fill_one, fullest, at_start}
use Rattle.rules.specs.declared.Start.TheVariants.{Cold as cold}
use Rattle.rules.specs.Input.{cache, offset, run_of, predecessors}
use Rattle.rules.specs.Ordered.{insert, insert_all}
use Rattle.rules.specs.AnyTable.{add, total, access, paired}
use Rattle.rules.specs.Table.{order}
use Rattle.rules.specs.Step.{at_risk, miss, successors, left_over}
use Rattle.rules.specs.Lasts.{agree_all, last_before, node_last, lasts_to}
use Rattle.rules.specs.Longest.{most_of, longest_to, longest}
use Rattle.rules.specs.Counts.{largest, units_at, spread as spread_of, above}
use Rattle.rules.specs.Questions.{spread, least, smallest_budget}
use Rattle.tight_rules.specs.Asked.{Asked, asked_in}
use Rattle.tight_rules.specs.Rows.{meaning, contents, units_in, move, moved, narrowed, filled_for, evened}
use Rattle.tight_rules.specs.Reduction.{lowered, lands, emptied, level, reduced}
use Rattle.tight_rules.specs.Ends.{cut, raised, below, highest, lowest, ends}
use Rattle.tight_rules.specs.Run.{living, stepped, advance, run}
use Rattle.tight_rules.specs.Join.{spend, pair_up, pairing, filled_to, filled_up, join}
use Rattle.tight_rules.specs.Live.{after_node, lives_of, live_after, live_before}
use Rattle.tight_rules.specs.Graph.{join_all, enter, node, worked, finished, curve}

-- an input; the curve's units at each miss count from 0 to the accesses of the longest path; how many contents the last table has; the set-aside count
pub record Case : Type 0 where
  pub asked : Asked
  pub row : List ℕ
  pub contents : ℕ
  pub aside : ℕ

-- one set of N ways of the first revision, started cold; the blocks a, b and c tracked as bits 0, 1 and 2; rooms that are large enough for all of these
abbrev asks : ℕ → ℕ → ℕ → List ℕ → List ℕ → List ℕ → Asked
asks N K W ns bs es =
    asked_in (cache 1 N 1 cold) K W (10 ∷ 11 ∷ 12 ∷ []) ns bs es 100 1000000

abbrev comes : Asked → List ℕ → ℕ → ℕ → Case
comes a row n aside = record { asked = a; row = row; contents = n; aside = aside }

-- what the definitions make of a case's input
pub worked_out : Case → Case
worked_out c =
    let r = finished c.asked in
    record { asked = c.asked; row = spread (curve c.asked); contents = length (contents r.kept.table); aside = r.kept.aside }

abbrev a : ℕ
a = 10

abbrev b : ℕ
b = 11

abbrev c : ℕ
c = 12

pub cases : List Case
cases =
    -- the empty run
    comes (asks 2 64 1024 (0 ∷ []) [] []) (whole ∷ []) 1 0
    -- a b c b a: exact, and every block is dead in the end
    ∷ comes (asks 2 64 1024 (5 ∷ []) (a ∷ b ∷ c ∷ b ∷ a ∷ []) []) (0 ∷ 0 ∷ 0 ∷ 0 ∷ 175921860444160 ∷ 105553116266496 ∷ []) 1 0
    -- the same with two contents: after c, which is dead, there are nothing with 2^46 units, a with 2^46 and b with 2^47, and a is emptied
    ∷ comes (asks 2 2 1024 (5 ∷ []) (a ∷ b ∷ c ∷ b ∷ a ∷ []) []) (0 ∷ 0 ∷ 0 ∷ 0 ∷ 2 ^ 47 ∷ 2 ^ 47 ∷ []) 1 (2 ^ 46)
    -- one contents, a b b a: b is kept, a goes
    ∷ comes (asks 2 1 1024 (4 ∷ []) (a ∷ b ∷ b ∷ a ∷ []) []) (0 ∷ 0 ∷ 0 ∷ whole ∷ 0 ∷ []) 1 (2 ^ 47)
    -- three ways: that program counts the remainders of misses that can lose no block too, and says 7; request 4/13 does not
    ∷ comes (asks 3 64 1024 (5 ∷ []) (a ∷ b ∷ c ∷ a ∷ b ∷ []) []) (0 ∷ 0 ∷ 0 ∷ 62549994824590 ∷ 145949987924042 ∷ 72974993962024 ∷ []) 1 4
    -- rows of two cells: after the last access the units at 4 misses rise to 5
    ∷ comes (asks 2 64 2 (5 ∷ []) (a ∷ b ∷ c ∷ b ∷ a ∷ []) []) (0 ∷ 0 ∷ 0 ∷ 0 ∷ 0 ∷ whole ∷ []) 1 175921860444160
    -- sixteen ways, a b nine times: what has 11 misses and more, 4,096 units, is lost, and counts at 18
    ∷ comes (asks 16 64 1024 (18 ∷ []) (a ∷ b ∷ a ∷ b ∷ a ∷ b ∷ a ∷ b ∷ a ∷ b ∷ a ∷ b ∷ a ∷ b ∷ a ∷ b ∷ a ∷ b ∷ []) [])
    (0 ∷ 0 ∷ 263882790666240 ∷ 16492674416640 ∷ 1030792151040 ∷ 64424509440 ∷ 4026531840 ∷ 251658240 ∷ 15728640 ∷ 983040 ∷ 61440 ∷ 0 ∷ 0 ∷ 0 ∷ 0 ∷ 0 ∷ 0 ∷ 0 ∷ 4096 ∷ [])
    1 4096
    -- nodes a; b; a; a b: on the arm without b it is alive, for the last node, but not held; the arm of b leaves a with 2^47 units
    ∷ comes (asks 2 64 1024 (1 ∷ 1 ∷ 1 ∷ 2 ∷ []) (a ∷ b ∷ a ∷ a ∷ b ∷ []) (0 ∷ 1 ∷ 0 ∷ 2 ∷ 1 ∷ 3 ∷ 2 ∷ 3 ∷ [])) (0 ∷ 0 ∷ 0 ∷ 2 ^ 47 ∷ 2 ^ 47 ∷ []) 1 0
    -- four ways and two contents, nodes a b; c a; b; a b c: the join is reduced too
    ∷ comes (asks 4 2 1024 (2 ∷ 2 ∷ 1 ∷ 3 ∷ []) (a ∷ b ∷ c ∷ a ∷ b ∷ a ∷ b ∷ c ∷ []) (0 ∷ 1 ∷ 0 ∷ 2 ∷ 1 ∷ 3 ∷ 2 ∷ 3 ∷ []))
    (0 ∷ 0 ∷ 0 ∷ 0 ∷ 0 ∷ 0 ∷ 211106232532992 ∷ 70368744177664 ∷ []) 1 237494511599616
    -- the first of these two with one contents
    ∷ comes (asks 2 1 1024 (1 ∷ 1 ∷ 1 ∷ 2 ∷ []) (a ∷ b ∷ a ∷ a ∷ b ∷ []) (0 ∷ 1 ∷ 0 ∷ 2 ∷ 1 ∷ 3 ∷ 2 ∷ 3 ∷ [])) (0 ∷ 0 ∷ 0 ∷ 0 ∷ whole ∷ []) 1 (2 ^ 47)
    ∷ []

pub each_comes_out : map worked_out cases ≡ cases
unfolding worked_out cases more places find bit with without shared held_below held size mask_of of_set last_after target_of bytes_of word_from numbers_of filled_from filled_at with_filled of_sets fill_one fullest at_risk offset run_of predecessors insert insert_all order add total miss successors left_over access paired at_start agree_all last_before node_last lasts_to flat_map most_of longest_to longest largest units_at spread_of above least smallest_budget meaning contents units_in move moved narrowed filled_for evened lowered lands emptied level reduced cut raised below highest lowest ends living stepped advance run spend pair_up pairing filled_to filled_up join after_node lives_of live_after live_before join_all enter node worked finished curve
each_comes_out = refl
