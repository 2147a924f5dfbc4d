-- The lines of curves in cycles: document 02, request 9/13. L are the accesses of the longest path.
use Rattle.std.specs.Prelude.{List, [], ◌∷◌, ◌++◌, ℕ, suc}
use Rattle.rules.specs.declared.Core.{Core}
use Rattle.rules.specs.declared.State.{State}
use Rattle.rules.specs.Questions.{units_at, largest}
use Rattle.rules.specs.Cycles.{core_at, cycles_of, above_cycles}
use Rattle.writing.specs.Writing.{decimal}
use Rattle.lines.specs.Lines.{head_words, count_line, lines_below}

-- " longest "
abbrev pub longest_word : List ℕ
longest_word = 32 ∷ 108 ∷ 111 ∷ 110 ∷ 103 ∷ 101 ∷ 115 ∷ 116 ∷ 32 ∷ []

-- "core "
abbrev pub core_word : List ℕ
core_word = 99 ∷ 111 ∷ 114 ∷ 101 ∷ 32 ∷ []

-- " hit "
abbrev pub hit_word : List ℕ
hit_word = 32 ∷ 104 ∷ 105 ∷ 116 ∷ 32 ∷ []

-- " miss "
abbrev pub miss_word : List ℕ
miss_word = 32 ∷ 109 ∷ 105 ∷ 115 ∷ 115 ∷ 32 ∷ []

-- the number of states, the set-aside count, and the longest path's accesses
unfoldable pub longest_line : ℕ → ℕ → ℕ → List ℕ
longest_line n aside L = head_words n aside ++ longest_word ++ decimal L ++ (10 ∷ [])

-- core k, which is c: its number, its hit cycles and its miss cycles
unfoldable pub core_line : ℕ → Core → List ℕ
core_line k c = core_word ++ decimal k ++ hit_word ++ decimal c.hit ++ miss_word ++ decimal c.miss ++ (10 ∷ [])

-- a miss count of the table T, on core c: the cycles that it stands for, units there, units above
abbrev pub cycle_line : Core → ℕ → List State → ℕ → List ℕ
cycle_line c L T m = let n = cycles_of c L m in count_line n (units_at m T) (above_cycles c L n T)

-- core k, and a line for each miss count from 0 to the largest
unfoldable pub core_lines : ℕ → List State → ℕ → List ℕ
core_lines L T k = let c = core_at k in core_line k c ++ lines_below (cycle_line c L T) (suc (largest T))
