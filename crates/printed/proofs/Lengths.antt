-- How long the text is: no curve has more than 262,144 bytes, and no curves in cycles have more than 3,145,728, whatever the numbers are. A table of an accepted input has
-- 4,097 miss counts at most, since the longest path has 4,096 accesses at most.
use Rattle.std.specs.Prelude.{Ok}
use mathlib.Core.Path.{◌≡◌, sym}
use mathlib.Core.List.{List, ◌++◌}
use Prim.Native.Nat.{ℕ, zero, suc, ◌*◌, ◌≤◌}
use native.Mathlib.Nat.{le_trans}
use native.Mathlib.Omega.{arith}
use lib.ListN.{length, drop, length-append}
use Rattle.rules.specs.declared.Core.{Core}
use Rattle.rules.specs.declared.State.{State}
use Rattle.rules.specs.Input.{Input}
use Rattle.rules.specs.Graph.{finished}
use Rattle.rules.specs.Refusals.{verdict}
use Rattle.rules.specs.Questions.{units_at, largest, above}
use Rattle.rules.specs.Cycles.{cores, core_at, cycles_of, above_cycles}
use Rattle.rules.proofs.Refusals.{checked}
use Rattle.rules.proofs.Longest.{longest_most, finished_within}
use Rattle.curve_numbers.specs.declared.Choice.{Choice}
use Rattle.curve_numbers.specs.Parts.{complete, input_from}
use Rattle.writing.proofs.Decimals.{decimal_long}
use Rattle.writing.proofs.Told.{tested_long, told_long, text_long}
use Rattle.writing.specs.Told.{of_text}
use Rattle.printed.specs.declared.Wanted.{Wanted}
use Rattle.printed.specs.declared.Wanted.TheVariants.{Misses, Cycles}
use Rattle.printed.specs.declared.Form.{Form}
use Rattle.printed.specs.declared.Form.TheVariants.{Plain, Chosen}
use Rattle.lines.specs.Lines.{head_words, head_line, count_line, lines_below, curve_line, curve_lines}
use Rattle.printed.specs.Printed.{of_input, of_numbers}
use Rattle.curve_numbers.specs.Choices.{chooses, choice_in}
use Rattle.printed.specs.Choices.{plain, of_chosen, of_form}
use Rattle.printed.specs.Curve.{curve}
use Rattle.lines.specs.Cores.{longest_line, core_line, cycle_line, core_lines}
use Rattle.printed.specs.Cycles.{in_cycles}
use Rattle.printed.specs.Rooms.{curve_bytes, cycles_bytes}
use Rattle.printed.specs.Wanted.{wanted_text, wanted_bytes}

-- ---- the lines

head_words_long : (n a : ℕ) → length (head_words n a) ≤ 54
unfolding head_words
head_words_long n a = simp (length-append) (omega (arith, decimal_long n, decimal_long a))

head_long : (n a : ℕ) → length (head_line n a) ≤ 55
head_long n a = simp (length-append) (omega (arith, head_words_long n a))

longest_long : (n a L : ℕ) → length (longest_line n a L) ≤ 84
unfolding longest_line
longest_long n a L = simp (length-append) (omega (arith, head_words_long n a, decimal_long L))

line_long : (m u v : ℕ) → length (count_line m u v) ≤ 63
unfolding count_line
line_long m u v = simp (length-append) (omega (arith, decimal_long m, decimal_long u, decimal_long v))

core_line_long : (k : ℕ) (c : Core) → length (core_line k c) ≤ 77
unfolding core_line
core_line_long k c = simp (length-append) (omega (arith, decimal_long k, decimal_long c.hit, decimal_long c.miss))

-- lines of at most w bytes for each number below n
lines_long : (line : ℕ → List ℕ) (w : ℕ) → ((k : ℕ) → length (line k) ≤ w) → (n : ℕ) → length (lines_below line n) ≤ n * w
unfolding lines_below
lines_long line w each zero = omega arith
lines_long line w each (suc n) = omega (arith, length-append (lines_below line n) (line n), lines_long line w each n, each n)

-- ---- the text of an accepted input

module _ (i : Input) (ok : verdict i ≡ Ok tt) where
  abbrev table : List State
  table = (finished i).table

  few_counts : largest table ≤ 4096
  few_counts = let all = checked i (sym ok) in le_trans (finished_within i all) (le_trans (longest_most i all) all.few_accesses)

  curve_long : length (curve i) ≤ curve_bytes
  unfolding curve
  curve_long =
      omega (
        arith,
        length-append (head_line (length table) (finished i).aside) (curve_lines table),
        head_long (length table) (finished i).aside,
        lines_long (curve_line table) 63 (λ m. line_long m (units_at m table) (above m table)) (suc (largest table)),
        few_counts,
      )

  core_long : (L k : ℕ) → length (core_lines L table k) ≤ 258188
  unfolding core_lines
  core_long L k =
      let c = core_at k in
      omega (
        arith,
        length-append (core_line k c) (lines_below (cycle_line c L table) (suc (largest table))),
        core_line_long k c,
        lines_long (cycle_line c L table) 63 (λ m. line_long (cycles_of c L m) (units_at m table) (above_cycles c L (cycles_of c L m) table)) (suc (largest table)),
        few_counts,
      )

  -- whatever path it is
  cores_long : (L : ℕ) → length (longest_line (length table) (finished i).aside L ++ lines_below (core_lines L table) (length cores)) ≤ cycles_bytes
  unfolding cores
  cores_long L =
      omega (
        arith,
        length-append (longest_line (length table) (finished i).aside L) (lines_below (core_lines L table) 12),
        longest_long (length table) (finished i).aside L,
        lines_long (core_lines L table) 258188 (core_long L) 12,
      )

  cycles_long : length (in_cycles i) ≤ cycles_bytes
  unfolding in_cycles
  cycles_long = cores_long _

  wanted_long : (w : Wanted) → length (wanted_text w i) ≤ wanted_bytes w
  wanted_long Misses = curve_long
  wanted_long Cycles = cycles_long

-- ---- what is printed

-- the line of a refusal fits whatever is wanted
line_fits : (w : Wanted) → 29 ≤ wanted_bytes w
line_fits Misses = omega arith
line_fits Cycles = omega arith

pub numbers_long : (w : Wanted) (ch : Choice) (ns : List ℕ) → length (of_numbers (wanted_text w) ch ns) ≤ wanted_bytes w
unfolding of_numbers of_input
numbers_long w ch ns =
    let i = input_from ch ns in
    tested_long (wanted_bytes w) (line_fits w) (complete ns) 9 _ (λ whole. told_long (wanted_bytes w) (line_fits w) (verdict i) (wanted_text w i) (λ ok. wanted_long i ok w))

form_long : (f : Form) (w : Wanted) (ns : List ℕ) → length (of_form f (wanted_text w) ns) ≤ wanted_bytes w
unfolding of_chosen
form_long Plain w ns = numbers_long w plain ns
form_long Chosen w ns = tested_long (wanted_bytes w) (line_fits w) (chooses ns) 9 _ (λ chosen. numbers_long w (choice_in ns) (drop 3 ns))

pub form_text_long : (f : Form) (w : Wanted) (text : List ℕ) → length (of_text (of_form f (wanted_text w)) text) ≤ wanted_bytes w
form_text_long f w = text_long (wanted_bytes w) (line_fits w) (of_form f (wanted_text w)) (form_long f w)
