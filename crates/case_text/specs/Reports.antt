-- Comparisons counted.
use Rattle.std.specs.Prelude.{Bool, cond, ℕ, ◌+◌, min}
use Rattle.case_text.specs.declared.report.Report.{Report}

-- a sum, and the largest number of 64 bits where it does not fit
abbrev pub capped : ℕ → ℕ → ℕ
capped a b = min (a + b) 18446744073709551615

-- one comparison more, and one failure more if it did not hold
abbrev pub compared_in : Report → Bool → Report
compared_in r held = record { comparisons = capped r.comparisons 1; failed = cond held r.failed (capped r.failed 1) }
