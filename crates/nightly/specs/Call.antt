-- What the call leaves: its answer, the rows, and the working room.
use Rattle.std.specs.Prelude.{List, ◌++◌, map, ℕ, ◌-◌, ◌*◌, length, replicate, Result, Ok, Err}
use Rattle.rules.specs.declared.Refusal.{Refusal}
use Rattle.rules.specs.Answers.{first, Verdict}
use Rattle.night_rows.specs.declared.Row.{Row}
use Rattle.night_rows.specs.declared.Report.{Report}
use Rattle.night_rows.specs.Graphs.{graphs_in}
use Rattle.night_rows.specs.Reasons.{build_reasons}
use Rattle.night_rows.specs.Rows.{rows_words}
use Rattle.night_rows.specs.Report.{report_of}
use Rattle.nightly.specs.Rows.{row_of}

-- the rows of a list's graphs, for the allowance u
abbrev pub rows_of : ℕ → List ℕ → List Row
rows_of u ns = map (row_of u) (graphs_in ns)

-- the answer, and both rooms then
pub record BuildLeft : Type 0 where
  pub answer : Result Report Refusal
  pub rows : List ℕ
  pub work : List ℕ

-- the rows with zeros behind them, their report, and a working room of zeros; a refusal leaves both rooms as they were
abbrev pub builds : Verdict → List Row → List ℕ → List ℕ → BuildLeft
builds (Ok tt) rs rows work =
    record { answer = Ok (report_of rs); rows = rows_words rs ++ replicate (length rows - length rs * 5) 0; work = replicate (length work) 0 }
builds (Err r) rs rows work = record { answer = Err r; rows = rows; work = work }

-- the list ns, the allowance u, and the two rooms
unfoldable pub after_build : List ℕ → ℕ → List ℕ → List ℕ → BuildLeft
after_build ns u rows work = builds (first (build_reasons ns (length rows) (length work))) (rows_of u ns) rows work
