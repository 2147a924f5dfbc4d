-- What the call leaves: a refusal changes nothing, and otherwise the rows, with zeros behind them, and their report.
use Rattle.std.specs.Prelude.{Err, Ok}
use mathlib.Core.Path.{◌≡◌, sym, ap, ap₂, ◌∙◌}
use mathlib.Core.List.{List, ◌++◌, append-nil}
use Prim.Native.Nat.{ℕ, ◌-◌, ◌*◌, ◌≤◌}
use native.Mathlib.Omega.{arith}
use lib.ListN.{length, take, drop, replicate, length-map, length-drop, drop_of_length-le}
use lib.Seq.{take_all}
use Rattle.rules.specs.declared.Refusal.{Refusal}
use Rattle.rules.specs.Answers.{first, Verdict}
use Rattle.night_rows.specs.declared.Report.{Report}
use Rattle.night_rows.specs.Graphs.{graphs_in}
use Rattle.night_rows.specs.Reasons.{build_reasons}
use Rattle.night_rows.specs.Rows.{rows_words}
use Rattle.night_rows.specs.Report.{report_of}
use Rattle.nightly.specs.Rows.{row_of}
use Rattle.nightly.specs.Call.{rows_of, builds, after_build}

-- ---- zeros behind the rows

zeros_behind : (rows ys : List ℕ) (n k : ℕ) → n ≡ k → ys ≡ replicate (length (take (length rows - n * 5) (drop (n * 5) rows))) 0
    → take (n * 5) rows ++ (ys ++ drop (length rows - n * 5) (drop (n * 5) rows)) ≡ take (k * 5) rows ++ replicate (length (drop (k * 5) rows)) 0
zeros_behind rows ys n k e z =
    let all : length (drop (n * 5) rows) ≤ length rows - n * 5 = omega (arith, length-drop (n * 5) rows) in
    ap₂ (λ (us vs : List ℕ). take (n * 5) rows ++ (us ++ vs)) (z ∙ ap (λ (us : List ℕ). replicate (length us) 0) (take_all (length rows - n * 5) (drop (n * 5) rows) all)) (drop_of_length-le (drop (n * 5) rows) all)
    ∙ ap (λ (us : List ℕ). take (n * 5) rows ++ us) (append-nil (replicate (length (drop (n * 5) rows)) 0))
    ∙ ap (λ (m : ℕ). take (m * 5) rows ++ replicate (length (drop (m * 5) rows)) 0) e

-- ---- by the verdict

module _ (ns : List ℕ) (u : ℕ) (rows work : List ℕ) (v : Verdict) (is : v ≡ first (build_reasons ns (length rows) (length work))) where
  pub build_refused : (why : Refusal) → v ≡ Err why → record { answer = Err why; rows = rows; work = work } ≡ after_build ns u rows work
  unfolding after_build
  build_refused why e = ap (λ (w : Verdict). builds w (rows_of u ns) rows work) (sym e ∙ is)

  pub build_accepted : v ≡ Ok tt → builds (Ok tt) (rows_of u ns) rows work ≡ after_build ns u rows work
  unfolding after_build
  build_accepted e = ap (λ (w : Verdict). builds w (rows_of u ns) rows work) (sym e ∙ is)

-- ---- what is built

-- the rows were written at the front of the room, zeros were put behind them, and the working room was cleared
pub built : (ns : List ℕ) (u : ℕ) (rows work : List ℕ) (k : ℕ) → k ≡ length (graphs_in ns) → (a : Report) (rows₁ zeros work₁ : List ℕ) → a ≡ report_of (rows_of u ns)
    → length rows₁ ≡ length rows → take (length (graphs_in ns) * 5) rows₁ ≡ rows_words (rows_of u ns)
    → zeros ≡ replicate (length (take (length rows₁ - k * 5) (drop (k * 5) rows₁))) 0 → work₁ ≡ replicate (length work) 0
    → record { answer = Ok a; rows = take (k * 5) rows₁ ++ (zeros ++ drop (length rows₁ - k * 5) (drop (k * 5) rows₁)); work = work₁ }
    ≡ builds (Ok tt) (rows_of u ns) rows work
built ns u rows work k count a rows₁ zeros work₁ p long q z s =
    let n = length (graphs_in ns) in
    let many : length (drop (n * 5) rows₁) ≡ length rows - length (rows_of u ns) * 5 = omega (arith, length-drop (n * 5) rows₁, long, length-map (graphs_in ns) (row_of u)) in
    (λ i. record {
      answer = Ok (p i);
      rows = (zeros_behind rows₁ zeros k n count z ∙ ap₂ (λ (xs : List ℕ) (m : ℕ). xs ++ replicate m 0) q many) i;
      work = s i;
    })
