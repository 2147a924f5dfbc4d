-- What a call leaves: the finished table is that of the last slot, and the answer goes with it.
use Rattle.std.specs.Prelude.{Err, Ok}
use mathlib.Core.Path.{◌≡◌, refl, sym, ap, ◌∙◌}
use mathlib.Core.List.{List}
use Prim.Native.Nat.{ℕ, ◌-◌, ◌/◌, ◌≤◌, ◌<◌}
use native.Mathlib.Omega.{arith}
use lib.ListN.{length, replicate}
use Rattle.rules.specs.declared.BestState.{BestState}
use Rattle.rules.specs.declared.Refusal.{Refusal}
use Rattle.rules.specs.declared.Start.TheVariants.{Cold as cold}
use Rattle.rules.specs.Answers.{Verdict}
use Rattle.rules.specs.Input.{Input, cache, input_of, nodes}
use Rattle.rules.specs.AnyTable.{no_pairings, finished_by as finished_any}
use Rattle.rules.specs.Best.{kind, best_table, listing}
use Rattle.rules.specs.Refusals.{best_verdict, best_outcome}
use Rattle.rules.proofs.Refusals.{Checked, best_accepted}
use Rattle.rules.proofs.Rooms.{same_worked_any}
use Rattle.best.specs.Tables.{Worked, table_at, worked, finished}
use Rattle.best.specs.Rooms.{table_in, worked_in}
use Rattle.best.specs.Call.{written, handed, best_analysed}
use Rattle.best.proofs.Laws.{finished_table, node_table_lem}
use Rattle.tables.proofs.Nodes.{tables_in_at}

-- an accepted input is in its ranges
pub best_checked : (i : Input) → Ok tt ≡ best_verdict i → Checked i
unfolding best_outcome
best_checked i v = (best_accepted i (rw (← v) refl)).checked

-- ---- the answer

module _ (Z N v K : ℕ) (ts ns bs es rs ws : List ℕ) where
  pub leaves_refused : (o : Verdict) (r : Refusal) → o ≡ best_verdict (handed Z N v K ts ns bs es rs ws) → o ≡ Err r
      → record { answer = Err r; result = rs; work = ws } ≡ best_analysed Z N v K ts ns bs es rs ws
  unfolding best_analysed best_outcome
  leaves_refused o r e f = rw (← e, f) (rw (← e, f) refl)

  pub leaves_finished : (n : ℕ) (T : List BestState) (rs' ws' : List ℕ) → Ok tt ≡ best_verdict (handed Z N v K ts ns bs es rs ws)
      → T ≡ (finished (handed Z N v K ts ns bs es rs ws)).table → n ≡ length T → rs' ≡ written T (length rs) → ws' ≡ replicate (length ws) 0
      → record { answer = Ok n; result = rs'; work = ws' } ≡ best_analysed Z N v K ts ns bs es rs ws
  unfolding best_analysed best_outcome best_table
  leaves_finished n T rs' ws' o t m p q = rw (← o) (rw (← o, p, q, m, t) refl)

-- the last slot holds the finished table
module _ (Z N v K : ℕ) (ts ns bs es rs ws : List ℕ) (T : List BestState) (some : 0 < length ns)
    (done : worked_in (length ns) T ≡ worked (input_of (cache Z N v cold) K ts ns bs es) (length ns)) where
  pub last_table : table_in (length ns - 1) T ≡ (finished (handed Z N v K ts ns bs es rs ws)).table
  unfolding finished_any
  last_table =
      sym (tables_in_at listing (length ns) T (length ns - 1) (omega arith))
      ∙ ap (λ (d : Worked). table_at d (length ns - 1)) (done ∙ same_worked_any (cache Z N v cold) K ts ns bs es (length rs / 5) (length ws / 5) kind refl no_pairings (length ns))

-- which the result room has room for
pub finished_fits : (i : Input) → Checked i → length (finished i).table ≤ i.limit
finished_fits i ok = rw (finished_table i ok.some_nodes) (node_table_lem i ok (nodes i - 1) (omega (arith, ok.some_nodes))).short
