-- What the curve says, and what is known where an input is accepted. Above a budget the curve has the last table's units there and, below the accesses of the longest
-- path, the lost ones; a path has no more misses than that, so the lost units are counted wherever a path can be above the budget.
use mathlib.Core.Path.{◌≡◌, refl, ◌∙◌}
use mathlib.Core.Bool.{Bool, true, false, cond}
use mathlib.Core.List.{List}
use Prim.Native.Nat.{ℕ, ◌+◌, ◌*◌, ◌≤◌, ◌<◌}
use native.Mathlib.Nat.{le_refl, le_trans, le_of_eq, max-le}
use native.Mathlib.Omega.{arith}
use lib.Dec.{ltb}
use lib.ListN.{length}
use borrow.Author.Tests.{ltb-true, ltb-false}
use Rattle.basics.proofs.Sums.{sum_each}
use Rattle.machine.specs.Cache.{Cache, Revision, run as run_machine}
use Rattle.machine.specs.Draws.{draws, count_from}
use Rattle.machine.proofs.Draws.{count_le}
use Rattle.machine.proofs.Ways.{run_misses}
use Rattle.rules.specs.Units.{whole}
use Rattle.rules.specs.Answers.{verdict_says}
use Rattle.rules.specs.AnyTable.{total as total_of}
use Rattle.rules.specs.Counts.{above as above_of, largest as largest_of}
use Rattle.rules.specs.Questions.{above, largest}
use Rattle.rules.specs.Longest.{longest}
use Rattle.rules.specs.Table.{total}
use Rattle.rules.specs.Refusals as Rules
use Rattle.rules.proofs.Refusals.{Checked, none_applies, facts}
use Rattle.rules.proofs.Longest.{shaped_largest}
use Rattle.promises.specs.Ends.{over}
use Rattle.promises.proofs.Weights.{one_where, over_is, over_rises, one_most, worth_above}
use Rattle.tight_rules.specs.Asked.{Asked, graph_of}
use Rattle.tight_rules.specs.Rows.{meaning}
use Rattle.tight_rules.specs.Graph.{finished, curve}
use Rattle.tight_rules.specs.Refusals.{before_rooms, reasons, verdict}
use Rattle.tight_rules.proofs.Moves.{worth_of_all, Good}
use Rattle.tight_rules.proofs.Graphs.{finished_fit}

-- an accepted input's graph is one that document 01's call accepts, with the limit and the rooms that `graph_of` gives it
pub accepted : (a : Asked) → verdict_says (verdict a) ≡ 0 → Checked (graph_of a)
unfolding verdict reasons before_rooms Rules.reasons
accepted a h =
    let (w, (n, (v, (k, (t, (b, (g, _))))))) = none_applies (reasons a) h in
    facts (graph_of a) (w, (n, (v, (refl, (t, (b, (g, (refl, tt))))))))

pub above_good : (N Z : ℕ) (ts : List ℕ) (B : ℕ) → Good N Z ts (one_where (over_is B)) 1
above_good N Z ts B = record { rises = over_rises N Z ts B; most = λ C m F r. one_most (over_is B) C m F }

module _ (a : Asked) where
  abbrev L : ℕ
  L = longest (graph_of a)

  -- above B: the lost units where B is below L, and the table's
  above_curve : (B : ℕ) → above B (curve a) ≡ cond (ltb B L) (finished a).lost 0 + above B (finished a).kept.table
  unfolding curve meaning above_of
  above_curve B = refl

  -- no more than what the table is worth to the weight
  pub above_most : (B : ℕ) → above B (curve a) ≤ worth_of_all (one_where (over_is B)) 1 (finished a)
  above_most B = rw (above_curve B, worth_above B (finished a).kept.table) (go (ltb B L))
    where
      go : (b : Bool) → cond b (finished a).lost 0 + above B (finished a).kept.table ≤ above B (finished a).kept.table + (finished a).lost * 1
      go true = omega arith
      go false = omega arith

  -- and just that where B is below L
  pub above_least : (B : ℕ) → B < L → worth_of_all (one_where (over_is B)) 1 (finished a) ≤ above B (curve a)
  above_least B l = rw (above_curve B, worth_above B (finished a).kept.table) (go (ltb B L) refl)
    where
      go : (b : Bool) → ltb B L ≡ b → above B (finished a).kept.table + (finished a).lost * 1 ≤ cond b (finished a).lost 0 + above B (finished a).kept.table
      go true e = omega arith
      go false e = absurd (omega (arith, ltb-false B L e))

  module _ (ok : Checked (graph_of a)) where
    pub curve_whole : total (curve a) ≡ whole
    unfolding curve meaning total_of
    curve_whole = omega (arith, (finished_fit a ok).full)

    pub curve_within : largest (curve a) ≤ L
    unfolding curve meaning largest_of
    curve_within = max-le (le_refl L) (shaped_largest a.ways a.sets a.tracked L (finished a).kept.table (finished_fit a ok).shaped)

-- a path of no more accesses than B is never above it
pub never_above : (v : Revision) (N : ℕ) (c : Cache) (p : List ℕ) (B : ℕ) → c.misses ≡ 0 → length p ≤ B → count_from (over B) v N c p ≤ 0
unfolding count_from
never_above v N c p B fresh l =
    le_trans
    (count_le v N c p (over B) (λ k. false) (λ ds h. absurd (omega (arith, ltb-true B (run_machine v c p ds).misses h, run_misses v c p ds, fresh))))
    (le_of_eq (sum_each 0 (draws N (length p)) ∙ omega arith))
