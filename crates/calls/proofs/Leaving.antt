-- What a call leaves, with the answer that goes with it: where it is refused, where it is finished, and where the entries for its joins are not accepted.
use Rattle.std.specs.Prelude.{Err, Ok}
use mathlib.Core.Path.{◌≡◌, refl, sym, ◌∙◌}
use mathlib.Core.Bool.{true, false}
use mathlib.Core.List.{List}
use Prim.Native.Nat.{ℕ}
use lib.ListN.{length, replicate}
use Rattle.rules.specs.declared.Cache.{Cache}
use Rattle.rules.specs.declared.State.{State}
use Rattle.rules.specs.declared.Refusal.{Refusal}
use Rattle.rules.specs.declared.Refusal.TheVariants.{Pairing}
use Rattle.rules.specs.Answers.{Outcome, Verdict}
use Rattle.rules.specs.Units.{units}
use Rattle.rules.specs.Input.{Input}
use Rattle.rules.specs.Graph.{finished_by, finished}
use Rattle.rules.specs.Refusals.{verdict, outcome}
use Rattle.rules.specs.Entries.{entry_of, entries_fit, paired_outcome}
use Rattle.rules.proofs.Entries.{paired_refused, paired_judged, never_nineteen}
use Rattle.calls.specs.Call.{written, handed, analysed, analysed_paired}

-- ---- the answer

module _ (c : Cache) (K : ℕ) (ts ns bs es rs ws : List ℕ) where
  pub leaves_refused : (v : Verdict) (r : Refusal) → v ≡ verdict (handed c K ts ns bs es rs ws) → v ≡ Err r
      → record { answer = Err r; result = rs; work = ws } ≡ analysed c K ts ns bs es rs ws
  unfolding analysed outcome
  leaves_refused v r e f = rw (← e, f) (rw (← e, f) refl)

  pub leaves_finished : (n a : ℕ) (T : List State) (rs' ws' : List ℕ) → Ok tt ≡ verdict (handed c K ts ns bs es rs ws) → T ≡ (finished (handed c K ts ns bs es rs ws)).table
      → a ≡ (finished (handed c K ts ns bs es rs ws)).aside → n ≡ length T → rs' ≡ written T (length rs) → ws' ≡ replicate (length ws) 0
      → record { answer = Ok (record { states = n; aside = units a }); result = rs'; work = ws' } ≡ analysed c K ts ns bs es rs ws
  unfolding analysed outcome
  leaves_finished n a T rs' ws' v t b m p q = rw (← v) (rw (← v, p, q, m, t, b) refl)

-- ---- with pairings

module _ (c : Cache) (K : ℕ) (ts ns bs es qs ps rs ws : List ℕ) where
  abbrev input : Input
  input = handed c K ts ns bs es rs ws

  -- the graph itself is refused
  pub paired_refused_so : (v : Verdict) (r : Refusal) → v ≡ verdict input → v ≡ Err r → record { answer = Err r; result = rs; work = ws } ≡ analysed_paired c K ts ns bs es qs ps rs ws
  unfolding analysed_paired paired_outcome
  paired_refused_so v r e f = rw (paired_refused input qs ps r (sym e ∙ f)) (rw (never_nineteen input r (sym e ∙ f)) refl)

  -- the entries are not accepted
  pub leaves_unfit : (a : Outcome) (ws' : List ℕ) → Ok tt ≡ verdict input → entries_fit input qs ps ≡ false → a ≡ Err Pairing → ws' ≡ replicate (length ws) 0
      → record { answer = a; result = rs; work = ws' } ≡ analysed_paired c K ts ns bs es qs ps rs ws
  unfolding analysed_paired paired_outcome
  leaves_unfit a ws' v f e q = rw (paired_judged input qs ps false (sym v) f, e, q)

  pub leaves_paired : (n a : ℕ) (T : List State) (rs' ws' : List ℕ) → Ok tt ≡ verdict input → entries_fit input qs ps ≡ true → T ≡ (finished_by (entry_of qs ps) input).table
      → a ≡ (finished_by (entry_of qs ps) input).aside → n ≡ length T → rs' ≡ written T (length rs) → ws' ≡ replicate (length ws) 0
      → record { answer = Ok (record { states = n; aside = units a }); result = rs'; work = ws' } ≡ analysed_paired c K ts ns bs es qs ps rs ws
  unfolding analysed_paired paired_outcome
  leaves_paired n a T rs' ws' v f t b m p q = rw (paired_judged input qs ps true (sym v) f, p, q, m, t, b)
