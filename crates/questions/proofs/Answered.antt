-- What the spread of misses answers and leaves: what that of any count does.
use Rattle.std.specs.Prelude.{Err, Ok, Result}
use mathlib.Core.Path.{◌≡◌, refl, ap, ap₂, ◌∙◌}
use mathlib.Core.List.{List, [], ◌∷◌}
use Prim.Native.Nat.{ℕ, suc}
use lib.Dec.{ltb}
use lib.ListN.{length}
use Rattle.rules.specs.declared.State.{State}
use Rattle.rules.specs.declared.Refusal.{Refusal}
use Rattle.rules.specs.declared.Refusal.TheVariants.{SpreadRoom}
use Rattle.rules.specs.Answers.{Verdict, when, first, answer_or}
use Rattle.rules.specs.Counts.{spread as spread_of}
use Rattle.rules.specs.Table.{units_of, listing}
use Rattle.rules.specs.Questions.{fitting, misses_of, largest, spread, row_reason, spread_into, spread_answer, SpreadAnswer}
use Rattle.rules.specs.BestQuestions.{room_after}
use Rattle.rules.proofs.Counts.{length_counts}
use Rattle.any_table.specs.Accepted.{spread_verdict, spread_answered, spread_left}
use Rattle.table_check.proofs.Fitting.{same_table}

module _ (T : List State) (room : List ℕ) where
  into : (v : Verdict) → ◌≡◌ {A = SpreadAnswer} (record { answer = answer_or v (largest T); room = room_after v (spread T) room }) (spread_into v T room)
  unfolding spread_of
  into (Ok t) = rw (length_counts units_of misses_of (suc (largest T)) T) refl
  into (Err r) = refl

  same_verdict : spread_verdict listing fitting misses_of T (length room) ≡ first (row_reason T ∷ when (ltb (length room) (suc (largest T))) SpreadRoom ∷ [])
  same_verdict = rw (same_table T) refl

  pub spread_given : (a : Result ℕ Refusal) (ns : List ℕ) → a ≡ spread_answered listing fitting misses_of T room → ns ≡ spread_left listing fitting misses_of T room
      → record { answer = a; room = ns } ≡ spread_answer T room
  unfolding spread_answer
  spread_given a ns p q =
      ap₂ (λ (a : Result ℕ Refusal) (ns : List ℕ). record { answer = a; room = ns }) p q
      ∙ into (spread_verdict listing fitting misses_of T (length room))
      ∙ ap (λ (v : Verdict). spread_into v T room) same_verdict
