-- What a spread answers and leaves: what that of any count does, with its largest count as misses or as hits.
use Rattle.std.specs.Prelude.{Result}
use mathlib.Core.Path.{◌≡◌, refl, ap, ap₂, ◌∙◌}
use mathlib.Core.List.{List}
use Prim.Native.Nat.{ℕ}
use lib.ListN.{length}
use Rattle.rules.specs.declared.BestState.{BestState}
use Rattle.rules.specs.declared.Hits.{Hits}
use Rattle.rules.specs.declared.Misses.{Misses}
use Rattle.rules.specs.declared.Refusal.{Refusal}
use Rattle.rules.specs.Answers.{first, Verdict, answer_or}
use Rattle.rules.specs.Counts.{largest}
use Rattle.rules.specs.Best.{misses_of, hits_of, listing}
use Rattle.rules.specs.BestQuestions.{best_fitting, spread_reasons, room_after, miss_spread, hit_spread, miss_spread_answer, hit_spread_answer}
use Rattle.any_table.specs.Accepted.{spread_verdict, spread_left}
use Rattle.best_questions.proofs.Fitting.{same_table}

same_verdict : (count : BestState → ℕ) (T : List BestState) (room : List ℕ) → spread_verdict listing best_fitting count T (length room) ≡ first (spread_reasons T (largest count T) room)
same_verdict count T room = rw (same_table T) refl

module _ (T : List BestState) (room ns : List ℕ) where
  pub miss_answered : ns ≡ spread_left listing best_fitting misses_of T room → (a : Result Misses Refusal)
      → a ≡ answer_or (spread_verdict listing best_fitting misses_of T (length room)) (record { 0 = largest misses_of T })
      → record { answer = a; room = ns } ≡ miss_spread_answer T room
  unfolding miss_spread_answer miss_spread
  miss_answered q a p =
      ap₂ (λ (a : Result Misses Refusal) (ns : List ℕ). record { answer = a; room = ns }) p q
      ∙ ap (λ (v : Verdict). record { answer = answer_or v (record { 0 = largest misses_of T }); room = room_after v (miss_spread T) room }) (same_verdict misses_of T room)

  pub hit_answered : ns ≡ spread_left listing best_fitting hits_of T room → (a : Result Hits Refusal)
      → a ≡ answer_or (spread_verdict listing best_fitting hits_of T (length room)) (record { 0 = largest hits_of T })
      → record { answer = a; room = ns } ≡ hit_spread_answer T room
  unfolding hit_spread_answer hit_spread
  hit_answered q a p =
      ap₂ (λ (a : Result Hits Refusal) (ns : List ℕ). record { answer = a; room = ns }) p q
      ∙ ap (λ (v : Verdict). record { answer = answer_or v (record { 0 = largest hits_of T }); room = room_after v (hit_spread T) room }) (same_verdict hits_of T room)
