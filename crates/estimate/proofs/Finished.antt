-- What an accepted call leaves can be asked: the first states of the result room, as many as the answer says, are the finished table, which is
-- a table by section 4, so that no question refuses it. The working room is then zero; a refused call leaves both rooms as they were.
use Rattle.std.specs.Prelude.{Err, Ok}
use mathlib.Core.Path.{◌≡◌, refl, sym, ap, ◌∙◌}
use mathlib.Core.Bool.{true}
use mathlib.Core.List.{List}
use Prim.Native.Nat.{ℕ, ◌-◌, ◌*◌, ◌/◌, ◌≤◌}
use native.Mathlib.Omega.{arith}
use lib.ListN.{length, take, replicate}
use Rattle.rules.specs.declared.Cache.{Cache}
use Rattle.rules.specs.declared.Refusal.{Refusal}
use Rattle.rules.specs.Answers.{OutcomeSays, outcome_says, Outcome, Verdict}
use Rattle.rules.specs.Input.{Input, input_of}
use Rattle.rules.specs.Table.{Work}
use Rattle.rules.specs.Graph.{finished}
use Rattle.rules.specs.Questions.{is_table}
use Rattle.rules.specs.Refusals.{verdict, answered, outcome}
use Rattle.rules.proofs.Refusals.{numbered}
use Rattle.rules.proofs.Rooms.{same_finished, same_outcome}
use Rattle.rules.proofs.Questions.{finished_is_table}
use Rattle.words.specs.Tables.{table_of}
use Rattle.words.proofs.Tables.{words_first}
use Rattle.estimate.specs.Call.{After, leaves, handed, analysed}

module _ (i : Input) (rs ws : List ℕ) where
  leaves_outcome : (v : Verdict) → (leaves v i rs ws).answer ≡ outcome i
  leaves_outcome (Ok tt) = refl
  leaves_outcome (Err r) = refl

  leaves_finished : (outcome_says (outcome i)).number ≡ 0
      → take (outcome_says (outcome i)).states (table_of (leaves (verdict i) i rs ws).result) ≡ (finished i).table
  unfolding outcome
  leaves_finished h = go (verdict i) h
    where
      go : (v : Verdict) → (outcome_says (answered v i)).number ≡ 0 → take (outcome_says (answered v i)).states (table_of (leaves v i rs ws).result) ≡ (finished i).table
      go (Ok tt) h = words_first (finished i).table (replicate (length rs - length (finished i).table * 5) 0)
      go (Err r) h = absurd (numbered r h)

  leaves_worked : (outcome_says (outcome i)).number ≡ 0 → (leaves (verdict i) i rs ws).work ≡ replicate (length ws) 0
  unfolding outcome
  leaves_worked h = go (verdict i) h
    where
      go : (v : Verdict) → (outcome_says (answered v i)).number ≡ 0 → (leaves v i rs ws).work ≡ replicate (length ws) 0
      go (Ok tt) h = refl
      go (Err r) h = absurd (numbered r h)

  leaves_refused : (why : Refusal) → outcome i ≡ Err why
      → ((leaves (verdict i) i rs ws).result ≡ rs) × ((leaves (verdict i) i rs ws).work ≡ ws)
  unfolding outcome
  leaves_refused why e = go (verdict i) e
    where
      go : (v : Verdict) → answered v i ≡ Err why → ((leaves v i rs ws).result ≡ rs) × ((leaves v i rs ws).work ≡ ws)
      go (Ok tt) e = absurd (numbered why (sym (ap (λ (q : Outcome). (outcome_says q).number) e)))
      go (Err r) e = (refl, refl)

module _ (c : Cache) (K : ℕ) (ts ns bs es rs ws : List ℕ) where
  -- what the call leaves, and what its answer says
  abbrev left : After
  left = analysed c K ts ns bs es rs ws

  abbrev said : OutcomeSays
  said = outcome_says left.answer

  pub result_finished : said.number ≡ 0 → take said.states (table_of left.result) ≡ (finished (handed c K ts ns bs es rs ws)).table
  unfolding analysed
  result_finished h =
      let i = handed c K ts ns bs es rs ws in
      rw (leaves_outcome i rs ws (verdict i)) (leaves_finished i rs ws (rw (leaves_outcome i rs ws (verdict i)) at h))

  pub result_is_table : said.number ≡ 0 → is_table (take said.states (table_of left.result)) ≡ true
  unfolding analysed
  result_is_table h =
      let i = handed c K ts ns bs es rs ws in
      rw (result_finished h) (finished_is_table i (rw (leaves_outcome i rs ws (verdict i)) at h))

-- with room for every state limit, the call answers and leaves what the definitions say of an input with just the room that is needed
module _ (c : Cache) (K : ℕ) (ts ns bs es rs ws : List ℕ) (result : 320 ≤ length rs) (working : 25920 ≤ length ws) (a : Outcome) (rs' ws' : List ℕ)
    (is : record { answer = a; result = rs'; work = ws' } ≡ analysed c K ts ns bs es rs ws) where
  abbrev i : Input
  i = handed c K ts ns bs es rs ws

  -- the answer is that of the input with the rooms as they are
  answers_handed : a ≡ outcome i
  unfolding analysed
  answers_handed = ap (λ (f : After). f.answer) is ∙ leaves_outcome i rs ws (verdict i)

  pub call_answers : a ≡ outcome (input_of c K ts ns bs es)
  call_answers =
      answers_handed
      ∙ sym (same_outcome c K ts ns bs es (length rs / 5) (length ws / 5) (omega arith) (omega arith))

  pub call_finishes : (outcome_says a).number ≡ 0 → take (outcome_says a).states (table_of rs') ≡ (finished (input_of c K ts ns bs es)).table
  call_finishes h =
      ap (λ (f : After). take (outcome_says f.answer).states (table_of f.result)) is
      ∙ result_finished c K ts ns bs es rs ws (sym (ap (λ (f : After). (outcome_says f.answer).number) is) ∙ h)
      ∙ ap (λ (w : Work). w.table) (sym (same_finished c K ts ns bs es (length rs / 5) (length ws / 5)))

  pub call_clears : (outcome_says a).number ≡ 0 → ws' ≡ replicate (length ws) 0
  unfolding analysed
  call_clears h = ap (λ (f : After). f.work) is ∙ leaves_worked i rs ws (sym (ap (λ (q : Outcome). (outcome_says q).number) answers_handed) ∙ h)

  pub call_refuses : (why : Refusal) → a ≡ Err why → (rs' ≡ rs) × (ws' ≡ ws)
  unfolding analysed
  call_refuses why e =
      let kept = leaves_refused i rs ws why (sym answers_handed ∙ e) in
      (ap (λ (f : After). f.result) is ∙ kept.0, ap (λ (f : After). f.work) is ∙ kept.1)
