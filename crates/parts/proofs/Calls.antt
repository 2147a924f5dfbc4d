-- What the graph call answers for a list of numbers, and what it leaves in rooms that are long enough: a list that is not complete is refused with 9, and otherwise
-- the laws of the graph call hold of what the numbers mean.
use Rattle.std.specs.Prelude.{Err, Ok, Result}
use mathlib.Core.Path.{◌≡◌, refl, sym, ap, ◌∙◌}
use mathlib.Core.Bool.{Bool, true, false, cond}
use mathlib.Core.List.{List}
use Prim.Native.Nat.{ℕ, ◌+◌, ◌-◌, ◌≤◌}
use lib.ListN.{length, get_or, take, drop, replicate}
use Rattle.rules.specs.declared.Refusal.{Refusal}
use Rattle.rules.specs.declared.Refusal.TheVariants.{Text}
use Rattle.rules.specs.declared.Units.{Units}
use Rattle.rules.specs.Units.{units}
use Rattle.rules.specs.Answers.{outcome_says, number_says, Outcome, Verdict, answer_or}
use Rattle.rules.specs.Input.{Input, input_of}
use Rattle.rules.specs.Graph.{finished}
use Rattle.rules.specs.Longest.{longest, longest_answer}
use Rattle.rules.specs.Questions.{is_table}
use Rattle.rules.specs.Refusals.{verdict, answered, outcome}
use Rattle.rules.proofs.Refusals.{numbered}
use Rattle.rules.proofs.Questions.{finished_is_table}
use Rattle.words.specs.Tables.{table_of}
use Rattle.estimate.specs.Call.{After, analysed}
use Rattle.estimate.proofs.Finished.{call_answers, call_finishes, call_clears, call_refuses}
use Rattle.curve_numbers.specs.declared.Choice.{Choice}
use Rattle.curve_numbers.specs.Parts.{cache_from, tracked_part, runs_part, accesses_part, edges_part, complete, input_from}
use Rattle.curve_numbers.specs.Places.{Ends}
use Rattle.parts.specs.Call.{numbers_left, numbers_outcome, numbers_longest}
use Rattle.curve_numbers.proofs.Places.{is_complete, parts_are}

-- ---- complete, or not

module _ (ch : Choice) (ns rs ws : List ℕ) where
  -- what the call leaves for what the numbers mean
  abbrev meant : After
  meant = analysed (cache_from ch ns) (get_or ns 1 0) (tracked_part ns).numbers (runs_part ns).numbers (accesses_part ns).numbers (edges_part ns).numbers rs ws

  left_complete : complete ns ≡ true → numbers_left ch ns rs ws ≡ meant
  unfolding numbers_left
  left_complete e = ap (λ (b : Bool). cond b meant (record { answer = Err Text; result = rs; work = ws })) e

  pub left_incomplete : complete ns ≡ false → record { answer = Err Text; result = rs; work = ws } ≡ numbers_left ch ns rs ws
  unfolding numbers_left
  left_incomplete e = sym (ap (λ (b : Bool). cond b meant (record { answer = Err Text; result = rs; work = ws })) e)

  -- what lies between the ends is what the numbers mean
  pub left_between : (a b c : ℕ) → Ends ns a b c → (f : After) → f ≡ analysed (cache_from ch ns) (get_or ns 1 0) (take (a - 3) (drop 3 ns)) (take (b - (a + 1)) (drop (a + 1) ns)) (take (c - (b + 1)) (drop (b + 1) ns)) (take (length ns - (c + 1)) (drop (c + 1) ns)) rs ws
      → f ≡ numbers_left ch ns rs ws
  left_between a b c ends f e =
      e ∙ sym (parts_are ns a b c ends (λ ts ls bs es. analysed (cache_from ch ns) (get_or ns 1 0) ts ls bs es rs ws)) ∙ sym (left_complete (is_complete ns a b c ends))

module _ (ch : Choice) (ns : List ℕ) where
  longest_complete : complete ns ≡ true → numbers_longest ch ns ≡ longest_answer (input_from ch ns)
  unfolding numbers_longest
  longest_complete e = ap (λ (b : Bool). cond b (longest_answer (input_from ch ns)) (Err Text)) e

  pub longest_incomplete : complete ns ≡ false → Err Text ≡ numbers_longest ch ns
  unfolding numbers_longest
  longest_incomplete e = sym (ap (λ (b : Bool). cond b (longest_answer (input_from ch ns)) (Err Text)) e)

  pub longest_between : (a b c : ℕ) → Ends ns a b c → (r : Result ℕ Refusal) → r ≡ longest_answer (input_of (cache_from ch ns) (get_or ns 1 0) (take (a - 3) (drop 3 ns)) (take (b - (a + 1)) (drop (a + 1) ns)) (take (c - (b + 1)) (drop (b + 1) ns)) (take (length ns - (c + 1)) (drop (c + 1) ns)))
      → r ≡ numbers_longest ch ns
  unfolding input_from
  longest_between a b c ends r e =
      e ∙ sym (parts_are ns a b c ends (λ ts ls bs es. longest_answer (input_of (cache_from ch ns) (get_or ns 1 0) ts ls bs es))) ∙ sym (longest_complete (is_complete ns a b c ends))

  outcome_complete : complete ns ≡ true → numbers_outcome ch ns ≡ outcome (input_from ch ns)
  unfolding numbers_outcome
  outcome_complete e = ap (λ (b : Bool). cond b (outcome (input_from ch ns)) (Err Text)) e

  outcome_incomplete : complete ns ≡ false → numbers_outcome ch ns ≡ Err Text
  unfolding numbers_outcome
  outcome_incomplete e = ap (λ (b : Bool). cond b (outcome (input_from ch ns)) (Err Text)) e

-- ---- with room for every state limit

-- the rooms rs and ws before the call, rs' and ws' after it: its answer; a finished table stands at the front of the result room, and the working room is zero; a
-- refusal leaves both as they were
pub record Called (ch : Choice) (ns : List ℕ) (r : Outcome) (rs ws rs' ws' : List ℕ) : Type 0 where
  pub answer : r ≡ numbers_outcome ch ns
  pub table : (outcome_says r).number ≡ 0 → take (outcome_says r).states (table_of rs') ≡ (finished (input_from ch ns)).table
  pub worked : (outcome_says r).number ≡ 0 → ws' ≡ replicate (length ws) 0
  pub refused : (why : Refusal) → r ≡ Err why → (rs' ≡ rs) × (ws' ≡ ws)

pub called : (ch : Choice) (ns rs ws : List ℕ) → 320 ≤ length rs → 25920 ≤ length ws → (r : Outcome) (rs' ws' : List ℕ)
    → record { answer = r; result = rs'; work = ws' } ≡ numbers_left ch ns rs ws → Called ch ns r rs ws rs' ws'
unfolding input_from
called ch ns rs ws long long' r rs' ws' is = go (complete ns) refl
  where
    go : (b : Bool) → complete ns ≡ b → Called ch ns r rs ws rs' ws'
    go true e =
        let left = is ∙ left_complete ch ns rs ws e in
        record {
          answer = call_answers _ _ _ _ _ _ _ _ long long' _ _ _ left ∙ sym (outcome_complete ch ns e);
          table = call_finishes _ _ _ _ _ _ _ _ long long' _ _ _ left;
          worked = call_clears _ _ _ _ _ _ _ _ long long' _ _ _ left;
          refused = call_refuses _ _ _ _ _ _ _ _ long long' _ _ _ left;
        }
    go false e =
        let left = is ∙ sym (left_incomplete ch ns rs ws e) in
        let nine : (outcome_says r).number ≡ 9 = ap (λ (f : After). (outcome_says f.answer).number) left in
        record {
          answer = ap (λ (f : After). f.answer) left ∙ sym (outcome_incomplete ch ns e);
          table = λ h. absurd (numbered Text (sym nine ∙ h));
          worked = λ h. absurd (numbered Text (sym nine ∙ h));
          refused = λ why h. (ap (λ (f : After). f.result) left, ap (λ (f : After). f.work) left);
        }

-- ---- where it is worked

finished_accepted : (i : Input) (n : ℕ) (a : Units) (v : Verdict) → answered v i ≡ Ok (record { states = n; aside = a }) → v ≡ Ok tt
finished_accepted i n a (Ok tt) e = refl
finished_accepted i n a (Err r) e = absurd (numbered r (ap (λ (q : Outcome). (outcome_says q).number) e))

module _ (ch : Choice) (ns : List ℕ) (n : ℕ) (a : Units) (f : Ok (record { states = n; aside = a }) ≡ numbers_outcome ch ns) where
  pub worked_complete : complete ns ≡ true
  worked_complete = go (complete ns) refl
    where
      go : (b : Bool) → complete ns ≡ b → complete ns ≡ true
      go true e = e
      go false e = absurd (numbered Text (sym (ap (λ (q : Outcome). (outcome_says q).number) (f ∙ outcome_incomplete ch ns e))))

  abbrev i : Input
  i = input_from ch ns

  outcome_is : Ok (record { states = n; aside = a }) ≡ outcome i
  outcome_is = f ∙ outcome_complete ch ns worked_complete

  pub worked_accepted : verdict i ≡ Ok tt
  unfolding outcome
  worked_accepted = finished_accepted i n a (verdict i) (sym outcome_is)

  pub worked_says : ◌≡◌ {A = Outcome} (Ok (record { states = n; aside = a })) (Ok (record { states = length (finished i).table; aside = units (finished i).aside }))
  unfolding outcome
  worked_says = outcome_is ∙ ap (λ (v : Verdict). answered v i) worked_accepted

  pub worked_table : is_table (finished i).table ≡ true
  worked_table = finished_is_table i (ap (λ (q : Outcome). (outcome_says q).number) (sym outcome_is))

-- ---- the longest path then

module _ (ch : Choice) (ns : List ℕ) (all : complete ns ≡ true) (accepted : verdict (input_from ch ns) ≡ Ok tt) (r : Result ℕ Refusal) (is : r ≡ numbers_longest ch ns) where
  longest_says : r ≡ Ok (longest (input_from ch ns))
  unfolding longest_answer
  longest_says = is ∙ longest_complete ch ns all ∙ ap (λ (v : Verdict). answer_or v (longest (input_from ch ns))) accepted

  pub longest_told : (m : ℕ) → r ≡ Ok m → m ≡ longest (input_from ch ns)
  longest_told m e = ap (λ (q : Result ℕ Refusal). (number_says q).value) (sym e ∙ longest_says)

  pub longest_not_refused : (why : Refusal) → r ≡ Err why → ⊥
  longest_not_refused why e = numbered why (ap (λ (q : Result ℕ Refusal). (number_says q).number) (sym e ∙ longest_says))

-- the table that stands in the result room then
pub table_there : (ch : Choice) (ns : List ℕ) (r : Outcome) (rs ws rs' ws' : List ℕ) → Called ch ns r rs ws rs' ws' → (n : ℕ) (a : Units) → r ≡ Ok (record { states = n; aside = a })
    → take n (table_of rs') ≡ (finished (input_from ch ns)).table
table_there ch ns r rs ws rs' ws' call n a f =
    sym (ap (λ (q : Outcome). take (outcome_says q).states (table_of rs')) f) ∙ call.table (ap (λ (q : Outcome). (outcome_says q).number) f)
