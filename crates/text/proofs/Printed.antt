-- What is printed for a list of numbers, case by case: it is not complete, refused by the graph call, or accepted.
use Rattle.std.specs.Prelude.{Err, Ok}
use mathlib.Core.Path.{◌≡◌, refl, sym, ap, ap₂, ◌∙◌}
use mathlib.Core.Bool.{Bool, true, false, cond, ◌&&◌}
use mathlib.Core.List.{List, ◌++◌}
use Prim.Native.Nat.{ℕ}
use native.Mathlib.Nat.{le_trans}
use lib.ListN.{length, take, replicate}
use Rattle.rules.specs.declared.State.{State}
use Rattle.rules.specs.declared.Units.{Units}
use Rattle.rules.specs.declared.Refusal.{Refusal}
use Rattle.rules.specs.declared.Refusal.TheVariants.{Text}
use Rattle.rules.specs.Answers.{number_of, outcome_says, Outcome, Verdict}
use Rattle.rules.specs.Input.{Input}
use Rattle.rules.specs.Graph.{finished}
use Rattle.rules.specs.Refusals.{verdict, answered, outcome}
use Rattle.rules.specs.Cycles.{cores}
use Rattle.rules.specs.Longest.{longest}
use Rattle.rules.proofs.Refusals.{numbered, checked}
use Rattle.rules.proofs.Longest.{longest_most, finished_within}
use Rattle.words.specs.Tables.{table_of}
use Rattle.curve_numbers.specs.declared.Choice.{Choice}
use Rattle.curve_numbers.specs.Parts.{complete, input_from}
use Rattle.parts.specs.Call.{numbers_outcome}
use Rattle.parts.proofs.Calls.{Called, worked_complete, worked_accepted, worked_says, worked_table, table_there}
use Rattle.writing.specs.Writing.{refused_line}
use Rattle.writing.specs.Told.{told, accepts}
use Rattle.lines.specs.Lines.{head_line, lines_below, curve_lines}
use Rattle.printed.specs.Printed.{of_input, of_numbers, numbers_worked}
use Rattle.lines.specs.Cores.{longest_line, core_lines}
use Rattle.printed.proofs.Printed.{curve_printed, cycles_printed}
use Rattle.text.specs.Working.{Finishes}

-- ---- what the graph call answers, and what is told of the input

module _ (i : Input) where
  told_refused : (text : List ℕ) (why : Refusal) (v : Verdict) → answered v i ≡ Err why → refused_line (number_of why) ≡ told v text
  told_refused text why (Ok tt) e = absurd (numbered why (sym (ap (λ (q : Outcome). (outcome_says q).number) e)))
  told_refused text why (Err r) e = ap (λ (q : Outcome). refused_line (outcome_says q).number) (sym e)

  refused_unaccepted : (why : Refusal) (v : Verdict) → answered v i ≡ Err why → accepts v ≡ false
  refused_unaccepted why (Ok tt) e = absurd (numbered why (sym (ap (λ (q : Outcome). (outcome_says q).number) e)))
  refused_unaccepted why (Err r) e = refl

-- ---- for a list of numbers: what is printed, and whether it is worked

module _ (ch : Choice) (ns : List ℕ) (why : Refusal) (f : Err why ≡ numbers_outcome ch ns) where
  pub printed_refused : (text : Input → List ℕ) (n : ℕ) → n ≡ number_of why → refused_line n ≡ of_numbers text ch ns
  unfolding of_numbers of_input outcome numbers_outcome
  printed_refused text n e = ap refused_line e ∙ go (complete ns) f
    where
      go : (b : Bool) → Err why ≡ cond b (answered (verdict (input_from ch ns)) (input_from ch ns)) (Err Text)
          → refused_line (number_of why) ≡ cond b (told (verdict (input_from ch ns)) (text (input_from ch ns))) (refused_line (number_of Text))
      go true g = told_refused (input_from ch ns) (text (input_from ch ns)) why (verdict (input_from ch ns)) (sym g)
      go false g = ap (λ (q : Outcome). refused_line (outcome_says q).number) g

  pub refused_unworked : numbers_worked ch ns ≡ false
  unfolding numbers_worked outcome numbers_outcome
  refused_unworked = go (complete ns) f
    where
      go : (b : Bool) → Err why ≡ cond b (answered (verdict (input_from ch ns)) (input_from ch ns)) (Err Text)
          → (b && accepts (verdict (input_from ch ns))) ≡ false
      go true g = refused_unaccepted (input_from ch ns) why (verdict (input_from ch ns)) (sym g)
      go false g = refl

module _ (ch : Choice) (ns : List ℕ) (r : Outcome) (rs ws result work : List ℕ) (called : Called ch ns r rs ws result work) (states : ℕ) (aside : Units)
    (f : r ≡ Ok (record { states = states; aside = aside })) where
  abbrev i : Input
  i = input_from ch ns

  answers : Ok (record { states = states; aside = aside }) ≡ numbers_outcome ch ns
  answers = sym f ∙ called.answer

  ok : complete ns ≡ true
  ok = worked_complete ch ns states aside answers

  is_accepted : verdict i ≡ Ok tt
  is_accepted = worked_accepted ch ns states aside answers

  table_is : take states (table_of result) ≡ (finished i).table
  table_is = table_there ch ns r rs ws result work called states aside f

  -- of the numbers that are said and the table that stands there
  printed_there : (text : List ℕ) (lines : ℕ → ℕ → List State → List ℕ) → lines (length (finished i).table) (finished i).aside (finished i).table ≡ text
      → lines states aside.0 (take states (table_of result)) ≡ text
  printed_there text lines e =
      ap₂ (λ (q : Outcome) (T : List State). lines (outcome_says q).states (outcome_says q).aside T) (worked_says ch ns states aside answers) table_is ∙ e

  pub finished_worked : numbers_worked ch ns ≡ true
  unfolding numbers_worked
  finished_worked = rw ok (ap accepts is_accepted)

  pub finished_cleared : work ≡ replicate (length ws) 0
  finished_cleared = called.worked (ap (λ (q : Outcome). (outcome_says q).number) f)

  pub left_finished : Finishes ch ns result states aside
  left_finished =
      let all = checked i (sym is_accepted) in
      record {
        whole = ok;
        accepted = is_accepted;
        table = rw table_is (worked_table ch ns states aside answers);
        covered = rw table_is (finished_within i all);
        few = le_trans (longest_most i all) all.few_accesses;
        curve_is = printed_there _ (λ n a T. head_line n a ++ curve_lines T) (curve_printed ch ns ok is_accepted);
        cycles_are = λ L e. rw e
            (printed_there _ (λ n a T. longest_line n a (longest i) ++ lines_below (core_lines (longest i) T) (length cores)) (cycles_printed ch ns ok is_accepted));
      }
