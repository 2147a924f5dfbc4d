-- A graph's row: what is answered is the definition's, and no graph sets more than WHOLE aside.
use Rattle.std.specs.Prelude.{Err, Ok, Result}
use mathlib.Core.Path.{◌≡◌, refl, sym, ap, ap₂, ◌∙◌}
use mathlib.Core.Bool.{Bool, true, false, cond}
use mathlib.Core.List.{List}
use Prim.Native.Nat.{ℕ, ◌≤◌, ◌<◌}
use native.Mathlib.Omega.{arith}
use borrow.Author.Tests.{le-leb, lt-leb}
use lib.Dec.{leb}
use lib.ListN.{length}
use Rattle.rules.specs.declared.Refusal.{Refusal}
use Rattle.rules.specs.declared.Refusal.TheVariants.{Text}
use Rattle.rules.specs.declared.State.{State}
use Rattle.rules.specs.declared.Units.{Units}
use Rattle.rules.specs.Units.{whole}
use Rattle.rules.specs.Answers.{number_of, number_says, Outcome, Verdict}
use Rattle.rules.specs.Input.{Input, nodes}
use Rattle.rules.specs.AnyTable.{no_pairings, finished_by as finished_of}
use Rattle.rules.specs.Graph.{finished}
use Rattle.rules.specs.Longest.{longest}
use Rattle.rules.specs.Questions.{is_table, smallest_budget, budget_answer}
use Rattle.rules.specs.Refusals.{verdict, answered, outcome}
use Rattle.rules.proofs.Graph.{aside_worked}
use Rattle.rules.proofs.Questions.{budget_answered}
use Rattle.rules.proofs.Refusals.{numbered}
use Rattle.curve_numbers.specs.Parts.{plain, complete, input_from}
use Rattle.parts.specs.Call.{numbers_outcome}
use Rattle.night_rows.specs.Rows.{number_row, refused_row}
use Rattle.nightly.specs.Rows.{row_for, row_of}

-- ---- the smallest budget of a table

module _ (T : List State) (is : is_table T ≡ true) (u : ℕ) (r : Result ℕ Refusal) (e : r ≡ budget_answer T u) where
  answers : r ≡ Ok (smallest_budget u T)
  answers = e ∙ sym (budget_answered T is u (smallest_budget u T) refl)

  pub budget_told : (m : ℕ) → r ≡ Ok m → m ≡ smallest_budget u T
  budget_told m f = ap (λ (q : Result ℕ Refusal). (number_says q).value) (sym f ∙ answers)

  pub budget_not_refused : (why : Refusal) → r ≡ Err why → ⊥
  budget_not_refused why f = numbered why (ap (λ (q : Result ℕ Refusal). (number_says q).number) (sym f ∙ answers))

-- ---- the row

module _ (u : ℕ) (ns : List ℕ) where
  pub row_long : 16384 < length ns → refused_row Text ≡ row_of u ns
  unfolding row_of
  row_long h = sym (ap (λ (b : Bool). cond b (row_for u (input_from plain ns) (numbers_outcome plain ns)) (refused_row Text)) (lt-leb (length ns) 16384 h))

  module _ (few : length ns ≤ 16384) where
    row_few : row_for u (input_from plain ns) (numbers_outcome plain ns) ≡ row_of u ns
    unfolding row_of
    row_few = sym (ap (λ (b : Bool). cond b (row_for u (input_from plain ns) (numbers_outcome plain ns)) (refused_row Text)) (le-leb (length ns) 16384 few))

    pub row_refused : (r : Outcome) → r ≡ numbers_outcome plain ns → (why : Refusal) → r ≡ Err why → (n : ℕ) → n ≡ number_of why
        → number_row n ≡ row_of u ns
    row_refused r e why f n g =
        ap number_row g
        ∙ ap (row_for u (input_from plain ns)) (sym f ∙ e)
        ∙ row_few

    pub row_finished : (r : Outcome) → r ≡ numbers_outcome plain ns → (n : ℕ) (a : Units) → r ≡ Ok (record { states = n; aside = a }) → (l b : ℕ) → l ≡ longest (input_from plain ns)
        → b ≡ smallest_budget u (finished (input_from plain ns)).table → record { refusal = 0; states = n; aside = a.0; longest = l; budget = b } ≡ row_of u ns
    row_finished r e n a f l b p q =
        ap₂ (λ (x y : ℕ). record { refusal = 0; states = n; aside = a.0; longest = x; budget = y }) p q
        ∙ ap (row_for u (input_from plain ns)) (sym f ∙ e)
        ∙ row_few

-- ---- no row has more set aside than WHOLE

most_answered : (u : ℕ) (i : Input) (v : Verdict) → (row_for u i (answered v i)).aside ≤ whole
unfolding finished_of
most_answered u i (Ok tt) = aside_worked no_pairings i (nodes i)
most_answered u i (Err r) = omega arith

pub aside_most : (u : ℕ) (ns : List ℕ) → (row_of u ns).aside ≤ whole
unfolding row_of numbers_outcome outcome
aside_most u ns = go (leb (length ns) 16384) (complete ns)
  where
    go : (b c : Bool) → (cond b (row_for u (input_from plain ns) (cond c (answered (verdict (input_from plain ns)) (input_from plain ns)) (Err Text))) (refused_row Text)).aside ≤ whole
    go true true = most_answered u (input_from plain ns) (verdict (input_from plain ns))
    go true false = omega arith
    go false c = omega arith
