-- An answer, made one of another kind: a refusal stays, and a number becomes what it stands for.
use Rattle.std.specs.Prelude.{Err, Ok, Result}
use mathlib.Core.Path.{◌≡◌, refl, sym, ap, ◌∙◌}
use Prim.Native.Nat.{ℕ}
use Rattle.rules.specs.declared.Refusal.{Refusal}
use Rattle.rules.specs.Answers.{Verdict, answer_or}

module _ {C : Type 0} (made : ℕ → C) where
  abbrev made_of : Result ℕ Refusal → Result C Refusal
  made_of (Ok n) = Ok (made n)
  made_of (Err r) = Err r

  made_answer : (v : Verdict) (m : ℕ) → made_of (answer_or v m) ≡ answer_or v (made m)
  made_answer (Ok tt) m = refl
  made_answer (Err r) m = refl

  module _ (v : Verdict) (m : ℕ) (a : Result ℕ Refusal) (is : a ≡ answer_or v m) where
    pub given : (n : ℕ) → a ≡ Ok n → ◌≡◌ {A = Result C Refusal} (Ok (made n)) (answer_or v (made m))
    given n e = sym (ap made_of e) ∙ ap made_of is ∙ made_answer v m

    pub refused : (r : Refusal) → a ≡ Err r → ◌≡◌ {A = Result C Refusal} (Err r) (answer_or v (made m))
    refused r e = sym (ap made_of e) ∙ ap made_of is ∙ made_answer v m
