-- What is handed in for the joins, told in numbers: where the entries have the form each pairing's rows stand among the rows; the verdict with them is that
-- without, and then 19; and no numbers at all are none everywhere.
use Rattle.std.specs.Prelude.{Err, Ok}
use mathlib.Core.Path.{◌≡◌, refl, sym, ap, ◌∙◌, subst}
use mathlib.Core.Bool.{Bool, true, false, cond, ◌||◌, ◌&&◌, not, true≢false}
use mathlib.Core.List.{List, [], ◌∷◌, ◌++◌}
use Prim.Native.Nat.{ℕ, zero, suc, ◌+◌, ◌*◌, ◌≤◌, ◌<◌}
use native.Mathlib.Omega.{arith}
use lib.Dec.{eqb, leb}
use lib.ListN.{length, get_or, take}
use borrow.Author.Tests.{eqb-true, leb-true}
use Rattle.basics.proofs.Bools.{and_left, and_right}
use Rattle.rules.specs.declared.Refusal.{Refusal}
use Rattle.rules.specs.declared.Refusal.TheVariants.{Pairing}
use Rattle.rules.specs.Answers.{number_of, Reason, first, verdict_says, outcome_says, Verdict}
use Rattle.rules.specs.Input.{Input}
use Rattle.rules.specs.AnyTable.{no_pairings}
use Rattle.rules.specs.Shape.{Every}
use Rattle.rules.specs.Refusals.{reasons, verdict, outcome, answered}
use Rattle.rules.specs.Entries.{no_rows, rows_told, entry_of, few_rows, in_form, entries_fit, pairing_reason, paired_verdict, paired_answered, paired_outcome}
use Rattle.rules.proofs.Refusals.{numbered}

-- ---- the form

-- the entries are one for each join, and the rows just theirs
pub record Formed (joins : ℕ) (ns rs : List ℕ) : Type 0 where
  pub each : length ns ≡ joins
  pub few : few_rows ns ≡ true
  pub all : length rs ≡ rows_told ns * 3

pub formed : (joins : ℕ) (ns rs : List ℕ) → in_form joins ns rs ≡ true → Formed joins ns rs
unfolding in_form
formed joins ns rs h =
    let both = and_left (eqb (length ns) joins && few_rows ns) _ h in
    record {
      each = eqb-true (length ns) joins (and_left (eqb (length ns) joins) _ both);
      few = and_right (eqb (length ns) joins) _ both;
      all = eqb-true (length rs) (rows_told ns * 3) (and_right (eqb (length ns) joins && few_rows ns) _ h);
    }

-- ---- the rows of a join

-- those of the joins before it and its own are among all
pub rows_within : (ns : List ℕ) (m : ℕ) → m < length ns → eqb (get_or ns m no_rows) no_rows ≡ false → rows_told (take m ns) + get_or ns m no_rows ≤ rows_told ns
unfolding rows_told
rows_within [] m l e = absurd (omega arith)
rows_within (n ∷ ns) zero l e = rw e (omega arith)
rows_within (n ∷ ns) (suc m) l e = omega (arith, rows_within ns m (omega arith) e)

pub rows_few : (ns : List ℕ) (m : ℕ) → m < length ns → few_rows ns ≡ true → eqb (get_or ns m no_rows) no_rows ≡ false → get_or ns m no_rows ≤ 1088
rows_few [] m l h e = absurd (omega arith)
rows_few (n ∷ ns) zero l h e = go (eqb n no_rows) e (and_left (eqb n no_rows || leb n 1088) _ h)
  where
    go : (b : Bool) → b ≡ false → (b || leb n 1088) ≡ true → n ≤ 1088
    go true f h = absurd (true≢false f)
    go false f h = leb-true n 1088 h
rows_few (n ∷ ns) (suc m) l h e = rows_few ns m (omega arith) (and_right (eqb n no_rows || leb n 1088) _ h) e

-- ---- the verdict

-- one reason more, behind others
abbrev further : Verdict → Reason → Verdict
further (Ok tt) r = cond r.applies (Err r.gives) (Ok tt)
further (Err x) r = Err x

first_further : (rs : List Reason) (r : Reason) → first (rs ++ (r ∷ [])) ≡ further (first rs) r
first_further [] r = refl
first_further (x ∷ rs) r = go x.applies (first_further rs r)
  where
    go : (b : Bool) → first (rs ++ (r ∷ [])) ≡ further (first rs) r
        → cond b (Err x.gives) (first (rs ++ (r ∷ []))) ≡ further (cond b (Err x.gives) (first rs)) r
    go true ih = refl
    go false ih = ih

module _ (i : Input) (ns rs : List ℕ) where
  then_paired : paired_verdict i ns rs ≡ further (verdict i) (pairing_reason i ns rs)
  unfolding paired_verdict verdict
  then_paired = first_further (reasons i) (pairing_reason i ns rs)

  -- where the graph call refuses, so does the call with pairings
  pub paired_refused : (r : Refusal) → verdict i ≡ Err r → paired_verdict i ns rs ≡ Err r
  paired_refused r e = then_paired ∙ ap (λ (v : Verdict). further v (pairing_reason i ns rs)) e

  -- where it accepts, all hangs on the entries
  pub paired_judged : (b : Bool) → verdict i ≡ Ok tt → entries_fit i ns rs ≡ b → paired_verdict i ns rs ≡ cond b (Ok tt) (Err Pairing)
  paired_judged b e f = then_paired ∙ ap (λ (v : Verdict). further v (pairing_reason i ns rs)) e ∙ ap turned f ∙ told b
    where
      turned : Bool → Verdict
      turned b = cond (not b) (Err Pairing) (Ok tt)

      told : (b : Bool) → turned b ≡ cond b (Ok tt) (Err Pairing)
      told true = refl
      told false = refl

  -- an answer with no refusal's number: the graph call accepts, and so are the entries
  pub paired_accepted : (outcome_says (paired_outcome i ns rs)).number ≡ 0 → ((outcome_says (outcome i)).number ≡ 0) × (entries_fit i ns rs ≡ true)
  unfolding paired_outcome outcome
  paired_accepted h = go (verdict i) (entries_fit i ns rs) (ap (λ (v : Verdict). (outcome_says (paired_answered v i (entry_of ns rs))).number) (sym then_paired) ∙ h)
    where
      go : (v : Verdict) (b : Bool) → (outcome_says (paired_answered (further v (record { applies = not b; gives = Pairing })) i (entry_of ns rs))).number ≡ 0
          → ((outcome_says (answered v i)).number ≡ 0) × (b ≡ true)
      go (Ok tt) true h = (refl, refl)
      go (Ok tt) false h = absurd (numbered Pairing h)
      go (Err r) b h = absurd (numbered r h)

-- ---- a refusal before any work is never 19

-- what is so of each refusal that is given is so of the first
first_given : (P : Refusal → Type 0) (rs : List Reason) (r : Refusal) → Every (λ x. P x.gives) rs → first rs ≡ Err r → P r
first_given P [] r h e = absurd (numbered r (sym (ap verdict_says e)))
first_given P (x ∷ rs) r h e = go x.applies e (first_given P rs r h.1)
  where
    why : Verdict → Refusal
    why (Ok tt) = r
    why (Err y) = y

    go : (b : Bool) → cond b (Err x.gives) (first rs) ≡ Err r → (first rs ≡ Err r → P r) → P r
    go true e rest = subst P (ap why e) h.0
    go false e rest = rest e

pub never_nineteen : (i : Input) (r : Refusal) → verdict i ≡ Err r → eqb (number_of r) 19 ≡ false
unfolding verdict reasons
never_nineteen i r e = first_given (λ r. eqb (number_of r) 19 ≡ false) (reasons i) r (refl, (refl, (refl, (refl, (refl, (refl, (refl, (refl, tt)))))))) e

-- ---- no numbers

-- are none everywhere
pub no_entries : entry_of [] [] ≡ no_pairings
unfolding entry_of
no_entries = refl
