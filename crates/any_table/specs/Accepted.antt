-- What is accepted as a table, whatever its states are: document 01, section 4, and document 02, request 10/13.
use Rattle.std.specs.Prelude.{Bool, true, ◌&&◌, not, List, [], ◌∷◌, ℕ, suc, eqb, leb, ltb, length, Result}
use Rattle.rules.specs.declared.Refusal.{Refusal}
use Rattle.rules.specs.declared.Refusal.TheVariants.{Row, SpreadRoom}
use Rattle.rules.specs.Units.{whole}
use Rattle.rules.specs.Answers.{when, first, Verdict, answer_or}
use Rattle.rules.specs.Ordered.{rises}
use Rattle.rules.specs.AnyTable.{Listing, total}
use Rattle.rules.specs.BestQuestions.{room_after}
use Rattle.rules.specs.Counts.{largest, spread}

-- each state fits
abbrev pub all_fitting : {A : Type 0} → (A → Bool) → List A → Bool
all_fitting fits [] = true
all_fitting fits (s ∷ T) = fits s && all_fitting fits T

-- 1 to 64 states, rising, each fitting, and a true total of exactly WHOLE
unfoldable pub is_table_of : {A : Type 0} → Listing A → (A → Bool) → List A → Bool
is_table_of l fits T = leb 1 (length T) && leb (length T) 64 && rises l.order T && all_fitting fits T && eqb (total l T) whole

-- whether the spread of a count is given: 7 for what is no table, then 8 for a room of n places that is too short
abbrev pub spread_verdict : {A : Type 0} → Listing A → (A → Bool) → (A → ℕ) → List A → ℕ → Verdict
spread_verdict l fits count T n = first (when (not (is_table_of l fits T)) Row ∷ when (ltb n (suc (largest count T))) SpreadRoom ∷ [])

-- what it answers: the largest count
abbrev pub spread_answered : {A : Type 0} → Listing A → (A → Bool) → (A → ℕ) → List A → List ℕ → Result ℕ Refusal
spread_answered l fits count T room = answer_or (spread_verdict l fits count T (length room)) (largest count T)

-- what it leaves in the lent room: the units at each count and then zeros; a refusal leaves it as it was
abbrev pub spread_left : {A : Type 0} → Listing A → (A → Bool) → (A → ℕ) → List A → List ℕ → List ℕ
spread_left l fits count T room = room_after (spread_verdict l fits count T (length room)) (spread l.units count T) room
