-- The best case's two reasons more, put into the graph call's verdict: document 02, request 10/13.
use Rattle.std.specs.Prelude.{Bool, cond, ◌||◌, ◌&&◌, not, eqb, Err, Ok}
use Rattle.rules.specs.declared.Refusal.{Refusal}
use Rattle.rules.specs.declared.Refusal.TheVariants.{UntrackedAccess, SecondRevision}
use Rattle.rules.specs.Answers.{number_of, Verdict}

-- a refusal that is given before 18: 1, 10 and 11
abbrev pub is_early : Refusal → Bool
is_early r = eqb (number_of r) 1 || eqb (number_of r) 10 || eqb (number_of r) 11

-- a refusal that is given after 17: 6
abbrev pub is_late : Refusal → Bool
is_late r = eqb (number_of r) 6

-- the verdict of the graph call with them: where the revision is the second, and where not every access is tracked
abbrev pub further_of : Verdict → Bool → Bool → Verdict
further_of (Ok tt) second tracked = cond second (Err SecondRevision) (cond tracked (Ok tt) (Err UntrackedAccess))
further_of (Err r) second tracked =
    cond (is_early r) (Err r) (cond second (Err SecondRevision) (cond (is_late r && not tracked) (Err UntrackedAccess) (Err r)))
