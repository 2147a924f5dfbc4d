-- The best case's verdict is the graph call's with two reasons more in their places: by cases of which reasons apply.
use mathlib.Core.Path.{◌≡◌, refl, sym}
use mathlib.Core.Bool.{Bool, true, false, not}
use mathlib.Core.List.{[], ◌∷◌}
use lib.Dec.{eqb}
use Rattle.rules.specs.declared.Refusal.TheVariants.{Ways, Limit, Tracked, Accesses, Graph, Room, Sets, Revision, UntrackedAccess, SecondRevision}
use Rattle.rules.specs.Answers.{when, first}
use Rattle.rules.specs.Contents.{all_tracked}
use Rattle.rules.specs.Input.{Input}
use Rattle.rules.specs.Refusals.{ways_reason, sets_reason, revision_reason, limit_reason, tracked_reason, accesses_reason, graph_reason, room_reason, reasons, verdict, best_reasons, best_verdict}
use Rattle.refusals.specs.Further.{further_of}

by_cases : (w s v k t a g r e p : Bool)
    → further_of
    (first (when w Ways ∷ when s Sets ∷ when v Revision ∷ when k Limit ∷ when t Tracked ∷ when a Accesses ∷ when g Graph ∷ when r Room ∷ [])) e p
    ≡ first (
    when w Ways ∷ when s Sets ∷ when v Revision ∷ when e SecondRevision ∷ when k Limit ∷ when t Tracked ∷ when a Accesses ∷ when g Graph
    ∷ when (not p) UntrackedAccess ∷ when r Room ∷ []
    )
by_cases true s v k t a g r e p = refl
by_cases false true v k t a g r e p = refl
by_cases false false true k t a g r e p = refl
by_cases false false false true t a g r e p = refl
by_cases false false false false true a g r e p = refl
by_cases false false false false false true g r e p = refl
by_cases false false false false false false true r e p = refl
by_cases false false false false false false false true e p = refl
by_cases false false false false false false false false e true = refl
by_cases false false false false false false false false e false = refl

pub best_further : (i : Input) → best_verdict i ≡ further_of (verdict i) (eqb i.revision 2) (all_tracked i.tracked i.accesses)
unfolding verdict reasons best_verdict best_reasons
best_further i =
    sym
    (by_cases (ways_reason i).applies (sets_reason i).applies (revision_reason i).applies (limit_reason i).applies (tracked_reason i).applies
    (accesses_reason i).applies (graph_reason i).applies (room_reason i).applies (eqb i.revision 2) (all_tracked i.tracked i.accesses))
