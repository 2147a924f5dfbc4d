-- When the second analysis says no: document 01's reasons in its order, with limits and rooms of its own.
use Rattle.std.specs.Prelude.{◌||◌, List, [], ◌∷◌, ◌++◌, ℕ, ◌+◌, ltb, length, Err, Ok}
use Rattle.rules.specs.declared.Refusal.TheVariants.{Limit, Room}
use Rattle.rules.specs.Answers.{Reason, when, first, Verdict}
use Rattle.rules.specs.Refusals.{outside, ways_reason, sets_reason, revision_reason, tracked_reason, accesses_reason, graph_reason}
use Rattle.tight_rules.specs.Asked.{Asked, graph_of}
use Rattle.tight_rules.specs.Rooms.{room_needed}

-- 2: the limits, 1 to 4,096 contents and 2 to 4,098 cells
abbrev pub limits_reason : Asked → Reason
limits_reason a = when (outside 1 4096 a.contents || outside 2 4098 a.cells) Limit

-- 6: the rooms, a result cell for each miss count from 0 to all accesses, and the working room
abbrev pub rooms_reason : Asked → Reason
rooms_reason a = when (ltb a.result_room (length a.accesses + 1) || ltb a.working_room (room_needed a)) Room

-- 1, 10, 11 and 2 to 5, in order: those that do not look at the rooms
unfoldable pub before_rooms : Asked → List Reason
before_rooms a =
    let i = graph_of a in
    ways_reason i ∷ sets_reason i ∷ revision_reason i ∷ limits_reason a ∷ tracked_reason i ∷ accesses_reason i ∷ graph_reason i ∷ []

-- and then 6
unfoldable pub reasons : Asked → List Reason
reasons a = before_rooms a ++ rooms_reason a ∷ []

-- the first reason that applies
unfoldable pub verdict : Asked → Verdict
verdict a = first (reasons a)

-- ---- how much working room to lend

-- the words, or 0 for a refusal
abbrev pub words_or : Verdict → ℕ → ℕ
words_or (Ok tt) n = n
words_or (Err r) n = 0

-- the words of working room that are needed; 0 where one of 1 to 5, 10 and 11 is given, whatever the room
unfoldable pub room_answer : Asked → ℕ
room_answer a = words_or (first (before_rooms a)) (room_needed a)
