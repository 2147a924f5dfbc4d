-- What an access is after, and places in a mask, from any arguments.
use Rattle.std.specs.Prelude.{false, cond, ◌&&◌, List, ℕ, ◌%◌, leb, length, None, Some}
use Rattle.rules.specs.declared.Target.{Target}
use Rattle.rules.specs.Contents.{among, target_of, Last, Place}
use Rattle.rules.specs.Refusals.{set_counts}

-- a place of the 64 that a mask has
abbrev pub in_word : Place → Place
in_word (Some i) = Some (i % 64)
in_word None = None

-- an access that is after nothing
abbrev pub nothing : Target
nothing = record { place = None; again = false; set = 0; mates = 0 }

-- an access to b in Z sets with the tracked blocks ts, where l was accessed directly before; after nothing, where Z is no set count or more than 16
-- blocks are tracked
unfoldable pub aimed_at : ℕ → List ℕ → Last → ℕ → Target
aimed_at Z ts l b = cond (leb (length ts) 16 && among set_counts Z) (target_of Z ts l b) nothing
