-- Which slot holds the table of a node. It stays where it was made as long as it is needed: a node's table is needed up to the last node that an edge leads to from there. Before a
-- node is worked, the smallest slot without such a table becomes its own.
use Rattle.std.specs.Prelude.{Bool, false, cond, ◌||◌, ◌&&◌, List, [], ◌∷◌, ◌++◌, ℕ, zero, suc, ◌-◌, eqb, leb, get_or, replicate}
use Rattle.rules.specs.Input.{Edge}
use Rattle.tight_rules.specs.Rooms.{passes}

-- whether slot s holds the table of one of the nodes below u that node v or one beyond it needs; ss has the slots of these nodes
unfoldable pub is_taken : List Edge → ℕ → List ℕ → ℕ → ℕ → Bool
is_taken es v ss zero s = false
is_taken es v ss (suc u) s = (eqb (get_or ss u 0) s && passes es u v) || is_taken es v ss u s

-- the first of the slots from slot s on that is not taken; n of them are looked at
unfoldable pub first_free : ℕ → (ℕ → Bool) → ℕ → ℕ
first_free zero taken s = s
first_free (suc n) taken s = cond (taken s) (first_free n taken (suc s)) s

-- the smallest slot that is free for node v, where ss has the slots of the nodes before it
unfoldable pub free_at : List Edge → ℕ → List ℕ → ℕ
free_at es v ss = first_free v (is_taken es v ss v) 0

-- the slots of the first n nodes
unfoldable pub slots_of : List Edge → ℕ → List ℕ
slots_of es zero = []
slots_of es (suc v) = slots_of es v ++ (free_at es v (slots_of es v) ∷ [])

-- the slot of node v
abbrev pub slot_of : List Edge → ℕ → ℕ
slot_of es v = free_at es v (slots_of es v)

-- the slots of n nodes in 64 numbers: 0 for the nodes that there are not, and for more than 64 nodes
unfoldable pub slots_in : List Edge → ℕ → List ℕ
slots_in es n = cond (leb n 64) (slots_of es n ++ replicate (64 - n) 0) (replicate 64 0)
