-- A run of accesses: at each document 01's step, then the blocks that are dead leave, then the contents are reduced, then the row ends. N ways in each of Z sets, at
-- most K contents, rows of W cells, the tracked blocks ts.
use Rattle.std.specs.Prelude.{cond, List, [], ◌∷◌, ℕ, length, None, Some}
use Rattle.rules.specs.Units.{more}
use Rattle.rules.specs.declared.Target.{Target}
use Rattle.rules.specs.Contents.{find, bit, with, target_of, Last, Place}
use Rattle.rules.specs.Table.{Work}
use Rattle.rules.specs.Step.{access, access_aside}
use Rattle.tight_rules.specs.Rows.{Rows, narrowed, evened}
use Rattle.tight_rules.specs.Reduction.{reduced}
use Rattle.tight_rules.specs.Ends.{ends}

-- the places that are accessed in bs, and those of L
unfoldable pub living : List ℕ → ℕ → List ℕ → ℕ
living ts L [] = L
living ts L (b ∷ bs) = with (living ts L bs) (find ts b)

-- the place y, if it is one of L
abbrev pub alive : ℕ → Place → Place
alive L (Some i) = cond (bit L i) (Some i) None
alive L None = None

-- document 01's step, with what it sets aside
unfoldable pub stepped : ℕ → Target → Work → Work
stepped N x w = record { table = access N x w.table; aside = more w.aside (access_aside N x w.table) }

-- the filled numbers of a miss count, after what was done to the rows
abbrev pub settled : Rows → Rows
settled r = record { kept = evened r.kept; lost = r.lost }

-- an access of x, after which some path accesses the places L of k, and no path any other
unfoldable pub advance : ℕ → ℕ → ℕ → ℕ → Target → ℕ → Rows → Rows
advance N K W k x L r =
    settled (ends W (record { kept = reduced K k (alive L x.place) (narrowed L (stepped N x r.kept)); lost = r.lost }))

-- the accesses one after the other, where p was accessed directly before them and some path accesses the places L after them
unfoldable pub run : ℕ → ℕ → ℕ → ℕ → List ℕ → ℕ → Last → List ℕ → Rows → Rows
run N Z K W ts L p [] r = r
run N Z K W ts L p (b ∷ bs) r = run N Z K W ts L (Some b) bs (advance N K W (length ts) (target_of Z ts p b) (living ts L bs) r)
