-- The pairs of two tables by contents: those that share most blocks first. Of a row it matters how many units lie at or above each miss count; each pair of contents takes
-- as many units as both have left, from the top of both rows.
use Rattle.std.specs.Prelude.{cond, ℕ, zero, suc, ◌+◌, ◌-◌, min, max, eqb}
use mathlib.Core.List.{List, [], ◌∷◌, ◌++◌, flat_map}
use Rattle.rules.specs.Contents.{shared, size}
use Rattle.tight_rules.specs.Join.{Two}

-- ---- units by place

-- of which u at place i are used
abbrev pub taken : ℕ → ℕ → (ℕ → ℕ) → ℕ → ℕ
taken i u a k = cond (eqb k i) (a k - u) (a k)

-- the smaller amount left
abbrev pub amount : Two → (ℕ → ℕ) → (ℕ → ℕ) → ℕ
amount c a b = min (a c.left) (b c.right)

-- what is left on the left, when pair after pair has taken as many units as both have
abbrev pub left_of : List Two → (ℕ → ℕ) → (ℕ → ℕ) → ℕ → ℕ
left_of [] a b = a
left_of (c ∷ cs) a b = let u = amount c a b in left_of cs (taken c.left u a) (taken c.right u b)

-- and on the right
abbrev pub right_of : List Two → (ℕ → ℕ) → (ℕ → ℕ) → ℕ → ℕ
right_of [] a b = b
right_of (c ∷ cs) a b = let u = amount c a b in right_of cs (taken c.left u a) (taken c.right u b)

-- ---- contents after contents

-- for contents and a miss count, how many units lie at or above it
abbrev pub Heights : Type 0
Heights = ℕ → ℕ → ℕ

-- contents of one table with contents of the other that share exactly n blocks, both from the front
unfoldable pub sharing : ℕ → List ℕ → List ℕ → List Two
sharing n Cs Ds = flat_map (λ C. flat_map (λ D. cond (eqb (size (shared C D)) n) (record { left = C; right = D } ∷ []) []) Ds) Cs

-- those that share most come first: from n blocks down to none
unfoldable pub turns : ℕ → List ℕ → List ℕ → List Two
turns zero Cs Ds = sharing zero Cs Ds
turns (suc n) Cs Ds = sharing (suc n) Cs Ds ++ turns n Cs Ds

-- as many units as both contents have left
abbrev pub amount_of : Two → Heights → Heights → ℕ
amount_of c a b = min (a c.left 0) (b c.right 0)

-- x units of contents C are taken, from the top of its row
abbrev pub lowered : ℕ → ℕ → Heights → Heights
lowered C x a D m = cond (eqb D C) (a D m - x) (a D m)

-- what comes of the pairs to contents E at or above m misses: a pair gives the shared blocks, and the larger misses of the two
unfoldable pub joined_to : List Two → Heights → Heights → ℕ → ℕ → ℕ
joined_to [] a b E m = 0
joined_to (c ∷ cs) a b E m =
    let x = amount_of c a b in
    cond (eqb (shared c.left c.right) E) (min x (max (a c.left m) (b c.right m))) 0
    + joined_to cs (lowered c.left x a) (lowered c.right x b) E m
