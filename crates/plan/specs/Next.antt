-- Which mask a level comes to next: masks with no units, or with too many, are passed over.
use Rattle.std.specs.Prelude.{Bool, cond, ◌&&◌, List, ℕ, zero, suc, ◌+◌, eqb, ltb}
use Rattle.plan.specs.Plan.{units_at}

-- whether there are units, fewer than b
abbrev pub few : ℕ → ℕ → Bool
few b u = ltb 0 u && ltb u b

-- whether none of four has units
unfoldable pub none_of_four : ℕ → ℕ → ℕ → ℕ → Bool
none_of_four a b c d = eqb a 0 && eqb b 0 && eqb c 0 && eqb d 0

-- the highest of the four masks above k that is chosen, or what is given for none
unfoldable pub highest : ℕ → Bool → Bool → Bool → Bool → ℕ → ℕ
highest k a b c d none = cond a (k + 4) (cond b (k + 3) (cond c (k + 2) (cond d (k + 1) none)))

-- the highest of the four masks above k with so few units; 0 where there is none
abbrev pub few_of_four : ℕ → List ℕ → ℕ → ℕ
few_of_four b ws k = highest k (few b (units_at ws (k + 4))) (few b (units_at ws (k + 3))) (few b (units_at ws (k + 2))) (few b (units_at ws (k + 1))) 0

-- the highest of the masks from m down to 1 with so few units; 0 where there is none
unfoldable pub next_few : ℕ → List ℕ → ℕ → ℕ
next_few b ws zero = 0
next_few b ws (suc m) = cond (few b (units_at ws (suc m))) (suc m) (next_few b ws m)
