-- Reduction to at most K contents: light contents lose their highest place. Whole rows move; miss counts stay as they are.
use Rattle.std.specs.Prelude.{Bool, true, false, cond, ◌&&◌, not, List, [], ◌∷◌, ℕ, zero, suc, ◌-◌, ◌^◌, eqb, ltb, length, None, Some}
use Rattle.rules.specs.Contents.{places, among, bit, without, Place}
use Rattle.rules.specs.declared.State.{State}
use Rattle.rules.specs.Table.{state, units_of, Work}
use Rattle.tight_rules.specs.Rows.{contents, units_in, moved}

-- whether y is place i
abbrev pub is_at : Place → ℕ → Bool
is_at (Some j) i = eqb j i
is_at None i = false

-- C without the block at its highest place below k; the one at y does not count, and stays
unfoldable pub lowered : ℕ → Place → ℕ → ℕ
lowered zero y C = C
lowered (suc k) y C = cond (bit C k && not (is_at y k)) (without C k) (lowered k y C)

-- where the units of C go: C itself, or where it is emptied without its highest place, and so on; n places at most
unfoldable pub lands : ℕ → Place → List ℕ → ℕ → ℕ
lands zero y gone C = C
lands (suc n) y gone C = cond (among gone C) (lands n y gone (lowered places y C)) C

-- s with the contents D, where it has C
abbrev pub relabel : ℕ → ℕ → State → State
relabel C D s = state (cond (eqb s.mask C) D s.mask) s.misses s.filled (units_of s)

-- the table, and the contents that are emptied since the access: they stay so until the next
pub record Reducing : Type 0 where
  pub work : Work
  pub gone : List ℕ

-- C is emptied: its units go where C without its highest place is or goes, and are set aside
unfoldable pub emptied : Place → ℕ → Reducing → Reducing
emptied y C r = record { work = moved (relabel C (lands places y (C ∷ r.gone) C)) r.work; gone = C ∷ r.gone }

-- whether more than K contents remain
abbrev pub crowded : ℕ → Reducing → Bool
crowded K r = ltb K (length (contents r.work.table))

-- whether C has at least 1 unit and fewer than 2^j, and a place to lose
abbrev pub light : ℕ → Place → ℕ → List State → Bool
light j y C T = ltb 0 (units_in C T) && ltb (units_in C T) (2 ^ j) && not (eqb (lowered places y C) C)

-- level j: the contents from n down to 1, each emptied where it is light and more than K remain
unfoldable pub level : ℕ → ℕ → Place → ℕ → Reducing → Reducing
level K j y zero r = r
level K j y (suc n) r = level K j y n (cond (crowded K r && light j y (suc n) r.work.table) (emptied y (suc n) r) r)

-- levels from j on, n of them at most, over masks of k bits, until at most K contents remain
abbrev pub levels : ℕ → ℕ → Place → ℕ → Bool → ℕ → Reducing → Reducing
levels K k y zero more j r = r
levels K k y (suc n) false j r = r
levels K k y (suc n) true j r = let s = level K j y (2 ^ k - 1) r in levels K k y n (crowded K s) (suc j) s

-- a table of contents of k places, reduced: the block at y, which was just accessed, is never taken away. At level 49 all contents are light
unfoldable pub reduced : ℕ → ℕ → Place → Work → Work
reduced K k y w = let r : Reducing = record { work = w; gone = [] } in (levels K k y 49 (crowded K r) 1 r).work
