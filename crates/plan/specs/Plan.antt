-- The plan of a reduction: which contents are emptied and where their units go, before any row moves. It needs no table, only the units of each contents: n words, the
-- units by mask, and n words behind them, where the units of each mask go, which is the mask itself where it is not emptied. Words that follow stay as they are.
-- What it is a plan for is `reduced` (crate tight_rules): proofs/Reduced.antt.
use Rattle.std.specs.Prelude.{◌≢◌, Bool, true, false, cond, ◌&&◌, not, List, ℕ, zero, suc, ◌+◌, ◌-◌, ◌^◌, ◌≤◌, ◌<◌, eqb, ltb, leb, length, get_or, set}
use Rattle.rules.specs.declared.State.{State}
use Rattle.rules.specs.Contents.{places, Place}
use Rattle.rules.specs.Units.{more}
use Rattle.rules.specs.Table.{state, units_of}
use Rattle.tight_rules.specs.Reduction.{lowered}
use Rattle.plan.specs.declared.Tally.{Tally}

-- s with the contents that g makes of its contents
abbrev pub relabelled : (ℕ → ℕ) → State → State
relabelled g s = state (g s.mask) s.misses s.filled (units_of s)

-- the words, how many contents have units, and what is set aside
pub record Plan : Type 0 where
  pub words : List ℕ
  pub present : ℕ
  pub aside : ℕ

-- as code has it
abbrev pub plan_of : List ℕ → Tally → Plan
plan_of ws t = record { words = ws; present = t.present; aside = t.aside.0 }

-- the units of contents C
abbrev pub units_at : List ℕ → ℕ → ℕ
units_at ws C = get_or ws C 0

-- from C on, f steps at most, as long as it goes to a smaller mask
unfoldable pub onward : ℕ → ℕ → List ℕ → ℕ → ℕ
onward zero n ws C = C
onward (suc f) n ws C = let D = get_or ws (n + C) C in cond (ltb D C) (onward f n ws D) C

-- where the units of C go in the end: contents have at most 16 places to lose
abbrev pub end_of : ℕ → List ℕ → ℕ → ℕ
end_of n ws C = onward places n ws C

-- ---- the start

-- the masks below m go to themselves
unfoldable pub itself : ℕ → ℕ → List ℕ → List ℕ
itself zero n ws = ws
itself (suc m) n ws = itself m n (set ws (n + m) m)

-- 1 if there are units, otherwise 0
abbrev pub some : ℕ → ℕ
some u = cond (ltb 0 u) 1 0

-- how many of the contents below m have units
unfoldable pub present_in : ℕ → List ℕ → ℕ
present_in zero ws = 0
present_in (suc m) ws = present_in m ws + some (units_at ws m)

-- before anything is emptied
abbrev pub start : ℕ → List ℕ → Plan
start n ws = record { words = ws; present = present_in n ws; aside = 0 }

-- ---- levels

-- whether C has at least 1 unit and fewer than b, and a place to lose
abbrev pub light : ℕ → Place → ℕ → List ℕ → Bool
light b y C ws = ltb 0 (units_at ws C) && ltb (units_at ws C) b && not (eqb (lowered places y C) C)

-- the units of C go where they go in the end, and are set aside; there is one contents fewer with units, if others had some there
unfoldable pub poured : ℕ → ℕ → Plan → Plan
poured n C p =
    let ws = p.words in
    let D = end_of n ws C in
    record {
      words = set (set ws D (more (units_at ws D) (units_at ws C))) C 0;
      present = p.present - some (units_at ws D);
      aside = more p.aside (units_at ws C);
    }

-- C is emptied: it goes to C without its highest place, and its units where that is or goes
unfoldable pub emptied : ℕ → Place → ℕ → Plan → Plan
emptied n y C p = poured n C (record { words = set p.words (n + C) (lowered places y C); present = p.present; aside = p.aside })

-- the contents from m down to 1, each emptied where it has fewer than b units and more than K contents remain
unfoldable pub level : ℕ → ℕ → ℕ → Place → ℕ → Plan → Plan
level K b n y zero p = p
level K b n y (suc m) p = level K b n y m (cond (ltb K p.present && light b y (suc m) p.words) (emptied n y (suc m) p) p)

-- levels from j on, f of them at most, until at most K contents remain
abbrev pub levels : ℕ → ℕ → Place → ℕ → Bool → ℕ → Plan → Plan
levels K n y zero more j p = p
levels K n y (suc f) false j p = p
levels K n y (suc f) true j p = let q = level K (2 ^ j) n y (n - 1) p in levels K n y f (ltb K q.present) (suc j) q

-- all of them: at level 49 all contents are light
abbrev pub all_levels : ℕ → ℕ → Place → Plan → Plan
all_levels K n y p = levels K n y 49 (ltb K p.present) 1 p

-- the plan of a reduction to at most K of n contents; where the words do not have room for it, they stay as they are
unfoldable pub planned : ℕ → ℕ → Place → List ℕ → Plan
planned K n y ws = cond (leb (n + n) (length ws)) (all_levels K n y (start n (itself n n ws))) (record { words = ws; present = 0; aside = 0 })

-- ---- which levels there is nothing to do at

-- of the contents below n, none that have units have fewer than b
abbrev pub NoneBelow : ℕ → ℕ → List ℕ → Type 0
NoneBelow b n ws = (C : ℕ) → C < n → units_at ws C ≢ 0 → b ≤ units_at ws C

-- the fewer of u and v, where u is not 0
abbrev pub fewest : ℕ → ℕ → ℕ
fewest u v = cond (ltb 0 u && ltb u v) u v

-- the fewest units of any of the contents below m that have some; 2^49 where there are none
unfoldable pub lightest : ℕ → List ℕ → ℕ
lightest zero ws = 562949953421312
lightest (suc m) ws = fewest (units_at ws m) (lightest m ws)
