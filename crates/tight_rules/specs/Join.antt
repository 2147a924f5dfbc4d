-- Joining two tables: contents that share most blocks are paired first, and of each pair's rows the highest miss counts first.
use Rattle.std.specs.Prelude.{cond, ℕ, zero, suc, ◌+◌, ◌-◌, min, eqb, leb, set, None}
use mathlib.Core.List.{List, [], ◌∷◌, ◌++◌, map, flat_map}
use Rattle.basics.specs.Sums.{sum_over}
use Rattle.rules.specs.Contents.{places, shared, size}
use Rattle.rules.specs.declared.State.{State}
use Rattle.rules.specs.declared.Filled.{Filled}
use Rattle.rules.specs.Filling.{fullest}
use Rattle.rules.specs.Table.{units_of, total, state_at, no_state, Work}
use Rattle.rules.specs.AnyTable.{Match}
use Rattle.rules.specs.Join.{less, paired}
use Rattle.tight_rules.specs.Rows.{Rows, contents, move, even_by}
use Rattle.tight_rules.specs.Reduction.{reduced}

-- ---- in which order

-- a place of one table and a place of the other
pub record Two : Type 0 where
  pub left : ℕ
  pub right : ℕ

-- the places of contents C in a table, from place i on: the highest miss count first
abbrev pub row_of : ℕ → ℕ → List State → List ℕ
row_of C i [] = []
row_of C i (s ∷ T) = row_of C (suc i) T ++ cond (eqb s.mask C) (i ∷ []) []

-- those of contents C of S with those of contents D of T
abbrev pub rows_of : List State → List State → ℕ → ℕ → List Two
rows_of S T C D = flat_map (λ i. map (λ j. record { left = i; right = j }) (row_of D 0 T)) (row_of C 0 S)

-- all that share exactly n blocks, the contents of both from the front
abbrev pub sharing : ℕ → List State → List State → List Two
sharing n S T = flat_map (λ C. flat_map (λ D. cond (eqb (size (shared C D)) n) (rows_of S T C D) []) (contents T)) (contents S)

-- those that share most come first: from n blocks down to none
abbrev pub in_turn : ℕ → List State → List State → List Two
in_turn zero S T = sharing zero S T
in_turn (suc n) S T = sharing (suc n) S T ++ in_turn n S T

-- ---- how much

-- a table of which u units of the state at place i are used
unfoldable pub spend : ℕ → ℕ → List State → List State
spend i u T = set T i (less (state_at T i) u)

-- in this order, as many units as the smaller remaining amount
unfoldable pub pair_up : List Two → List State → List State → List Match
pair_up [] S T = []
pair_up (c ∷ cs) S T =
    let u = min (units_of (state_at S c.left)) (units_of (state_at T c.right)) in
    record { left = c.left; right = c.right; units = u } ∷ pair_up cs (spend c.left u S) (spend c.right u T)

-- the pairs of two tables
unfoldable pub pairing : List State → List State → List Match
pairing S T = pair_up (in_turn places S T) S T

-- ---- the filled numbers: those of a miss count again, so that a row has one cell for each

-- the larger number of each set over the states with at most m misses
unfoldable pub filled_to : ℕ → List State → Filled
filled_to m [] = no_state.filled
filled_to m (s ∷ T) = cond (leb s.misses m) (fullest s.filled (filled_to m T)) (filled_to m T)

-- and over those of two tables: no pair that has m misses has more
abbrev pub filled_of : List State → List State → ℕ → Filled
filled_of S T m = fullest (filled_to m S) (filled_to m T)

-- all states with at least these numbers; nothing is set aside
unfoldable pub filled_up : (ℕ → Filled) → Work → Work
filled_up G w = record { table = move (even_by G) w.table; aside = w.aside }

-- ---- the join

-- a pair gives the shared blocks, the larger misses and the larger filled numbers. What is lost on either side is lost: the lost units of one, and those of its units that
-- are paired with lost units of the other. Then the contents of k places are reduced to K; a is set aside so far, and only the reduction sets more aside
unfoldable pub join : ℕ → ℕ → ℕ → Rows → Rows → Rows
join K k a q r =
    let S = q.kept.table in
    let T = r.kept.table in
    let P = pairing S T in
    record {
      kept = filled_up (filled_of S T) (reduced K k None (record { table = paired P S T; aside = a }));
      lost = q.lost + (total S - sum_over (λ p. p.units) P);
    }
