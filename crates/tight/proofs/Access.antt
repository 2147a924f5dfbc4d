-- What an access does to cells. The states that follow one, when dead blocks have left and light contents were emptied, are where `goes_to` and `rest_to` say: so the cells of
-- the table after document 01's step, after what is dead has left and after the reduction are sums over the cells before, which is what the code adds up.
use mathlib.Core.Path.{◌≡◌, refl, ap, ap₂, ◌∙◌}
use mathlib.Core.Bool.{Bool, true, false, cond, not, ◌&&◌}
use mathlib.Core.List.{List, [], ◌∷◌, ◌++◌, map, flat_map}
use Prim.Native.Nat.{ℕ, zero, suc, ◌+◌, ◌-◌, ◌*◌, ◌/◌, ◌%◌, ◌≤◌, ◌<◌}
use native.Mathlib.Nat.{div-add-mod', zero-div, zero-mod, le_trans, le_of_eq}
use native.Mathlib.Omega.{arith}
use lib.Dec.{eqb, ltb, eqb-suc-suc}
use lib.ListN.{length}
use borrow.Author.Tests.{eqb-true, eq-eqb, ne_eqb, ltb-true, ltb-false}
use Rattle.basics.specs.Sums.{sum_over}
use Rattle.basics.proofs.Bools.{same_test}
use Rattle.basics.proofs.Sums.{sum_to, sum_eq}
use Rattle.rules.specs.declared.State.{State}
use Rattle.rules.specs.declared.Target.{Target}
use Rattle.rules.specs.Units.{whole}
use Rattle.rules.specs.AnyTable.{total as total_of, access as access_of}
use Rattle.rules.specs.Contents.{hits, with, without, shared, held, size}
use Rattle.rules.specs.Filling.{filled_at}
use Rattle.rules.specs.Table.{units_of, total}
use Rattle.rules.specs.Step.{at_risk, missed, miss, successors, access}
use Rattle.rules.specs.Shape.{Every, Aimed, Shaped}
use Rattle.rules.proofs.Contents.{size_zero}
use Rattle.rules.proofs.AnyTable.{successors_total}
use Rattle.rules.proofs.Run.{states_follow}
use Rattle.rules.proofs.Table.{total_add}
use Rattle.tight_rules.specs.Rows.{move, narrow, narrowed}
use Rattle.tight_rules.specs.Run.{stepped}
use Rattle.plan.specs.Plan.{relabelled}
use Rattle.tight.specs.Access.{risk, evicts, lost_to, miss_to, goes_to, rest_to, further, sends, arrives}
use Rattle.tight_rows.specs.Rows.{if}
use Rattle.tight_rows.specs.Grid.{Grid, state_of, table_of, rows_of}
use Rattle.tight_rows.proofs.Cells.{Test, units_where, is_cell, cell, where_append, where_add, where_moved, move_total}
use Rattle.tight_rows.proofs.Grids.{sum_grid, sum_one, sum_none}

-- contents that are meant, with m misses
abbrev pub landing : (ℕ → Bool) → ℕ → Test
landing t m C n F = t C && eqb n m

-- ---- parts

if_and : (a b : Bool) (u : ℕ) → if (a && b) u ≡ if b (if a u)
if_and true b u = refl
if_and false true u = refl
if_and false false u = refl

pub if_zero : (b : Bool) → if b 0 ≡ 0
if_zero true = refl
if_zero false = refl

pub if_plus : (b : Bool) (u v : ℕ) → if b u + if b v ≡ if b (u + v)
if_plus true u v = refl
if_plus false u v = refl

sum_if : (b : Bool) (f : ℕ → ℕ) (es : List ℕ) → sum_over (λ e. if b (f e)) es ≡ if b (sum_over f es)
sum_if true f es = refl
sum_if false f [] = refl
sum_if false f (e ∷ es) = ap (λ (n : ℕ). 0 + n) (sum_if false f es)

pub sum_zero : (f : ℕ → ℕ) → ((e : ℕ) → f e ≡ 0) → (es : List ℕ) → sum_over f es ≡ 0
sum_zero f h [] = refl
sum_zero f h (e ∷ es) = omega (arith, h e, sum_zero f h es)

none_held : held 0 ≡ []
unfolding size
none_held = empty (held 0) size_zero
  where
    empty : (es : List ℕ) → length es ≡ 0 → es ≡ []
    empty [] h = refl
    empty (e ∷ es) h = absurd (omega arith)

-- numbers that are the same just where two others are
pub same_number : (a b c d : ℕ) → (a ≡ b → c ≡ d) → (c ≡ d → a ≡ b) → eqb a b ≡ eqb c d
same_number a b c d f h = same_test (eqb a b) (eqb c d) (λ e. eq-eqb c d (f (eqb-true a b e))) (λ e. eq-eqb a b (h (eqb-true c d e)))

-- of a sum over j only one part counts
picked : (n i : ℕ) (f : ℕ → ℕ) → sum_to n (λ j. if (eqb j i) (f j)) ≡ if (ltb i n) (f i)
picked n i f = go (ltb i n) refl
  where
    go : (b : Bool) → ltb i n ≡ b → sum_to n (λ j. if (eqb j i) (f j)) ≡ if b (f i)
    go true e = sum_one n i (λ j. if (eqb j i) (f j)) (ltb-true i n e) (λ j l d. rw (ne_eqb j i d) refl) ∙ rw (eq-eqb i i refl) refl
    go false e = sum_none n (λ j. if (eqb j i) (f j)) (λ j l. rw (ne_eqb j i (λ s. absurd (omega (arith, ltb-false i n e)))) refl)

-- what comes to cell i of a row that stays, or that goes one cell further on
pub row_picked : (n : ℕ) (f h : ℕ → ℕ) (b : Bool) (i : ℕ) → sum_to n (λ j. cond b (if (eqb j i) (f j)) (if (eqb (suc j) i) (h j))) ≡ cond b (if (ltb i n) (f i)) (further n h i)
row_picked n f h true i = picked n i f
row_picked n f h false zero = sum_none n _ (λ j l. rw (ne_eqb (suc j) 0 (λ s. absurd (omega arith))) refl)
row_picked n f h false (suc i) = sum_eq n _ (λ j. if (eqb j i) (h j)) (λ j l. rw (eqb-suc-suc j i) refl) ∙ picked n i h

-- ---- the states that follow one

module _ (N : ℕ) (x : Target) (t : ℕ → Bool) (m : ℕ) (s : State) where
  abbrev C : ℕ
  C = s.mask

  abbrev u : ℕ
  u = units_of s

  abbrev here : Bool
  here = eqb (suc s.misses) m

  where_lost : (q : ℕ) (es : List ℕ) → units_where (landing t m) (map (λ e. missed N x s (without C e) q) es) ≡ if here (sum_over (λ e. if (t (with (without C e) x.place)) q) es)
  unfolding units_where
  where_lost q es = each es ∙ sum_if here (λ e. if (t (with (without C e) x.place)) q) es
    where
      each : (es : List ℕ) → units_where (landing t m) (map (λ e. missed N x s (without C e) q) es) ≡ sum_over (λ e. if here (if (t (with (without C e) x.place)) q)) es
      each [] = refl
      each (e ∷ es) = ap₂ ◌+◌ (if_and (t (with (without C e) x.place)) here q) (each es)

  -- a miss that can lose a block of E, or none
  where_miss : (E D : ℕ)
      → units_where (landing t m) (map (λ e. missed N x s (without C e) (u / N)) (held E) ++ missed N x s C ((N - size E) * (u / N)) ∷ missed N x s D (u % N) ∷ [])
      ≡ if here (lost_to x t C E (u / N) + (if (t (with C x.place)) ((N - size E) * (u / N)) + if (t (with D x.place)) (u % N)))
  unfolding units_where lost_to
  where_miss E D =
      where_append (landing t m) (map (λ e. missed N x s (without C e) (u / N)) (held E)) _
      ∙ omega (
        arith,
        where_lost (u / N) (held E),
        if_and (t (with C x.place)) here ((N - size E) * (u / N)),
        if_and (t (with D x.place)) here (u % N),
        if_plus here (sum_over (λ e. if (t (with (without C e) x.place)) (u / N)) (held E)) (if (t (with C x.place)) ((N - size E) * (u / N)) + if (t (with D x.place)) (u % N)),
        if_plus here (if (t (with C x.place)) ((N - size E) * (u / N))) (if (t (with D x.place)) (u % N)),
      )

  -- where none can be lost all units go together
  all_together : lost_to x t C 0 (u / N) + (if (t (with C x.place)) ((N - size 0) * (u / N)) + if (t (with C x.place)) (u % N)) ≡ if (t (with C x.place)) u
  unfolding lost_to
  all_together =
      rw (none_held, size_zero) (omega (arith, if_plus (t (with C x.place)) ((N - 0) * (u / N)) (u % N), ap (if (t (with C x.place))) whole_again))
    where
      whole_again : (N - 0) * (u / N) + u % N ≡ u
      whole_again = let e : N - 0 ≡ N = omega arith in rw e (omega (arith, div-add-mod' u N))

  lost_nothing : (E : ℕ) → lost_to x t C E 0 ≡ 0
  unfolding lost_to
  lost_nothing E = sum_zero (λ e. if (t (with (without C e) x.place)) 0) (λ e. if_zero (t (with (without C e) x.place))) (held E)

  abbrev lose : Bool
  lose = evicts N x s.filled

  pub miss_lands : units_where (landing t m) (miss N x s) ≡ if here (goes_to N x t lose C u + rest_to N x t lose C u)
  unfolding miss at_risk goes_to rest_to miss_to
  miss_lands = go (ltb (filled_at s.filled x.set) N) (eqb (risk x C) 0) refl
    where
      go : (b z : Bool) → eqb (risk x C) 0 ≡ z
          → units_where (landing t m) (map (λ e. missed N x s (without C e) (u / N)) (held (cond b 0 (risk x C)))
          ++ missed N x s C ((N - size (cond b 0 (risk x C))) * (u / N)) ∷ missed N x s (cond (eqb (cond b 0 (risk x C)) 0) C 0) (u % N) ∷ [])
          ≡ if here
          (cond z (if (t (with C x.place)) u)
          (lost_to x t C (risk x C) (if (not b) (u / N)) + if (t (with C x.place)) ((N - size (risk x C)) * if (not b) (u / N) + cond (not b) 0 u))
          + cond z 0 (if (not b && t (with 0 x.place)) (u % N)))
      go true true e = where_miss 0 C ∙ ap (if here) (all_together ∙ omega arith)
      go true false e = where_miss 0 C ∙ ap (if here) (all_together ∙ omega (arith, lost_nothing (risk x C), ap (if (t (with C x.place))) plain))
        where
          plain : (N - size (risk x C)) * 0 + u ≡ u
          plain = omega arith
      go false true e = rw e (rw (eqb-true (risk x C) 0 e) (where_miss 0 C ∙ ap (if here) (all_together ∙ omega arith)))
      go false false e = rw e (where_miss (risk x C) 0 ∙ ap (if here) (omega (arith, ap (if (t (with C x.place))) plain)))
        where
          plain : (N - size (risk x C)) * (u / N) + 0 ≡ (N - size (risk x C)) * (u / N)
          plain = omega arith

  -- a hit stays where it is
  pub follow_lands : units_where (landing t m) (successors N x s)
      ≡ cond (hits x C) (if (eqb s.misses m) (if (t C) u)) (if here (goes_to N x t lose C u + rest_to N x t lose C u))
  unfolding successors units_where
  follow_lands = go (hits x C)
    where
      go : (b : Bool) → units_where (landing t m) (cond b (s ∷ []) (miss N x s)) ≡ cond b (if (eqb s.misses m) (if (t C) u)) (if here (goes_to N x t lose C u + rest_to N x t lose C u))
      go true = omega (arith, if_and (t C) (eqb s.misses m) u)
      go false = miss_lands

  -- a state of 0 units sends none on
  pub none_lands : u ≡ 0 → units_where (landing t m) (successors N x s) ≡ 0
  unfolding goes_to rest_to miss_to
  none_lands e = follow_lands ∙ rw (e, zero-div N, zero-mod N) (go (hits x C) (eqb (risk x C) 0) lose)
    where
      go : (a z b : Bool)
          → cond a (if (eqb s.misses m) (if (t C) 0))
          (if here
          (cond z (if (t (with C x.place)) 0) (lost_to x t C (risk x C) (if b 0) + if (t (with C x.place)) ((N - size (risk x C)) * if b 0 + cond b 0 0))
          + cond z 0 (if (b && t (with 0 x.place)) 0))) ≡ 0
      go true z b = rw (if_zero (t C)) (if_zero (eqb s.misses m))
      go false true b = rw (if_zero (t (with C x.place))) (if_zero here)
      go false false true = rw (lost_nothing (risk x C), plain, if_zero (t (with C x.place)), if_zero (t (with 0 x.place))) (if_zero here)
        where
          plain : (N - size (risk x C)) * 0 + 0 ≡ 0
          plain = omega arith
      go false false false = rw (lost_nothing (risk x C), plain, if_zero (t (with C x.place))) (if_zero here)
        where
          plain : (N - size (risk x C)) * 0 + 0 ≡ 0
          plain = omega arith

-- ---- the table after the access

module _ (N Z : ℕ) (ts : List ℕ) (M : ℕ) (some : 0 < N) (few : N ≤ 16) (x : Target) (aim : Aimed Z ts x) (T : List State) (shaped : Every (Shaped N Z ts M) T)
    (full : total T ≤ whole) where
  room_after_lem : total (flat_map (successors N x) T) + total [] ≤ whole
  unfolding total_of
  room_after_lem = omega (arith, successors_total (states_follow N Z ts some few) M x aim T shaped)

  pub after_full : total (access N x T) ≤ whole
  unfolding access_of total_of
  after_full = omega (arith, total_add (flat_map (successors N x) T) [] room_after_lem, room_after_lem)

  pub access_lands : (p : Test) → units_where p (access N x T) ≡ sum_over (λ s. units_where p (successors N x s)) T
  unfolding access_of units_where flat_map
  access_lands p = where_add p (flat_map (successors N x) T) [] room_after_lem ∙ omega (arith, each T)
    where
      each : (T : List State) → units_where p (flat_map (successors N x) T) ≡ sum_over (λ s. units_where p (successors N x s)) T
      each [] = refl
      each (s ∷ T) = where_append p (successors N x s) (flat_map (successors N x) T) ∙ ap (units_where p (successors N x s) +◌) (each T)

  -- when the blocks outside L have left and the contents were relabelled: by any g, of which the reduction's is one
  pub cells_after : (a L : ℕ) (g : ℕ → ℕ) (D m : ℕ)
      → cell D m (move (relabelled g) (narrowed L (stepped N x (record { table = T; aside = a }))).table)
      ≡ sum_over (λ s. units_where (landing (λ C. eqb (g (shared C L)) D) m) (successors N x s)) T
  unfolding narrowed stepped
  cells_after a L g D m =
      where_moved (relabelled g) (λ s. refl) (is_cell D m) (landing (λ C. eqb (g C) D) m) (λ s. refl) (move (narrow L) (access N x T)) (le_trans (le_of_eq (move_total (narrow L) (λ s. refl) (access N x T) after_full)) after_full)
      ∙ where_moved (narrow L) (λ s. refl) (landing (λ C. eqb (g C) D) m) (landing (λ C. eqb (g (shared C L)) D) m) (λ s. refl) (access N x T) after_full
      ∙ access_lands (landing (λ C. eqb (g (shared C L)) D) m)

-- ---- and where a grid stands for the table before

module _ (N : ℕ) (x : Target) (t : ℕ → Bool) (g : Grid) where
  -- what one cell sends on to cell i
  cell_lands : (i k j : ℕ)
      → units_where (landing t (g.base + i)) (successors N x (state_of g k j))
      ≡ cond (hits x (g.mask k)) (if (eqb j i) (if (t (g.mask k)) (g.cell k j))) (if (eqb (suc j) i) (sends N x t g k j))
  cell_lands i k j =
      follow_lands N x t (g.base + i) (state_of g k j)
      ∙ rw (same_number (g.base + j) (g.base + i) j i (λ e. omega arith) (λ e. omega arith), same_number (suc (g.base + j)) (g.base + i) (suc j) i (λ e. omega arith) (λ e. omega arith)) refl

  -- what a row sends on to cell i
  row_lands : (i k : ℕ) → sum_to g.width (λ j. units_where (landing t (g.base + i)) (successors N x (state_of g k j))) ≡ arrives N x t g k i
  row_lands i k =
      sum_eq g.width _ _ (λ j l. cell_lands i k j)
      ∙ row_picked g.width (λ j. if (t (g.mask k)) (g.cell k j)) (sends N x t g k) (hits x (g.mask k)) i

-- the cells after an access, as sums over the grid's rows
module _ (N Z : ℕ) (ts : List ℕ) (M : ℕ) (some : 0 < N) (few : N ≤ 16) (x : Target) (aim : Aimed Z ts x) (g : Grid) (shaped : Every (Shaped N Z ts M) (table_of g))
    (full : total (table_of g) ≤ whole) where
  pub grid_after : (a L : ℕ) (h : ℕ → ℕ) (D i : ℕ)
      → cell D (g.base + i) (move (relabelled h) (narrowed L (stepped N x (rows_of a g).kept)).table)
      ≡ sum_to g.count (λ k. arrives N x (λ C. eqb (h (shared C L)) D) g k i)
  grid_after a L h D i =
      cells_after N Z ts M some few x aim (table_of g) shaped full a L h D (g.base + i)
      ∙ sum_grid g (λ s. units_where (landing t (g.base + i)) (successors N x s)) (λ k j e. none_lands N x t (g.base + i) (state_of g k j) e)
      ∙ sum_eq g.count _ _ (λ k l. row_lands N x t g i k)
    where
      t : ℕ → Bool
      t C = eqb (h (shared C L)) D
