-- What an access sends on, added up in the code's order: over each row first, with what is left over by itself, one sum for each cell. The units that go to a mask, what comes to
-- a cell, what is set aside, and the units of each column that hit and that missed with their filled numbers are those of the table after document 01's step.
use mathlib.Core.Path.{◌≡◌, refl, sym, ap, ap₂, ◌∙◌}
use mathlib.Core.Bool.{Bool, true, false, cond, not, ◌&&◌, ◌||◌}
use mathlib.Core.List.{List, [], ◌∷◌, ◌++◌, map}
use Prim.Native.Nat.{ℕ, zero, suc, ◌+◌, ◌-◌, ◌*◌, ◌/◌, ◌%◌, ◌≤◌, ◌<◌}
use native.Mathlib.Nat.{zero-mod}
use native.Mathlib.Omega.{arith}
use lib.Dec.{eqb, ltb}
use borrow.Author.Tests.{eq-eqb}
use Rattle.basics.specs.Sums.{sum_over}
use Rattle.basics.proofs.Sums.{sum_to, sum_eq, sum_add}
use Rattle.rules.specs.declared.Filled.{Filled}
use Rattle.rules.specs.declared.State.{State}
use Rattle.rules.specs.declared.Target.{Target}
use Rattle.rules.specs.Units.{whole}
use Rattle.rules.specs.Contents.{places, bit, hits, with, without, held, size}
use Rattle.rules.specs.Filling.{filled_at, fill_one}
use Rattle.rules.specs.Table.{units_of, total}
use Rattle.rules.specs.Step.{at_risk, missed, rest_of, miss, successors, left_over, access, access_aside}
use Rattle.rules.specs.Shape.{Every, Aimed, Shaped}
use Rattle.rules.proofs.Contents.{every_held}
use Rattle.rules.proofs.Lists.{every_append, every_map, every_weaker}
use Rattle.rules.proofs.Run.{states_follow}
use Rattle.tight_rules.specs.Rows.{units_in, move, narrow, narrowed}
use Rattle.tight_rules.specs.Run.{stepped}
use Rattle.tight.specs.Access.{risk, evicts, lost_to, miss_to, row_goes, goes_to, rest_to, further, sends, arrives}
use Rattle.tight_rows.specs.Rows.{if, comes_to}
use Rattle.tight.specs.Splitting.{can_lose}
use Rattle.tight_rows.specs.Grid.{Grid, state_of, table_of, rows_of}
use Rattle.tight.specs.Accessed.{loses, part_of, stay_of, left_in_all, hit_in, miss_in, sum_for, brings, cell_for}
use Rattle.tight_rows.proofs.Cells.{units_where, where_alike, where_moved, total_where, units_in_where}
use Rattle.tight_ends.proofs.Columns.{where_none}
use Rattle.tight_rows.proofs.Grids.{sum_none, sum_grid}
use Rattle.tight.proofs.Access.{landing, if_plus, if_zero, row_picked, same_number, follow_lands, none_lands, after_full, access_lands}

-- ---- sums

-- rows first, or columns first
pub sum_turned : (m n : ℕ) (f : ℕ → ℕ → ℕ) → sum_to m (λ k. sum_to n (λ j. f k j)) ≡ sum_to n (λ j. sum_to m (λ k. f k j))
sum_turned zero n f = sym (sum_none n (λ j. 0) (λ j l. refl))
sum_turned (suc m) n f = ap (◌+ sum_to n (f m)) (sum_turned m n f) ∙ sym (sum_add n (λ j. sum_to m (λ k. f k j)) (f m))

sum_meant : (b : Bool) (n : ℕ) (f : ℕ → ℕ) → sum_to n (λ j. if b (f j)) ≡ if b (sum_to n f)
sum_meant true n f = refl
sum_meant false n f = sum_none n (λ j. 0) (λ j l. refl)

sum_further : (m n : ℕ) (f : ℕ → ℕ → ℕ) (i : ℕ) → sum_to m (λ k. further n (f k) i) ≡ further n (λ j. sum_to m (λ k. f k j)) i
sum_further m n f zero = sum_none m (λ k. 0) (λ k l. refl)
sum_further m n f (suc j) = sum_meant (ltb j n) m (λ k. f k j)

further_same : (n : ℕ) (f h : ℕ → ℕ) (i : ℕ) → ((j : ℕ) → f j ≡ h j) → further n f i ≡ further n h i
further_same n f h zero e = refl
further_same n f h (suc j) e = ap (if (ltb j n)) (e j)

-- ---- a row that misses

module _ (N : ℕ) (x : Target) (t : ℕ → Bool) (C : ℕ) where
  lost_add : (E u v : ℕ) → lost_to x t C E (u + v) ≡ lost_to x t C E u + lost_to x t C E v
  unfolding lost_to
  lost_add E u v = each (held E)
    where
      to : ℕ → Bool
      to e = t (with (without C e) x.place)

      each : (es : List ℕ) → sum_over (λ e. if (to e) (u + v)) es ≡ sum_over (λ e. if (to e) u) es + sum_over (λ e. if (to e) v) es
      each [] = refl
      each (e ∷ es) = omega (arith, if_plus (to e) u v, each es)

  miss_add : (q r u v : ℕ) → miss_to N x t C (q + r) (u + v) ≡ miss_to N x t C q u + miss_to N x t C r v
  unfolding miss_to
  miss_add q r u v = omega (arith, lost_add (risk x C) q r, kept (N - size (risk x C)) (t (with C x.place)))
    where
      kept : (n : ℕ) (b : Bool) → if b (n * (q + r) + (u + v)) ≡ if b (n * q + u) + if b (n * r + v)
      kept n true = omega arith
      kept n false = refl

  miss_sum : (n : ℕ) (q u : ℕ → ℕ) → sum_to n (λ j. miss_to N x t C (q j) (u j)) ≡ miss_to N x t C (sum_to n q) (sum_to n u)
  miss_sum zero q u = let z : miss_to N x t C 0 0 ≡ miss_to N x t C 0 0 + miss_to N x t C 0 0 = miss_add 0 0 0 0 in omega arith
  miss_sum (suc n) q u = ap (◌+ miss_to N x t C (q n) (u n)) (miss_sum n q u) ∙ sym (miss_add (sum_to n q) (q n) (sum_to n u) (u n))

-- ---- a grid

-- what is left over of cell j of contents k, if they can lose a block
abbrev left_of : ℕ → Target → Grid → ℕ → ℕ → ℕ
left_of N x g k j = if (can_lose x (g.mask k)) (if (loses N x g j) (g.cell k j % N))

module _ (N : ℕ) (x : Target) (t : ℕ → Bool) (g : Grid) where
  -- whether what is left over is meant
  abbrev alone : Bool
  alone = t (with 0 x.place)

  -- at a hit all units, at a miss what is sent on; or at a miss what is left over by itself
  apart : (k j u v : ℕ) (b : Bool)
      → cond (hits x (g.mask k)) u (if b (v + rest_to N x t (loses N x g j) (g.mask k) (g.cell k j))) ≡ cond (hits x (g.mask k)) u (if b v) + if b (if alone (left_of N x g k j))
  unfolding rest_to
  apart k j u v b = go (hits x (g.mask k)) (eqb (risk x (g.mask k)) 0) (loses N x g j) alone b
    where
      R : ℕ
      R = g.cell k j % N

      go : (h z l a b : Bool) → cond h u (if b (v + cond z 0 (if (l && a) R))) ≡ cond h u (if b v) + if b (if a (if (cond h false (not z)) (if l R)))
      go true z l true true = omega arith
      go true z l true false = omega arith
      go true z l false true = omega arith
      go true z l false false = omega arith
      go false true l true true = omega arith
      go false true l false true = omega arith
      go false false true a true = refl
      go false false false true true = omega arith
      go false false false false true = omega arith
      go false z l a false = omega arith

  -- what contents k send on from cell j, but for what is left over
  abbrev own : ℕ → ℕ → ℕ
  own k j = cond (hits x (g.mask k)) (if (t (g.mask k)) (g.cell k j)) (goes_to N x t (loses N x g j) (g.mask k) (g.cell k j))

  own_row : (k : ℕ) → g.units k ≡ sum_to g.width (g.cell k) → sum_to g.width (own k) ≡ row_goes N x t (g.mask k) (g.units k) (part_of N x g k) (stay_of N x g k)
  unfolding row_goes goes_to
  own_row k summed = go (hits x C) (eqb (risk x C) 0)
    where
      C : ℕ
      C = g.mask k

      all : (b : Bool) → sum_to g.width (λ j. if b (g.cell k j)) ≡ if b (g.units k)
      all b = sum_meant b g.width (g.cell k) ∙ ap (if b) (sym summed)

      part : ℕ → ℕ
      part j = if (loses N x g j) (g.cell k j / N)

      go : (h z : Bool)
          → sum_to g.width (λ j. cond h (if (t C) (g.cell k j)) (cond z (if (t (with C x.place)) (g.cell k j)) (miss_to N x t C (part j) (cond (loses N x g j) 0 (g.cell k j)))))
          ≡ cond h (if (t C) (g.units k)) (cond z (if (t (with C x.place)) (g.units k)) (miss_to N x t C (part_of N x g k) (stay_of N x g k)))
      go true z = all (t C)
      go false true = all (t (with C x.place))
      go false false =
          miss_sum N x t C g.width part (λ j. cond (loses N x g j) 0 (g.cell k j))
          ∙ ap (miss_to N x t C (part_of N x g k)) (sum_eq g.width _ _ (λ j l. other (loses N x g j) (g.cell k j)))
        where
          other : (b : Bool) (u : ℕ) → cond b 0 u ≡ if (not b) u
          other true u = refl
          other false u = refl

  -- over all cells
  pub all_sent : ((k : ℕ) → k < g.count → g.units k ≡ sum_to g.width (g.cell k))
      → sum_to g.count (λ k. sum_to g.width (λ j. cond (hits x (g.mask k)) (if (t (g.mask k)) (g.cell k j)) (sends N x t g k j))) ≡ sum_for N x g t
  all_sent summed =
      sum_eq g.count _ _ (λ k l. sum_eq g.width _ _ (λ j m. apart k j _ _ true) ∙ sum_add g.width (own k) (λ j. if alone (left_of N x g k j))
      ∙ ap₂ ◌+◌ (own_row k (summed k l)) (sum_meant alone g.width (left_of N x g k)))
      ∙ sum_add g.count _ _
      ∙ ap (sum_to g.count (λ k. row_goes N x t (g.mask k) (g.units k) (part_of N x g k) (stay_of N x g k)) +◌)
      (sum_meant alone g.count (λ k. sum_to g.width (left_of N x g k)) ∙ ap (if alone) (sum_turned g.count g.width (left_of N x g)))

  -- to one cell
  pub cell_sent : (i : ℕ) → sum_to g.count (λ k. arrives N x t g k i) ≡ cell_for N x g t i
  cell_sent i =
      sum_eq g.count _ _ (λ k l. two k i) ∙ sum_add g.count (λ k. brings N x g t k i) (λ k. further g.width (λ j. if alone (left_of N x g k j)) i)
      ∙ ap (sum_to g.count (λ k. brings N x g t k i) +◌)
      (sum_further g.count g.width (λ k j. if alone (left_of N x g k j)) i ∙ further_same g.width _ _ i (λ j. sum_meant alone g.count (λ k. left_of N x g k j)))
    where
      two : (k i : ℕ) → arrives N x t g k i ≡ brings N x g t k i + further g.width (λ j. if alone (left_of N x g k j)) i
      two k zero = omega arith
      two k (suc j) = apart k j _ _ (ltb j g.width)

-- what is set aside
pub left_sent : (N : ℕ) (x : Target) (g : Grid) → access_aside N x (table_of g) ≡ left_in_all N x g
unfolding left_over at_risk
left_sent N x g =
    sum_grid g (left_over N x) (λ k j e. none k j e) ∙ sum_eq g.count _ _ (λ k l. sum_eq g.width _ _ (λ j m. one k j)) ∙ sum_turned g.count g.width (left_of N x g)
  where
    none : (k j : ℕ) → g.cell k j ≡ 0 → left_over N x (state_of g k j) ≡ 0
    none k j e = rw (e, zero-mod N) (go (hits x (g.mask k) || eqb (at_risk N x (g.filled j) (g.mask k)) 0))
      where
        go : (b : Bool) → ◌≡◌ {A = ℕ} (cond b 0 0) 0
        go true = refl
        go false = refl

    one : (k j : ℕ) → left_over N x (state_of g k j) ≡ left_of N x g k j
    one k j = go (hits x (g.mask k)) (ltb (filled_at (g.filled j) x.set) N) (eqb (risk x (g.mask k)) 0) refl
      where
        R : ℕ
        R = g.cell k j % N

        go : (h b z : Bool) → eqb (risk x (g.mask k)) 0 ≡ z → cond (h || eqb (cond b 0 (risk x (g.mask k))) 0) 0 R ≡ if (cond h false (not z)) (if (not b) R)
        go true b z e = refl
        go false true true e = refl
        go false true false e = refl
        go false false true e = rw e refl
        go false false false e = rw e refl

-- ---- the states that follow one, whatever they hold

module _ (N : ℕ) (x : Target) (s : State) where
  -- their misses
  abbrev pub misses_after : ℕ
  misses_after = cond (hits x s.mask) s.misses (suc s.misses)

  -- and their filled numbers
  abbrev pub filled_after : Filled
  filled_after = cond (hits x s.mask) s.filled (fill_one N x.set s.filled)

  pub follow_each : Every (λ u. (u.misses ≡ misses_after) × (u.filled ≡ filled_after)) (successors N x s)
  unfolding successors miss
  follow_each = go (hits x C)
    where
      C : ℕ
      C = s.mask

      E : ℕ
      E = at_risk N x s.filled C

      go : (b : Bool)
          → Every (λ u. (u.misses ≡ cond b s.misses (suc s.misses)) × (u.filled ≡ cond b s.filled (fill_one N x.set s.filled)))
          (cond b (s ∷ []) (map (λ e. missed N x s (without C e) (units_of s / N)) (held E) ++ missed N x s C ((N - size E) * (units_of s / N)) ∷ missed N x s (rest_of C E) (units_of s % N) ∷ []))
      go true = ((refl, refl), tt)
      go false =
          every_append (λ u. (u.misses ≡ suc s.misses) × (u.filled ≡ fill_one N x.set s.filled)) (map (λ e. missed N x s (without C e) (units_of s / N)) (held E)) _
          (every_map (λ e. (e < places) × (bit E e ≡ true)) (λ u. (u.misses ≡ suc s.misses) × (u.filled ≡ fill_one N x.set s.filled))
          (λ e. missed N x s (without C e) (units_of s / N)) (λ e p. (refl, refl)) (held E) (every_held E)) ((refl, refl), ((refl, refl), tt))

  -- those at masks that are meant
  any_misses : (t : ℕ → Bool) → units_where (λ C m F. t C) (successors N x s) ≡ units_where (landing t misses_after) (successors N x s)
  any_misses t =
      where_alike (λ C m F. t C) (landing t misses_after) (successors N x s)
      (every_weaker {A = State} (λ u. (u.misses ≡ misses_after) × (u.filled ≡ filled_after)) (λ u. t u.mask ≡ (t u.mask && eqb u.misses misses_after))
      (λ u p. rw (eq-eqb u.misses misses_after p.0) (go (t u.mask))) (successors N x s) follow_each)
    where
      go : (b : Bool) → b ≡ (b && true)
      go true = refl
      go false = refl

  pub meant_lands : (t : ℕ → Bool) → units_where (λ C m F. t C) (successors N x s)
      ≡ cond (hits x s.mask) (if (t s.mask) (units_of s)) (goes_to N x t (evicts N x s.filled) s.mask (units_of s) + rest_to N x t (evicts N x s.filled) s.mask (units_of s))
  meant_lands t = any_misses t ∙ follow_lands N x t misses_after s ∙ go (hits x s.mask) _ _
    where
      go : (b : Bool) (u v : ℕ)
          → cond b (if (eqb s.misses (cond b s.misses (suc s.misses))) u) (if (eqb (suc s.misses) (cond b s.misses (suc s.misses))) v) ≡ cond b u v
      go true u v = rw (eq-eqb s.misses s.misses refl) refl
      go false u v = rw (eq-eqb (suc s.misses) (suc s.misses) refl) refl

  pub none_meant : (t : ℕ → Bool) → units_of s ≡ 0 → units_where (λ C m F. t C) (successors N x s) ≡ 0
  none_meant t e = any_misses t ∙ none_lands N x t misses_after s e

  -- and those that pass a test of misses and filled numbers: all or none
  pub follow_where : (p : ℕ → Filled → Bool) → total (successors N x s) ≡ units_of s
      → units_where (λ C m F. p m F) (successors N x s) ≡ if (p misses_after filled_after) (units_of s)
  follow_where p full =
      where_alike (λ C m F. p m F) (λ C m F. p misses_after filled_after) (successors N x s)
      (every_weaker {A = State} (λ u. (u.misses ≡ misses_after) × (u.filled ≡ filled_after)) (λ u. p u.misses u.filled ≡ p misses_after filled_after) (λ u q. ap₂ p q.0 q.1) (successors N x s) follow_each)
      ∙ all (p misses_after filled_after)
    where
      all : (b : Bool) → units_where (λ C m F. b) (successors N x s) ≡ if b (units_of s)
      all true = sym (total_where (successors N x s)) ∙ full
      all false = where_none (λ C m F. false) (successors N x s) (every_weaker {A = State} (λ u. (u.misses ≡ misses_after) × (u.filled ≡ filled_after)) (λ u. false ≡ false) (λ u q. refl) (successors N x s) follow_each)

-- ---- the table after the step

module _ (N Z : ℕ) (ts : List ℕ) (M : ℕ) (some : 0 < N) (few : N ≤ 16) (x : Target) (aim : Aimed Z ts x) (g : Grid) (shaped : Every (Shaped N Z ts M) (table_of g))
    (full : total (table_of g) ≤ whole) where
  -- the units that go to each mask
  pub units_sent : ((k : ℕ) → k < g.count → g.units k ≡ sum_to g.width (g.cell k)) → (a L D : ℕ)
      → units_in D (narrowed L (stepped N x (rows_of a g).kept)).table ≡ sum_for N x g (comes_to L D)
  unfolding narrowed stepped
  units_sent summed a L D =
      units_in_where D (move (narrow L) (access N x (table_of g)))
      ∙ where_moved (narrow L) (λ s. refl) (λ C m F. eqb C D) (λ C m F. comes_to L D C) (λ s. refl) (access N x (table_of g)) (after_full N Z ts M some few x aim (table_of g) shaped full)
      ∙ access_lands N Z ts M some few x aim (table_of g) shaped full (λ C m F. comes_to L D C)
      ∙ sum_grid g (λ s. units_where (λ C m F. comes_to L D C) (successors N x s)) (λ k j e. none_meant N x (state_of g k j) (comes_to L D) e)
      ∙ sum_eq g.count _ _ (λ k l. sum_eq g.width _ _ (λ j m. meant_lands N x (state_of g k j) (comes_to L D)))
      ∙ all_sent N x (comes_to L D) g summed

  -- the units of a column whose filled numbers pass a test
  pub column_sent : (P : Filled → Bool) (i : ℕ)
      → units_where (λ C m F. eqb m (g.base + i) && P F) (access N x (table_of g))
      ≡ if (ltb i g.width) (if (P (g.filled i)) (hit_in N x g i)) + further g.width (λ j. if (P (fill_one N x.set (g.filled j))) (miss_in N x g j)) i
  column_sent P i =
      access_lands N Z ts M some few x aim (table_of g) shaped full (λ C m F. eqb m (g.base + i) && P F)
      ∙ follows (table_of g) shaped
      ∙ sum_grid g passing (λ k j e. rw e (if_zero (eqb (misses_after N x (state_of g k j)) (g.base + i) && P (filled_after N x (state_of g k j)))))
      ∙ sum_eq g.count _ _ (λ k l. sum_eq g.width _ _ (λ j m. one (hits x (g.mask k)) k j) ∙ row_picked g.width (stays k) (goes k) (hits x (g.mask k)) i ∙ two (hits x (g.mask k)) k)
      ∙ sum_add g.count _ _
      ∙ ap₂ ◌+◌
      (sum_meant (ltb i g.width) g.count _ ∙ ap (if (ltb i g.width)) (sum_meant (P (g.filled i)) g.count _))
      (sum_further g.count g.width (λ k j. if (P (fill_one N x.set (g.filled j))) (if (not (hits x (g.mask k))) (g.cell k j))) i
      ∙ further_same g.width _ _ i (λ j. sum_meant (P (fill_one N x.set (g.filled j))) g.count _))
    where
      passing : State → ℕ
      passing s = if (eqb (misses_after N x s) (g.base + i) && P (filled_after N x s)) (units_of s)

      follows : (T : List State) → Every (Shaped N Z ts M) T → sum_over (λ s. units_where (λ C m F. eqb m (g.base + i) && P F) (successors N x s)) T ≡ sum_over passing T
      follows [] h = refl
      follows (s ∷ T) h =
          ap₂ ◌+◌ (follow_where N x s (λ m F. eqb m (g.base + i) && P F) ((states_follow N Z ts some few).totals M x s aim h.0.0)) (follows T h.1)

      stays : ℕ → ℕ → ℕ
      stays k j = if (P (g.filled j)) (g.cell k j)

      goes : ℕ → ℕ → ℕ
      goes k j = if (P (fill_one N x.set (g.filled j))) (g.cell k j)

      one : (b : Bool) (k j : ℕ)
          → if (eqb (cond b (g.base + j) (suc (g.base + j))) (g.base + i) && P (cond b (g.filled j) (fill_one N x.set (g.filled j)))) (g.cell k j)
          ≡ cond b (if (eqb j i) (stays k j)) (if (eqb (suc j) i) (goes k j))
      one true k j = rw (same_number (g.base + j) (g.base + i) j i (λ e. omega arith) (λ e. omega arith)) (both (eqb j i) (P (g.filled j)))
        where
          both : (a b : Bool) → if (a && b) (g.cell k j) ≡ if a (if b (g.cell k j))
          both true b = refl
          both false b = refl
      one false k j = rw (same_number (suc (g.base + j)) (g.base + i) (suc j) i (λ e. omega arith) (λ e. omega arith)) (both (eqb (suc j) i) (P (fill_one N x.set (g.filled j))))
        where
          both : (a b : Bool) → if (a && b) (g.cell k j) ≡ if a (if b (g.cell k j))
          both true b = refl
          both false b = refl

      -- those that hit, and those that missed
      two : (b : Bool) (k : ℕ)
          → cond b (if (ltb i g.width) (stays k i)) (further g.width (goes k) i)
          ≡ if (ltb i g.width) (if (P (g.filled i)) (if b (g.cell k i))) + further g.width (λ j. if (P (fill_one N x.set (g.filled j))) (if (not b) (g.cell k j))) i
      two true k = omega (arith, quiet i)
        where
          quiet : (i : ℕ) → further g.width (λ j. if (P (fill_one N x.set (g.filled j))) 0) i ≡ 0
          quiet zero = refl
          quiet (suc j) = rw (if_zero (P (fill_one N x.set (g.filled j)))) (if_zero (ltb j g.width))
      two false k =
          let none : if (ltb i g.width) (if (P (g.filled i)) 0) ≡ 0 = rw (if_zero (P (g.filled i))) (if_zero (ltb i g.width)) in
          omega arith
