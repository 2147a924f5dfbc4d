-- Tables by cells. The units of a table's states that pass a test, by contents, misses and filled numbers: what is added is added there, whatever else is in the table, and
-- moves take them along. A cell is such a sum. A table that rises, has no state of 0 units, and has one kind of filled numbers for each miss count is known by its cells.
use Rattle.std.proofs.Common.{◌≡◌, ℕ, ◌+◌, ◌*◌, ◌≤◌, Bool, true, false, cond, ◌&&◌, eqb, ltb, ◌≢◌, List, [], ◌∷◌, ◌++◌, map, sym, refl, ap, ◌∙◌, ap₂, pos_of_ne-zero, arith, eq-eqb, eqb-true, subst}
use Rattle.basics.specs.Sums.{sum_over}
use Rattle.basics.proofs.Bools.{and_left, and_right}
use Rattle.basics.proofs.Sums.{sum_append}
use Rattle.rules.specs.declared.Filled.{Filled}
use Rattle.rules.specs.declared.State.{State}
use Rattle.rules.specs.Units.{whole}
use Rattle.rules.specs.Ordered.{Order, before, same, after}
use Rattle.rules.specs.AnyTable.{total as total_of}
use Rattle.rules.specs.Counts.{above as above_of, units_at as units_at_of}
use Rattle.rules.specs.Shape.{Every}
use Rattle.rules.specs.Table.{order, units_of, total, add, state}
use Rattle.rules.specs.Questions.{above, units_at}
use Rattle.rules.proofs.Lists.{every_weaker}
use Rattle.rules.proofs.Splitting.{more_least}
use Rattle.rules.proofs.Ordered.{state_orders, order_same, turned_before, number_same}
use Rattle.rules.proofs.Table.{Weight, worth, worth_add, total_add, Rising, rising_add, every_add}
use Rattle.tight_rules.specs.Rows.{units_in, move}
use Rattle.tight_rules.specs.Ends.{below}

-- ---- the units that pass a test

-- a test of contents, misses and filled numbers
abbrev pub Test : Type 0
Test = ℕ → ℕ → Filled → Bool

-- of a state
abbrev pub passes : Test → State → Bool
passes p s = p s.mask s.misses s.filled

-- the units of the states of T that pass p
unfoldable pub units_where : Test → List State → ℕ
units_where p T = sum_over (λ s. cond (passes p s) (units_of s) 0) T

-- contents C with m misses
abbrev pub is_cell : ℕ → ℕ → Test
is_cell C m D n F = eqb D C && eqb n m

-- the units of contents C with m misses, whatever is filled
abbrev pub cell : ℕ → ℕ → List State → ℕ
cell C m T = units_where (is_cell C m) T

-- the sums that tight_rules has are such

pub units_in_where : (C : ℕ) (T : List State) → units_in C T ≡ units_where (λ D m F. eqb D C) T
unfolding units_in units_where
units_in_where C T = refl

pub above_where : (H : ℕ) (T : List State) → above H T ≡ units_where (λ D m F. ltb H m) T
unfolding above_of units_where
above_where H T = refl

pub below_where : (B : ℕ) (T : List State) → below B T ≡ units_where (λ D m F. ltb m B) T
unfolding below units_where
below_where B T = refl

pub units_at_where : (m : ℕ) (T : List State) → units_at m T ≡ units_where (λ D n F. eqb n m) T
unfolding units_at_of units_where
units_at_where m T = refl

pub total_where : (T : List State) → total T ≡ units_where (λ D m F. true) T
unfolding total_of units_where
total_where T = refl

-- ---- what is added

-- a test as a weight: 1 where it is passed
abbrev weigh : Test → Weight
weigh p C m F = cond (p C m F) 1 0

where_worth : (p : Test) (T : List State) → units_where p T ≡ worth (weigh p) T
unfolding units_where
where_worth p [] = refl
where_worth p (s ∷ T) = ap₂ ◌+◌ (once (passes p s) (units_of s)) (where_worth p T)
  where
    once : (b : Bool) (u : ℕ) → cond b u 0 ≡ u * cond b 1 0
    once true u = omega arith
    once false u = omega arith

-- where there are no more units than WHOLE, no sum stops
pub where_add : (p : Test) (S T : List State) → total S + total T ≤ whole → units_where p (add S T) ≡ units_where p S + units_where p T
where_add p S T h =
    where_worth p (add S T) ∙ worth_add (weigh p) S T h ∙ sym (ap₂ ◌+◌ (where_worth p S) (where_worth p T))

pub where_append : (p : Test) (S T : List State) → units_where p (S ++ T) ≡ units_where p S + units_where p T
unfolding units_where
where_append p S T = sum_append (λ s. cond (passes p s) (units_of s) 0) S T

-- a test that passes the same states
pub where_alike : (p q : Test) (T : List State) → Every (λ s. passes p s ≡ passes q s) T → units_where p T ≡ units_where q T
unfolding units_where
where_alike p q [] h = refl
where_alike p q (s ∷ T) h = ap₂ ◌+◌ (ap (λ (b : Bool). cond b (units_of s) 0) h.0) (where_alike p q T h.1)

-- no more than the total
pub where_most : (p : Test) (T : List State) → units_where p T ≤ total T
unfolding units_where total_of
where_most p [] = omega arith
where_most p (s ∷ T) = part (passes p s) (where_most p T)
  where
    part : (b : Bool) → units_where p T ≤ total T → cond b (units_of s) 0 + units_where p T ≤ units_of s + total T
    part true l = omega arith
    part false l = omega arith

-- ---- what moves

-- h keeps the units of every state
abbrev pub KeepsUnits : (State → State) → Type 0
KeepsUnits h = (s : State) → units_of (h s) ≡ units_of s

module _ (h : State → State) (keeps : KeepsUnits h) where
  where_map : (p : Test) (T : List State) → units_where p (map h T) ≡ sum_over (λ s. cond (passes p (h s)) (units_of s) 0) T
  unfolding units_where
  where_map p [] = refl
  where_map p (s ∷ T) = ap₂ ◌+◌ (ap (λ (u : ℕ). cond (passes p (h s)) u 0) (keeps s)) (where_map p T)

  total_map : (T : List State) → total (map h T) ≡ total T
  unfolding total_of
  total_map [] = refl
  total_map (s ∷ T) = ap₂ ◌+◌ (keeps s) (total_map T)

  room_to_add : (T : List State) → total T ≤ whole → total (map h T) + total [] ≤ whole
  unfolding total_of
  room_to_add T full = omega (arith, total_map T)

  -- what passes after a move: the units of the states that h takes there
  pub where_move : (p : Test) (T : List State) → total T ≤ whole → units_where p (move h T) ≡ sum_over (λ s. cond (passes p (h s)) (units_of s) 0) T
  unfolding move units_where
  where_move p T full = where_add p (map h T) [] (room_to_add T full) ∙ omega (arith, where_map p T)

  pub move_total : (T : List State) → total T ≤ whole → total (move h T) ≡ total T
  unfolding move total_of
  move_total T full = total_add (map h T) [] (room_to_add T full) ∙ omega (arith, total_map T)

  -- where h takes a state to a place that passes p just where it passes q
  pub where_moved : (p q : Test) → ((s : State) → passes p (h s) ≡ passes q s) → (T : List State) → total T ≤ whole → units_where p (move h T) ≡ units_where q T
  unfolding units_where
  where_moved p q e T full = where_move p T full ∙ each T
    where
      each : (T : List State) → sum_over (λ s. cond (passes p (h s)) (units_of s) 0) T ≡ units_where q T
      each [] = refl
      each (s ∷ T) = ap₂ ◌+◌ (ap (λ (b : Bool). cond b (units_of s) 0) (e s)) (each T)

-- a moved table rises
pub move_rising : (h : State → State) (T : List State) → Rising (move h T)
unfolding move
move_rising h T = rising_add (map h T) [] tt

-- no state of T has 0 units
abbrev pub SomeUnits : List State → Type 0
SomeUnits T = Every (λ s. 1 ≤ units_of s) T

-- and what is added to nothing rises and has none
pub add_some : (S : List State) → SomeUnits (add S [])
add_some S = every_add (λ s. 1 ≤ units_of s) (λ t s l. more_least (units_of t) (units_of s) l) S [] (each S) tt
  where
    each : (S : List State) → Every (λ s. units_of s ≢ 0 → 1 ≤ units_of s) S
    each [] = tt
    each (s ∷ S) = (pos_of_ne-zero, each S)

pub move_some : (h : State → State) (T : List State) → SomeUnits (move h T)
unfolding move
move_some h T = add_some (map h T)

-- ---- a table is known by its cells

-- states with the same contents, misses and filled numbers stand in the same place
not_before : (s t : State) → s.mask ≡ t.mask → s.misses ≡ t.misses → s.filled ≡ t.filled → order s t ≡ before → ⊥
unfolding order
not_before s t x y z e = different (sym (stands s t x y z) ∙ e)
  where
    stands : (s t : State) → s.mask ≡ t.mask → s.misses ≡ t.misses → s.filled ≡ t.filled → order s t ≡ same
    stands s t x y z =
        rw (
          number_same s.mask t.mask x,
          number_same s.misses t.misses y,
          number_same s.filled.front t.filled.front (ap (λ (G : Filled). G.front) z),
          number_same s.filled.back t.filled.back (ap (λ (G : Filled). G.back) z),
        ) refl

    different : same ≡ before → ⊥
    different e = let z : ◌≡◌ {A = ℕ} 0 1 = cc in absurd (omega arith)

-- the filled numbers of each state are those that F has for its miss count
abbrev pub FilledBy : (ℕ → Filled) → List State → Type 0
FilledBy F T = Every (λ s. s.filled ≡ F s.misses) T

-- a table, as a slot holds one
pub record Known (F : ℕ → Filled) (T : List State) : Type 0 where
  pub rises : Rising T
  pub some : SomeUnits T
  pub filled : FilledBy F T

module _ (F : ℕ → Filled) where
  known_rest : (s : State) (T : List State) → Known F (s ∷ T) → Known F T
  known_rest s T k = record { rises = k.rises.1; some = k.some.1; filled = k.filled.1 }

  cell_here : (s : State) (T : List State) → cell s.mask s.misses (s ∷ T) ≡ units_of s + cell s.mask s.misses T
  unfolding units_where
  cell_here s T = rw (eq-eqb s.mask s.mask refl, eq-eqb s.misses s.misses refl) refl

  -- a state stands in no cell of those behind it
  cell_behind : (s : State) (T : List State) → s.filled ≡ F s.misses → FilledBy F T → Every (λ t. order s t ≡ before) T → cell s.mask s.misses T ≡ 0
  unfolding units_where
  cell_behind s [] e f h = refl
  cell_behind s (t ∷ T) e f h = go (passes (is_cell s.mask s.misses) t) refl (cell_behind s T e f.1 h.1)
    where
      go : (b : Bool) → passes (is_cell s.mask s.misses) t ≡ b → cell s.mask s.misses T ≡ 0 → cond b (units_of t) 0 + cell s.mask s.misses T ≡ 0
      go false q r = omega arith
      go true q r =
          let a : t.mask ≡ s.mask = eqb-true t.mask s.mask (and_left (eqb t.mask s.mask) _ q) in
          let b : t.misses ≡ s.misses = eqb-true t.misses s.misses (and_right (eqb t.mask s.mask) _ q) in
          let c : t.filled ≡ s.filled = f.0 ∙ ap F b ∙ sym e in
          absurd (not_before s t (sym a) (sym b) (sym c) h.0)

  -- two tables with the same cells are equal
  pub same_cells : (S T : List State) → Known F S → Known F T → ((C m : ℕ) → cell C m S ≡ cell C m T) → S ≡ T
  unfolding units_where
  same_cells [] [] a b e = refl
  same_cells [] (t ∷ T) a b e = absurd (omega (arith, b.some.0, e t.mask t.misses, cell_here t T))
  same_cells (s ∷ S) [] a b e = absurd (omega (arith, a.some.0, e s.mask s.misses, cell_here s S))
  same_cells (s ∷ S) (t ∷ T) a b e = go (order s t) refl (same_cells S T (known_rest s S a) (known_rest t T b))
    where
      first : cell s.mask s.misses S ≡ 0
      first = cell_behind s S a.filled.0 a.filled.1 a.rises.0

      second : cell t.mask t.misses T ≡ 0
      second = cell_behind t T b.filled.0 b.filled.1 b.rises.0

      go : (o : Order) → order s t ≡ o → (((C m : ℕ) → cell C m S ≡ cell C m T) → S ≡ T) → s ∷ S ≡ t ∷ T
      go before q ih =
          let none = cell_behind s (t ∷ T) a.filled.0 b.filled (q, every_weaker (λ u. order t u ≡ before) (λ u. order s u ≡ before) (λ u. state_orders.onward s t u q) T b.rises.0) in
          absurd (omega (arith, a.some.0, e s.mask s.misses, cell_here s S, none))
      go after q ih =
          let r = turned_before order state_orders s t q in
          let none = cell_behind t (s ∷ S) b.filled.0 a.filled (r, every_weaker (λ u. order s u ≡ before) (λ u. order t u ≡ before) (λ u. state_orders.onward t s u r) S a.rises.0) in
          absurd (omega (arith, b.some.0, e t.mask t.misses, cell_here t T, none))
      go same q ih =
          let (x, y, z) = order_same s t q in
          let u : units_of s ≡ units_of t = omega (arith, first, rest_none x y, e s.mask s.misses, cell_here s S, here x y) in
          ap₂ ◌∷◌ (alike x y z u) (ih (λ C m. rest x y u C m (e C m)))
        where
          rest_none : s.mask ≡ t.mask → s.misses ≡ t.misses → cell s.mask s.misses T ≡ 0
          rest_none x y = rw (x, y) second

          here : s.mask ≡ t.mask → s.misses ≡ t.misses → cell s.mask s.misses (t ∷ T) ≡ units_of t + cell s.mask s.misses T
          here x y =
              subst (λ (C : ℕ). cell C s.misses (t ∷ T) ≡ units_of t + cell C s.misses T) (sym x)
              (subst (λ (m : ℕ). cell t.mask m (t ∷ T) ≡ units_of t + cell t.mask m T) (sym y) (cell_here t T))

          alike : s.mask ≡ t.mask → s.misses ≡ t.misses → s.filled ≡ t.filled → units_of s ≡ units_of t → s ≡ t
          alike x y z u = ap (λ (C : ℕ). state C s.misses s.filled (units_of s)) x
              ∙ ap (λ (m : ℕ). state t.mask m s.filled (units_of s)) y
              ∙ ap (λ (G : Filled). state t.mask t.misses G (units_of s)) z
              ∙ ap (λ (v : ℕ). state t.mask t.misses t.filled v) u

          rest : s.mask ≡ t.mask → s.misses ≡ t.misses → units_of s ≡ units_of t → (C m : ℕ) → cell C m (s ∷ S) ≡ cell C m (t ∷ T) → cell C m S ≡ cell C m T
          rest x y u C m k = omega (arith, k, part x y u C m)
            where
              part : s.mask ≡ t.mask → s.misses ≡ t.misses → units_of s ≡ units_of t → (C m : ℕ)
                  → cond (passes (is_cell C m) s) (units_of s) 0 ≡ cond (passes (is_cell C m) t) (units_of t) 0
              part x y u C m = rw (x, y, u) refl
