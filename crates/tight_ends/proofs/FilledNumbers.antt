-- Filled numbers over many states. The numbers of a miss count are the least that no state there has more than; so are those that the groups of a stage give. Numbers
-- that are as large in every set, and made from sixteen, are the same.
use mathlib.Core.Path.{◌≡◌, refl, sym, ap, ◌∙◌}
use mathlib.Core.Bool.{Bool, true, false, cond, ◌&&◌}
use mathlib.Core.List.{List, [], ◌∷◌}
use Prim.Native.Nat.{ℕ, zero, suc, ◌+◌, ◌≤◌}
use native.Mathlib.Nat.{le_refl, le_trans, le_antisymm, max-le}
use native.Mathlib.Omega.{arith}
use lib.Dec.{eqb, ltb}
use lib.ListN.{length}
use lib.Seq.{ext_get_or}
use borrow.Author.Tests.{eqb-true, eqb-false, eq-eqb, ltb-false, le-ltb}
use Rattle.basics.proofs.Sums.{sum_to}
use Rattle.rules.specs.declared.Filled.{Filled}
use Rattle.rules.specs.declared.State.{State}
use Rattle.rules.specs.Shape.{Every}
use Rattle.rules.specs.Filling.{bytes_of, word_from, numbers_of, filled_from, filled_at, larger_of, fullest}
use Rattle.rules.specs.Table.{units_of, no_state}
use Rattle.rules.proofs.Lists.{every_weaker}
use Rattle.rules.proofs.Filling.{Byte, Sixteen, numbers_sixteen, numbers_from, fullest_at, fewer_left, fewer_right, none_at}
use Rattle.tight_rules.specs.Rows.{filled_for}
use Rattle.tight_ends.specs.Stage.{Groups}
use Rattle.tight_ends.specs.Settling.{gathered, in_use, filled_in, filled_to, settled_filled}
use Rattle.tight_rows.proofs.Cells.{units_where, SomeUnits}
use Rattle.tight_ends.proofs.Columns.{column}

-- made from its numbers
abbrev pub Packed : Filled → Type 0
Packed F = filled_from (numbers_of F) ≡ F

pub packed_same : (F G : Filled) → Packed F → Packed G → ((i : ℕ) → filled_at F i ≡ filled_at G i) → F ≡ G
unfolding filled_at
packed_same F G p q e = sym p ∙ ap filled_from (ext_get_or 0 (numbers_of F) (numbers_of G) ((numbers_sixteen F).long ∙ sym (numbers_sixteen G).long) (λ i l. e i)) ∙ q

pub none_packed : Packed no_state.filled
unfolding filled_from numbers_of word_from bytes_of
none_packed = refl

pub fullest_packed : (F G : Filled) → Packed (fullest F G)
unfolding fullest
fullest_packed F G = ap filled_from (numbers_from (larger_of (numbers_of F) (numbers_of G)) larger)
  where
    each : (ms ns : List ℕ) → length ms ≡ length ns → Every Byte ms → Every Byte ns → (length (larger_of ms ns) ≡ length ms) × Every Byte (larger_of ms ns)
    each [] ns e a b = (refl, tt)
    each (m ∷ ms) [] e a b = absurd (omega arith)
    each (m ∷ ms) (n ∷ ns) e a b = let (p, q) = each ms ns (omega arith) a.1 b.1 in (ap suc p, (omega (arith, a.0, b.0), q))

    larger : Sixteen (larger_of (numbers_of F) (numbers_of G))
    larger =
        let f = numbers_sixteen F in
        let g = numbers_sixteen G in
        let (p, q) = each (numbers_of F) (numbers_of G) (f.long ∙ sym g.long) f.bytes g.bytes in
        record { long = p ∙ f.long; bytes = q }

-- numbers that are no larger add nothing
pub fullest_right : (F G : Filled) → Packed G → ((i : ℕ) → filled_at F i ≤ filled_at G i) → fullest F G ≡ G
fullest_right F G p l = packed_same (fullest F G) G (fullest_packed F G) p (λ i. fullest_at F G i ∙ le_antisymm (max-le (l i) (le_refl _)) (le_trans (fewer_right F G i) (rw (fullest_at F G i) (le_refl _))))

-- ---- the numbers of a miss count

pub filled_for_packed : (m : ℕ) (T : List State) → Packed (filled_for m T)
unfolding filled_for
filled_for_packed m [] = none_packed
filled_for_packed m (s ∷ T) = go (eqb s.misses m) (filled_for_packed m T)
  where
    go : (b : Bool) → Packed (filled_for m T) → Packed (cond b (fullest s.filled (filled_for m T)) (filled_for m T))
    go true p = fullest_packed s.filled (filled_for m T)
    go false p = p

filled_for_more : (m i : ℕ) (s : State) (T : List State) → filled_at (filled_for m T) i ≤ filled_at (filled_for m (s ∷ T)) i
unfolding filled_for
filled_for_more m i s T = go (eqb s.misses m)
  where
    go : (b : Bool) → filled_at (filled_for m T) i ≤ filled_at (cond b (fullest s.filled (filled_for m T)) (filled_for m T)) i
    go true = fewer_right s.filled (filled_for m T) i
    go false = le_refl _

-- no state has more
pub filled_for_each : (T : List State) → Every (λ s. (i : ℕ) → filled_at s.filled i ≤ filled_at (filled_for s.misses T) i) T
unfolding filled_for
filled_for_each [] = tt
filled_for_each (s ∷ T) = (
  λ i. rw (eq-eqb s.misses s.misses refl) (fewer_left s.filled (filled_for s.misses T) i),
  every_weaker (λ t. (i : ℕ) → filled_at t.filled i ≤ filled_at (filled_for t.misses T) i) (λ t. (i : ℕ) → filled_at t.filled i ≤ filled_at (filled_for t.misses (s ∷ T)) i)
      (λ t h i. le_trans (h i) (filled_for_more t.misses i s T)) T (filled_for_each T),
)

-- those that have more than x for set i
abbrev pub over : ℕ → ℕ → Filled → Bool
over i x F = ltb x (filled_at F i)

-- where no units at m misses have more than x, neither has the miss count
pub filled_for_most : (m i x : ℕ) (T : List State) → SomeUnits T → units_where (column m (λ D n F. over i x F)) T ≡ 0 → filled_at (filled_for m T) i ≤ x
unfolding filled_for units_where
filled_for_most m i x [] some e = rw (none_at i) (omega arith)
filled_for_most m i x (s ∷ T) some e = go (eqb s.misses m) refl (filled_for_most m i x T some.1 (omega arith))
  where
    go : (b : Bool) → eqb s.misses m ≡ b → filled_at (filled_for m T) i ≤ x → filled_at (cond b (fullest s.filled (filled_for m T)) (filled_for m T)) i ≤ x
    go false k l = l
    go true k l = rw (fullest_at s.filled (filled_for m T) i) (max-le (here (ltb x (filled_at s.filled i)) refl) l)
      where
        part : cond (eqb s.misses m && ltb x (filled_at s.filled i)) (units_of s) 0 ≡ 0
        part = omega arith

        here : (c : Bool) → ltb x (filled_at s.filled i) ≡ c → filled_at s.filled i ≤ x
        here false h = ltb-false x (filled_at s.filled i) h
        here true h = absurd (omega (arith, some.0, rw (k, h) at part))

-- and the other way round
pub filled_for_none : (m i x : ℕ) (T : List State) → filled_at (filled_for m T) i ≤ x → units_where (column m (λ D n F. over i x F)) T ≡ 0
unfolding filled_for units_where
filled_for_none m i x [] l = refl
filled_for_none m i x (s ∷ T) l = omega (arith, filled_for_none m i x T (le_trans (filled_for_more m i s T) l), part (eqb s.misses m) refl l)
  where
    part : (b : Bool) → eqb s.misses m ≡ b → filled_at (cond b (fullest s.filled (filled_for m T)) (filled_for m T)) i ≤ x
        → cond (b && ltb x (filled_at s.filled i)) (units_of s) 0 ≡ 0
    part false k l = refl
    part true k l = rw (le-ltb x (filled_at s.filled i) (le_trans (fewer_left s.filled (filled_for m T) i) l)) refl

-- numbers that are more than x just where some units have more are those of the miss count
pub filled_for_is : (m : ℕ) (T : List State) → SomeUnits T → (G : Filled) → Packed G
    → ((i x : ℕ) → units_where (column m (λ D n F. over i x F)) T ≡ 0 → filled_at G i ≤ x)
    → ((i x : ℕ) → filled_at G i ≤ x → units_where (column m (λ D n F. over i x F)) T ≡ 0) → filled_for m T ≡ G
filled_for_is m T some G packed low high =
    packed_same (filled_for m T) G (filled_for_packed m T) packed
    (λ i. le_antisymm (filled_for_most m i (filled_at G i) T some (high i (filled_at G i) (le_refl _))) (low i (filled_at (filled_for m T) i) (filled_for_none m i _ T (le_refl _))))

-- ---- the numbers of a stage

module _ (h : Groups) (i x : ℕ) where
  -- the units of cell j that have more than x
  abbrev pub over_in : ℕ → ℕ
  over_in j = cond (over i x (h.hit j)) (h.hit_units j) 0 + cond (over i x (h.missed j)) (h.missed_units j) 0

  group_low : (u : ℕ) (F : Filled) → cond (over i x F) u 0 ≡ 0 → filled_at (in_use u F) i ≤ x
  group_low u F e = go (eqb u 0) (over i x F) refl refl
    where
      go : (b c : Bool) → eqb u 0 ≡ b → over i x F ≡ c → filled_at (cond b no_state.filled F) i ≤ x
      go true c k l = rw (none_at i) (omega arith)
      go false false k l = ltb-false x (filled_at F i) l
      go false true k l = absurd (eqb-false u 0 k (rw l at e))

  group_high : (u : ℕ) (F : Filled) → filled_at (in_use u F) i ≤ x → cond (over i x F) u 0 ≡ 0
  group_high u F l = go (eqb u 0) refl l
    where
      go : (b : Bool) → eqb u 0 ≡ b → filled_at (cond b no_state.filled F) i ≤ x → cond (over i x F) u 0 ≡ 0
      go true k l = rw (eqb-true u 0 k) (pick (over i x F))
        where
          pick : (c : Bool) → ◌≡◌ {A = ℕ} (cond c 0 0) 0
          pick true = refl
          pick false = refl
      go false k l = rw (le-ltb x (filled_at F i) l) refl

  pub in_low : (j : ℕ) → over_in j ≡ 0 → filled_at (filled_in h j) i ≤ x
  unfolding filled_in
  in_low j e =
      rw (fullest_at (in_use (h.hit_units j) (h.hit j)) (in_use (h.missed_units j) (h.missed j)) i)
      (max-le (group_low (h.hit_units j) (h.hit j) (omega arith)) (group_low (h.missed_units j) (h.missed j) (omega arith)))

  pub in_high : (j : ℕ) → filled_at (filled_in h j) i ≤ x → over_in j ≡ 0
  unfolding filled_in
  in_high j l =
      let F = in_use (h.hit_units j) (h.hit j) in
      let G = in_use (h.missed_units j) (h.missed j) in
      omega (arith, group_high (h.hit_units j) (h.hit j) (le_trans (fewer_left F G i) l), group_high (h.missed_units j) (h.missed j) (le_trans (fewer_right F G i) l))

  pub to_low : (n : ℕ) → sum_to n over_in ≡ 0 → filled_at (filled_to h n) i ≤ x
  unfolding filled_to
  to_low zero e = rw (none_at i) (omega arith)
  to_low (suc n) e = rw (fullest_at (filled_to h n) (filled_in h n) i) (max-le (to_low n (omega arith)) (in_low n (omega arith)))

  pub to_high : (n : ℕ) → filled_at (filled_to h n) i ≤ x → sum_to n over_in ≡ 0
  unfolding filled_to
  to_high zero l = refl
  to_high (suc n) l = omega (arith, to_high n (le_trans (fewer_left (filled_to h n) (filled_in h n) i) l), in_high n (le_trans (fewer_right (filled_to h n) (filled_in h n) i) l))

-- of cell k, when the first bot cells have risen
module _ (h : Groups) (bot : ℕ) where
  pub settled_packed : (k : ℕ) → Packed (settled_filled h bot k)
  unfolding settled_filled filled_to filled_in
  settled_packed k = go (eqb k 0)
    where
      go : (b : Bool) → Packed (cond b (fullest (filled_to h bot) (filled_in h bot)) (filled_in h (bot + k)))
      go true = fullest_packed (filled_to h bot) (filled_in h bot)
      go false = fullest_packed (in_use (h.hit_units (bot + k)) (h.hit (bot + k))) (in_use (h.missed_units (bot + k)) (h.missed (bot + k)))

  pub settled_low : (k i x : ℕ) → gathered bot (over_in h i x) k ≡ 0 → filled_at (settled_filled h bot k) i ≤ x
  unfolding settled_filled gathered
  settled_low k i x e = go (eqb k 0) e
    where
      go : (b : Bool) → cond b (sum_to (suc bot) (over_in h i x)) (over_in h i x (bot + k)) ≡ 0 → filled_at (cond b (filled_to h (suc bot)) (filled_in h (bot + k))) i ≤ x
      go true e = to_low h i x (suc bot) e
      go false e = in_low h i x (bot + k) e

  pub settled_high : (k i x : ℕ) → filled_at (settled_filled h bot k) i ≤ x → gathered bot (over_in h i x) k ≡ 0
  unfolding settled_filled gathered
  settled_high k i x l = go (eqb k 0) l
    where
      go : (b : Bool) → filled_at (cond b (filled_to h (suc bot)) (filled_in h (bot + k))) i ≤ x → cond b (sum_to (suc bot) (over_in h i x)) (over_in h i x (bot + k)) ≡ 0
      go true l = to_high h i x (suc bot) l
      go false l = in_high h i x (bot + k) l
