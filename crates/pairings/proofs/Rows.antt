-- Rows one after the other: what is computed of the rows that are left is computed of the next row and of those behind it. So for each test of the rows,
-- and for the entries, whose rows are used up one entry after the other.
use mathlib.Core.Path.{◌≡◌, refl, sym, ap, ◌∙◌}
use mathlib.Core.Bool.{Bool, true, false, cond, ◌||◌, ◌&&◌, and-false}
use mathlib.Core.List.{List, [], ◌∷◌, ◌++◌}
use Prim.Native.Nat.{ℕ, suc, ◌+◌, ◌-◌, ◌*◌, ◌/◌, ◌≤◌, ◌<◌}
use native.Mathlib.Numerals.{add-one}
use native.Mathlib.Omega.{arith}
use lib.Dec.{eqb, leb}
use lib.ListN.{length, get_or, drop, length-drop}
use lib.Seq.{drop-cons}
use borrow.Author.Tests.{eq-eqb, ne_eqb, eqb-true}
use Rattle.std.specs.declared.slice.ChunksExact.{ChunksExact}
use Rattle.std.specs.Slice.Iter.{chunks_exact_rest, chunks_exact_size, chunks_exact_steps}
use Rattle.std.specs.List.{list_all}
use Rattle.std.proofs.lemmas.Iterator.{YieldsList}
use Rattle.std.proofs.lemmas.Iterator.Splits.{YieldsList-from_shown_while}
use Rattle.std.proofs.lemmas.List.Recursion.{same_from_clauses}
use Rattle.basics.proofs.Bools.{same_test}
use Rattle.basics.proofs.Lists.{list_next, list_end}
use Rattle.rules.specs.declared.State.{State}
use Rattle.rules.specs.AnyTable.{Match, used_at, is_pair, places_exist, uses_from}
use Rattle.rules.specs.Table.{listing, units_of, state_at}
use Rattle.rules.specs.Entries.{no_rows, rows_of, rows_told, few_rows}
use Rattle.words.specs.Tables.{table_of}
use Rattle.words.proofs.Tables.{state_next, state_end}
use Rattle.pairings.specs.Rows.{row_at}

-- ---- one row

rows_at : (rs : List ℕ) (r : ℕ) → r + 2 < length rs → rows_of (drop r rs) ≡ row_at rs r ∷ rows_of (drop (r + 3) rs)
rows_at rs r h =
    let one : r + 1 ≡ suc r = omega arith in
    let two : r + 2 ≡ suc (suc r) = omega arith in
    let three : r + 3 ≡ suc (suc (suc r)) = omega arith in
    rw (one, two, three, drop-cons rs r 0 (omega arith), drop-cons rs (suc r) 0 (omega arith), drop-cons rs (suc (suc r)) 0 (omega arith))

no_rows_in : (ms : List ℕ) → length ms ≤ 2 → rows_of ms ≡ []
no_rows_in [] l = refl
no_rows_in (a ∷ []) l = refl
no_rows_in (a ∷ b ∷ []) l = refl
no_rows_in (a ∷ b ∷ c ∷ ms) l = absurd (omega arith)

module _ {A : Type 0} (f : List Match → A) (rs : List ℕ) (r : ℕ) (w : A) (rest : f (rows_of (drop r rs)) ≡ w) where
  pub rows_next : r + 2 < length rs → f (row_at rs r ∷ rows_of (drop (r + 3) rs)) ≡ w
  rows_next h = rw (rows_at rs r h) at rest

  pub rows_end_lem : length rs ≤ r + 2 → f [] ≡ w
  rows_end_lem h = sym (ap f (no_rows_in (drop r rs) (omega (arith, length-drop r rs)))) ∙ rest

row_first : (ns ms : List ℕ) → length ns ≡ 3 → rows_of (ns ++ ms) ≡ row_at ns 0 ∷ rows_of ms
row_first [] ms h = absurd (omega arith)
row_first (a ∷ []) ms h = absurd (omega arith)
row_first (a ∷ b ∷ []) ms h = absurd (omega arith)
row_first (a ∷ b ∷ u ∷ []) ms h = refl
row_first (a ∷ b ∷ u ∷ c ∷ ns) ms h = absurd (omega arith)

-- the flat list in chunks of three gives the rows
pub rows_in_chunks : (s : ChunksExact ℕ) (ns : List ℕ) → chunks_exact_rest s ≡ ns → chunks_exact_size s ≡ 3
    → YieldsList (chunks_exact_steps {A = ℕ}) (λ x. row_at x.now 0) s (rows_of ns)
rows_in_chunks s ns e three =
    rw (← e)
    (YieldsList-from_shown_while (chunks_exact_steps {A = ℕ}) (λ x. row_at x.now 0) (λ t. rows_of (chunks_exact_rest t)) (λ t. chunks_exact_size t ≡ 3)
    (λ t u h k. ap length (no_rows_in (chunks_exact_rest t) (omega (arith, k.1.0))))
    (λ t x u h k. (k.0 ∙ h, ap rows_of k.1.0 ∙ row_first x.now (chunks_exact_rest u) (k.1.1 ∙ h)))
    s three)

-- ---- each has units, and its places exist

pub all_pairs : (m k : ℕ) (P : List Match) → list_all (is_pair m k) P ≡ places_exist m k P
unfolding places_exist
all_pairs m k P = same_from_clauses (list_all (is_pair m k)) (places_exist m k) (λ p r. is_pair m k p && r) refl (λ _ _. refl) (λ _ _. refl) P

-- ---- the units used at a place: what is left of u of them, and what the rows to come use

module _ (side : Match → ℕ) (a u : ℕ) (P : List Match) (i left : ℕ) (rest : used_at side a P + left ≡ used_at side a (drop i P) + u) where
  abbrev all : ℕ
  all = used_at side a P

  -- p is the row at place i
  used_next : (p : Match) → (i < length P) × (p ≡ get_or P i p) → (used : ℕ) → used ≡ cond (eqb (side p) a) p.units 0
      → all + left ≡ used + used_at side a (drop (i + 1) P) + u
  used_next p h used e = rw (e, h.1) (sym (list_next (λ Q. used_at side a Q + u) P i (all + left) (sym rest) p h.0))

  pub spent_next : (p : Match) → (i < length P) × (p ≡ get_or P i p) → (used : ℕ) → used ≡ cond (eqb (side p) a) p.units 0 → used ≤ left
      → all + (left - used) ≡ used_at side a (drop (i + 1) P) + u
  spent_next p h used e few = omega (arith, used_next p h used e)

  pub spent_more : (p : Match) → (i < length P) × (p ≡ get_or P i p) → (used : ℕ) → used ≡ cond (eqb (side p) a) p.units 0 → left < used → false ≡ eqb all u
  spent_more p h used e many = sym (ne_eqb all u (λ q. absurd (omega (arith, used_next p h used e, q))))

  pub spent_end : i ≡ length P → eqb left 0 ≡ eqb all u
  spent_end h =
      let none = list_end (λ Q. used_at side a Q + u) P i (all + left) (sym rest) (omega arith) in
      same_test (eqb left 0) (eqb all u)
      (λ q. let z = eqb-true left 0 q in eq-eqb all u (omega (arith, none, z)))
      (λ q. let z = eqb-true all u q in eq-eqb left 0 (omega (arith, none, z)))

-- ---- and at each place of a table

module _ (side : Match → ℕ) (P : List Match) (ws : List ℕ) (a : ℕ) (w : Bool) (rest : uses_from listing side P a (drop a (table_of ws)) ≡ w) where
  pub each_next : a < length ws / 5 → (s : State) → s ≡ state_at (table_of ws) a → (b : Bool) → b ≡ eqb (used_at side a P) (units_of s)
      → (b && uses_from listing side P (a + 1) (drop (a + 1) (table_of ws))) ≡ w
  unfolding uses_from
  each_next h s p b q = rw (q, p, add-one a) (rw (add-one a) at (state_next (uses_from listing side P a) ws a w rest h))

  pub each_end : length ws / 5 ≤ a → true ≡ w
  unfolding uses_from
  each_end h = state_end (uses_from listing side P a) ws a w rest h

-- ---- the entries

-- `left` numbers of rows are left for the entries from i on
module _ (ns : List ℕ) (i left : ℕ) (w : Bool) (rest : (few_rows (drop i ns) && eqb left (rows_told (drop i ns) * 3)) ≡ w) where
  -- how many numbers of rows the next entry has with those behind it
  abbrev wanted : ℕ
  wanted = (cond (eqb (get_or ns i 0) no_rows) 0 (get_or ns i 0) + rows_told (drop (i + 1) ns)) * 3

  entry_next : i < length ns → (b : Bool) → b ≡ (eqb (get_or ns i 0) no_rows || leb (get_or ns i 0) 1088)
      → (b && few_rows (drop (i + 1) ns) && eqb left wanted) ≡ w
  unfolding rows_told
  entry_next h b e = rw e (list_next (λ ms. few_rows ms && eqb left (rows_told ms * 3)) ns i w rest 0 h)

  pub entry_short : i < length ns → (b : Bool) → b ≡ (eqb (get_or ns i 0) no_rows || leb (get_or ns i 0) 1088) → b ≡ true
      → (n : ℕ) → n ≡ cond (eqb (get_or ns i 0) no_rows) 0 (get_or ns i 0) * 3 → left < n → false ≡ w
  entry_short h b e q n p few =
      sym (ap (few_rows (drop (i + 1) ns) &&◌) (ne_eqb left wanted (λ z. absurd (omega (arith, p, z)))) ∙ and-false (few_rows (drop (i + 1) ns))) ∙ (rw q at (entry_next h b e))

  pub entry_fits_lem : i < length ns → (b : Bool) → b ≡ (eqb (get_or ns i 0) no_rows || leb (get_or ns i 0) 1088) → b ≡ true
      → (n : ℕ) → n ≡ cond (eqb (get_or ns i 0) no_rows) 0 (get_or ns i 0) * 3 → n ≤ left
      → (few_rows (drop (i + 1) ns) && eqb (left - n) (rows_told (drop (i + 1) ns) * 3)) ≡ w
  entry_fits_lem h b e q n p few =
      ap (few_rows (drop (i + 1) ns) &&◌) (same_test (eqb (left - n) (rows_told (drop (i + 1) ns) * 3)) (eqb left wanted)
      (λ t. let z = eqb-true (left - n) (rows_told (drop (i + 1) ns) * 3) t in eq-eqb left wanted (omega (arith, z, p)))
      (λ t. let z = eqb-true left wanted t in eq-eqb (left - n) (rows_told (drop (i + 1) ns) * 3) (omega (arith, z, p))))
      ∙ (rw q at (entry_next h b e))

  pub entry_end : length ns ≤ i → eqb left 0 ≡ w
  unfolding rows_told
  entry_end h = list_end (λ ms. few_rows ms && eqb left (rows_told ms * 3)) ns i w rest h
