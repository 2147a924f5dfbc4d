-- Folding a table: two states replaced by what they become are a fold, if they are the chosen ones. What is the same for every kind of table is in
-- tables/proofs/Folding. Tables are the first n states of a list.
use mathlib.Core.Path.{◌≡◌, sym, ap, ◌∙◌}
use mathlib.Core.Bool.{Bool, true, ◌&&◌, not, true≢false}
use mathlib.Core.Logic.{◌≢◌}
use mathlib.Core.List.{List, [], ◌∷◌}
use Prim.Native.Nat.{ℕ, suc, ◌+◌, ◌-◌, ◌*◌, ◌≤◌, ◌<◌}
use native.Mathlib.Omega.{arith}
use lib.Dec.{eqb}
use lib.ListN.{length, set, take, length-set}
use lib.Seq.{get_or-take, length-take-le, take-set-lt}
use borrow.Author.Tests.{eq-eqb, not-true}
use Rattle.basics.proofs.Bools.{and_left, and_right}
use Rattle.rules.specs.declared.State.{State}
use Rattle.rules.specs.declared.Pair.{Pair}
use Rattle.rules.specs.declared.Units.{Units}
use Rattle.rules.specs.Units.{more, add_of}
use Rattle.rules.specs.Ordered.{same, remove}
use Rattle.rules.specs.AnyTable.{fold as fold_any, fold_at as fold_at_any}
use Rattle.rules.specs.Table.{units_of, order, no_state, state_at, rising, add}
use Rattle.rules.specs.Fold.{choice, meet, changed, fold, states}
use Rattle.rules.proofs.Lists.{length_remove}
use Rattle.rules.proofs.Ordered.{in_order_remove}
use Rattle.rules.proofs.Table.{rising_is, rising_so}
use Rattle.rules.proofs.Partners.{past, past_among, among_past, others_at}
use Rattle.rules.proofs.Replacing.{removed_both, among_within, kept}
use Rattle.rules.proofs.Fold.{first_of, second_of, meet_of}
use Rattle.words.specs.Tables.{table_of}
use Rattle.words.proofs.Tables.{fits_table}
use Rattle.searches.specs.declared.Two.{Two}
use Rattle.searches.specs.Searches.{sought}
use Rattle.searches.proofs.Choosing.{chosen_is}
use Rattle.estimate.specs.Placing.{is_same, Added}
use Rattle.estimate.specs.Rooms.{Stands}
use Rattle.estimate.specs.Partners.{among, replaced, Replaced}
use Rattle.tables.proofs.Insertion.{is_same_lem}
use Rattle.tables.proofs.Folding.{other_within, fewest_within, partner_within}

-- ---- what replaces two states of the first n: i and p are their places, and m comes

-- r says whether m has units and stands where t stands
stays_so : (m t : State) (r : Bool) → r ≡ (not (eqb (units_of m) 0) && is_same (order m t)) → r ≡ true → (units_of m ≢ 0) × (order m t ≡ same)
stays_so m t r said h =
    let both = sym said ∙ h in (
      λ e. true≢false (sym (eq-eqb (units_of m) 0 e) ∙ not-true _ (and_left (not (eqb (units_of m) 0)) _ both)),
      is_same_lem (order m t) (and_right (not (eqb (units_of m) 0)) _ both),
    )

module _ (T : List State) (n : ℕ) (room : n ≤ length T) (i p : ℕ) (l : i < n) (k : p < n) (other : p ≢ i) (m : State) where
  abbrev X : List State
  X = take n T

  full : length X ≡ n
  full = length-take-le n T room

  listed : (j : ℕ) → j < n → state_at T j ≡ state_at X j
  listed j q = sym (get_or-take n T j no_state q)

  -- one of the two is written over: S are the others than the other one, and j is its place among them
  written : (S : List State) (j : ℕ) → suc (length S) ≡ n → replaced i p m X ≡ set S j m → (T' : List State) → take (n - 1) T' ≡ set S j m
      → Replaced i p m n (n - 1) T T'
  written S j e d T' w = record { count = rw d (omega (arith, e, length-set S j m)); table = w ∙ sym d }

  pub first_stays : rising X ≡ true → (r : Bool) → r ≡ (not (eqb (units_of m) 0) && is_same (order m (state_at T i))) → r ≡ true
      → (T' : List State) → take (n - 1) T' ≡ set (remove p X) (among p i) m → Replaced i p m n (n - 1) T T'
  unfolding replaced
  first_stays h r said e T' w =
      let (some, alike) = stays_so m (state_at T i) r said e in
      written (remove p X) (among p i) (length_remove p X (omega (arith, full)) ∙ full)
      (kept X i p m (rising_so X h) (omega (arith, full)) (omega (arith, full)) other (rw (← listed i l) alike) some) T' w

  pub second_stays : rising X ≡ true → (r : Bool) → r ≡ (not (eqb (units_of m) 0) && is_same (order m (state_at T p))) → r ≡ true
      → (T' : List State) → take (n - 1) T' ≡ set (remove i X) (among i p) m → Replaced i p m n (n - 1) T T'
  unfolding replaced
  second_stays h r said e T' w =
      let (some, alike) = stays_so m (state_at T p) r said e in
      written (remove i X) (among i p) (length_remove i X (omega (arith, full)) ∙ full)
      (ap (add (m ∷ [])) (removed_both i p X other)
      ∙ kept X p i m (rising_so X h) (omega (arith, full)) (omega (arith, full)) (λ d. other (sym d)) (rw (← listed p k) alike) some) T' w

  -- one is taken out, which leaves T₁, and m written at place j
  pub written_over : (T₁ T₂ : List State) (j : ℕ) → take (n - 1) T₁ ≡ remove p X → T₂ ≡ set T₁ j m → j ≡ among p i
      → take (n - 1) T₂ ≡ set (remove p X) (among p i) m
  written_over T₁ T₂ j first then place =
      let before_last = among_within p i n k l (λ d. other (sym d)) in
      ap (take (n - 1)) then ∙ take-set-lt (n - 1) T₁ j m (omega (arith, before_last, place)) ∙ rw (first, place)

  -- both are taken out: T₁ is the list after the first, T₂ after the second
  module _ (T₁ T₂ : List State) (first : take (n - 1) T₁ ≡ remove i X) (second : take (n - 1 - 1) T₂ ≡ remove (among i p) (take (n - 1) T₁)) where
    left : take (n - 2) T₂ ≡ remove (among i p) (remove i X)
    left = let e : n - 2 ≡ n - 1 - 1 = omega arith in rw e (second ∙ ap (remove (among i p)) first)

    pub rising_left : rising X ≡ true → rising (take (n - 2) T₂) ≡ true
    rising_left h =
        rw left
        (rising_is (remove (among i p) (remove i X))
        (in_order_remove order (among i p) (remove i X) (in_order_remove order i X (rising_so X h))))

    pub replaced_anew : (r : ℕ) (T' : List State) → Added (m ∷ []) (n - 2) r T₂ T' → Replaced i p m n r T T'
    unfolding replaced
    replaced_anew r T' h = record { count = h.count ∙ rw left; table = h.table ∙ rw left }

-- ---- one fold of the first n states: the two that are chosen are replaced by what they become

-- q is the second one's place in the table
module _ (T : List State) (n : ℕ) (room : n ≤ length T) (some : 2 ≤ n) (c : Pair) (chosen : c ≡ choice (take n T)) (q : ℕ)
    (place : q ≡ past c.fewest c.partner) where
  first_within : c.fewest < n
  first_within = fewest_within states (take n T) n (length-take-le n T room) some c chosen

  second_within : q < n
  second_within =
      other_within c.fewest c.partner q n place
      (let l = partner_within states (take n T) n (length-take-le n T room) some c chosen in omega (arith, l))

  -- s and t are the two, and m what they become
  module _ (s t m : State) (x : Units) (is-first : s ≡ state_at T c.fewest) (is-second : t ≡ state_at T q) (sum : x ≡ add_of s.units t.units)
      (both : m ≡ meet s t x.0) where
    first_there : s ≡ first_of c (take n T)
    first_there = is-first ∙ sym (get_or-take n T c.fewest no_state first_within)

    second_there : t ≡ second_of c (take n T)
    second_there =
        is-second
        ∙ sym (get_or-take n T q no_state second_within)
        ∙ ap (state_at (take n T)) place
        ∙ sym (others_at no_state c.fewest c.partner (take n T))

    meet_there : m ≡ meet_of c (take n T)
    unfolding add_of
    meet_there = both ∙ rw (sum, second_there, first_there)

    replaced_folds : (a r b : ℕ) (T' : List State) → Replaced c.fewest q m n r T T' → b ≡ more a (changed s m + changed t m)
        → Stands (fold (record { table = take n T; aside = a })) r b T'
    unfolding fold_any fold_at_any replaced
    replaced_folds a r b T' h e = record { count = h.count ∙ ap length table; table = h.table ∙ table; aside = e ∙ aside }
      where
        table : replaced c.fewest q m (take n T) ≡ (fold (record { table = take n T; aside = a })).table
        table = rw (place, among_past c.fewest c.partner, meet_there, chosen)

        aside : more a (changed s m + changed t m) ≡ (fold (record { table = take n T; aside = a })).aside
        aside = rw (meet_there, second_there, first_there, chosen)

-- d are the two that were sought, in words
module _ (ws : List ℕ) (n : ℕ) (some : 2 ≤ n) (fits : n * 5 ≤ length ws) (rises : rising (take n (table_of ws)) ≡ true) (d : Two)
    (found : d ≡ sought n (table_of ws)) where
  enough : n ≤ length (table_of ws)
  enough = fits_table ws n fits

  -- by its place among the others the second one is document 01's
  is_choice : (record { fewest = d.fewest; partner = among d.fewest d.partner } ≡ choice (take n (table_of ws))) × (d.partner ≢ d.fewest)
  is_choice = chosen_is (table_of ws) n enough rises some d found

  place_found : d.partner ≡ past d.fewest (among d.fewest d.partner)
  place_found = sym (past_among d.fewest d.partner is_choice.1)

  pub found_first : d.fewest < n
  found_first = first_within (table_of ws) n enough some _ is_choice.0 _ place_found

  pub found_second : d.partner < n
  found_second = second_within (table_of ws) n enough some _ is_choice.0 _ place_found

  pub found_other : d.partner ≢ d.fewest
  found_other = is_choice.1

  pub fold_stands : (s t m : State) (x : Units) → s ≡ state_at (table_of ws) d.fewest → t ≡ state_at (table_of ws) d.partner → x ≡ add_of s.units t.units
      → m ≡ meet s t x.0 → (a r b : ℕ) (T' : List State) → Replaced d.fewest d.partner m n r (table_of ws) T' → b ≡ more a (changed s m + changed t m)
      → Stands (fold (record { table = take n (table_of ws); aside = a })) r b T'
  fold_stands = replaced_folds (table_of ws) n enough some _ is_choice.0 _ place_found
