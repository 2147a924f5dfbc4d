-- A join by what is handed in: the rows' pairs one by one into the scratch, which with those still to come are the whole join; the rows of an entry stand behind
-- those of the entries before it; and what is accepted is paired by them, what is not from the front.
use mathlib.Core.Path.{◌≡◌, refl, sym, ap, ap₂, ◌∙◌, subst}
use mathlib.Core.Bool.{Bool, true, false, cond, ◌&&◌}
use mathlib.Core.List.{List, [], ◌∷◌, ◌++◌, map}
use Prim.Native.Nat.{ℕ, zero, suc, ◌+◌, ◌-◌, ◌*◌, ◌≤◌, ◌<◌}
use native.Mathlib.Omega.{arith}
use lib.Dec.{eqb, ltb}
use lib.ListN.{length, get_or, take, drop, length-append, length-take, length-map, get_or-eq_default}
use borrow.Author.Tests.{ne_eqb, eqb-false, ltb-true, ltb-false}
use Rattle.std.proofs.Common.{sum_by}
use Rattle.std.proofs.lemmas.List.Recursion.{is_sum_by}
use Rattle.basics.proofs.Bools.{and_left, and_right}
use Rattle.rules.specs.declared.State.{State}
use Rattle.rules.specs.Ordered.{insert_all}
use Rattle.rules.specs.AnyTable.{Entry, no_pairing, pairing, is_pair, places_exist, fits, entry_fits, join_by, add as add_any, paired as paired_any}
use Rattle.rules.specs.Fold.{states, meet}
use Rattle.rules.specs.Table.{listing, rising, state_at, add}
use Rattle.rules.specs.Join.{Match, matched, paired, join}
use Rattle.rules.specs.Entries.{no_rows, rows_of, rows_told, entry_of}
use Rattle.rules.proofs.AnyTable.{rising_paired}
use Rattle.rules.proofs.Join.{rising_join, length_join}
use Rattle.rules.proofs.Table.{Rising, states_lawful, rising_is, rising_so, rising_add, length_add_all, add_append}
use Rattle.rules.proofs.Entries.{Formed, rows_within, rows_few}
use Rattle.pairings.specs.Rows.{row_at}
use Rattle.words.specs.Tables.{table_of}
use Rattle.words.proofs.Tables.{fits_table, table_take, table_drop}
use Rattle.estimate.specs.Rooms.{InScratch}
use Rattle.tables.proofs.Scratch.{stretch_long, slot_reads}
use Rattle.tables.proofs.Pairing.{states_at}

-- ---- one pair, added

pub pair_added_lem : (s t s' t' x : State) (u n : ℕ) (X T T' : List State) → s ≡ s' → t ≡ t' → x ≡ meet s t u → InScratch (add (x ∷ []) X) n T T'
    → InScratch (add (meet s' t' u ∷ []) X) n T T'
pair_added_lem s t s' t' x u n X T T' p q e g =
    subst (λ (y : State). InScratch (add (y ∷ []) X) n T T') (e ∙ ap₂ (λ (s t : State). meet s t u) p q) g

-- ---- the rows, one after the other

-- three numbers before others are a row before theirs
rows_cons : (q qs : List ℕ) → length q ≡ 3 → rows_of (q ++ qs) ≡ row_at q 0 ∷ rows_of qs
rows_cons [] qs e = absurd (omega (arith, e))
rows_cons (a ∷ []) qs e = absurd (omega (arith, e))
rows_cons (a ∷ b ∷ []) qs e = absurd (omega (arith, e))
rows_cons (a ∷ b ∷ u ∷ []) qs e = refl
rows_cons (a ∷ b ∷ u ∷ v ∷ q) qs e = absurd (omega (arith, e))

-- fewer are none
rows_none : (qs : List ℕ) → length qs < 3 → rows_of qs ≡ []
rows_none [] l = refl
rows_none (a ∷ []) l = refl
rows_none (a ∷ b ∷ []) l = refl
rows_none (a ∷ b ∷ u ∷ qs) l = absurd (omega arith)

-- from ws: the n states of the scratch, with the pairs of the rows qs, which are still to come, are the join by all rows
pub record Rowing (left m right k : ℕ) (rs ws vs : List ℕ) (n : ℕ) (qs : List ℕ) : Type 0 where
  pub long : length vs ≡ length ws
  pub few : n * 3 + length qs ≤ length rs
  pub exist : places_exist m k (rows_of qs) ≡ true
  pub slots : take 4096 (table_of vs) ≡ take 4096 (table_of ws)
  pub count : n ≡ length (take n (drop 4096 (table_of vs)))
  pub rises : rising (take n (drop 4096 (table_of vs))) ≡ true
  pub whole : add (map (matched (states_at table_of left m ws) (states_at table_of right k ws)) (rows_of qs)) (take n (drop 4096 (table_of vs)))
      ≡ paired (rows_of rs) (states_at table_of left m ws) (states_at table_of right k ws)

pub rowing_none : (left m right k : ℕ) (rs ws : List ℕ) → places_exist m k (rows_of rs) ≡ true → Rowing left m right k rs ws ws 0 rs
unfolding paired_any
rowing_none left m right k rs ws e =
    record { long = refl; few = omega arith; exist = e; slots = refl; count = refl; rises = refl; whole = refl }

module _ {left m right k : ℕ} {rs ws vs qs : List ℕ} {n : ℕ} (g : Rowing left m right k rs ws vs n qs) (a : left + m ≤ 4096) (b : right + k ≤ 4096) where
  abbrev S : List State
  S = states_at table_of left m ws

  abbrev T : List State
  T = states_at table_of right k ws

  abbrev X : List State
  X = take n (drop 4096 (table_of vs))

  -- the next row is q
  module _ (q next : List ℕ) (here : qs ≡ q ++ next) (three : length q ≡ 3) where
    rows_then : rows_of qs ≡ row_at q 0 ∷ rows_of next
    rows_then = ap rows_of here ∙ rows_cons q next three

    many : length qs ≡ 3 + length next
    many = omega (arith, ap length here, length-append q next, three)

    exist_both : (is_pair m k (row_at q 0) && places_exist m k (rows_of next)) ≡ true
    unfolding places_exist
    exist_both = sym (ap (places_exist m k) rows_then) ∙ g.exist

    pub places : (get_or q 0 0 < m) × (get_or q 1 0 < k)
    places =
        let p = and_left (is_pair m k (row_at q 0)) _ exist_both in
        let z = and_left (ltb 0 (row_at q 0).units && ltb (row_at q 0).left m) _ p in
        (ltb-true _ m (and_right (ltb 0 (row_at q 0).units) _ z), ltb-true _ k (and_right (ltb 0 (row_at q 0).units && ltb (row_at q 0).left m) _ p))

    pub rowing_room : 25920 ≤ length ws → length rs ≤ 3264
        → (20480 + n * 5 + 5 ≤ length vs) × (rising X ≡ true) × (length q ≡ 3) × (left + get_or q 0 0 < 4096) × (right + get_or q 1 0 < 4096)
    rowing_room room short =
        (omega (arith, g.long, g.few, many), g.rises, three, omega (arith, places.0), omega (arith, places.1))

    -- one pair more
    module _ (n' : ℕ) (vs' : List ℕ) (same : length vs' ≡ length vs)
        (added : InScratch (add (meet (state_at (table_of vs) (left + get_or q 0 0)) (state_at (table_of vs) (right + get_or q 1 0)) (get_or q 2 0) ∷ []) X) n' (table_of vs) (table_of vs')) where
      -- it is the next row's
      is_matched : meet (state_at (table_of vs) (left + get_or q 0 0)) (state_at (table_of vs) (right + get_or q 1 0)) (get_or q 2 0) ≡ matched S T (row_at q 0)
      is_matched =
          ap₂ (λ (s t : State). meet s t (get_or q 2 0))
          (slot_reads listing X n (table_of ws) (table_of vs) there left m (get_or q 0 0) _ places.0 a refl)
          (slot_reads listing X n (table_of ws) (table_of vs) there right k (get_or q 1 0) _ places.1 b refl)
        where
          there : InScratch X n (table_of ws) (table_of vs)
          there = record { count = g.count; table = refl; slots = g.slots }

      after : take n' (drop 4096 (table_of vs')) ≡ add (matched S T (row_at q 0) ∷ []) X
      after = added.table ∙ ap (λ (s : State). add (s ∷ []) X) is_matched

      pub rowing_more : Rowing left m right k rs ws vs' n' next
      rowing_more =
          record {
            long = same ∙ g.long;
            few = omega (arith, g.few, many, g.count, count_then, ap length after, length_add_all (matched S T (row_at q 0) ∷ []) X);
            exist = and_right (is_pair m k (row_at q 0)) _ exist_both;
            slots = added.slots ∙ g.slots;
            count = count_then;
            rises = rw after (rising_is (add (matched S T (row_at q 0) ∷ []) X) (rising_add (matched S T (row_at q 0) ∷ []) X (rising_so X g.rises)));
            whole =
                rw after
                (sym (add_append (matched S T (row_at q 0) ∷ []) (map (matched S T) (rows_of next)) X)
                ∙ ap (λ P. add (map (matched S T) P) X) (sym rows_then) ∙ g.whole);
          }
        where
          count_then : n' ≡ length (take n' (drop 4096 (table_of vs')))
          count_then = added.count ∙ ap length (sym added.table)

  -- no pair more
  pub rowing_end : length qs < 3 → InScratch (paired (rows_of rs) S T) n (table_of ws) (table_of vs)
  unfolding add_any insert_all
  rowing_end h = record { count = g.count ∙ ap length all; table = all; slots = g.slots }
    where
      all : X ≡ paired (rows_of rs) S T
      all = sym (ap (λ P. add (map (matched S T) P) X) (rows_none qs h)) ∙ g.whole

-- ---- accepted or not

-- the words of a stretch of states
pub part_states : (i m : ℕ) (ws : List ℕ) → table_of (take (i * 5 + m * 5 - i * 5) (drop (i * 5) ws)) ≡ states_at table_of i m ws
part_states i m ws =
    let long : i * 5 + m * 5 - i * 5 ≡ m * 5 = omega arith in
    rw (long, table_take (drop (i * 5) ws) m, table_drop ws i)

module _ (left m right k : ℕ) (ws rs : List ℕ) (b : Bool)
    (judged : b ≡ fits listing (rows_of rs) (table_of (take (left * 5 + m * 5 - left * 5) (drop (left * 5) ws))) (table_of (take (right * 5 + k * 5 - right * 5) (drop (right * 5) ws)))) where
  judged_so : b ≡ fits listing (rows_of rs) (states_at table_of left m ws) (states_at table_of right k ws)
  judged_so = judged ∙ ap₂ (fits listing (rows_of rs)) (part_states left m ws) (part_states right k ws)

  -- then its places exist
  pub judged_places : left + m ≤ 4096 → right + k ≤ 4096 → 25920 ≤ length ws → b ≡ true → places_exist m k (rows_of rs) ≡ true
  unfolding fits
  judged_places l r room e =
      let all = sym judged_so ∙ e in
      let both = and_left (places_exist (length (states_at table_of left m ws)) (length (states_at table_of right k ws)) (rows_of rs) && _) _ all in
      rw (stretch_long left m (table_of ws) (omega (arith, fits_table ws 5184 room)), stretch_long right k (table_of ws) (omega (arith, fits_table ws 5184 room))) at
      (and_left (places_exist (length (states_at table_of left m ws)) (length (states_at table_of right k ws)) (rows_of rs)) _ both)

  -- and it is paired by its rows; otherwise from the front
  pub given_rows : (n : ℕ) (T₀ T₁ : List State) → b ≡ true → InScratch (paired (rows_of rs) (states_at table_of left m ws) (states_at table_of right k ws)) n T₀ T₁
      → InScratch (join_by states (pairing (rows_of rs)) (states_at table_of left m ws) (states_at table_of right k ws)) n T₀ T₁ × (true ≡ entry_fits listing (pairing (rows_of rs)) (states_at table_of left m ws) (states_at table_of right k ws))
  given_rows n T₀ T₁ e g = let yes = sym e ∙ judged_so in (rw (← yes) g, yes)

  pub given_front : (n : ℕ) (T₀ T₁ : List State) → b ≡ false → InScratch (join (states_at table_of left m ws) (states_at table_of right k ws)) n T₀ T₁
      → InScratch (join_by states (pairing (rows_of rs)) (states_at table_of left m ws) (states_at table_of right k ws)) n T₀ T₁ × (false ≡ entry_fits listing (pairing (rows_of rs)) (states_at table_of left m ws) (states_at table_of right k ws))
  given_front n T₀ T₁ e g = let no = sym e ∙ judged_so in (rw (← no) g, no)

-- ---- the entry for a join

-- the rows of all entries are those of each, in a sum
pub told_sum : (ns : List ℕ) → rows_told ns ≡ sum_by (λ n. cond (eqb n no_rows) 0 n) ns
unfolding rows_told
told_sum = is_sum_by rows_told (λ n. cond (eqb n no_rows) 0 n) refl (λ n ns. refl)

pub told_take : (ns : List ℕ) (i : ℕ) → rows_told (take i ns) ≤ rows_told ns
unfolding rows_told
told_take [] zero = omega arith
told_take [] (suc i) = omega arith
told_take (n ∷ ns) zero = omega arith
told_take (n ∷ ns) (suc i) = omega (arith, told_take ns i)

-- there is none where its number says so
pub entry_none : (ns rs : List ℕ) (number many : ℕ) → many ≡ get_or ns number no_rows → many ≡ no_rows → entry_of ns rs number ≡ no_pairing
unfolding entry_of
entry_none ns rs number many p e = rw (← p, e)

module _ (ns rs : List ℕ) (number many : ℕ) (p : many ≡ get_or ns number no_rows) (some : many ≡ no_rows → ⊥) (form : Formed (length ns) ns rs) where
  -- the join has an entry
  pub entry_there : number < length ns
  entry_there = go (ltb number (length ns)) refl
    where
      go : (b : Bool) → ltb number (length ns) ≡ b → number < length ns
      go true e = ltb-true number (length ns) e
      go false e = absurd (some (p ∙ get_or-eq_default ns no_rows {n = number} (ltb-false number (length ns) e)))

  other : eqb (get_or ns number no_rows) no_rows ≡ false
  other = ne_eqb _ no_rows (λ e. some (p ∙ e))

  -- few rows, which stand among all
  pub entry_rows : (many ≤ 1088) × ((rows_told (take number ns) + many) * 3 ≤ length rs)
  entry_rows =
      let few = rows_few ns number entry_there form.few other in
      (omega (arith, p, few), omega (arith, p, form.all, rows_within ns number entry_there other))

  pub entry_is : (from : ℕ) → from ≡ rows_told (take number ns) → entry_of ns rs number ≡ pairing (rows_of (take (from * 3 + many * 3 - from * 3) (drop (from * 3) rs)))
  unfolding entry_of
  entry_is from e =
      let long : from * 3 + many * 3 - from * 3 ≡ many * 3 = omega arith in
      rw (long, e, ne_eqb (get_or ns number no_rows) no_rows (λ q. some (p ∙ q)), p)

-- ---- what a join by an entry makes

-- no pairing: from the front
pub none_front : (x : Entry) (S T : List State) (n : ℕ) (T₀ T₁ : List State) → x ≡ no_pairing → InScratch (join S T) n T₀ T₁
    → InScratch (join_by states x S T) n T₀ T₁ × (true ≡ entry_fits listing x S T)
none_front x S T n T₀ T₁ e g = rw e (g, refl)

rising_by : (x : Entry) (S T : List State) → Rising (join_by states x S T)
rising_by no_pairing S T = rising_join S T
rising_by (pairing P) S T = go (fits listing P S T)
  where
    go : (b : Bool) → Rising (cond b (paired P S T) (join S T))
    go true = rising_paired states states_lawful P S T
    go false = rising_join S T

rows_length : (ns : List ℕ) → length (rows_of ns) * 3 ≤ length ns
rows_length [] = omega arith
rows_length (a ∷ []) = omega arith
rows_length (a ∷ b ∷ []) = omega arith
rows_length (a ∷ b ∷ c ∷ ns) = omega (arith, rows_length ns)

-- no more states than the scratch has room for
length_by : (ns rs : List ℕ) (number : ℕ) → Formed (length ns) ns rs → (S T : List State) → length S ≤ 64 → length T ≤ 64
    → length (join_by states (entry_of ns rs number) S T) ≤ 1088
unfolding entry_of paired_any
length_by ns rs number form S T l m = go (eqb (get_or ns number no_rows) no_rows) refl
  where
    P : List Match
    P = rows_of (take (get_or ns number no_rows * 3) (drop (rows_told (take number ns) * 3) rs))

    walked : length (join S T) ≤ 1088
    walked = omega (arith, length_join S T)

    by_rows : eqb (get_or ns number no_rows) no_rows ≡ false → (b : Bool) → length (cond b (paired P S T) (join S T)) ≤ 1088
    by_rows e false = walked
    by_rows e true =
        let some = eqb-false (get_or ns number no_rows) no_rows e in
        let few = rows_few ns number (entry_there ns rs number _ refl some form) form.few e in
        omega (
          arith,
          few,
          length_add_all (map (matched S T) P) [],
          length-map P (matched S T),
          rows_length (take (get_or ns number no_rows * 3) (drop (rows_told (take number ns) * 3) rs)),
          length-take (get_or ns number no_rows * 3) (drop (rows_told (take number ns) * 3) rs),
        )

    go : (b : Bool) → eqb (get_or ns number no_rows) no_rows ≡ b → length (join_by states (cond b no_pairing (pairing P)) S T) ≤ 1088
    go true e = walked
    go false e = by_rows e (fits listing P S T)

pub by_entry_fits : (ns rs : List ℕ) (number : ℕ) → Formed (length ns) ns rs → (S T : List State) (r : ℕ) (T₀ T₁ : List State) → length S ≤ 64 → length T ≤ 64
    → InScratch (join_by states (entry_of ns rs number) S T) r T₀ T₁ → (r ≤ 1088) × (rising (take r (drop 4096 T₁)) ≡ true)
by_entry_fits ns rs number form S T r T₀ T₁ l m g =
    (omega (arith, g.count, length_by ns rs number form S T l m), rw g.table (rising_is (join_by states (entry_of ns rs number) S T) (rising_by (entry_of ns rs number) S T)))
