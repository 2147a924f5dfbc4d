-- Document 01's own pairings, handed in: told in numbers and read again they are what they were; each is accepted where it is handed in, since the tables there are
-- document 01's, and joins as none does. So node after node the tables stay the same.
use Rattle.std.specs.Prelude.{Err, Ok}
use mathlib.Core.Path.{◌≡◌, refl, sym, ap, ap₂, ◌∙◌, subst}
use mathlib.Core.Bool.{true, false, cond, ◌&&◌}
use mathlib.Core.List.{List, [], ◌∷◌, ◌++◌, map, flat_map}
use Prim.Native.Nat.{ℕ, zero, suc, ◌+◌, ◌-◌, ◌*◌, ◌≤◌, ◌<◌}
use native.Mathlib.Nat.{le_refl}
use native.Mathlib.Omega.{arith}
use lib.Dec.{eqb}
use lib.ListN.{length, get_or, take, drop, length-append, length-map, get_or-append}
use lib.Seq.{take_at, drop-append-add, get_or-append-add}
use borrow.Author.Tests.{ne_eqb, le-leb, eq-eqb}
use Rattle.rules.specs.declared.State.{State}
use Rattle.rules.specs.declared.Filled.{Filled}
use Rattle.rules.specs.Answers.{Verdict}
use Rattle.rules.specs.Units.{units}
use Rattle.rules.specs.Contents.{among}
use Rattle.rules.specs.Input.{Input, nodes, run_of, Edge, edges_of, predecessors, joins_to}
use Rattle.rules.specs.AnyTable.{Entry, Entries, no_pairing, pairing, no_pairings, later, behind, join, join_one, entry_fits, fits, join_all_by as join_all_of, enter_by as enter_of, node_by as node_of, worked_by as worked_of, finished_by as finished_of, joins_fit as joins_fit_of, enter_fits as enter_fits_of, all_fit as all_fit_of}
use Rattle.rules.specs.Table.{listing, Work}
use Rattle.rules.specs.Fold.{states}
use Rattle.rules.specs.Join.{Match, from_front}
use Rattle.rules.specs.Run.{run}
use Rattle.rules.specs.Graph.{Worked, table_at, last_before, lasts_to, at_start, worked, finished, join_all_by, enter_by, worked_by, finished_by, joins_fit, enter_fits, all_fit}
use Rattle.rules.specs.Shape.{Every, Shaped, Table}
use Rattle.rules.specs.Refusals.{verdict, answered, outcome}
use Rattle.rules.specs.Entries.{no_rows, rows_of, rows_told, entry_of, few_rows, in_form, entries_fit, paired_verdict, paired_answered, paired_outcome}
use Rattle.rules.proofs.Lists.{every_append, every_weaker}
use Rattle.rules.proofs.Table.{states_lawful}
use Rattle.rules.proofs.Pairings.{length_front, front_fits}
use Rattle.rules.proofs.AnyTable.{sound_join, table_stays}
use Rattle.rules.proofs.Fold.{states_keep}
use Rattle.rules.proofs.Graph.{node_table_lem}
use Rattle.rules.proofs.Nodes.{first_and_others}
use Rattle.rules.proofs.Refusals.{Checked, checked, predecessor_lower}
use Rattle.rules.proofs.Entries.{paired_judged, paired_refused}
use Rattle.promises.specs.Own.{own_joins, own_at, own_pairings, numbers_of, own_counts, own_rows}

-- ---- pairings told in numbers

-- a pairing has few rows
abbrev Few : List Match → Type 0
Few P = length P ≤ 1088

length_numbers : (P : List Match) → length (numbers_of P) ≡ length P * 3
unfolding numbers_of
length_numbers [] = refl
length_numbers (m ∷ P) = omega (arith, length_numbers P)

rows_numbers : (P : List Match) → rows_of (numbers_of P) ≡ P
unfolding numbers_of
rows_numbers [] = refl
rows_numbers (m ∷ P) = ap (λ (Q : List Match). m ∷ Q) (rows_numbers P)

few_none : (P : List Match) → Few P → eqb (length P) no_rows ≡ false
few_none P few = ne_eqb (length P) no_rows (λ e. absurd (omega arith))

-- the first is read from the front,
entry_first : (P : List Match) (ns rs : List ℕ) → Few P → entry_of (length P ∷ ns) (numbers_of P ++ rs) 0 ≡ pairing P
unfolding entry_of rows_told
entry_first P ns rs few =
    rw (few_none P few)
    (ap (λ (xs : List ℕ). pairing (rows_of xs)) (take_at (numbers_of P) rs (length P * 3) (length_numbers P)) ∙ ap pairing (rows_numbers P))

-- and the others behind it
entry_later : (P : List Match) (ns rs : List ℕ) (m : ℕ) → Few P → entry_of (length P ∷ ns) (numbers_of P ++ rs) (suc m) ≡ entry_of ns rs m
unfolding entry_of rows_told
entry_later P ns rs m few =
    ap (λ (xs : List ℕ). cond (eqb (get_or ns m no_rows) no_rows) no_pairing (pairing (rows_of (take (get_or ns m no_rows * 3) xs)))) behind_it
  where
    further : (length P + rows_told (take m ns)) * 3 ≡ length (numbers_of P) + rows_told (take m ns) * 3
    further = omega (arith, length_numbers P)

    behind_it : drop ((cond (eqb (length P) no_rows) 0 (length P) + rows_told (take m ns)) * 3) (numbers_of P ++ rs) ≡ drop (rows_told (take m ns) * 3) rs
    behind_it =
        rw (few_none P few) (ap (λ (n : ℕ). drop n (numbers_of P ++ rs)) further ∙ drop-append-add (numbers_of P) rs (rows_told (take m ns) * 3))

-- q has these pairings for the first joins
abbrev Has : Entries → List (List Match) → Type 0
Has q Ps = (m : ℕ) → m < length Ps → q m ≡ pairing (get_or Ps m [])

-- what is told of few rows each is read
entries_told : (Ps : List (List Match)) → Every Few Ps → Has (entry_of (map (λ P. length P) Ps) (flat_map numbers_of Ps)) Ps
unfolding flat_map
entries_told [] few m h = absurd (omega arith)
entries_told (P ∷ Ps) few zero h = entry_first P (map (λ P. length P) Ps) (flat_map numbers_of Ps) few.0
entries_told (P ∷ Ps) few (suc m) h = entry_later P (map (λ P. length P) Ps) (flat_map numbers_of Ps) m few.0 ∙ entries_told Ps few.1 m (omega arith)

-- and has the form
rows_all : (Ps : List (List Match)) → Every Few Ps → length (flat_map numbers_of Ps) ≡ rows_told (map (λ P. length P) Ps) * 3
unfolding rows_told flat_map
rows_all [] few = refl
rows_all (P ∷ Ps) few =
    rw (few_none P few.0) (omega (arith, length-append (numbers_of P) (flat_map numbers_of Ps), length_numbers P, rows_all Ps few.1))

rows_few : (Ps : List (List Match)) → Every Few Ps → few_rows (map (λ P. length P) Ps) ≡ true
rows_few [] few = refl
rows_few (P ∷ Ps) few = rw (few_none P few.0, le-leb (length P) 1088 few.0) (rows_few Ps few.1)

form_told : (Ps : List (List Match)) → Every Few Ps → in_form (length Ps) (map (λ P. length P) Ps) (flat_map numbers_of Ps) ≡ true
unfolding in_form
form_told Ps few =
    rw (
      eq-eqb (length (map (λ P. length P) Ps)) (length Ps) (length-map Ps (λ P. length P)),
      rows_few Ps few,
      eq-eqb (length (flat_map numbers_of Ps)) (rows_told (map (λ P. length P) Ps) * 3) (rows_all Ps few),
    )

-- ---- at the joins of a node

module _ (N Z : ℕ) (ts : List ℕ) (K M : ℕ) (room : 0 < K) (most : K ≤ 64) (d : Worked) where
  abbrev Is : List State → Type 0
  Is T = Table N Z ts K M T

  some_units : (T : List State) → Is T → Every (λ s. 1 ≤ listing.units s) T
  some_units T t = every_weaker (Shaped N Z ts M) (λ s. 1 ≤ listing.units s) (λ s p. p.1) T t.shaped

  module _ (S T : List State) (s : Is S) (t : Is T) where
    own_fits : fits listing (from_front S T) S T ≡ true
    own_fits = front_fits listing states_lawful S T (s.full ∙ sym t.full) (some_units S s) (some_units T t)

    own_few : Few (from_front S T)
    own_few = omega (arith, length_front listing S T, s.short, t.short)

  -- the walk, handed in, joins as none does
  own_join : (w : Work) (T : List State) → Is w.table → Is T → join_one states (pairing (from_front w.table T)) K w T ≡ join_one states no_pairing K w T
  unfolding join
  own_join w T s t = rw (own_fits w.table T s t) refl

  is_joined : (w : Work) (T : List State) → Is w.table → Is T → Is (join_one states no_pairing K w T).table
  is_joined w T s t = sound_join (states_keep N Z ts) K room M no_pairing w T s t

  -- there is a walk for each join, of few rows
  joins_few : (ps : List ℕ) (w : Work) → ((j : ℕ) → among ps j ≡ true → Is (table_at d j)) → Is w.table
      → Every Few (own_joins K d ps w) × (length (own_joins K d ps w) ≡ length ps)
  unfolding own_joins
  joins_few [] w h s = (tt, refl)
  joins_few (p ∷ ps) w h s =
      let (t, rest) = first_and_others (λ j. Is (table_at d j)) p ps h in
      let (few, each) = joins_few ps _ rest (is_joined w (table_at d p) s t) in
      ((own_few w.table (table_at d p) s t, few), ap suc each)

  -- handed in, they are accepted and join as none does
  own_joins_lem : (q : Entries) (ps : List ℕ) (w : Work) → ((j : ℕ) → among ps j ≡ true → Is (table_at d j)) → Is w.table → Has q (own_joins K d ps w)
      → (join_all_by q K d ps w ≡ join_all_by no_pairings K d ps w) × (joins_fit q K d ps w ≡ true)
  unfolding join_all_of joins_fit_of own_joins
  own_joins_lem q [] w h s has = (refl, refl)
  own_joins_lem q (p ∷ ps) w h s has =
      let T = table_at d p in
      let (t, rest) = first_and_others (λ j. Is (table_at d j)) p ps h in
      let first : q 0 ≡ pairing (from_front w.table T) = has 0 (omega arith) in
      let same : join_one states (q 0) K w T ≡ join_one states no_pairing K w T = ap (λ (e : Entry). join_one states e K w T) first ∙ own_join w T s t in
      let fit : entry_fits listing (q 0) w.table T ≡ true = ap (λ (e : Entry). entry_fits listing e w.table T) first ∙ own_fits w.table T s t in
      let (others, fits) = own_joins_lem (later q) ps (join_one states no_pairing K w T) rest (is_joined w T s t) (λ m k. has (suc m) (omega arith)) in
      (ap (join_all_by (later q) K d ps) same ∙ others, ap₂ ◌&&◌ fit (ap (joins_fit (later q) K d ps) same ∙ fits))

  -- at a node whose predecessors are ps
  module _ (ps : List ℕ) (h : (j : ℕ) → among ps j ≡ true → Is (table_at d j)) where
    at_few : Every Few (own_at K d ps) × (length (own_at K d ps) ≡ length ps - 1)
    unfolding own_at
    at_few = go ps h
      where
        go : (ps : List ℕ) → ((j : ℕ) → among ps j ≡ true → Is (table_at d j)) → Every Few (own_at K d ps) × (length (own_at K d ps) ≡ length ps - 1)
        go [] h = (tt, refl)
        go (p ∷ ps) h =
            let (t, rest) = first_and_others (λ j. Is (table_at d j)) p ps h in
            let (few, each) = joins_few ps _ rest t in
            (few, each ∙ omega arith)

    own_at_lem : (q : Entries) (F : Filled) → Has q (own_at K d ps) → (enter_by q K F d ps ≡ enter_by no_pairings K F d ps) × (enter_fits q K d ps ≡ true)
    unfolding own_at enter_of enter_fits_of
    own_at_lem q F has = go ps h has
      where
        go : (ps : List ℕ) → ((j : ℕ) → among ps j ≡ true → Is (table_at d j)) → Has q (own_at K d ps)
            → (enter_by q K F d ps ≡ enter_by no_pairings K F d ps) × (enter_fits q K d ps ≡ true)
        go [] h has = (refl, refl)
        go (p ∷ ps) h has = let (t, rest) = first_and_others (λ j. Is (table_at d j)) p ps h in own_joins_lem q ps _ rest t has

-- ---- node after node

module _ (i : Input) (ok : Checked i) where
  abbrev es : List Edge
  es = edges_of i.edges

  -- document 01's tables of the nodes before node j
  tables : (j : ℕ) → j < nodes i → (a : ℕ) → among (predecessors es j) a ≡ true
      → Table i.ways i.sets i.tracked i.limit (length i.accesses) (table_at (worked i j) a)
  tables j here a e =
      let a<j = (predecessor_lower i ok a j e).0 in
      rw (table_stays states no_pairings i j a a<j) (node_table_lem no_pairings i ok a (omega (arith, a<j)))

  abbrev own : ℕ → List (List Match)
  own j = own_at i.limit (worked i j) (predecessors es j)

  -- there is a walk for each join, of few rows
  own_form : (n : ℕ) → n ≤ nodes i → Every Few (own_pairings i n) × (length (own_pairings i n) ≡ joins_to es n)
  unfolding own_pairings joins_to
  own_form zero h = (tt, refl)
  own_form (suc j) h =
      let (few, each) = own_form j (omega arith) in
      let (few-here, each-here) = at_few i.ways i.sets i.tracked i.limit (length i.accesses) ok.some_states ok.few_states (worked i j) (predecessors es j) (tables j h) in
      (every_append Few (own_pairings i j) (own j) few few-here, length-append (own_pairings i j) (own j) ∙ ap₂ ◌+◌ each each-here)

  -- handed in, they are accepted, and the tables are document 01's
  own_nodes : (q : Entries) (n : ℕ) → n ≤ nodes i → Has q (own_pairings i n) → (worked_by q i n ≡ worked i n) × (all_fit q i n ≡ true)
  unfolding worked_of node_of all_fit_of own_pairings
  own_nodes q zero h has = (refl, refl)
  own_nodes q (suc j) h has =
      let (same, fit) = own_nodes q j (omega arith) earlier in
      let (enters, fits) = own_at_lem i.ways i.sets i.tracked i.limit (length i.accesses) ok.some_states ok.few_states (worked i j) ps (tables j h) entries (at_start i) here in
      let node : node_of states q i j (worked_by q i j) ≡ node_of states no_pairings i j (worked i j) = ap (node_of states q i j) same ∙ ap onward enters in
      (ap₂ grown same node, ap₂ ◌&&◌ fit (ap (λ (d : Worked). enter_fits entries i.limit d ps) same ∙ fits))
    where
      ps : List ℕ
      ps = predecessors es j

      entries : Entries
      entries = behind (joins_to es j) q

      onward : Work → Work
      onward w = run i.ways i.sets i.limit i.tracked (last_before (lasts_to i j) ps) (run_of i j) w

      grown : Worked → Work → Worked
      grown d w = record { tables = d.tables ++ (w.table ∷ []); aside = w.aside }

      both : length (own_pairings i j ++ own j) ≡ length (own_pairings i j) + length (own j)
      both = length-append (own_pairings i j) (own j)

      earlier : Has q (own_pairings i j)
      earlier m k = has m (omega (arith, both)) ∙ ap pairing (get_or-append (own_pairings i j) (own j) [] m k)

      here : Has entries (own j)
      here m k =
          ap (λ (n : ℕ). q (n + m)) (sym (own_form j (omega arith)).1)
          ∙ has (length (own_pairings i j) + m) (omega (arith, both))
          ∙ ap pairing (get_or-append-add (own_pairings i j) (own j) m [])

  abbrev handed : Entries
  handed = entry_of (own_counts i) (own_rows i)

  all_own : (worked_by handed i (nodes i) ≡ worked i (nodes i)) × (all_fit handed i (nodes i) ≡ true)
  all_own = let (few, each) = own_form (nodes i) (le_refl _) in own_nodes handed (nodes i) (le_refl _) (entries_told (own_pairings i (nodes i)) few)

  pub own_accepted : entries_fit i (own_counts i) (own_rows i) ≡ true
  unfolding entries_fit
  own_accepted =
      let (few, each) = own_form (nodes i) (le_refl _) in
      ap₂ ◌&&◌ (subst (λ (n : ℕ). in_form n (own_counts i) (own_rows i) ≡ true) each (form_told (own_pairings i (nodes i)) few)) all_own.1

  pub own_finished : finished_by handed i ≡ finished i
  unfolding finished_of
  own_finished = ap (λ (d : Worked). record { table = table_at d (nodes i - 1); aside = d.aside }) all_own.0

-- ---- the answer, refusals too

pub own_answered : (i : Input) → paired_outcome i (own_counts i) (own_rows i) ≡ outcome i
unfolding paired_outcome outcome
own_answered i = go (verdict i) refl
  where
    q : Entries
    q = entry_of (own_counts i) (own_rows i)

    go : (v : Verdict) → verdict i ≡ v → paired_answered (paired_verdict i (own_counts i) (own_rows i)) i q ≡ answered (verdict i) i
    go (Ok tt) e =
        let ok = checked i (sym e) in
        rw (paired_judged i (own_counts i) (own_rows i) true e (own_accepted i ok), e)
        (ap (λ (w : Work). Ok (record { states = length w.table; aside = units w.aside })) (own_finished i ok))
    go (Err r) e = rw (paired_refused i (own_counts i) (own_rows i) r e, e) refl
