-- What becomes of a run that evicts, put to a table. All of it has the same contents and stands in order. So the place where a state belongs is behind that of the one that came
-- before it, or is one where the same state stands, wherever that was found; and where all contents of the table are lower, adding the states one by one lays them behind it.
use mathlib.Core.Path.{◌≡◌, refl, sym, ap, ap₂, ◌∙◌, subst}
use mathlib.Core.Logic.{◌≢◌, inl, inr}
use mathlib.Core.Bool.{Bool, true, false, cond, true≢false}
use mathlib.Core.List.{List, [], ◌∷◌, ◌++◌, append_assoc, append-nil}
use Prim.Native.Nat.{ℕ, zero, suc, ◌+◌, ◌*◌, ◌≤◌, ◌<◌}
use native.Mathlib.Nat.{le_of_suc-le-suc, le_of_lt}
use native.Mathlib.Numerals.{add-one}
use native.Mathlib.Omega.{arith}
use lib.Dec.{eqb}
use lib.ListN.{length, get_or, set, take, drop, length-append, length-drop, take-append-drop}
use lib.Seq.{take_all, take-set-le, take-suc-set, drop-set-add, get_or-take, get_or-drop, length-take-le}
use borrow.Author.Tests.{lt-ltb, ne_eqb, eqb-true, eqb-false}
use Rattle.rules.specs.declared.State.{State}
use Rattle.rules.specs.Ordered.{Order, before, same, after, insert}
use Rattle.rules.specs.Shape.{Every}
use Rattle.rules.specs.Table.{listing, state, units_of, order, plus, present, rising, add, no_state, state_at}
use Rattle.rules.specs.Units.{whole}
use Rattle.rules.proofs.Lists.{every_append, every_at, every_weaker}
use Rattle.rules.proofs.Ordered.{turned, state_orders}
use Rattle.rules.proofs.Partners.{in_order_at}
use Rattle.rules.proofs.Table.{states_lawful, Rising, rising_so, add_append, length_present_append}
use Rattle.words.specs.Tables.{table_of}
use Rattle.words.proofs.Tables.{row_at}
use Rattle.tables.proofs.Following.{take_next}
use Rattle.tables.proofs.Insertion.{is_same_lem, seek_end, put_same, passed_next, place_below}
use Rattle.tables.proofs.Scratch.{stretch_long, slot_reads}
use Rattle.estimate.specs.Placing.{is_after, is_same, place_of, Passed, Inserted}
use Rattle.estimate.specs.Rooms.{InScratch}
use Rattle.estimate.specs.Sharing.{share_of, share, sharing, Reaches}
use Rattle.estimate.proofs.Adding.{add_nothing, add_gone}
use Rattle.estimate.proofs.Deciding.{less_held}
use Rattle.estimate.proofs.Runs.{add_some, state_has}

-- ---- the words of a state in the scratch

-- the state whose five words begin at word b
abbrev pub words_at : List ℕ → ℕ → State
words_at ws b = state (get_or ws b 0) (get_or ws (b + 1) 0) (record { front = get_or ws (b + 2) 0; back = get_or ws (b + 3) 0 }) (get_or ws (b + 4) 0)

pub scratch_row : (ws : List ℕ) (i : ℕ) → 20480 + i * 5 + 5 ≤ length ws → state_at (drop 4096 (table_of ws)) i ≡ words_at ws (20480 + i * 5)
scratch_row ws i l = get_or-drop 4096 (table_of ws) i no_state ∙ row_at ws (4096 + i) no_state (omega (arith, l)) ∙ ap (words_at ws) there
  where
    there : (4096 + i) * 5 ≡ 20480 + i * 5
    there = omega arith

fifth_units : (i : ℕ) → suc i * 5 + 4 ≡ suc (suc (suc (suc (suc (i * 5 + 4)))))
fifth_units i = omega arith

-- the last word of a state is its units
table_units : (ws : List ℕ) (i v : ℕ) → i * 5 + 5 ≤ length ws → table_of (set ws (i * 5 + 4) v) ≡ set (table_of ws) i (listing.having (state_at (table_of ws) i) v)
unfolding table_of
table_units [] i v h = absurd (omega arith)
table_units (a ∷ []) i v h = absurd (omega arith)
table_units (a ∷ b ∷ []) i v h = absurd (omega arith)
table_units (a ∷ b ∷ c ∷ []) i v h = absurd (omega arith)
table_units (a ∷ b ∷ c ∷ d ∷ []) i v h = absurd (omega arith)
table_units (a ∷ b ∷ c ∷ d ∷ e ∷ ws) zero v h = refl
table_units (a ∷ b ∷ c ∷ d ∷ e ∷ ws) (suc i) v h = rw (fifth_units i) (ap (λ (T : List State). state a b (record { front = c; back = d }) e ∷ T) (table_units ws i v (omega arith)))

pub scratch_units : (ws : List ℕ) (i v : ℕ) → 20480 + i * 5 + 5 ≤ length ws
    → table_of (set ws (20484 + i * 5) v) ≡ set (table_of ws) (4096 + i) (listing.having (state_at (drop 4096 (table_of ws)) i) v)
scratch_units ws i v l =
    ap (λ (b : ℕ). table_of (set ws b v)) there
    ∙ table_units ws (4096 + i) v (omega (arith, l))
    ∙ ap (λ (s : State). set (table_of ws) (4096 + i) (listing.having s v)) (sym (get_or-drop 4096 (table_of ws) i no_state))
  where
    there : 20484 + i * 5 ≡ (4096 + i) * 5 + 4
    there = omega arith

-- ---- a state that is met

-- where one of the first n states stands in the same place, that is the place
pub met_place : (s : State) (n : ℕ) (T : List State) → n ≤ length T → rising (take n T) ≡ true → (i : ℕ) → i < n → is_same (order s (state_at T i)) ≡ true → i ≡ place_of s (take n T)
met_place s n T room h i l e =
    seek_end listing s n T room i (le_of_lt l)
    (λ j k.
    ap is_after (state_orders.like s (state_at (take n T) i) (state_at (take n T) j) here
    ∙ state_orders.turn (state_at (take n T) j) (state_at (take n T) i)
    ∙ ap turned (in_order_at order no_state (take n T) (rising_so (take n T) h) j i k (omega (arith, l, length-take-le n T room)))))
    (λ k. ap is_after here)
  where
    here : order s (state_at (take n T) i) ≡ same
    here = ap (order s) (get_or-take n T i no_state l) ∙ is_same_lem (order s (state_at T i)) e

-- the units of s, added to the state that is met in the scratch
pub scratch_met : (s : State) (n : ℕ) (W W' : List State) → 4096 + n ≤ length W → rising (take n (drop 4096 W)) ≡ true → (i : ℕ) → i < n → is_same (order s (state_at (drop 4096 W) i)) ≡ true
    → W' ≡ set W (4096 + i) (plus (state_at (drop 4096 W) i) s) → InScratch (insert order plus s (take n (drop 4096 W))) n W W' × (i ≡ place_of s (take n (drop 4096 W)))
scratch_met s n W W' room h i l e q =
    (record { count = put.count; table = put.table; slots = ap (take 4096) q ∙ take-set-le 4096 W (4096 + i) _ (omega arith) }, place)
  where
    long : n ≤ length (drop 4096 W)
    long = omega (arith, length-drop 4096 W, room)

    place : i ≡ place_of s (take n (drop 4096 W))
    place = met_place s n (drop 4096 W) long h i l e

    put : Inserted s n n (drop 4096 W) (drop 4096 W')
    put =
        put_same listing s n i (drop 4096 W) (drop 4096 W') long place (state_at (drop 4096 W) i) (plus (state_at (drop 4096 W) i) s) l e refl refl
        (ap (drop 4096) q ∙ drop-set-add 4096 W i _)

-- ---- states that come one by one

module _ (U : List State) where
  -- place p of X, where they have come to with the first i of them: all that are still to come stand behind it
  abbrev pub Onto : ℕ → List State → ℕ → Type 0
  Onto i X p = (p ≤ length X) × ((j : ℕ) → i ≤ j → j < length U → Passed (state_at U j) X p)

  -- at first, where the contents before that place are lower
  pub onto_start : (C : ℕ) → Every (λ u. u.mask ≡ C) U → (X : List State) (p : ℕ) → p ≤ length X → Every (λ t. t.mask < C) (take p X) → Onto 0 X p
  onto_start C c X p l h = (l, λ j a b q k. less_held (state_at U j) (state_at X q) (lt-ltb (state_at X q).mask (state_at U j).mask (lower j b q k)))
    where
      lower : (j : ℕ) → j < length U → (q : ℕ) → q < p → (state_at X q).mask < (state_at U j).mask
      lower j b q k =
          omega (
            arith,
            ap (λ (t : State). t.mask) (get_or-take p X q no_state k),
            state_has (λ t. t.mask < C) (take p X) q (omega (arith, k, length-take-le p X l)) h,
            state_has (λ u. u.mask ≡ C) U j b c,
          )

  pub onto_next : rising U ≡ true → (i : ℕ) (u : State) → i < length U → u ≡ state_at U i → (X : List State) (p q : ℕ) → Onto i X p → Reaches u X p q → Onto (i + 1) (add (u ∷ []) X) q
  onto_next h i u l e X p q o (inl r) = rw (add_gone u r.0 X, r.1) (o.0, λ j a b. o.1 j (omega (arith, a)) b)
  onto_next h i u l e X p q o (inr r) = rw (add_some u X r.0, r.1) (place_below listing u X, λ j a b. passed_next listing state_orders states_lawful u (state_at U j) (behind j a b) X)
    where
      behind : (j : ℕ) → i + 1 ≤ j → j < length U → order u (state_at U j) ≡ before
      behind j a b = ap (λ (v : State). order v (state_at U j)) e ∙ in_order_at order no_state U (rising_so U h) i j (omega (arith, a)) b

-- ---- states that are laid behind a table

present_append : (S T : List State) → present (S ++ T) ≡ present S ++ present T
present_append [] T = refl
present_append (s ∷ S) T = go (eqb (units_of s) 0) (present_append S T)
  where
    go : (b : Bool) → present (S ++ T) ≡ present S ++ present T → cond b (present (S ++ T)) (s ∷ present (S ++ T)) ≡ cond b (present S) (s ∷ present S) ++ present T
    go true h = h
    go false h = ap (s ∷◌) h

module _ (U : List State) where
  -- the first i of them, those that have units, behind X
  abbrev pub laid : List State → ℕ → List State
  laid X i = X ++ present (take i U)

  pub laid_none : (X : List State) → laid X 0 ≡ X
  laid_none X = append-nil X

  pub laid_next : (X : List State) (i : ℕ) (u : State) → i < length U → u ≡ state_at U i → laid X i ++ present (u ∷ []) ≡ laid X (i + 1)
  laid_next X i u l e =
      append_assoc X (present (take i U)) (present (u ∷ []))
      ∙ ap (λ (Y : List State). X ++ Y) (sym (present_append (take i U) (u ∷ [])) ∙ ap present (take_next listing U i u l e))

  pub laid_room : (X : List State) (i : ℕ) → length (laid X i) ≤ length (X ++ present U)
  laid_room X i =
      omega (
        arith,
        length-append X (present (take i U)),
        length-append X (present U),
        length_present_append (take i U) (drop i U),
        ap (λ (Y : List State). length (present Y)) (take-append-drop i U),
      )

  pub laid_all : (X : List State) (m : ℕ) → length U ≤ m → laid X m ≡ X ++ present U
  laid_all X m l = ap (λ (Y : List State). X ++ present Y) (take_all m U l)

insert_last : (u : State) (X : List State) → Every (λ t. order u t ≡ after) X → insert order plus u X ≡ X ++ (u ∷ [])
unfolding insert
insert_last u [] h = refl
insert_last u (t ∷ X) h = rw h.0 (ap (t ∷◌) (insert_last u X h.1))

-- which is what they are when they are added
add_behind : (U X : List State) → Rising U → Every (λ u. Every (λ t. order u t ≡ after) X) U → add U X ≡ X ++ present U
add_behind [] X h a = add_nothing X ∙ sym (append-nil X)
add_behind (u ∷ U) X h a = add_append (u ∷ []) U X ∙ go (eqb (units_of u) 0) refl (add_behind U X h.1 a.1) (add_behind U (X ++ (u ∷ [])) h.1 (further U h.0 a.1))
  where
    further : (Y : List State) → Every (λ v. order u v ≡ before) Y → Every (λ v. Every (λ t. order v t ≡ after) X) Y → Every (λ v. Every (λ t. order v t ≡ after) (X ++ (u ∷ []))) Y
    further [] p q = tt
    further (v ∷ Y) p q = (every_append (λ t. order v t ≡ after) X (u ∷ []) q.0 (state_orders.turn u v ∙ ap turned p.0, tt), further Y p.1 q.1)

    go : (b : Bool) → eqb (units_of u) 0 ≡ b → add U X ≡ X ++ present U → add U (X ++ (u ∷ [])) ≡ (X ++ (u ∷ [])) ++ present U → add U (add (u ∷ []) X) ≡ X ++ cond b (present U) (u ∷ present U)
    go true e p q = ap (add U) (add_gone u (eqb-true (units_of u) 0 e) X) ∙ p
    go false e p q = ap (add U) (add_some u X (eqb-false (units_of u) 0 e) ∙ insert_last u X a.0) ∙ q ∙ append_assoc X (u ∷ []) (present U)

is_after_lem : (o : Order) → is_after o ≡ true → o ≡ after
is_after_lem before e = absurd (true≢false (sym e))
is_after_lem same e = absurd (true≢false (sym e))
is_after_lem after e = refl

-- where all contents of the table are lower
pub laid_added : (C : ℕ) (U X : List State) → Every (λ u. u.mask ≡ C) U → rising U ≡ true → Every (λ t. t.mask < C) X → X ++ present U ≡ add U X
laid_added C U X c h l = sym (add_behind U X (rising_so U h) (every_weaker (λ u. u.mask ≡ C) (λ u. Every (λ t. order u t ≡ after) X) behind U c))
  where
    behind : (u : State) → u.mask ≡ C → Every (λ t. order u t ≡ after) X
    behind u e = every_weaker (λ t. t.mask < C) (λ t. order u t ≡ after) (λ t k. is_after_lem (order u t) (less_held u t (lt-ltb t.mask u.mask (omega (arith, k, e))))) X l

-- one state, laid behind those of the scratch
pub scratch_laid : (s : State) (n : ℕ) (W W' : List State) → units_of s ≢ 0 → 4096 + n < length W → W' ≡ set W (4096 + n) s → InScratch (take n (drop 4096 W) ++ present (s ∷ [])) (n + 1) W W'
scratch_laid s n W W' some room q =
    rw (ne_eqb (units_of s) 0 some) (record {
      count = sym (length-append (take n (drop 4096 W)) (s ∷ []) ∙ omega (arith, length-take-le n (drop 4096 W) (omega (arith, long))));
      table = rw (add-one n) (ap (take (suc n)) (ap (drop 4096) q ∙ drop-set-add 4096 W n s) ∙ take-suc-set (drop 4096 W) n s long);
      slots = ap (take 4096) q ∙ take-set-le 4096 W (4096 + n) s (omega arith);
    })
  where
    long : n < length (drop 4096 W)
    long = omega (arith, length-drop 4096 W, room)

-- for which there is room
pub laid_fits : (s : State) (n : ℕ) (W : List State) → units_of s ≢ 0 → 4096 + n ≤ length W → (b : ℕ) → 20480 + length (take n (drop 4096 W) ++ present (s ∷ [])) * 5 ≤ b → (4096 + n) * 5 + 5 ≤ b
laid_fits s n W some room b h = omega (arith, h, long)
  where
    long : length (take n (drop 4096 W) ++ present (s ∷ [])) ≡ n + 1
    long = rw (ne_eqb (units_of s) 0 some) (length-append (take n (drop 4096 W)) (s ∷ []) ∙ omega (arith, length-take-le n (drop 4096 W) (omega (arith, length-drop 4096 W, room))))

-- what is done to what the scratch holds
pub scratch_then : (f : List State → List State) (X : List State) (n : ℕ) (W₀ W : List State) → InScratch X n W₀ W → (r : ℕ) (W' : List State) → InScratch (f (take n (drop 4096 W))) r W W'
    → InScratch (f X) r W₀ W'
scratch_then f X n W₀ W g r W' h = record { count = h.count ∙ ap (λ (Y : List State). length (f Y)) g.table; table = h.table ∙ ap f g.table; slots = h.slots ∙ g.slots }

-- ---- what becomes of a run

module _ (C t : ℕ) where
  sharing_long : (S : List State) (Q : List ℕ) → length S ≡ length Q → length (sharing C t S Q) ≡ length S
  unfolding sharing
  sharing_long [] Q e = refl
  sharing_long (s ∷ S) [] e = absurd (omega (arith, e))
  sharing_long (s ∷ S) (q ∷ Q) e = ap suc (sharing_long S Q (omega (arith, e)))

  sharing_at : (S : List State) (Q : List ℕ) (i : ℕ) → i < length S → i < length Q → state_at (sharing C t S Q) i ≡ share_of C (state_at S i) (get_or Q i 0 * t)
  unfolding sharing share
  sharing_at [] Q i l k = absurd (omega (arith, l))
  sharing_at (s ∷ S) [] i l k = absurd (omega (arith, k))
  sharing_at (s ∷ S) (q ∷ Q) zero l k = refl
  sharing_at (s ∷ S) (q ∷ Q) (suc i) l k = sharing_at S Q i (le_of_suc-le-suc l) (le_of_suc-le-suc k)

  -- all have the same contents then
  sharing_contents : (S : List State) (Q : List ℕ) → Every (λ u. u.mask ≡ C) (sharing C t S Q)
  unfolding sharing share
  sharing_contents [] Q = tt
  sharing_contents (s ∷ S) [] = tt
  sharing_contents (s ∷ S) (q ∷ Q) = (refl, sharing_contents S Q)

-- the m states at place `from` of W₀, whose parts stand from place `start` on in ps
module _ (C t from m start : ℕ) (W₀ : List State) (ps : List ℕ) where
  abbrev run : List State
  run = take m (drop from W₀)

  abbrev parts : List ℕ
  parts = take m (drop start ps)

  -- what becomes of them
  abbrev pub shares_of : List State
  shares_of = sharing C t run parts

  pub shares_contents : Every (λ u. u.mask ≡ C) shares_of
  shares_contents = sharing_contents C t run parts

  pub part_fits : Every (λ q. q * t ≤ whole) parts → (i : ℕ) → i < m → get_or ps (start + i) 0 * t ≤ whole
  part_fits h i l = subst (λ (q : ℕ). q * t ≤ whole) (get_or-take m (drop start ps) i 0 l ∙ get_or-drop start ps i 0) (every_at (λ q. q * t ≤ whole) 0 (omega arith) i parts h)

  -- what is found of the i-th in W
  pub record Found (W : List State) (i : ℕ) : Type 0 where
    pub low : i < length shares_of
    pub share : share_of C (state_at W (from + i)) (get_or ps (start + i) 0 * t) ≡ state_at shares_of i
    pub misses : (state_at W (from + i)).misses ≤ 4095

  module _ (few : from + m ≤ 4096) (room : 4096 ≤ length W₀) (fits : start + m ≤ length ps) where
    run_long : length run ≡ m
    run_long = stretch_long from m W₀ (omega (arith, few, room))

    parts_long : length parts ≡ m
    parts_long = stretch_long start m ps fits

    pub shares_long : length shares_of ≡ m
    shares_long = sharing_long C t run parts (run_long ∙ sym parts_long) ∙ run_long

    -- also when some of them have come to the scratch
    pub found : Every (λ s. s.misses ≤ 4095) run → (X : List State) (n : ℕ) (W : List State) → InScratch X n W₀ W → (i : ℕ) → i < m → Found W i
    found h X n W g i l =
        record {
          low = omega (arith, l, shares_long);
          share = ap₂ (λ (s : State) (q : ℕ). share_of C s (q * t)) reads (sym (get_or-take m (drop start ps) i 0 l ∙ get_or-drop start ps i 0)) ∙ sym (sharing_at C t run parts i (omega (arith, l, run_long)) (omega (arith, l, parts_long)));
          misses = rw reads (every_at (λ s. s.misses ≤ 4095) no_state (omega arith) i run h);
        }
      where
        reads : state_at W (from + i) ≡ state_at run i
        reads = slot_reads listing X n W₀ W g from m i (state_at W (from + i)) l few refl
