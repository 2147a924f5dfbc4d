-- A join, pair by pair: the pairs that the walk over what is left of two tables still gives, added to what the scratch holds, are the
-- whole join. Each turn of the loop takes the walk's next pair; when one table is used up there is none left. The walk is the same for
-- any number of steps that is enough, because each step uses up a state of one of the two tables. For any kind of table.
use mathlib.Core.Path.{◌≡◌, refl, sym, ap, ap₂, ◌∙◌}
use mathlib.Core.Bool.{Bool, true, false, cond}
use mathlib.Core.List.{List, [], ◌∷◌, map}
use Prim.Native.Nat.{ℕ, zero, suc, ◌+◌, ◌-◌, ◌*◌, ◌≤◌, ◌<◌, min}
use native.Mathlib.Nat.{le_refl}
use native.Mathlib.Numerals.{add-one}
use native.Mathlib.Omega.{arith}
use lib.Dec.{eqb}
use lib.ListN.{length, take, drop, length-take, drop_of_length-le, get_or-eq_default}
use lib.Seq.{drop-cons, get_or-drop, get_or-take}
use borrow.Author.Tests.{eq-eqb, ne_eqb}
use Rattle.rules.specs.Ordered.{rises, insert_all}
use Rattle.rules.specs.AnyTable.{Listing, Kind, Match, at as at_of, add, less, left_after, place_after, walk, from_front, matched, paired, join}
use Rattle.rules.specs.Fold.{states as state_kind}
use Rattle.rules.specs.Best.{kind as best_kind}
use Rattle.rules.proofs.Ordered.{in_order_rises, rises_in_order}
use Rattle.rules.proofs.Listings.{Lawful, rising_add, length_add_all, add_append}
use Rattle.rules.proofs.Table.{states_lawful}
use Rattle.rules.proofs.Best.{best_lawful}
use Rattle.rules.proofs.Pairings.{length_after}
use Rattle.words.specs.Tables.{table_of as state_of}
use Rattle.words.specs.BestTables.{table_of as best_of}
use Rattle.tables.specs.Rooms.{InScratch}
use Rattle.tables.specs.Fronts.{Front, front_at, front_after}
use Rattle.tables.proofs.Reading.{Reading, states_read, best_read, fits_table}
use Rattle.tables.proofs.Scratch.{stretch_kept, stretch_long}

module _ {A : Type 0} (states : Listing A) where
  open states use {units, having, none}

  abbrev state_at : List A → ℕ → A
  state_at T i = at_of states T i

  -- ---- the front that is read

  -- the state at a place of the m states at place from; past them there is none
  module _ (T : List A) (from m at : ℕ) where
    pub front_there : (s : A) → at < m → s ≡ state_at T (from + at) → record { place = at; state = s } ≡ front_at states (take m (drop from T)) at
    front_there s l e = rw (get_or-take m (drop from T) at none l, get_or-drop from T at none, e)

    pub front_none : m ≤ at → record { place = at; state = none } ≡ front_at states (take m (drop from T)) at
    front_none l = rw (get_or-eq_default (take m (drop from T)) none {n = at} (omega (arith, length-take m (drop from T))))

  -- the first state is used up, or some of its units are left
  module _ (S : List A) (u : ℕ) (f : Front A) where
    pub after_all : (r : Front A) → units f.state ≡ u → r ≡ front_at states S (f.place + 1) → r ≡ front_after states S u f
    after_all r e p = p ∙ rw (eq-eqb (units f.state) u e, add-one f.place)

    pub after_some : (units f.state ≡ u → ⊥) → record { place = f.place; state = less states f.state u } ≡ front_after states S u f
    after_some n = rw (ne_eqb (units f.state) u n)

  -- ---- what is left of one table

  -- a list with another first state, if it has one
  abbrev headed : A → List A → List A
  headed s [] = []
  headed s (t ∷ T) = s ∷ T

  -- the first state, with the units that are left of it, and the states behind it
  unfoldable pub left_of : Front A → List A → List A
  left_of f S = headed f.state (drop f.place S)

  -- nothing is used of the state at a place
  left_whole : (i : ℕ) (S : List A) → left_of (front_at states S i) S ≡ drop i S
  unfolding left_of
  left_whole zero [] = refl
  left_whole zero (s ∷ S) = refl
  left_whole (suc i) [] = refl
  left_whole (suc i) (s ∷ S) = left_whole i S

  left_some : (S : List A) (f : Front A) → f.place < length S → left_of f S ≡ f.state ∷ drop (suc f.place) S
  unfolding left_of
  left_some S f l = rw (drop-cons S f.place none l)

  left_none : (S : List A) (f : Front A) → length S ≤ f.place → left_of f S ≡ []
  unfolding left_of
  left_none S f l = rw (drop_of_length-le S {i = f.place} l)

  module _ (S : List A) (u : ℕ) (f : Front A) where
    left_after_lem : f.place < length S → left_of (front_after states S u f) S ≡ left_after states u f.state (drop (suc f.place) S)
    left_after_lem l = go (eqb (units f.state) u)
      where
        go : (b : Bool) → left_of (cond b (front_at states S (suc f.place)) (record { place = f.place; state = less states f.state u })) S
            ≡ cond b (drop (suc f.place) S) (less states f.state u ∷ drop (suc f.place) S)
        go true = left_whole (suc f.place) S
        go false = left_some S (record { place = f.place; state = less states f.state u }) l

    place_after_lem : (front_after states S u f).place ≡ place_after states u f.state f.place
    place_after_lem = go (eqb (units f.state) u)
      where
        go : (b : Bool) → (cond b (front_at states S (suc f.place)) (record { place = f.place; state = less states f.state u })).place ≡ cond b (suc f.place) f.place
        go true = refl
        go false = refl

  -- ---- the walk over what is left of both

  -- steps beyond those that are enough change nothing
  walk_enough : (n k i j : ℕ) (S T : List A) → length S + length T ≤ n → length S + length T ≤ k → walk states n i j S T ≡ walk states k i j S T
  unfolding walk
  walk_enough zero zero i j S T a b = refl
  walk_enough zero (suc k) i j [] T a b = refl
  walk_enough zero (suc k) i j (s ∷ S) T a b = absurd (omega arith)
  walk_enough (suc n) zero i j [] T a b = refl
  walk_enough (suc n) zero i j (s ∷ S) T a b = absurd (omega arith)
  walk_enough (suc n) (suc k) i j [] T a b = refl
  walk_enough (suc n) (suc k) i j (s ∷ S) [] a b = refl
  walk_enough (suc n) (suc k) i j (s ∷ S) (t ∷ T) a b =
      let u = min (units s) (units t) in
      let l : length (left_after states u s S) + length (left_after states u t T) ≤ length S + suc (length T) = length_after states s t S T in
      ap (record { left = i; right = j; units = u } ∷◌)
      (walk_enough n k (place_after states u s i) (place_after states u t j) (left_after states u s S) (left_after states u t T) (omega arith) (omega arith))

  -- there is no pair where one of them is used up
  walk_no_left : (n i j : ℕ) (T : List A) → walk states n i j [] T ≡ []
  unfolding walk
  walk_no_left zero i j T = refl
  walk_no_left (suc n) i j T = refl

  walk_no_right : (n i j : ℕ) (S : List A) → walk states n i j S [] ≡ []
  unfolding walk
  walk_no_right zero i j S = refl
  walk_no_right (suc n) i j [] = refl
  walk_no_right (suc n) i j (s ∷ S) = refl

  -- the pairs of what is left, S and T, from places i and j on
  abbrev pairs_from : ℕ → ℕ → List A → List A → List Match
  pairs_from i j S T = walk states (length S + length T) i j S T

  -- the first of them, and those of what is then left
  walk_next : (i j u : ℕ) (s t : A) (S T : List A) → u ≡ min (units s) (units t)
      → pairs_from i j (s ∷ S) (t ∷ T)
      ≡ record { left = i; right = j; units = u } ∷ pairs_from (place_after states u s i) (place_after states u t j) (left_after states u s S) (left_after states u t T)
  unfolding walk
  walk_next i j u s t S T e =
      let steps : suc (length S) + suc (length T) ≡ suc (length S + suc (length T)) = omega arith in
      ap (λ (n : ℕ). walk states n i j (s ∷ S) (t ∷ T)) steps
      ∙ rw e (ap (record { left = i; right = j; units = min (units s) (units t) } ∷◌)
      (walk_enough (length S + suc (length T)) _ _ _ _ _ (length_after states s t S T) (le_refl _)))

  -- the pairs that are still to come
  abbrev pub to_come : Front A → Front A → List A → List A → List Match
  to_come a b S T = pairs_from a.place b.place (left_of a S) (left_of b T)

  -- how many states are left
  abbrev pub states_left : Front A → Front A → List A → List A → ℕ
  states_left a b S T = length (left_of a S) + length (left_of b T)

-- a kind of table as it lies in words: a lawful listing, what two states become in a join does not look at their units, and five words a state
pub record InWords {A : Type 0} (kind : Kind A) (table_of : List ℕ → List A) : Type 0 where
  pub laws : Lawful kind.listing
  pub again : (s : A) (u v : ℕ) → kind.listing.having (kind.listing.having s u) v ≡ kind.listing.having s v
  pub joined : (s t : A) (u : ℕ) → kind.listing.having (kind.joins (kind.listing.having s 0) (kind.listing.having t 0)) u ≡ kind.listing.having (kind.joins s t) u
  pub reads : Reading table_of

-- document 01's, and the best case's
pub states_in_words : InWords state_kind state_of
states_in_words = record { laws = states_lawful; again = λ s u v. refl; joined = λ s t u. refl; reads = states_read }

pub best_in_words : InWords best_kind best_of
best_in_words = record { laws = best_lawful; again = λ s u v. refl; joined = λ s t u. refl; reads = best_read }

-- the two tables stand in the slots, and behind those there is room for their join
abbrev pub InSlots : ℕ → ℕ → ℕ → ℕ → List ℕ → Type 0
InSlots left m right k ws = (m ≤ 64) × (k ≤ 64) × (left + m ≤ 4096) × (right + k ≤ 4096) × (25920 ≤ length ws)

-- the m states from place i on
abbrev pub states_at : {A : Type 0} → (List ℕ → List A) → ℕ → ℕ → List ℕ → List A
states_at table_of i m ws = take m (drop i (table_of ws))

module _ {A : Type 0} {kind : Kind A} {table_of : List ℕ → List A} (given : InWords kind table_of) where
  open kind use {joins}
  open kind.listing use {units, having, order}

  abbrev states : Listing A
  states = kind.listing

  -- its first state is the table's state at that place, but for the units
  abbrev pub Like : Front A → List A → Type 0
  Like f S = having f.state 0 ≡ having (state_at states S f.place) 0

  like_after : (S : List A) (u : ℕ) (f : Front A) → Like f S → Like (front_after states S u f) S
  like_after S u f h = go (eqb (units f.state) u)
    where
      go : (b : Bool) → Like (cond b (front_at states S (suc f.place)) (record { place = f.place; state = less states f.state u })) S
      go true = refl
      go false = given.again f.state (units f.state - u) 0 ∙ h

  -- ---- the loop, on lists

  -- the n states X are there so far; with the pairs that are still to come they are the join
  pub record SoFar (S T : List A) (a b : Front A) (n : ℕ) (X : List A) : Type 0 where
    pub left_like : Like a S
    pub right_like : Like b T
    pub count : n ≡ length X
    pub few : n + states_left states a b S T ≤ length S + length T
    pub in_order : rises order X ≡ true
    pub whole : add states (map (matched kind S T) (to_come states a b S T)) X ≡ join kind S T

  so_far_none : (S T : List A) (a b : Front A) → a ≡ front_at states S 0 → b ≡ front_at states T 0 → SoFar S T a b 0 []
  unfolding join paired from_front
  so_far_none S T a b p q = rw (p, q) start
    where
      start : SoFar S T (front_at states S 0) (front_at states T 0) 0 []
      start =
          record {
            left_like = refl;
            right_like = refl;
            count = refl;
            few = omega (arith, ap length (left_whole states 0 S), ap length (left_whole states 0 T));
            in_order = refl;
            whole = rw (left_whole states 0 S, left_whole states 0 T);
          }

  module _ {S T : List A} {a b : Front A} {n : ℕ} {X : List A} (g : SoFar S T a b n X) where
    none_to_come : to_come states a b S T ≡ [] → X ≡ join kind S T
    unfolding add insert_all
    none_to_come e = ap (λ (P : List Match). add states (map (matched kind S T) P) X) (sym e) ∙ g.whole

    left_used_up : length S ≤ a.place → X ≡ join kind S T
    left_used_up l = none_to_come (rw (left_none states S a l) (walk_no_left states _ _ _ _))

    right_used_up : length T ≤ b.place → X ≡ join kind S T
    right_used_up l = none_to_come (rw (left_none states T b l) (walk_no_right states _ _ _ _))

    module _ (l : a.place < length S) (k : b.place < length T) where
      few_yet : n + 2 ≤ length S + length T
      few_yet = omega (arith, g.few, ap length (left_some states S a l), ap length (left_some states T b k))

      module _ (a' b' : Front A) (u : ℕ) (e : u ≡ min (units a.state) (units b.state)) (p : a' ≡ front_after states S u a) (q : b' ≡ front_after states T u b) where
        -- what is left then
        left_then : left_of states a' S ≡ left_after states u a.state (drop (suc a.place) S)
        left_then = ap (λ (f : Front A). left_of states f S) p ∙ left_after_lem states S u a l

        right_then : left_of states b' T ≡ left_after states u b.state (drop (suc b.place) T)
        right_then = ap (λ (f : Front A). left_of states f T) q ∙ left_after_lem states T u b k

        fewer_left : states_left states a' b' S T < states_left states a b S T
        fewer_left =
            rw (left_then, right_then, left_some states S a l, left_some states T b k, e)
            (omega (arith, length_after states a.state b.state (drop (suc a.place) S) (drop (suc b.place) T)))

        -- the pair that is taken was the next to come
        next_pair : to_come states a b S T ≡ record { left = a.place; right = b.place; units = u } ∷ to_come states a' b' S T
        next_pair =
            rw (left_then, right_then, left_some states S a l, left_some states T b k, ap (λ (f : Front A). f.place) p ∙ place_after_lem states S u a, ap (λ (f : Front A). f.place) q ∙ place_after_lem states T u b)
            (walk_next states a.place b.place u a.state b.state _ _ e)

        -- the pair's state, added
        so_far_more : (s : A) (r : ℕ) (X' : List A) → s ≡ having (joins a.state b.state) u → r ≡ length X' → X' ≡ add states (s ∷ []) X → SoFar S T a' b' r X'
        so_far_more s r X' h c d =
            record {
              left_like = rw p (like_after S u a g.left_like);
              right_like = rw q (like_after T u b g.right_like);
              count = c;
              few = omega (arith, g.few, g.count, fewer_left, ap length d, length_add_all states (s ∷ []) X);
              in_order = rw d (in_order_rises order (add states (s ∷ []) X) (rising_add states given.laws (s ∷ []) X (rises_in_order order given.laws.onward X g.in_order)));
              whole = rw d (sym (add_append states (s ∷ []) (map (matched kind S T) (to_come states a' b' S T)) X) ∙ ap (λ (Y : List A). add states Y X) is ∙ g.whole);
            }
          where
            is : s ∷ map (matched kind S T) (to_come states a' b' S T) ≡ map (matched kind S T) (to_come states a b S T)
            is = rw next_pair (ap (◌∷ map (matched kind S T) (to_come states a' b' S T)) (h ∙ sym (given.joined a.state b.state u) ∙ ap₂ (λ (s t : A). having (joins s t) u) g.left_like g.right_like ∙ given.joined _ _ u))

  -- ---- the loop, in the lent words

  -- the words vs, which were ws: the slots are as they were, and the scratch behind them holds the n states that are there so far
  pub record Underway (left m right k : ℕ) (ws vs : List ℕ) (n : ℕ) (a b : Front A) : Type 0 where
    pub long : length vs ≡ length ws
    pub slots : take 4096 (table_of vs) ≡ take 4096 (table_of ws)
    pub so_far : SoFar (states_at table_of left m ws) (states_at table_of right k ws) a b n (take n (drop 4096 (table_of vs)))

  pub underway_none : (left m right k : ℕ) (ws : List ℕ) (a b : Front A) → a ≡ front_at states (states_at table_of left m ws) 0 → b ≡ front_at states (states_at table_of right k ws) 0
      → Underway left m right k ws ws 0 a b
  underway_none left m right k ws a b p q = record { long = refl; slots = refl; so_far = so_far_none _ _ a b p q }

  module _ {left m right k : ℕ} {ws vs : List ℕ} {n : ℕ} {a b : Front A} (g : Underway left m right k ws vs n a b) (h : InSlots left m right k ws) where
    lefts : length (states_at table_of left m ws) ≡ m
    lefts = stretch_long left m (table_of ws) (omega (arith, fits_table given.reads ws 4096 (omega arith)))

    rights : length (states_at table_of right k ws) ≡ k
    rights = stretch_long right k (table_of ws) (omega (arith, fits_table given.reads ws 4096 (omega arith)))

    -- where one of the tables is used up, what is there is the join
    joined : take n (drop 4096 (table_of vs)) ≡ join kind (states_at table_of left m ws) (states_at table_of right k ws)
        → InScratch (join kind (states_at table_of left m ws) (states_at table_of right k ws)) n (table_of ws) (table_of vs)
    joined e = record { count = g.so_far.count ∙ ap length e; table = e; slots = g.slots }

    pub underway_left : m ≤ a.place → InScratch (join kind (states_at table_of left m ws) (states_at table_of right k ws)) n (table_of ws) (table_of vs)
    underway_left l = joined (left_used_up g.so_far (omega (arith, lefts)))

    pub underway_right : k ≤ b.place → InScratch (join kind (states_at table_of left m ws) (states_at table_of right k ws)) n (table_of ws) (table_of vs)
    underway_right l = joined (right_used_up g.so_far (omega (arith, rights)))

    -- a turn takes one more pair
    module _ (l : a.place < m) (r : b.place < k) where
      in_left : a.place < length (states_at table_of left m ws)
      in_left = omega (arith, lefts)

      in_right : b.place < length (states_at table_of right k ws)
      in_right = omega (arith, rights)

      -- there is room for it, and what is there is in order
      pub room_for_one : (20480 + n * 5 + 5 ≤ length vs) × (rises order (take n (drop 4096 (table_of vs))) ≡ true)
      room_for_one = (omega (arith, g.long, lefts, rights, few_yet g.so_far in_left in_right), g.so_far.in_order)

      -- the words vs' afterwards, with the pair's state s added in the scratch
      module _ (s : A) (n' : ℕ) (vs' : List ℕ) (same : length vs' ≡ length vs)
          (added : InScratch (add states (s ∷ []) (take n (drop 4096 (table_of vs)))) n' (table_of vs) (table_of vs'))
          (u : ℕ) (e : u ≡ min (units a.state) (units b.state)) where
        -- the tables still stand there, and no more units are used than are left
        pub left_stays : ((left + m) * 5 ≤ length vs') × (a.place < m) × (u ≤ units a.state)
        left_stays = (omega (arith, g.long, same), l, omega arith)

        pub right_stays : ((right + k) * 5 ≤ length vs') × (b.place < k) × (u ≤ units b.state)
        right_stays = (omega (arith, g.long, same), r, omega arith)

        module _ (a' b' : Front A) (is-left : a' ≡ front_after states (states_at table_of left m vs') u a) (is_right : b' ≡ front_after states (states_at table_of right k vs') u b) where
          -- the fronts of the tables as they were
          slots_then : take 4096 (table_of vs') ≡ take 4096 (table_of ws)
          slots_then = added.slots ∙ g.slots

          left_front : a' ≡ front_after states (states_at table_of left m ws) u a
          left_front = is-left ∙ ap (λ (S : List A). front_after states S u a) (stretch_kept left m 4096 (table_of ws) _ (omega arith) slots_then)

          right_front : b' ≡ front_after states (states_at table_of right k ws) u b
          right_front = is_right ∙ ap (λ (S : List A). front_after states S u b) (stretch_kept right k 4096 (table_of ws) _ (omega arith) slots_then)

          pub underway_falls : states_left states a' b' (states_at table_of left m ws) (states_at table_of right k ws) < states_left states a b (states_at table_of left m ws) (states_at table_of right k ws)
          underway_falls = fewer_left g.so_far in_left in_right a' b' u e left_front right_front

          pub underway_more : s ≡ having (joins a.state b.state) u → Underway left m right k ws vs' n' a' b'
          underway_more is =
              record {
                long = same ∙ g.long;
                slots = slots_then;
                so_far = so_far_more g.so_far in_left in_right a' b' u e left_front right_front s n' _ is (added.count ∙ ap length (sym added.table)) added.table;
              }
