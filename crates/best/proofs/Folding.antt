-- Folding a table: how the search for a state's partner goes from place to place among the others, by `Nearness`, and that taking out the two and putting in what they become is
-- a fold. What is the same for every kind of table is in tables/proofs/Folding. Tables are the first n states of a list.
use mathlib.Core.Path.{◌≡◌, refl, sym, ap, ap₂, ◌∙◌}
use mathlib.Core.Bool.{Bool, true, false, cond}
use mathlib.Core.List.{List, [], ◌∷◌}
use Prim.Native.Nat.{ℕ, suc, ◌+◌, ◌-◌, ◌≤◌, ◌<◌}
use native.Mathlib.Nat.{le_antisymm}
use native.Mathlib.Omega.{arith}
use lib.Dec.{ltb}
use lib.ListN.{length, take}
use lib.Seq.{get_or-take, length-take-le}
use borrow.Author.Tests.{lt-ltb, le-ltb, eq-eqb, ne_eqb}
use Rattle.rules.specs.declared.BestState.{BestState}
use Rattle.rules.specs.declared.Pair.{Pair}
use Rattle.rules.specs.declared.Units.{Units}
use Rattle.rules.specs.Units.{more, add_of}
use Rattle.rules.specs.Ordered.{remove, best}
use Rattle.rules.specs.AnyTable.{choice as choice_any, fold as fold_any, fold_at as fold_at_any}
use Rattle.best.specs.Tables.{order, no_state, state_at, rising, add, work_of, fewer, closer, choice, meet, fold}
use Rattle.best.specs.declared.fold.Nearness.{Nearness}
use Rattle.best.specs.Choosing.{nearness_of, nearer}
use Rattle.rules.proofs.Lists.{length_remove}
use Rattle.rules.proofs.Ordered.{in_order_remove}
use Rattle.best.proofs.Laws.{rising_is, rising_so, first_of, second_of, others_of, meet_of}
use Rattle.best.specs.Placing.{Added}
use Rattle.best.specs.Rooms.{Stands}
use Rattle.tables.proofs.Folding.{other_within, Searched, search_turn, search_start, search_end, fewest_within, partner_within}
use Rattle.rules.specs.Best.{listing, kind}
use Rattle.rules.proofs.Partners.{others_at}

-- ---- its partner among the others

-- the tests of `closer` one after the other
module _ (a b : Nearness) where
  pub shares_more : b.shares < a.shares → true ≡ nearer a b
  shares_more l = rw (lt-ltb b.shares a.shares l)

  pub shares_fewer : a.shares < b.shares → false ≡ nearer a b
  shares_fewer l = rw (le-ltb b.shares a.shares (omega arith), ne_eqb b.shares a.shares (λ e. absurd (omega arith)))

  module _ (k : b.shares ≤ a.shares) (l : a.shares ≤ b.shares) where
    pub misses_nearer : a.misses < b.misses → true ≡ nearer a b
    misses_nearer m = rw (le-ltb b.shares a.shares l, eq-eqb b.shares a.shares (le_antisymm k l), lt-ltb a.misses b.misses m)

    pub misses_further : b.misses < a.misses → false ≡ nearer a b
    misses_further m =
        rw (
          le-ltb b.shares a.shares l,
          eq-eqb b.shares a.shares (le_antisymm k l),
          le-ltb a.misses b.misses (omega arith),
          ne_eqb a.misses b.misses (λ e. absurd (omega arith)),
        )

    pub by_hits : a.misses ≤ b.misses → b.misses ≤ a.misses → ltb a.hits b.hits ≡ nearer a b
    by_hits m n =
        rw (
          le-ltb b.shares a.shares l,
          eq-eqb b.shares a.shares (le_antisymm k l),
          le-ltb a.misses b.misses n,
          eq-eqb a.misses b.misses (le_antisymm m n),
        )

-- the search for the partner of s has come to place j of the states R; the best so far, at place k, is so near
pub record Nearest (s : BestState) (R : List BestState) (k : ℕ) (near : Nearness) (j : ℕ) : Type 0 where
  pub search : Searched listing (closer s) R k j
  pub near_is : near ≡ nearness_of s (state_at R k)

-- R are the others than the one at place i
module _ (T : List BestState) (n : ℕ) (room : n ≤ length T) (i : ℕ) (among : i < n) (s : BestState) where
  abbrev R : List BestState
  R = remove i (take n T)

  long : suc (length R) ≡ n
  long = length_remove i (take n T) (omega (arith, length-take-le n T room)) ∙ length-take-le n T room

  -- t is the state at place j of the others, which stands at place p of the table
  module _ (j p : ℕ) (t : BestState) (l : suc j < n) (e : p ≡ cond (ltb j i) j (suc j)) (d : t ≡ state_at T p) where
    other : t ≡ state_at R j
    other = d ∙ sym (others_at no_state i j (take n T) ∙ rw (← e) (get_or-take n T p no_state (other_within i j p n e l)))

    -- b says whether it is better than the best so far; t is so near as y says
    module _ (k : ℕ) (near y : Nearness) (b : Bool) (is : y ≡ nearness_of s t) (q : b ≡ nearer y near) (h : Nearest s R k near j) where
      partner_turn : (d : Bool) → b ≡ d → Searched listing (closer s) R (cond d j k) (j + 1)
      partner_turn d c = search_turn listing (closer s) R k j d (omega (arith, long)) (rw (← other) (sym (ap₂ nearer is h.near_is) ∙ sym q ∙ c)) h.search

      pub partner_closer : b ≡ true → Nearest s R j y (j + 1)
      partner_closer c = record { search = partner_turn true c; near_is = is ∙ ap (nearness_of s) other }

      pub partner_other : b ≡ false → Nearest s R k near (j + 1)
      partner_other c = record { search = partner_turn false c; near_is = h.near_is }

  pub partner_start : (p : ℕ) (t : BestState) (y : Nearness) → 1 < n → p ≡ cond (ltb 0 i) 0 1 → t ≡ state_at T p → y ≡ nearness_of s t → Nearest s R 0 y 1
  partner_start p t y l e d is =
      record { search = search_start listing (closer s) R (omega (arith, long)); near_is = is ∙ ap (nearness_of s) (other 0 p t l e d) }

  pub partner_found : (k : ℕ) (near : Nearness) (j : ℕ) → j + 1 ≡ n → Nearest s R k near j → best (closer s) R ≡ k
  partner_found k near j e h = search_end listing (closer s) R k j (omega (arith, long)) h.search

-- the two searches find document 01's choice
pub choice_found : (T : List BestState) (n : ℕ) → n ≤ length T → (i : ℕ) → i < n → (k : ℕ) → best fewer (take n T) ≡ i
    → best (closer (state_at T i)) (remove i (take n T)) ≡ k → record { fewest = i; partner = k } ≡ choice (take n T)
unfolding choice_any
choice_found T n room i among k b h = rw (b, get_or-take n T i no_state among, h)

-- ---- one fold of the first n states: one state taken out, then the other, and the two together put in

module _ (T : List BestState) (n : ℕ) (room : n ≤ length T) (some : 2 ≤ n) (p : Pair) (chosen : p ≡ choice (take n T)) where
  -- T₁ is the list after the first was taken out, T₂ after the second
  module _ (T₁ T₂ : List BestState) (first : take (n - 1) T₁ ≡ remove p.fewest (take n T))
      (second : take (n - 1 - 1) T₂ ≡ remove p.partner (take (n - 1) T₁)) where
    left : take (n - 2) T₂ ≡ others_of p (take n T)
    left = let e : n - 2 ≡ n - 1 - 1 = omega arith in rw e (second ∙ ap (remove p.partner) first)

    pub rising_left : rising (take n T) ≡ true → rising (take (n - 2) T₂) ≡ true
    rising_left h =
        rw left
        (rising_is (others_of p (take n T))
        (in_order_remove order p.partner (remove p.fewest (take n T)) (in_order_remove order p.fewest (take n T) (rising_so (take n T) h))))

    -- s and t are the two, and m what they become
    module _ (s t m : BestState) (x : Units) (is-first : s ≡ state_at T p.fewest) (is-second : t ≡ state_at T₁ p.partner)
        (sum : x ≡ add_of s.units t.units) (both : m ≡ meet s t x.0) where
      first_there : s ≡ first_of p (take n T)
      first_there = is-first ∙ sym (get_or-take n T p.fewest no_state within)
        where
          within : p.fewest < n
          within = fewest_within kind (take n T) n (length-take-le n T room) some p chosen

      second_there : t ≡ second_of p (take n T)
      second_there =
          is-second
          ∙ sym (get_or-take (n - 1) T₁ p.partner no_state within)
          ∙ ap (λ (X : List BestState). state_at X p.partner) first
        where
          within : p.partner < n - 1
          within = partner_within kind (take n T) n (length-take-le n T room) some p chosen

      meet_there : m ≡ meet_of p (take n T)
      unfolding add_of
      meet_there = both ∙ rw (sum, second_there, first_there)

      pub fold_stands : (r : ℕ) (T' : List BestState) → Added (m ∷ []) (n - 2) r T₂ T' → Stands (fold (work_of (take n T))) r T'
      unfolding fold_any fold_at_any more
      fold_stands r T' h = record { count = h.count ∙ ap length table; table = h.table ∙ table; aside = refl }
        where
          table : add (m ∷ []) (take (n - 2) T₂) ≡ (fold (work_of (take n T))).table
          table = rw (meet_there, left, chosen)
