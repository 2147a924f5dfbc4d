-- A run merged into a table, state by state. What becomes of its states in one stream stands in order, so that each stands behind the one that came before it, and after all
-- that stand before that one: the place where it belongs is sought from there on. At the end the table has all of the run; and run after run, stream after stream, it has the
-- access's successors.
use mathlib.Core.Path.{◌≡◌, refl, sym, ap, ◌∙◌, subst}
use mathlib.Core.Logic.{◌≢◌, ◌⊎◌, inl, inr}
use mathlib.Core.Bool.{Bool, true, false}
use mathlib.Core.List.{List, [], ◌∷◌, map}
use Prim.Native.Nat.{ℕ, zero, suc, ◌+◌, ◌*◌, ◌≤◌, ◌<◌}
use native.Mathlib.Nat.{le_of_suc-le-suc, le_trans, le_refl, le_of_eq}
use native.Mathlib.Omega.{arith}
use lib.ListN.{length, take, drop, length-drop}
use lib.Seq.{get_or-drop, get_or-take, length-take-le}
use borrow.Author.Tests.{ne_eqb, lt-ltb}
use Rattle.rules.specs.declared.Target.{Target}
use Rattle.rules.specs.declared.State.{State}
use Rattle.rules.specs.Contents.{hits, shared}
use Rattle.rules.specs.Ordered.{before, insert, insert_all}
use Rattle.rules.specs.Shape.{Every}
use Rattle.rules.specs.AnyTable.{add as add_any}
use Rattle.rules.specs.Table.{listing, units_of, order, rising, plus, add, no_state, state_at}
use Rattle.rules.proofs.Lists.{every_append, every_weaker}
use Rattle.rules.specs.Step.{successors, access}
use Rattle.rules.specs.Units.{whole}
use Rattle.estimate.specs.Following.{Workable}
use Rattle.rules.proofs.Ordered.{state_orders}
use Rattle.rules.proofs.Partners.{in_order_at}
use Rattle.rules.proofs.Table.{states_lawful, rising_so, add_append}
use Rattle.estimate.specs.Merging.{alone, part, in_all, comes, fills, InRun, Alike, Onward, Words}
use Rattle.estimate.specs.Placing.{place_of, Passed}
use Rattle.estimate.specs.Rooms.{InScratch}
use Rattle.estimate.proofs.Adding.{add_nothing, add_gone, add_none}
use Rattle.estimate.proofs.Deciding.{less_held}
use Rattle.tables.proofs.Following.{take_next, gathered_room, gathered_all}
use Rattle.tables.proofs.Insertion.{passed_next, place_below}
use Rattle.estimate.proofs.Following.{follows_few}
use Rattle.estimate.proofs.StreamOrder.{part_order}
use Rattle.estimate.proofs.StreamParts.{nothing_comes}
use Rattle.estimate.proofs.Streams.{access_streams}

pub add_some : (t : State) (T : List State) → units_of t ≢ 0 → add (t ∷ []) T ≡ insert order plus t T
unfolding add_any insert_all
add_some t T n = rw (ne_eqb (units_of t) 0 n)

-- one state, which is p
module _ (t p : State) (e : t ≡ p) (n : units_of p ≢ 0) (X : List State) where
  pub next_room : (b : ℕ) → 20480 + length (add (p ∷ []) X) * 5 ≤ b → 20480 + length (insert order plus t X) * 5 ≤ b
  next_room b l = rw e (subst (λ (Y : List State). 20480 + length Y * 5 ≤ b) (add_some p X n) l)

  pub next_put : (r : ℕ) (T T' : List State) → InScratch (insert order plus t X) r T T' → InScratch (add (p ∷ []) X) r T T'
  next_put r T T' h = subst (λ (Y : List State). InScratch Y r T T') (ap (λ (u : State). insert order plus u X) e ∙ sym (add_some p X n)) h

  pub next_at : (a : ℕ) → a ≡ suc (place_of t X) → a ≡ suc (place_of p X)
  next_at a h = h ∙ ap (λ (u : State). suc (place_of u X)) e

-- what holds of all holds of one
pub state_has : (P : State → Type 0) (S : List State) (i : ℕ) → i < length S → Every P S → P (state_at S i)
state_has P [] i l h = absurd (omega arith)
state_has P (s ∷ S) zero l h = h.0
state_has P (s ∷ S) (suc i) l h = state_has P S i (le_of_suc-le-suc l) h.1

-- the states from a place on that have a property, and one more
pub run_more : (P : State → Type 0) (T : List State) (from i : ℕ) (s : State) → from + i < length T → s ≡ state_at T (from + i) → P s → Every P (take i (drop from T))
    → Every P (take (i + 1) (drop from T))
run_more P T from i s l e p h =
    subst (λ (S : List State). Every P S) (take_next listing (drop from T) i s (omega (arith, length-drop from T)) (e ∙ sym (get_or-drop from T i no_state)))
    (every_append P (take i (drop from T)) (s ∷ []) h (p, tt))

module _ (N : ℕ) (x : Target) (k : ℕ) (S : List State) where
  -- one of the first i states was the last that came, and all of T before place `at` stands before what stands behind it
  pub record Behind (i : ℕ) (T : List State) (at : ℕ) : Type 0 where
    pub last : ℕ
    pub lower : last < i
    pub words : Words (state_at S last)
    pub some : units_of (part N x k (state_at S last)) ≢ 0
    pub passes : (u : State) → order (part N x k (state_at S last)) u ≡ before → Passed u T at

  -- the contents of all of T before place `at` are below those that the run comes to
  abbrev pub Below : List State → ℕ → Type 0
  Below T at = Every (λ s. Every (λ t. t.mask < (part N x k s).mask) (take at T)) S

  -- the place in T that the run has come to
  abbrev pub To : ℕ → List State → ℕ → Type 0
  To i T at = (at ≤ length T) × (Below T at ⊎ Behind i T at)

  pub to_start : (T : List State) (at : ℕ) → at ≤ length T → Below T at → To 0 T at
  to_start T at l b = (l, inl b)

  module _ (few : N ≤ 16) (near : x.set < 16) (i : ℕ) (T : List State) (at : ℕ) (to : To i T at) where
    -- a state of which nothing comes
    pub to_stay : (T' : List State) → T' ≡ T → To (i + 1) T' at
    to_stay T' e = rw e (to.0, go to.1)
      where
        go : Below T at ⊎ Behind i T at → Below T at ⊎ Behind (i + 1) T at
        go (inl z) = inl z
        go (inr b) = inr (record { last = b.last; lower = omega (arith, b.lower); words = b.words; some = b.some; passes = b.passes })

    module _ (s : State) (l : i < length S) (e : s ≡ state_at S i) (w : Words s) (n : units_of (part N x k s) ≢ 0) where
      -- what comes next belongs to that place, or further on
      pub to_passes : rising S ≡ true → Passed (part N x k s) T at
      to_passes h = go to.1
        where
          go : Below T at ⊎ Behind i T at → Passed (part N x k s) T at
          go (inl z) = λ j m.
              less_held (part N x k s) (state_at T j) (lt-ltb _ _ (subst (λ (t : State). t.mask < (part N x k s).mask) (get_or-take at T j no_state m)
              (state_has (λ t. t.mask < (part N x k s).mask) (take at T) j (omega (arith, m, length-take-le at T to.0))
              (subst (λ (u : State). Every (λ t. t.mask < (part N x k u).mask) (take at T)) (sym e) (state_has (λ u. Every (λ t. t.mask < (part N x k u).mask) (take at T)) S i l z)))))
          go (inr b) =
              b.passes (part N x k s)
              (part_order N few x near k (state_at S b.last) s b.words w b.some n
              ∙ ap (order (state_at S b.last)) e ∙ in_order_at order no_state S (rising_so S h) b.last i b.lower l)

      -- and then the run has come to the place behind it
      pub to_next : (T' : List State) (at' : ℕ) → T' ≡ insert order plus (part N x k s) T → at' ≡ suc (place_of (part N x k s) T) → To (i + 1) T' at'
      to_next T' at' p q = rw (p, q)
          (place_below listing (part N x k s) T, inr (record { last = i; lower = omega arith; words = rw (← e) w; some = rw (← e) n; passes = rw (← e) (λ u o. passed_next listing state_orders states_lawful (part N x k s) u o T) }))

    -- with whatever comes of a state
    pub to_on : (Z : List State) → Z ≡ T → (s : State) → i < length S → s ≡ state_at S i → (at' : ℕ) → Onward N x k s Z at at' → To (i + 1) (add (part N x k s ∷ []) T) at'
    to_on Z z s l e at' (inl h) = rw h.1 (to_stay (add (part N x k s ∷ []) T) (add_gone (part N x k s) h.0 T))
    to_on Z z s l e at' (inr h) =
        to_next s l e h.1 h.0 (add (part N x k s ∷ []) T) at' (add_some (part N x k s) T h.0) (h.2 ∙ ap (λ (U : List State). suc (place_of (part N x k s) U)) z)

-- ---- all streams of a run

-- what a run's states have in common tells whether a stream has anything of them
pub run_comes : (N : ℕ) (x : Target) (h f : Bool) (E k : ℕ) (some : Bool) → some ≡ comes h f E k → (S : List State) → Every (Alike N x h f E) S
    → Every (λ s. comes (hits x s.mask) (fills N x s) (shared s.mask x.mates) k ≡ some) S
run_comes N x h f E k some e [] a = tt
run_comes N x h f E k some e (s ∷ S) a = (rw (a.0.0, a.0.1, a.0.2, e) refl, run_comes N x h f E k some e S a.1)

-- and the mask and the empty way tell what they have in common
pub run_alike : (N : ℕ) (x : Target) (C : ℕ) (f h : Bool) (E : ℕ) → h ≡ hits x C → E ≡ shared C x.mates → (S : List State) → Every (InRun N x C f) S → Every (Alike N x h f E) S
run_alike N x C f h E p q [] a = tt
run_alike N x C f h E p q (s ∷ S) a =
    ((ap (hits x) a.0.0 ∙ sym p, a.0.1, ap (λ (D : ℕ). shared D x.mates) a.0.0 ∙ sym q), run_alike N x C f h E p q S a.1)

-- where the stream has nothing of them, nothing comes
pub run_none : (N : ℕ) (x : Target) (k : ℕ) (S X : List State) → Every (λ s. comes (hits x s.mask) (fills N x s) (shared s.mask x.mates) k ≡ false) S
    → add (map (part N x k) S) X ≡ X
run_none N x k S X a =
    add_none (part N x k) S
    (every_weaker (λ s. comes (hits x s.mask) (fills N x s) (shared s.mask x.mates) k ≡ false) (λ s. units_of (part N x k s) ≡ 0) (nothing_comes N x k) S a) X

-- and of no states nothing does
pub none_left : (N : ℕ) (x : Target) (X : List State) (k : ℕ) → add (in_all N x [] k) X ≡ X
unfolding in_all
none_left N x X zero = add_nothing X
none_left N x X (suc k) = add_append (in_all N x [] k) [] X ∙ add_nothing (add (in_all N x [] k) X) ∙ none_left N x X k

-- ---- the access

-- the streams added to what is left over are the successors, and there are no more than 1,088 of them
pub gathered_is : (N : ℕ) (x : Target) (S : List State) → N ≤ 16 → Every (Workable N x) S
    → (add (in_all N x S 19) (add (map (alone N x) S) []) ≡ access N x S) × (length S ≤ 64 → length (add (in_all N x S 19) (add (map (alone N x) S) [])) ≤ 1088)
gathered_is N x S few h = (is, λ l. le_trans (le_of_eq (ap length is)) (omega (arith, l, gathered_room listing (successors N x) S N (length S) (length (access N x S)) (sym (ap length (gathered_all listing (successors N x) S (length S) (le_refl _)))) few (follows_few N x S (length S) h))))
  where
    is : add (in_all N x S 19) (add (map (alone N x) S) []) ≡ access N x S
    is = sym (access_streams N x S (every_weaker (Workable N x) (λ s. units_of s ≤ whole) (λ s p. p.1) S h))
