-- States added in parts: the states that follow one where each block is lost in turn, and those that follow a table, one state after the other. For any kind of
-- state.
use mathlib.Core.Path.{◌≡◌, refl, sym, ap, ◌∙◌}
use mathlib.Core.Bool.{Bool, true, false, cond}
use mathlib.Core.List.{List, [], ◌∷◌, ◌++◌, map, flat_map, map-append, append-nil}
use Prim.Native.Nat.{ℕ, zero, suc, ◌+◌, ◌-◌, ◌*◌, ◌/◌, ◌≤◌, ◌<◌, suc-le-suc}
use native.Mathlib.Nat.{le_trans, le_of_eq, lt_of_le_of_lt, mul-le-mul, div-le_self, min-le_left}
use native.Mathlib.Numerals.{add-one}
use native.Mathlib.Omega.{arith}
use lib.Dec.{lit<}
use lib.ListN.{length, take, length-append, length-map, length-take}
use mir.Syntax.{w64}
use mir.Val.{Fits}
use lib.Seq.{length-take-le, take-suc, take_all}
use Rattle.rules.specs.Units.{whole}
use Rattle.rules.specs.Contents.{bit, held_below, held, size}
use Rattle.rules.specs.Ordered.{rises, insert_all}
use Rattle.rules.specs.AnyTable.{Listing, present, add, at, access}
use Rattle.rules.proofs.Contents.{sixteen_places}
use Rattle.rules.proofs.Lists.{flat_snoc}
use Rattle.rules.proofs.Ordered.{in_order_rises, rises_in_order}
use Rattle.rules.proofs.Listings.{Lawful, rising_add, length_present, length_add, add_append}
use Rattle.tables.specs.Placing.{Added}
use Rattle.tables.specs.Following.{lost_at, first_held, next_held}

-- the other ways' share of the units fits
pub shares_fit : (d q u N : ℕ) → d ≤ 16 → q ≡ u / N → u ≤ whole → Fits w64 (d * q)
shares_fit d q u N l e h = record { fits = lt_of_le_of_lt (mul-le-mul l (le_trans (le_of_eq e) (le_trans (div-le_self u N) h))) (lit< tt) }

module _ {A : Type 0} (states : Listing A) where
  -- ---- adding in parts

  pub added_nothing : (n : ℕ) (T : List A) → n ≤ length T → Added states [] n n T T
  unfolding add insert_all
  added_nothing n T room = record { count = sym (length-take-le n T room); table = refl }

  module _ (S : List A) (n m : ℕ) (T T₁ : List A) (a : Added states S n m T T₁) where
    pub added_then : (S' : List A) (r : ℕ) (T₂ : List A) → Added states S' m r T₁ T₂ → Added states (S ++ S') n r T T₂
    added_then S' r T₂ b = record { count = b.count ∙ ap length (sym is); table = b.table ∙ sym is }
      where
        is : add states (S ++ S') (take n T) ≡ add states S' (take m T₁)
        is = add_append states S S' (take n T) ∙ ap (add states S') (sym a.table)

    pub added_rising : Lawful states → rises states.order (take n T) ≡ true → rises states.order (take m T₁) ≡ true
    added_rising laws h =
        rw a.table
        (in_order_rises states.order (add states S (take n T))
        (rising_add states laws S (take n T) (rises_in_order states.order laws.onward (take n T) h)))

    pub added_length : n ≤ length T → m ≤ length (present states S) + n
    added_length room = omega (arith, a.count, length_add states S (take n T), length-take-le n T room)

  -- ---- each block lost in turn: the loss of the block at place e leaves `lose e`, where it is one of E

  module _ (lose : ℕ → A) (E : ℕ) where
    -- what the loss of each of them below place k leaves
    abbrev pub lost_below : ℕ → List A
    lost_below k = map lose (held_below k E)

    pub lost_next : (k : ℕ) → lost_below (k + 1) ≡ lost_below k ++ lost_at lose E k
    unfolding held_below lost_at
    lost_next k = rw (add-one k) (map-append lose (held_below k E) _ ∙ ap (lost_below k ++◌) (go (bit E k)))
      where
        go : (b : Bool) → map lose (cond b (k ∷ []) []) ≡ cond b (lose k ∷ []) []
        go true = refl
        go false = refl

    -- nothing is lost between a place and the next one that is held
    pub lost_skips : (k : ℕ) → lost_below (next_held E k) ≡ lost_below k
    unfolding first_held lost_at
    lost_skips k = first (16 - k) k
      where
        first : (n k : ℕ) → lost_below (first_held E n k) ≡ lost_below k
        first zero k = refl
        first (suc n) k = go (bit E k) refl (first n (suc k))
          where
            go : (b : Bool) → bit E k ≡ b → lost_below (first_held E n (suc k)) ≡ lost_below (suc k) → lost_below (cond b k (first_held E n (suc k))) ≡ lost_below k
            go true e h = refl
            go false e h = h ∙ ap lost_below (sym (add-one k)) ∙ lost_next k ∙ rw e (append-nil (lost_below k))

    lost_few : (k : ℕ) → length (lost_below k) ≤ k
    unfolding held_below
    lost_few k = rw (length-map (held_below k E) lose) (few k)
      where
        few : (k : ℕ) → length (held_below k E) ≤ k
        few zero = omega arith
        few (suc k) = go (bit E k) (few k)
          where
            go : (b : Bool) → length (held_below k E) ≤ k → length (held_below k E ++ cond b (k ∷ []) []) ≤ suc k
            go true h = omega (arith, length-append (held_below k E) (k ∷ []))
            go false h = omega (arith, length-append (held_below k E) [])

    pub lost_room : (n m k : ℕ) (T T₁ : List A) → n ≤ length T → Added states (lost_below k) n m T T₁ → m ≤ n + k
    lost_room n m k T T₁ room a =
        omega (arith, added_length (lost_below k) n m T T₁ a room, length_present states (lost_below k), lost_few k)

    pub lost_all_lem : lost_below 16 ≡ map lose (held E)
    unfolding held
    lost_all_lem = ap lost_below (sym sixteen_places)

    pub lost_count : (n m : ℕ) (T T₁ : List A) → n ≤ length T → Added states (map lose (held E)) n m T T₁ → m ≤ n + size E
    unfolding size
    lost_count n m T T₁ room a =
        omega (arith, added_length (map lose (held E)) n m T T₁ a room, length_present states (map lose (held E)), length-map (held E) lose)

    -- one block
    pub lost_here : (k : ℕ) → bit E k ≡ true → (t : A) (n r : ℕ) (T T' : List A) → t ≡ lose k → Added states (t ∷ []) n r T T'
        → Added states (lost_at lose E k) n r T T'
    unfolding lost_at
    lost_here k h t n r T T' e a = rw (h, ← e) a

    pub lost_none : (k : ℕ) → bit E k ≡ false → (n : ℕ) (T : List A) → n ≤ length T → Added states (lost_at lose E k) n n T T
    unfolding lost_at
    lost_none k h n T room = rw h (added_nothing n T room)

  -- ---- the states that follow those of a table, one state after the other

  pub take_next : (S : List A) (i : ℕ) (s : A) → i < length S → s ≡ at states S i → take i S ++ (s ∷ []) ≡ take (i + 1) S
  take_next S i s l e = rw (add-one i, e) (sym (take-suc S i states.none l))

  module _ (follow : A → List A) (S : List A) where
    -- those of the first i states, added
    abbrev pub gathered : ℕ → List A
    gathered i = add states (flat_map follow (take i S)) []

    pub gathered_none : gathered 0 ≡ []
    unfolding add insert_all flat_map
    gathered_none = refl

    pub gathered_rising : Lawful states → (i : ℕ) → rises states.order (gathered i) ≡ true
    gathered_rising laws i = in_order_rises states.order (gathered i) (rising_add states laws (flat_map follow (take i S)) [] tt)

    -- one state more
    pub gathered_next : (i : ℕ) (s : A) → i < length S → s ≡ at states S i → add states (follow s) (gathered i) ≡ gathered (i + 1)
    gathered_next i s l e =
        sym (add_append states (flat_map follow (take i S)) (follow s) [])
        ∙ ap (λ (U : List A). add states U []) (sym (flat_snoc follow (take i S) s) ∙ ap (flat_map follow) (take_next S i s l e))

    -- where each is followed by at most N + 1
    pub gathered_room : (N i n : ℕ) → n ≡ length (gathered i) → N ≤ 16 → length (present states (flat_map follow (take i S))) ≤ length (take i S) * suc N → n ≤ i * 17
    gathered_room N i n e few each =
        omega (arith, length_add states (flat_map follow (take i S)) [], each, mul-le-mul short (suc-le-suc few))
      where
        short : length (take i S) ≤ i
        short = rw (length-take i S) (min-le_left i (length S))

    pub gathered_all : (m : ℕ) → length S ≤ m → gathered m ≡ access states follow S
    unfolding access
    gathered_all m l = ap (λ (U : List A). add states (flat_map follow U) []) (take_all m S l)
