-- An access's successors are its streams and what is left over: for one state by cases, as it is a hit, fills an empty way, or can lose a block or none; for a table
-- since states may be added in any order.
use mathlib.Core.Path.{◌≡◌, refl, sym, ap, ◌∙◌}
use mathlib.Core.Bool.{Bool, true, false, cond}
use mathlib.Core.List.{List, [], ◌∷◌, ◌++◌, map, flat_map, map-append}
use Prim.Native.Nat.{ℕ, zero, suc, ◌+◌, ◌-◌, ◌*◌, ◌/◌, ◌%◌, ◌≤◌, ◌<◌}
use native.Mathlib.Nat.{le_trans, le_of_eq, div-add-mod}
use native.Mathlib.Omega.{arith}
use lib.Dec.{eqb, ltb}
use borrow.Author.Tests.{lt-ltb, ltb-true, eqb-true, eqb-false}
use Rattle.rules.specs.declared.Target.{Target}
use Rattle.rules.specs.declared.State.{State}
use Rattle.rules.specs.Units.{whole}
use Rattle.rules.specs.Contents.{places, bit, hits, with, without, held_below, held, size}
use Rattle.rules.specs.Filling.{filled_at, fill_one}
use Rattle.rules.specs.AnyTable.{access as access_any_lem}
use Rattle.rules.specs.Table.{units_of, add}
use Rattle.rules.specs.Step.{at_risk, missed, rest_of, miss, successors, left_over, access}
use Rattle.rules.specs.Shape.{Every}
use Rattle.rules.proofs.Contents.{size_zero}
use Rattle.rules.proofs.Sets.{risk_none}
use Rattle.rules.proofs.Table.{add_append}
use Rattle.estimate.specs.Merging.{alone, losing, kept_of, keeping, filling, hitting, part, in_all}
use Rattle.estimate.proofs.Adding.{add_nothing, add_gone, add_swap, flat_apart, flat_alike, add_sum}

-- ---- one state

module _ (N : ℕ) (x : Target) where
  -- what becomes of s in the first k ways
  unfoldable pub parts : ℕ → State → List State
  parts zero s = []
  parts (suc k) s = parts k s ++ (part N x k s ∷ [])

  pub part_losing : (k : ℕ) (s : State) → k < 16 → part N x k s ≡ losing N x k s
  unfolding part
  part_losing k s l = rw (lt-ltb k 16 l)

  module _ (s : State) where
    abbrev E : ℕ
    E = at_risk N x s.filled s.mask

    -- the loss of the block at place e, where it can be lost
    abbrev lost : ℕ → State
    lost e = missed N x s (without s.mask e) (units_of s / N)

    -- nothing is lost at a hit
    parts_hit : hits x s.mask ≡ true → (k : ℕ) → k ≤ 16 → (T : List State) → add (parts k s) T ≡ T
    unfolding parts losing
    parts_hit h zero l T = add_nothing T
    parts_hit h (suc k) l T =
        add_append (parts k s) (part N x k s ∷ []) T
        ∙ ap (add (part N x k s ∷ [])) (parts_hit h k (omega arith) T)
        ∙ add_gone (part N x k s) (ap units_of (part_losing k s (omega arith)) ∙ rw h) T

    -- and each block that can be, at a miss
    parts_miss : hits x s.mask ≡ false → (k : ℕ) → k ≤ 16 → (T : List State) → add (parts k s) T ≡ add (map lost (held_below k E)) T
    unfolding parts held_below losing
    parts_miss h zero l T = refl
    parts_miss h (suc k) l T =
        add_append (parts k s) (part N x k s ∷ []) T
        ∙ ap (add (part N x k s ∷ [])) (parts_miss h k (omega arith) T)
        ∙ ap (λ (t : State). add (t ∷ []) (add (map lost (held_below k E)) T)) (part_losing k s (omega arith))
        ∙ go (bit E k) refl (add (map lost (held_below k E)) T)
        ∙ sym (ap (λ (S : List State). add S T) (map-append lost (held_below k E) (cond (bit E k) (k ∷ []) [])) ∙ add_append (map lost (held_below k E)) (map lost (cond (bit E k) (k ∷ []) [])) T)
      where
        go : (b : Bool) → bit E k ≡ b → (X : List State) → add (losing N x k s ∷ []) X ≡ add (map lost (cond b (k ∷ []) [])) X
        go true e X = rw (h, e)
        go false e X = add_gone (losing N x k s) (rw (h, e)) X ∙ sym (add_nothing X)

    -- the three others
    three : (T : List State) → add (parts 19 s) T ≡ add (hitting x s ∷ []) (add (filling N x s ∷ []) (add (keeping N x s ∷ []) (add (parts 16 s) T)))
    unfolding parts part
    three T =
        add_append (parts 18 s) (hitting x s ∷ []) T
        ∙ ap (add (hitting x s ∷ [])) (add_append (parts 17 s) (filling N x s ∷ []) T ∙ ap (add (filling N x s ∷ [])) (add_append (parts 16 s) (keeping N x s ∷ []) T))

    -- what is none at a hit
    pub none_alone : hits x s.mask ≡ true → units_of (alone N x s) ≡ 0
    unfolding alone left_over
    none_alone h = rw h

    pub none_keeping : hits x s.mask ≡ true → units_of (keeping N x s) ≡ 0
    unfolding keeping
    none_keeping h = rw h

    pub none_filling : hits x s.mask ≡ true → units_of (filling N x s) ≡ 0
    unfolding filling
    none_filling h = rw h

    all_hit : hits x s.mask ≡ true → successors N x s ≡ hitting x s ∷ []
    unfolding successors hitting
    all_hit h = rw h

    hit_goes : hits x s.mask ≡ true → (T : List State) → add (successors N x s) T ≡ add (alone N x s ∷ []) (add (parts 19 s) T)
    hit_goes h T =
        ap (λ (S : List State). add S T) (all_hit h)
        ∙ sym (add_gone (alone N x s) (none_alone h) (add (parts 19 s) T) ∙ three T ∙ ap (add (hitting x s ∷ [])) two)
      where
        two : add (filling N x s ∷ []) (add (keeping N x s ∷ []) (add (parts 16 s) T)) ≡ T
        two =
            add_gone (filling N x s) (none_filling h) (add (keeping N x s ∷ []) (add (parts 16 s) T))
            ∙ add_gone (keeping N x s) (none_keeping h) (add (parts 16 s) T)
            ∙ parts_hit h 16 (omega arith) T

    -- the last two states of a miss
    abbrev last_two : List State
    last_two = missed N x s s.mask ((N - size E) * (units_of s / N)) ∷ missed N x s (rest_of s.mask E) (units_of s % N) ∷ []

    module _ (h : hits x s.mask ≡ false) where
      pub no_hit : units_of (hitting x s) ≡ 0
      unfolding hitting
      no_hit = rw h

      pub no_rest : eqb E 0 ≡ true → units_of (alone N x s) ≡ 0
      unfolding alone left_over
      no_rest z = rw (h, z)

      rest_is : eqb E 0 ≡ false → alone N x s ≡ missed N x s (rest_of s.mask E) (units_of s % N)
      unfolding alone left_over
      rest_is z = rw (h, z)

      module _ (f : ltb (filled_at s.filled x.set) N ≡ true) where
        pub none_kept : units_of (keeping N x s) ≡ 0
        unfolding keeping
        none_kept = rw (h, f)

        all_filled : filling N x s ≡ missed N x s s.mask (units_of s)
        unfolding filling
        all_filled = rw (h, f)

      module _ (f : ltb (filled_at s.filled x.set) N ≡ false) where
        pub none_filled : units_of (filling N x s) ≡ 0
        unfolding filling
        none_filled = rw (h, f)

        kept_is : keeping N x s ≡ missed N x s s.mask (kept_of N E (units_of s))
        unfolding keeping
        kept_is = rw (h, f)

        kept_all : eqb E 0 ≡ true → keeping N x s ≡ missed N x s s.mask (units_of s)
        kept_all z = kept_is ∙ ap (λ (b : Bool). missed N x s s.mask (cond b (units_of s) ((N - size E) * (units_of s / N)))) z

        pub kept_some : eqb E 0 ≡ false → keeping N x s ≡ missed N x s s.mask ((N - size E) * (units_of s / N))
        kept_some z = kept_is ∙ ap (λ (b : Bool). missed N x s s.mask (cond b (units_of s) ((N - size E) * (units_of s / N)))) z

    module _ (h : hits x s.mask ≡ false) (few : units_of s ≤ whole) where
      -- where no block can be lost, all units go on together
      together : E ≡ 0 → (X : List State) → add last_two X ≡ add (missed N x s s.mask (units_of s) ∷ []) X
      together z X =
          ap (λ (D : ℕ). add (missed N x s s.mask ((N - size D) * (units_of s / N)) ∷ missed N x s (rest_of s.mask D) (units_of s % N) ∷ []) X) z
          ∙ ap (λ (n : ℕ). add (missed N x s s.mask ((N - n) * (units_of s / N)) ∷ missed N x s s.mask (units_of s % N) ∷ []) X) size_zero
          ∙ add_sum (with s.mask x.place) (suc s.misses) (fill_one N x.set s.filled) ((N - 0) * (units_of s / N)) (units_of s % N) (le_trans (le_of_eq all) few) X
          ∙ ap (λ (u : ℕ). add (missed N x s s.mask u ∷ []) X) all
        where
          plain : (d : ℕ) → d ≡ N → d * (units_of s / N) + units_of s % N ≡ units_of s
          plain d e = rw e (div-add-mod (units_of s) N)

          all : (N - 0) * (units_of s / N) + units_of s % N ≡ units_of s
          all = plain (N - 0) (omega arith)

      others_go : (X : List State) → add last_two X ≡ add (alone N x s ∷ []) (add (hitting x s ∷ []) (add (filling N x s ∷ []) (add (keeping N x s ∷ []) X)))
      others_go X = go (eqb E 0) (ltb (filled_at s.filled x.set) N) refl refl
        where
          -- one of two is none
          as_one : (a b t : State) → t ≡ b → units_of a ≡ 0 → add (t ∷ []) X ≡ add (b ∷ []) (add (a ∷ []) X)
          as_one a b t e z = ap (λ (u : State). add (u ∷ []) X) e ∙ ap (add (b ∷ [])) (sym (add_gone a z X))

          as_other : (a b t : State) → t ≡ a → units_of b ≡ 0 → add (t ∷ []) X ≡ add (b ∷ []) (add (a ∷ []) X)
          as_other a b t e z = ap (λ (u : State). add (u ∷ []) X) e ∙ sym (add_gone b z (add (a ∷ []) X))

          -- and neither is anything left over nor a hit
          no_more_goes : eqb E 0 ≡ true → (Y : List State) → Y ≡ add (alone N x s ∷ []) (add (hitting x s ∷ []) Y)
          no_more_goes z Y = sym (add_gone (alone N x s) (no_rest h z) (add (hitting x s ∷ []) Y) ∙ add_gone (hitting x s) (no_hit h) Y)

          go : (z f : Bool) → eqb E 0 ≡ z → ltb (filled_at s.filled x.set) N ≡ f
              → add last_two X ≡ add (alone N x s ∷ []) (add (hitting x s ∷ []) (add (filling N x s ∷ []) (add (keeping N x s ∷ []) X)))
          go true true z f =
              together (eqb-true E 0 z) X ∙ as_one (keeping N x s) (filling N x s) _ (sym (all_filled h f)) (none_kept h f)
              ∙ no_more_goes z (add (filling N x s ∷ []) (add (keeping N x s ∷ []) X))
          go true false z f =
              together (eqb-true E 0 z) X ∙ as_other (keeping N x s) (filling N x s) _ (sym (kept_all h f z)) (none_filled h f)
              ∙ no_more_goes z (add (filling N x s ∷ []) (add (keeping N x s ∷ []) X))
          go false true z f = absurd (eqb-false E 0 z (risk_none N x s.filled s.mask (ltb-true (filled_at s.filled x.set) N f)))
          go false false z f =
              add_append (missed N x s s.mask ((N - size E) * (units_of s / N)) ∷ []) (missed N x s (rest_of s.mask E) (units_of s % N) ∷ []) X
              ∙ ap (λ (u : State). add (u ∷ []) (add (missed N x s s.mask ((N - size E) * (units_of s / N)) ∷ []) X)) (sym (rest_is h z))
              ∙ ap (add (alone N x s ∷ [])) (as_other (keeping N x s) (filling N x s) _ (sym (kept_some h f z)) (none_filled h f)
              ∙ sym (add_gone (hitting x s) (no_hit h) (add (filling N x s ∷ []) (add (keeping N x s ∷ []) X))))

      miss_goes : (T : List State) → add (successors N x s) T ≡ add (alone N x s ∷ []) (add (parts 19 s) T)
      unfolding successors miss held places
      miss_goes T =
          rw h
          (add_append (map lost (held_below 16 E)) last_two T
          ∙ ap (add last_two) (sym (parts_miss h 16 (omega arith) T))
          ∙ others_go (add (parts 16 s) T)
          ∙ ap (add (alone N x s ∷ [])) (sym (three T)))

    state_goes : units_of s ≤ whole → (T : List State) → add (successors N x s) T ≡ add (parts 19 s ++ (alone N x s ∷ [])) T
    state_goes few T = go (hits x s.mask) refl ∙ sym (add_append (parts 19 s) (alone N x s ∷ []) T)
      where
        go : (b : Bool) → hits x s.mask ≡ b → add (successors N x s) T ≡ add (alone N x s ∷ []) (add (parts 19 s) T)
        go true h = hit_goes h T
        go false h = miss_goes h few T

  -- ---- a table

  no_parts : (T : List State) → flat_map (parts 0) T ≡ []
  unfolding flat_map parts
  no_parts [] = refl
  no_parts (s ∷ T) = no_parts T

  -- stream by stream instead of state by state
  in_streams : (T : List State) (k : ℕ) (W : List State) → add (flat_map (parts k) T) W ≡ add (in_all N x T k) W
  unfolding parts in_all
  in_streams T zero W = ap (λ (S : List State). add S W) (no_parts T)
  in_streams T (suc k) W =
      flat_apart (parts k) (part N x k) T W
      ∙ ap (add (map (part N x k) T)) (in_streams T k W)
      ∙ sym (add_append (in_all N x T k) (map (part N x k) T) W)

  -- the successors are what is left over, and the streams
  pub access_streams : (T : List State) → Every (λ s. units_of s ≤ whole) T → access N x T ≡ add (in_all N x T 19) (add (map (alone N x) T) [])
  unfolding access_any_lem
  access_streams T h =
      flat_alike (successors N x) (λ s. parts 19 s ++ (alone N x s ∷ [])) (λ s. units_of s ≤ whole) state_goes T h []
      ∙ flat_apart (parts 19) (alone N x) T []
      ∙ add_swap (map (alone N x) T) (flat_map (parts 19) T) []
      ∙ in_streams T 19 (add (map (alone N x) T) [])

  -- the streams of a table are those of its front and of its rest
  pub in_all_append : (S S' : List State) (k : ℕ) (W : List State) → add (in_all N x (S ++ S') k) W ≡ add (in_all N x S' k) (add (in_all N x S k) W)
  unfolding in_all
  in_all_append S S' zero W = sym (ap (add []) (add_nothing W))
  in_all_append S S' (suc k) W =
      add_append (in_all N x (S ++ S') k) (map (part N x k) (S ++ S')) W
      ∙ ap (λ (U : List State). add U (add (in_all N x (S ++ S') k) W)) (map-append (part N x k) S S')
      ∙ ap (add (map (part N x k) S ++ map (part N x k) S')) (in_all_append S S' k W)
      ∙ add_append (map (part N x k) S) (map (part N x k) S') (add (in_all N x S' k) (add (in_all N x S k) W))
      ∙ ap (add (map (part N x k) S')) (add_swap (map (part N x k) S) (in_all N x S' k) (add (in_all N x S k) W))
      ∙ sym (add_append (in_all N x S' k) (map (part N x k) S') (add (map (part N x k) S) (add (in_all N x S k) W)))
      ∙ ap (add (in_all N x S' k ++ map (part N x k) S')) (sym (add_append (in_all N x S k) (map (part N x k) S) W))
