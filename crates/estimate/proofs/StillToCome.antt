-- What is still to come of runs may be taken in any order. The streams of a run that have something of it are all of it; one of them may be taken out, and comes first; and of several
-- heads it does not matter where one stands among the others.
use mathlib.Core.Path.{◌≡◌, refl, sym, ap, ◌∙◌}
use mathlib.Core.Bool.{Bool, true, false, cond}
use mathlib.Core.List.{List, [], ◌∷◌, ◌++◌, map, flat_map}
use mathlib.Core.Logic.{◌≢◌}
use Prim.Native.Nat.{ℕ, zero, suc, ◌≤◌, ◌<◌}
use native.Mathlib.Decide.{ℕ_discrete}
use native.Mathlib.Omega.{arith}
use Rattle.rules.specs.declared.State.{State}
use Rattle.rules.specs.declared.Target.{Target}
use Rattle.rules.specs.Contents.{bit, hits, shared, without}
use Rattle.rules.specs.Shape.{Every}
use Rattle.rules.specs.Table.{add}
use Rattle.rules.proofs.Contents.{without_same, without_gone}
use Rattle.rules.proofs.Table.{add_append}
use Rattle.estimate.specs.Merging.{part, in_all, comes, fills}
use Rattle.estimate.specs.ToCome.{in_some}
use Rattle.estimate.proofs.Adding.{add_nothing, add_swap}
use Rattle.estimate.proofs.Runs.{run_none}

module _ (N : ℕ) (x : Target) (R : List State) where
  abbrev stream : ℕ → List State
  stream k = map (part N x k) R

  -- one stream more, which is among those to come or not
  some_next : (L k : ℕ) (X : List State) → add (in_some N x R L (suc k)) X ≡ add (cond (bit L k) (stream k) []) (add (in_some N x R L k) X)
  unfolding in_some
  some_next L k X = add_append (in_some N x R L k) (cond (bit L k) (stream k) []) X

  -- ---- where each stream is among those to come that has something of the states, all is to come

  module _ (L : ℕ) where
    abbrev Has : ℕ → Bool → Type 0
    Has k b = Every (λ s. comes (hits x s.mask) (fills N x s) (shared s.mask x.mates) k ≡ b) R

    pub some_all : (n : ℕ) → ((k : ℕ) → k < n → Has k (bit L k)) → (X : List State) → add (in_some N x R L n) X ≡ add (in_all N x R n) X
    unfolding in_some in_all
    some_all zero has X = refl
    some_all (suc n) has X =
        some_next L n X
        ∙ ap (add (cond (bit L n) (stream n) [])) (some_all n (λ k l. has k (omega arith)) X)
        ∙ go (bit L n) (has n (omega arith)) (add (in_all N x R n) X)
        ∙ sym (add_append (in_all N x R n) (stream n) X)
      where
        go : (b : Bool) → Has n b → (Y : List State) → add (cond b (stream n) []) Y ≡ add (stream n) Y
        go true h Y = refl
        go false h Y = add_nothing Y ∙ sym (run_none N x n R Y h)

  -- where none is among them, nothing is
  pub some_none : (L n : ℕ) → ((k : ℕ) → k < n → bit L k ≡ false) → (X : List State) → add (in_some N x R L n) X ≡ X
  unfolding in_some
  some_none L zero none X = add_nothing X
  some_none L (suc n) none X =
      some_next L n X
      ∙ ap (λ (b : Bool). add (cond b (stream n) []) (add (in_some N x R L n) X)) (none n (omega arith))
      ∙ add_nothing (add (in_some N x R L n) X)
      ∙ some_none L n (λ k l. none k (omega arith)) X

  -- ---- one stream is taken out

  -- above and below it nothing changes
  same_streams : (L e n : ℕ) → n ≤ e → (X : List State) → add (in_some N x R (without L e) n) X ≡ add (in_some N x R L n) X
  unfolding in_some
  same_streams L e zero l X = refl
  same_streams L e (suc n) l X =
      some_next (without L e) n X
      ∙ ap (λ (b : Bool). add (cond b (stream n) []) (add (in_some N x R (without L e) n) X)) (without_same L e n (λ s. omega arith))
      ∙ ap (add (cond (bit L n) (stream n) [])) (same_streams L e n (omega arith) X)
      ∙ sym (some_next L n X)

  pub stream_first : (L e n : ℕ) → bit L e ≡ true → e < n → (X : List State) → add (in_some N x R (without L e) n) (add (stream e) X) ≡ add (in_some N x R L n) X
  stream_first L e zero h l X = absurd (omega arith)
  stream_first L e (suc n) h l X = go (ℕ_discrete e n) (λ m. stream_first L e n h m X)
    where
      here : e ≡ n → add (in_some N x R (without L e) (suc n)) (add (stream e) X) ≡ add (in_some N x R L (suc n)) X
      here s =
          some_next (without L e) n (add (stream e) X)
          ∙ ap (λ (b : Bool). add (cond b (stream n) []) (add (in_some N x R (without L e) n) (add (stream e) X))) (ap (bit (without L e)) (sym s) ∙ without_gone L e h)
          ∙ add_nothing (add (in_some N x R (without L e) n) (add (stream e) X))
          ∙ same_streams L e n (omega arith) (add (stream e) X)
          ∙ add_swap (in_some N x R L n) (stream e) X
          ∙ ap (λ (k : ℕ). add (stream k) (add (in_some N x R L n) X)) s
          ∙ sym (some_next L n X ∙ ap (λ (b : Bool). add (cond b (stream n) []) (add (in_some N x R L n) X)) (ap (bit L) (sym s) ∙ h))

      on : e ≢ n → add (in_some N x R (without L e) n) (add (stream e) X) ≡ add (in_some N x R L n) X → add (in_some N x R (without L e) (suc n)) (add (stream e) X) ≡ add (in_some N x R L (suc n)) X
      on d rest =
          some_next (without L e) n (add (stream e) X)
          ∙ ap (λ (b : Bool). add (cond b (stream n) []) (add (in_some N x R (without L e) n) (add (stream e) X))) (without_same L e n d)
          ∙ ap (add (cond (bit L n) (stream n) [])) rest
          ∙ sym (some_next L n X)

      go : Dec (e ≡ n) → (e < n → add (in_some N x R (without L e) n) (add (stream e) X) ≡ add (in_some N x R L n) X)
          → add (in_some N x R (without L e) (suc n)) (add (stream e) X) ≡ add (in_some N x R L (suc n)) X
      go (yes s) rest = here s
      go (no d) rest = on d (rest (omega arith))

-- ---- several heads

-- what comes of all of them, where what comes of each may be taken in any order
module _ (P : ℕ → List State) where
  -- one among the others comes first
  pub among_first : (hs gs : List ℕ) (h : ℕ) (X : List State) → add (flat_map P (hs ++ h ∷ gs)) X ≡ add (flat_map P (hs ++ gs)) (add (P h) X)
  unfolding flat_map
  among_first [] gs h X = add_append (P h) (flat_map P gs) X
  among_first (g ∷ hs) gs h X =
      add_append (P g) (flat_map P (hs ++ h ∷ gs)) X
      ∙ among_first hs gs h (add (P g) X)
      ∙ ap (add (flat_map P (hs ++ gs))) (add_swap (P h) (P g) X)
      ∙ sym (add_append (P g) (flat_map P (hs ++ gs)) (add (P h) X))
