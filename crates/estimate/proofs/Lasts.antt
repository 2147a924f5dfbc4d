-- The block accessed directly before: what is kept of the nodes worked so far.
use Rattle.std.specs.Prelude.{None}
use mathlib.Core.Path.{◌≡◌, refl, sym, ap, ap₂, ◌∙◌}
use mathlib.Core.Logic.{◌⊎◌, inl, inr}
use mathlib.Core.List.{List, [], ◌∷◌}
use Prim.Native.Nat.{ℕ, suc, ◌<◌}
use native.Mathlib.Nat.{le_of_suc-le-suc, eq-or-lt_of_le}
use native.Mathlib.Omega.{arith}
use lib.ListN.{length, set}
use lib.Seq.{get_or-set_same, get_or-set_other}
use Rattle.rules.specs.Contents.{agreed, last_after, Last}
use Rattle.rules.specs.Input.{Input, run_of, edges_of, predecessors}
use Rattle.rules.specs.Graph.{last_at, agree_all, last_before, node_last, lasts_to}
use Rattle.rules.specs.Shape.{Every}
use Rattle.rules.proofs.Refusals.{Checked, predecessor_lower}
use Rattle.rules.proofs.Graph.{last_of, last_stays}
use Rattle.tables.proofs.Inputs.{every_among}

-- what is kept of the first j nodes is theirs
abbrev pub LastsKept : Input → ℕ → List Last → Type 0
LastsKept i j ls = (p : ℕ) → p < j → last_at ls p ≡ last_of i p

before_same : (ls ks : List Last) (ps : List ℕ) → Every (λ p. last_at ls p ≡ last_at ks p) ps → last_before ls ps ≡ last_before ks ps
unfolding last_before agree_all
before_same ls ks [] h = refl
before_same ls ks (p ∷ ps) h = all ps _ _ h.0 h.1
  where
    all : (ps : List ℕ) (l k : Last) → l ≡ k → Every (λ p. last_at ls p ≡ last_at ks p) ps → agree_all ls ps l ≡ agree_all ks ps k
    all [] l k e h = e
    all (q ∷ ps) l k e h = all ps (agreed l (last_at ls q)) (agreed k (last_at ks q)) (ap₂ agreed e h.0) h.1

module _ (i : Input) (ok : Checked i) (j : ℕ) (ls : List Last) (kept : LastsKept i j ls) where
  -- so what is known before node j is
  pub kept_before : last_before ls (predecessors (edges_of i.edges) j) ≡ last_before (lasts_to i j) (predecessors (edges_of i.edges) j)
  kept_before =
      before_same ls (lasts_to i j) (predecessors (edges_of i.edges) j)
      (every_among _ (predecessors (edges_of i.edges) j) (λ p e. let l = (predecessor_lower i ok p j e).0 in kept p l ∙ sym (last_stays i j p l)))

  -- and one node more is kept
  pub kept_next : (l : Last) → j < length ls → l ≡ last_after (last_before ls (predecessors (edges_of i.edges) j)) (run_of i j) → LastsKept i (suc j) (set ls j l)
  unfolding node_last
  kept_next l here e p k = go (eq-or-lt_of_le (le_of_suc-le-suc k))
    where
      go : (p ≡ j) ⊎ (p < j) → last_at (set ls j l) p ≡ last_of i p
      go (inl q) = rw q (get_or-set_same ls j l None here ∙ e ∙ ap (λ (k : Last). last_after k (run_of i j)) kept_before)
      go (inr q) = get_or-set_other ls j p l None (λ e. absurd (omega arith)) ∙ kept p q
