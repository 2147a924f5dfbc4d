-- The live sets are right: whatever path is taken from a node on, the blocks that it accesses are live behind the node before. So the blocks that leave as dead add nothing to
-- the value along any path ahead, and it is no loss that nothing is set aside for them. No other proof uses this: a block that leaves too early makes the curve worse, not unsafe.
use mathlib.Core.Path.{◌≡◌, refl, sym, ap, ◌∙◌}
use mathlib.Core.Bool.{Bool, true, false, cond, ◌||◌, ◌&&◌, true≢false}
use mathlib.Core.List.{List, [], ◌∷◌, flat_map}
use mathlib.Core.Logic.{◌⊎◌, inl, inr}
use Prim.Native.Nat.{ℕ, zero, suc, ◌+◌, ◌-◌, ◌≤◌, ◌<◌}
use native.Mathlib.Nat.{not-suc-le-zero, le_of_suc-le-suc}
use native.Mathlib.Omega.{arith}
use lib.Bits.{bit_or}
use lib.Dec.{eqb}
use lib.ListN.{get_or}
use borrow.Author.Tests.{eqb-true}
use Rattle.basics.proofs.Bools.{and_left, and_right, or_cases, or_left, or_right}
use Rattle.rules.specs.Contents.{bit, last_after, Last}
use Rattle.rules.specs.Input.{Input, nodes, run_of, Edge, edges_of}
use Rattle.rules.proofs.Bits.{bit_or_lem}
use Rattle.rules.proofs.Contents.{Sub}
use Rattle.rules.proofs.Table.{Weight}
use Rattle.rules.proofs.Refusals.{Checked, predecessor_lower}
use Rattle.promises.specs.Paths.{linked, leads}
use Rattle.promises.proofs.Value.{value, value_append, targets_of, targets_append, sub_zero}
use Rattle.promises.proofs.Paths.{linked_pred}
use Rattle.tight_rules.specs.Live.{live_at, after_node, lives_of, live_after, live_before}
use Rattle.tight_rules.proofs.Dead.{Deaf, deaf_wider}
use Rattle.tight_rules.proofs.Moves.{Good}
use Rattle.tight_rules.proofs.Runs.{before, good_before, deaf_before}

-- ---- one pass from the last node to the first

-- the list for the last m nodes has what is live at the start of each
pub lives_at : (i : Input) (m k : ℕ) → k < m → m ≤ nodes i → get_or (lives_of i m) k 0 ≡ live_before i (nodes i - m + k)
unfolding lives_of live_before live_after
lives_at i zero k l h = absurd (not-suc-le-zero l)
lives_at i (suc m) zero l h = rw (here, last) refl
  where
    here : nodes i - suc m + 0 ≡ nodes i - suc m
    here = omega arith

    last : nodes i - suc (nodes i - suc m) ≡ m
    last = omega arith
lives_at i (suc m) (suc k) l h = lives_at i m k (le_of_suc-le-suc l) (omega arith) ∙ ap (live_before i) same
  where
    same : nodes i - m + k ≡ nodes i - suc m + suc k
    same = omega arith

-- behind node v, each node that an edge leads to is counted
after_edge_lem : (ls : List ℕ) (v w : ℕ) (es : List Edge) → linked es v w ≡ true → Sub (live_at ls v w) (after_node ls v es)
unfolding after_node
after_edge_lem ls v w [] h = absurd (true≢false (sym h))
after_edge_lem ls v w (e ∷ es) h = go (eqb e.from v) refl (after_edge_lem ls v w es) h
  where
    go : (b : Bool) → eqb e.from v ≡ b → (linked es v w ≡ true → Sub (live_at ls v w) (after_node ls v es)) → (b && eqb e.to w || linked es v w) ≡ true
        → Sub (live_at ls v w) (cond b (bit_or (live_at ls v e.to) (after_node ls v es)) (after_node ls v es))
    go false q rest h j t = rest h j t
    go true q rest h j t = bit_or_lem j (live_at ls v e.to) (after_node ls v es) ∙ pick (or_cases (eqb e.to w) (linked es v w) h)
      where
        pick : (eqb e.to w ≡ true) ⊎ (linked es v w ≡ true) → (bit (live_at ls v e.to) j || bit (after_node ls v es) j) ≡ true
        pick (inl s) = or_left (bit (live_at ls v e.to) j) _ (rw (eqb-true e.to w s) t)
        pick (inr s) = or_right (bit (live_at ls v e.to) j) _ (rest s j t)

module _ (i : Input) (ok : Checked i) where
  -- what is live at the start of a node is live behind each of its predecessors
  pub live_edge : (v w : ℕ) → linked (edges_of i.edges) v w ≡ true → Sub (live_before i w) (live_after i v)
  unfolding live_after
  live_edge v w h =
      let (v<w, w<n) = predecessor_lower i ok v w (sym (linked_pred (edges_of i.edges) v w) ∙ h) in
      let at-w : get_or (lives_of i (nodes i - suc v)) (w - suc v) 0 ≡ live_before i w
      = lives_at i (nodes i - suc v) (w - suc v) (omega (arith, v<w, w<n)) (omega arith) ∙ ap (live_before i) (place v w v<w w<n) in
      λ j t. after_edge_lem (lives_of i (nodes i - suc v)) v w (edges_of i.edges) h j (rw at-w t)
    where
      place : (v w : ℕ) → v < w → w < nodes i → nodes i - (nodes i - suc v) + (w - suc v) ≡ w
      place v w l m = omega arith

  abbrev N : ℕ
  N = i.ways

  -- a weight before the accesses bs, where p was accessed directly before
  abbrev ahead : Last → List ℕ → Weight → Weight
  ahead p bs f = before N i.sets i.tracked ok.few_ways ok.some_sets ok.few_sets p bs f

  -- the nodes q follow node v: to the accesses of their runs, and to any weight in the end that does not look at contents, the blocks that are not live behind v add nothing
  pub dead_ahead : (f : Weight) (B : ℕ) → Good N i.sets i.tracked f B → Deaf N i.sets i.tracked 0 f
      → (z v : ℕ) (q : List ℕ) → leads (edges_of i.edges) z v q ≡ true → (p : Last) → Deaf N i.sets i.tracked (live_after i v) (ahead p (flat_map (run_of i) q) f)
  unfolding flat_map live_before value
  dead_ahead f B good deaf z v [] h p = deaf_wider N i.sets i.tracked 0 (live_after i v) f (sub_zero (live_after i v)) good.rises deaf
  dead_ahead f B good deaf z v (w ∷ q) h p =
      rw (
        targets_append i.sets i.tracked p (run_of i w) (flat_map (run_of i) q),
        value_append f N (targets_of i.sets i.tracked p (run_of i w)) (targets_of i.sets i.tracked (last_after p (run_of i w)) (flat_map (run_of i) q)),
      )
      (on (good_before N i.sets i.tracked ok.few_ways ok.some_sets ok.few_sets f B good (last_after p (run_of i w)) (flat_map (run_of i) q))
      (dead_ahead f B good deaf z w q (and_right (linked (edges_of i.edges) v w) _ h) (last_after p (run_of i w))))
    where
      on : {g : Weight} {D : ℕ} → Good N i.sets i.tracked g D → Deaf N i.sets i.tracked (live_after i w) g
          → Deaf N i.sets i.tracked (live_after i v) (ahead p (run_of i w) g)
      on {g} {D} good deaf =
          deaf_wider N i.sets i.tracked (live_before i w) (live_after i v) (ahead p (run_of i w) g) (live_edge v w (and_left (linked (edges_of i.edges) v w) _ h))
          (good_before N i.sets i.tracked ok.few_ways ok.some_sets ok.few_sets g D good p (run_of i w)).rises
          (deaf_before N i.sets i.tracked ok.few_ways ok.some_sets ok.few_sets g D good (live_after i w) deaf p (run_of i w))
