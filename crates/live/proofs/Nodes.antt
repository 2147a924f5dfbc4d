-- What the 64 numbers say of an accepted graph: at place v what is live at the start of node v, and by them and the edges what is live behind it. Nothing else of what
-- comes in is looked at. No other proof of this crate uses this: it is for the callers.
use Rattle.std.specs.Prelude.{Ok}
use mathlib.Core.Path.{◌≡◌, refl, ap, ap₂, ◌∙◌}
use mathlib.Core.Bool.{cond}
use mathlib.Core.List.{List, [], ◌∷◌, ◌++◌}
use Prim.Native.Nat.{ℕ, zero, suc, ◌+◌, ◌-◌, ◌<◌}
use native.Mathlib.Nat.{le_refl}
use native.Mathlib.Omega.{arith}
use lib.Bits.{bit_or}
use lib.Dec.{eqb}
use lib.ListN.{length, get_or, drop, replicate}
use lib.Seq.{drop-append-le}
use Rattle.rules.specs.declared.Cache.{Cache}
use Rattle.rules.specs.Input.{Input, input_in, nodes, run_of, Edge, edges_of}
use Rattle.rules.specs.Refusals.{verdict}
use Rattle.tight_rules.specs.Run.{living}
use Rattle.tight_rules.specs.Live.{after_node, lives_of, live_after, live_before}
use Rattle.tight_rules.proofs.Live.{lives_at}
use Rattle.live.specs.Starts.{graph_of, starts_of}
use Rattle.live.proofs.Lives.{length_lives}

-- whatever the cache, the limit and the rooms are
pub lives_same : (c : Cache) (K : ℕ) (ts ns bs es : List ℕ) (r w n : ℕ) → lives_of (graph_of ts ns bs es) n ≡ lives_of (input_in c K ts ns bs es r w) n
unfolding lives_of run_of
lives_same c K ts ns bs es r w zero = refl
lives_same c K ts ns bs es r w (suc n) =
    ap (λ (ls : List ℕ). living ts (after_node ls (length ns - suc n) (edges_of es)) (run_of (graph_of ts ns bs es) (length ns - suc n)) ∷ ls) (lives_same c K ts ns bs es r w n)

-- ---- zeros behind the last node add nothing

zeros_at : (k j : ℕ) → get_or {A = ℕ} (replicate k 0) j 0 ≡ 0
zeros_at zero j = refl
zeros_at (suc k) zero = refl
zeros_at (suc k) (suc j) = zeros_at k j

zeros_behind : (ls : List ℕ) (k j : ℕ) → get_or (ls ++ replicate k 0) j 0 ≡ get_or ls j 0
zeros_behind [] k j = zeros_at k j
zeros_behind (l ∷ ls) k zero = refl
zeros_behind (l ∷ ls) k (suc j) = zeros_behind ls k j

after_zeros : (ls : List ℕ) (k v : ℕ) (es : List Edge) → after_node (ls ++ replicate k 0) v es ≡ after_node ls v es
unfolding after_node
after_zeros ls k v [] = refl
after_zeros ls k v (e ∷ es) =
    ap₂ (λ (x y : ℕ). cond (eqb e.from v) (bit_or x y) y) (zeros_behind ls k (e.to - suc v)) (after_zeros ls k v es)

-- ---- what is live at a node's start, and behind it

module _ (i : Input) where
  -- without the first k of the last n nodes
  drop_lives : (k n m : ℕ) → n ≡ k + m → drop k (lives_of i n) ≡ lives_of i m
  unfolding lives_of
  drop_lives zero n m e = let same : n ≡ m = omega arith in rw same refl
  drop_lives (suc k) zero m e = absurd (omega arith)
  drop_lives (suc k) (suc n) m e = drop_lives k n m (omega arith)

  module _ (v : ℕ) (l : v < nodes i) (k : ℕ) where
    abbrev starts : List ℕ
    starts = lives_of i (nodes i) ++ replicate k 0

    pub start_live : get_or starts v 0 ≡ live_before i v
    start_live =
        zeros_behind (lives_of i (nodes i)) k v
        ∙ lives_at i (nodes i) v l (le_refl (nodes i))
        ∙ (let here : nodes i - nodes i + v ≡ v = omega arith in ap (live_before i) here)

    pub behind_live : after_node (drop (v + 1) starts) v (edges_of i.edges) ≡ live_after i v
    unfolding live_after
    behind_live =
        rw (
          drop-append-le (v + 1) (lives_of i (nodes i)) (replicate k 0) (omega (arith, length_lives i (nodes i))),
          drop_lives (v + 1) (nodes i) (nodes i - suc v) (omega arith),
        )
        (after_zeros (lives_of i (nodes i - suc v)) k v (edges_of i.edges))

  pub starts_are : Ok tt ≡ verdict i → starts_of i ≡ lives_of i (nodes i) ++ replicate (64 - nodes i) 0
  unfolding starts_of
  starts_are h = rw (← h)
