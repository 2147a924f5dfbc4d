-- What the loops over a run, over the edges and over the nodes compute.
use Rattle.std.specs.Prelude.{Err, None, Ok}
use mathlib.Core.Path.{◌≡◌, refl, sym, ap, ◌∙◌}
use mathlib.Core.Bool.{Bool, true, false, cond}
use mathlib.Core.List.{List, [], ◌∷◌, ◌++◌}
use Prim.Native.Nat.{ℕ, zero, suc, ◌+◌, ◌-◌, ◌*◌, ◌/◌, ◌≤◌, ◌<◌}
use native.Mathlib.Nat.{le_refl}
use native.Mathlib.Omega.{arith}
use lib.Bits.{bit_or, or_zero_r, or_comm}
use lib.Dec.{eqb}
use lib.ListN.{length, get_or, set, take, drop, replicate, length-drop, drop_of_length-le}
use lib.Seq.{drop-cons, drop-length, set_split, take_all, take_at, drop_at, length-take-le}
use Rattle.basics.specs.Sums.{sum_over}
use Rattle.rules.specs.declared.Target.{Target}
use Rattle.rules.specs.declared.Refusal.{Refusal}
use Rattle.rules.specs.Contents.{find, with, target_of}
use Rattle.rules.specs.Input.{Input, nodes, run_of, offset, edges_of}
use Rattle.rules.specs.Refusals.{verdict}
use Rattle.rules.specs.Shape.{Aimed}
use Rattle.rules.proofs.Sets.{aimed}
use Rattle.rules.proofs.Graph.{offset_next}
use Rattle.graph_check.proofs.Checks.{edges_next, edges_end}
use Rattle.tables.specs.Aim.{in_word, aimed_at}
use Rattle.tables.proofs.Masks.{aimed_so, with_listed}
use Rattle.words.proofs.Handing.{zeros_rest}
use Rattle.tight_rules.specs.Run.{living}
use Rattle.tight_rules.specs.Live.{live_at, after_node, lives_of}
use Rattle.live.specs.Starts.{starts_of}

-- ---- one access

pub with_found : (ts : List ℕ) → length ts ≤ 16 → (L b D : ℕ) (x : Target) → x ≡ aimed_at 1 ts None b → D ≡ with L (in_word x.place) → D ≡ with L (find ts b)
unfolding target_of
with_found ts few L b D x e q =
    let so = aimed_so 1 ts few refl None b x e in
    let a : Aimed 1 ts x = rw so (aimed 1 ts (omega arith) (omega arith) None b) in
    with_listed L x.place (λ i p. omega (arith, few, a.placed i p)) D q ∙ rw so refl

-- ---- through a run, from its last access to its first

pub living_end : (ts : List ℕ) (L : ℕ) (bs : List ℕ) → L ≡ living ts L (drop (length bs) bs)
unfolding living
living_end ts L bs = rw (drop-length bs) refl

pub living_next : (ts : List ℕ) (L : ℕ) (bs : List ℕ) (i s D : ℕ) → 0 < i → i ≤ length bs → s ≡ living ts L (drop i bs) → D ≡ with s (find ts (get_or bs (i - 1) 0)) → D ≡ living ts L (drop (i - 1) bs)
unfolding living
living_next ts L bs zero s D h l e q = absurd (omega arith)
living_next ts L bs (suc i) s D h l e q =
    let down : suc i - 1 ≡ i = omega arith in
    rw (down, drop-cons bs i 0 l) (rw (down, e) at q)

-- ---- through the edges, from the last to the first

pub back : (ls : List ℕ) (v w r : ℕ) → w ≤ v → r ≡ get_or ls 0 0 → r ≡ live_at ls v w
back ls v w r l e = let none : w - suc v ≡ 0 = omega arith in rw none e

pub onward : (ls : List ℕ) (v w r : ℕ) → r ≡ get_or ls (w - v - 1) 0 → r ≡ live_at ls v w
onward ls v w r e = let same : w - v - 1 ≡ w - suc v = omega arith in rw same at e

pub after_end : (ls ns : List ℕ) (v e : ℕ) → e ≡ length ns / 2 * 2 → 0 ≡ after_node ls v (edges_of (drop e ns))
unfolding after_node
after_end ls ns v e l = edges_end (after_node ls v) ns e _ refl (omega arith)

pub after_next : (ls ns : List ℕ) (v e k live d : ℕ) → k + 2 ≡ e → e ≤ length ns → live ≡ after_node ls v (edges_of (drop e ns))
    → d ≡ cond (eqb (get_or ns k 0) v) (live_at ls v (get_or ns (k + 1) 0)) 0 → bit_or live d ≡ after_node ls v (edges_of (drop k ns))
unfolding after_node
after_next ls ns v e k live d up l q r =
    rw (r, q) (go (eqb (get_or ns k 0) v)) ∙ rw up at (edges_next (after_node ls v) ns k _ refl (omega arith))
  where
    go : (b : Bool) → bit_or (after_node ls v (edges_of (drop e ns))) (cond b (live_at ls v (get_or ns (k + 1) 0)) 0)
        ≡ cond b (bit_or (live_at ls v (get_or ns (k + 1) 0)) (after_node ls v (edges_of (drop e ns)))) (after_node ls v (edges_of (drop e ns)))
    go true = or_comm (after_node ls v (edges_of (drop e ns))) (live_at ls v (get_or ns (k + 1) 0))
    go false = or_zero_r (after_node ls v (edges_of (drop e ns)))

-- behind node v, from the list of all nodes; past the last node there is none
pub after_part : (ls es : List ℕ) (v r : ℕ) → v < length ls → r ≡ after_node (take (length ls - (v + 1)) (drop (v + 1) ls)) v (edges_of es) → r ≡ after_node (drop (v + 1) ls) v (edges_of es)
after_part ls es v r h e = rw (take_all (length ls - (v + 1)) (drop (v + 1) ls) (omega (arith, length-drop (v + 1) ls))) at e

pub after_none : (ls es : List ℕ) (v r : ℕ) → length ls ≤ v → r ≡ after_node (take (length ls - length ls) (drop (length ls) ls)) v (edges_of es) → r ≡ after_node (drop (v + 1) ls) v (edges_of es)
after_none ls es v r h e =
    let none : drop (v + 1) ls ≡ [] = drop_of_length-le ls {i = v + 1} (omega arith) in
    rw none (rw (drop-length ls, take_all {A = ℕ} (length ls - length ls) [] (omega arith)) at e)

-- ---- through the nodes, from the last to the first

-- the first places of a list do not matter for what is written at place j and what is behind it
drop_here : (l : List ℕ) (j x : ℕ) → j < length l → drop j (set l j x) ≡ x ∷ drop (suc j) l
drop_here l j x h = ap (drop j) (set_split l j x h) ∙ drop_at (take j l) (x ∷ drop (suc j) l) j (length-take-le j l (omega arith))

module _ (i : Input) where
  pub length_lives : (n : ℕ) → length (lives_of i n) ≡ n
  unfolding lives_of
  length_lives zero = refl
  length_lives (suc n) = ap suc (length_lives n)

  -- the numbers of the nodes from v on, and R behind them
  abbrev pub Held : List ℕ → ℕ → List ℕ → Type 0
  Held R v starts = drop v starts ≡ lives_of i (nodes i - v) ++ R

  pub held_none : (starts : List ℕ) → Held (drop (nodes i) starts) (nodes i) starts
  unfolding lives_of
  held_none starts = let none : nodes i - nodes i ≡ 0 = omega arith in rw none refl

  pub held_all : (starts R : List ℕ) (v : ℕ) → v ≤ 0 → Held R v starts → starts ≡ lives_of i (nodes i) ++ R
  held_all starts R zero h e = let all : nodes i - 0 ≡ nodes i = omega arith in rw all at e
  held_all starts R (suc v) h e = absurd (omega arith)

  module _ (starts R : List ℕ) (v : ℕ) (h : 0 < v) (l : v ≤ nodes i) (e : Held R v starts) where
    -- the numbers of the nodes behind the next one
    pub behind : take (nodes i - (v - 1 + 1)) (drop (v - 1 + 1) starts) ≡ lives_of i (nodes i - v)
    behind = let up : v - 1 + 1 ≡ v = omega arith in rw (up, e) (take_at (lives_of i (nodes i - v)) R (nodes i - v) (length_lives (nodes i - v)))

    pub held_next : v ≤ length starts → (x : ℕ) → x ≡ living i.tracked (after_node (lives_of i (nodes i - v)) (v - 1) (edges_of i.edges)) (run_of i (v - 1))
        → Held R (v - 1) (set starts (v - 1) x)
    unfolding lives_of
    held_next room x q =
        let up : suc (v - 1) ≡ v = omega arith in
        let more : nodes i - (v - 1) ≡ suc (nodes i - v) = omega arith in
        let here : nodes i - suc (nodes i - v) ≡ v - 1 = omega arith in
        drop_here starts (v - 1) x (omega arith) ∙ rw (up, e, more, here, q) refl

-- where its run stands
module _ (i : Input) (v to : ℕ) (h : 0 < v) (l : v ≤ nodes i) (e : to ≡ offset i.lengths v) where
  pub run_fits : get_or i.lengths (v - 1) 0 + offset i.lengths (v - 1) ≡ to
  run_fits = let up : suc (v - 1) ≡ v = omega arith in sym (rw (up, ← e) at (offset_next i.lengths (v - 1) (omega arith)))

  pub run_here : (from : ℕ) → from ≡ offset i.lengths (v - 1) → take (to - from) (drop from i.accesses) ≡ run_of i (v - 1)
  unfolding run_of
  run_here from f = let long : to - from ≡ get_or i.lengths (v - 1) 0 = omega (arith, run_fits, f) in rw (long, f) refl

-- the node's number is written
pub node_done : (i : Input) (starts R : List ℕ) (v to : ℕ) → 0 < v → v ≤ nodes i → v ≤ length starts → to ≡ offset i.lengths v → Held i R v starts → (y x : ℕ)
    → y ≡ after_node (take (nodes i - (v - 1 + 1)) (drop (v - 1 + 1) starts)) (v - 1) (edges_of i.edges)
    → x ≡ living i.tracked y (take (to - (to - get_or i.lengths (v - 1) 0)) (drop (to - get_or i.lengths (v - 1) 0) i.accesses))
    → Held i R (v - 1) (set starts (v - 1) x)
node_done i starts R v to h l room o e y x p q =
    held_next i starts R v h l e room x
    (rw (run_here i v to h l o (to - get_or i.lengths (v - 1) 0) (omega (arith, run_fits i v to h l o)), p, behind i starts R v h l e) at q)

-- behind the last run
pub offset_all : (ns : List ℕ) → sum_over (λ n. n) ns ≡ offset ns (length ns)
unfolding offset
offset_all ns = rw (take_all (length ns) ns (le_refl (length ns))) refl

-- ---- the 64 numbers

pub starts_refused : (i : Input) (r : Refusal) → Err r ≡ verdict i → replicate {A = ℕ} 64 0 ≡ starts_of i
unfolding starts_of
starts_refused i r v = rw (← v)

pub starts_found : (i : Input) (ls : List ℕ) → Ok tt ≡ verdict i → nodes i ≤ 64 → ls ≡ lives_of i (nodes i) ++ drop (nodes i) (replicate 64 0) → ls ≡ starts_of i
unfolding starts_of
starts_found i ls v few e = rw (← v) (rw (zeros_rest 64 (nodes i) few) at e)
