-- The runs of a table listed, one after the other. The heads of those passed stand in front, in the order of what they come to, and their runs are the states passed; at the end these are
-- the table.
use mathlib.Core.Path.{◌≡◌, refl, sym, ap, ◌∙◌, subst}
use mathlib.Core.Bool.{Bool}
use mathlib.Core.List.{List, [], ◌∷◌, ◌++◌}
use Prim.Native.Nat.{ℕ, suc, ◌+◌, ◌-◌, ◌*◌, ◌^◌, ◌≤◌, ◌<◌}
use native.Mathlib.Nat.{le_refl}
use native.Mathlib.Numerals.{add-one}
use native.Mathlib.Omega.{arith}
use lib.ListN.{length, take, drop}
use lib.Seq.{take_all, take-take, take-add, drop-drop, get_or-take, get_or-drop}
use Rattle.rules.specs.declared.State.{State}
use Rattle.rules.specs.declared.Target.{Target}
use Rattle.rules.specs.Contents.{hits, shared, with}
use Rattle.rules.specs.Shape.{Every}
use Rattle.rules.specs.Table.{no_state, state_at}
use Rattle.heads.specs.Head.{head_of, streams_for}
use Rattle.heads.specs.Row.{inserted}
use Rattle.heads.proofs.Rows.{Joined, joined}
use Rattle.estimate.specs.Following.{Workable}
use Rattle.estimate.specs.Merging.{fills, InRun}
use Rattle.estimate.specs.ToCome.{run_in, runs_in, Whole, Mixed, RunsListed}
use Rattle.estimate.proofs.Following.{workable_at}
use Rattle.tables.proofs.Scratch.{stretch_kept}
use Rattle.estimate.proofs.RunHeads.{made_whole, whole}
use Rattle.estimate.proofs.Mixing.{among_every}

-- ---- the m states at place `from` of W, as a table

module _ (W : List State) (from m : ℕ) where
  abbrev pub table : List State
  table = take m (drop from W)

  pub state_there : (i : ℕ) → i < m → state_at table i ≡ state_at W (from + i)
  state_there i l = get_or-take m (drop from W) i no_state l ∙ get_or-drop from W i no_state

  pub run_there : (s n : ℕ) → s + n ≤ m → take n (drop s table) ≡ take n (drop (from + s) W)
  run_there s n l = stretch_kept s n m (drop from W) table l (take-take m m (drop from W) (le_refl m)) ∙ ap (take n) (drop-drop s from W)

-- ---- the runs passed

-- the first `count` of gs are the heads of the runs before place `at` of T, and those behind them are as they were in hs
pub record ListedTo (N : ℕ) (x : Target) (T : List State) (at count : ℕ) (hs gs : List ℕ) : Type 0 where
  pub within : at ≤ length T
  pub few : count ≤ at
  pub heads : Every (Whole N x T) (take count gs)
  pub runs : List ℕ
  pub mixed : Mixed runs (take count gs)
  pub passed : runs_in T runs ≡ take at T
  pub beyond : drop count gs ≡ drop count hs
  pub same : length gs ≡ length hs

module _ (N : ℕ) (x : Target) (T : List State) (hs : List ℕ) where
  pub listed_none : ListedTo N x T 0 0 hs hs
  unfolding runs_in
  listed_none = record { within = omega arith; few = omega arith; heads = tt; runs = []; mixed = refl; passed = refl; beyond = refl; same = refl }

  pub listed_all : (at count : ℕ) (gs : List ℕ) → ListedTo N x T at count hs gs → length T ≤ at → RunsListed N x T count hs gs
  listed_all at count gs l e = record {
    few = omega (arith, l.few, l.within);
    listed = record { heads = l.heads; runs = l.runs; mixed = l.mixed; all = l.passed ∙ take_all at T e };
    beyond = l.beyond;
    same = l.same;
  }

  -- one run more, of n states
  module _ (at count : ℕ) (gs : List ℕ) (l : ListedTo N x T at count hs gs) (n : ℕ) (some : 1 ≤ n) (inside : at + n ≤ length T) (fit : length T ≤ 64) (room : length T < length hs)
      (alike : Every (InRun N x (state_at T at).mask (fills N x (state_at T at))) (take n (drop at T))) (small : (state_at T at).mask < 2 ^ 16) where
    abbrev head : ℕ
    head = whole N x T at n (omega arith) (omega arith)

    is_whole : Whole N x T head × (run_in T head ≡ take n (drop at T))
    is_whole = made_whole N x T at n (omega arith) (omega arith) some inside alike small

    listed_next : (X : List ℕ) → X ≡ inserted count head gs → ListedTo N x T (at + n) (count + 1) hs X
    unfolding runs_in
    listed_next X e =
        let j : Joined count head gs X = joined count head gs X (omega (arith, l.few, l.same)) e in
        subst (λ (c : ℕ). ListedTo N x T (at + n) c hs X) (sym (add-one count))
        (record {
          within = inside;
          few = omega (arith, l.few);
          heads = among_every (Whole N x T) head (take count gs) (take (suc count) X) j.among is_whole.0 l.heads;
          runs = head ∷ l.runs;
          mixed = (take count gs, j.among, l.mixed);
          passed = ap (runs_in T l.runs ++◌) is_whole.1 ∙ ap (◌++ take n (drop at T)) l.passed ∙ sym (take-add at n T);
          beyond = j.beyond ∙ one_further;
          same = j.same ∙ l.same;
        })
      where
        one_further : drop (suc count) gs ≡ drop (suc count) hs
        one_further =
            ap (λ (k : ℕ). drop k gs) (sym (add-one count)) ∙ sym (drop-drop 1 count gs)
            ∙ ap (drop 1) l.beyond ∙ drop-drop 1 count hs ∙ ap (λ (k : ℕ). drop k hs) (add-one count)

    -- the head as it is found
    found_head : (s : State) (f : Bool) (o h : ℕ) → s ≡ state_at T at → f ≡ fills N x s → o ≡ with 0 x.place
        → h ≡ head_of s.mask o (at * 128 + n) (streams_for (hits x s.mask) f (shared s.mask x.mates)) → h ≡ head
    found_head s f o h p q r e =
        e
        ∙ ap (λ (b : Bool). head_of s.mask o (at * 128 + n) (streams_for (hits x s.mask) b (shared s.mask x.mates))) q
        ∙ ap (λ (w : ℕ). head_of s.mask w (at * 128 + n) (streams_for (hits x s.mask) (fills N x s) (shared s.mask x.mates))) r
        ∙ ap (λ (t : State). head_of t.mask (with 0 x.place) (at * 128 + n) (streams_for (hits x t.mask) (fills N x t) (shared t.mask x.mates))) p

-- the run that is found at place `at` of the m states at place `from` of W
module _ (N : ℕ) (x : Target) (W : List State) (from m : ℕ) (hs : List ℕ) (has : length (table W from m) ≡ m) (fit : m ≤ 64) (room : m < length hs) (works : Every (Workable N x) (table W from m)) where
  pub listed_turn : (at count : ℕ) (gs : List ℕ) → ListedTo N x (table W from m) at count hs gs → at < m
      → (s : State) → s ≡ state_at W (from + at) → (f : Bool) → f ≡ fills N x s → (n : ℕ) → (1 ≤ n) × (n ≤ m - at) × Every (InRun N x s.mask f) (take n (drop (from + at) W))
      → (o h : ℕ) → o ≡ with 0 x.place → h ≡ head_of s.mask o (at * 128 + n) (streams_for (hits x s.mask) f (shared s.mask x.mates))
      → (X : List ℕ) → X ≡ inserted count h gs → ListedTo N x (table W from m) (at + n) (count + 1) hs X
  listed_turn at count gs l below s p f q n (some, inside, alike) o h r e X i =
      listed_next N x T hs at count gs l n some (omega (arith, has)) (omega (arith, has)) (omega (arith, has)) same small X
      (i ∙ ap (λ (g : ℕ). inserted count g gs) (found_head N x T hs at count gs l n some (omega (arith, has)) (omega (arith, has)) (omega (arith, has)) same small s f o h here q r e))
    where
      T : List State
      T = table W from m

      here : s ≡ state_at T at
      here = p ∙ sym (state_there W from m at below)

      small : (state_at T at).mask < 2 ^ 16
      small = (workable_at N x T works at).3

      same : Every (InRun N x (state_at T at).mask (fills N x (state_at T at))) (take n (drop at T))
      same =
          subst (λ (t : State). Every (InRun N x t.mask (fills N x t)) (take n (drop at T))) here
          (subst (λ (b : Bool). Every (InRun N x s.mask b) (take n (drop at T))) q
          (subst (λ (R : List State). Every (InRun N x s.mask f) R) (sym (run_there W from m at n (omega arith))) alike))
