-- What is still to come of the runs of a table T, each of which has a head. N ways in a set; x is what the access is after.
use Rattle.std.specs.Prelude.{◌≡◌, Bool, true, cond, List, [], ◌++◌, ◌∷◌, map, ℕ, zero, suc, ◌+◌, ◌^◌, ◌≤◌, ◌<◌, length, take, drop}
use Rattle.rules.specs.declared.State.{State}
use Rattle.rules.specs.declared.Target.{Target}
use Rattle.rules.specs.Contents.{bit, hits, shared, with}
use Rattle.rules.specs.Shape.{Every}
use Rattle.rules.specs.Table.{state_at}
use Rattle.heads.specs.Head.{streams_in, stream_in, stretch_in, length_in, start_in, head_of}
use Rattle.heads.specs.Row.{Among}
use Rattle.estimate.specs.Merging.{part, comes, fills, InRun}

-- the first n streams of the states R, as far as they are among L; states of 0 units among them
unfoldable pub in_some : ℕ → Target → List State → ℕ → ℕ → List State
in_some N x R L zero = []
in_some N x R L (suc k) = in_some N x R L k ++ cond (bit L k) (map (part N x k) R) []

-- the states of the run of head h
abbrev pub run_in : List State → ℕ → List State
run_in T h = take (length_in h) (drop (start_in h) T)

-- the contents of the first of them
abbrev pub mask_in : List State → ℕ → ℕ
mask_in T h = (state_at T (start_in h)).mask

-- what is to come of it
abbrev pub to_come : ℕ → Target → List State → ℕ → List State
to_come N x T h = in_some N x (run_in T h) (streams_in h) 19

-- whether stream k has something of it
abbrev pub comes_in : ℕ → Target → List State → ℕ → ℕ → Bool
comes_in N x T h k = comes (hits x (mask_in T h)) (fills N x (state_at T (start_in h))) (shared (mask_in T h) x.mates) k

-- the head of a run of T: states of one contents that all fill an empty way or do not; each stream that is left has something of them, and as long as one that loses is left so is that which keeps
pub record Heads (N : ℕ) (x : Target) (T : List State) (h : ℕ) : Type 0 where
  pub some : 1 ≤ length_in h
  pub inside : start_in h + length_in h ≤ length T
  pub alike : Every (InRun N x (mask_in T h) (fills N x (state_at T (start_in h)))) (run_in T h)
  pub small : mask_in T h < 2 ^ 16
  pub says : h ≡ head_of (mask_in T h) (with 0 x.place) (stretch_in h) (streams_in h)
  pub next : bit (streams_in h) (stream_in h) ≡ true
  pub coming : (k : ℕ) → bit (streams_in h) k ≡ true → comes_in N x T h k ≡ true
  pub kept : (k : ℕ) → k < 16 → bit (streams_in h) k ≡ true → bit (streams_in h) 16 ≡ true

-- and nothing of it has come
abbrev pub Whole : ℕ → Target → List State → ℕ → Type 0
Whole N x T h = Heads N x T h × ((k : ℕ) → k < 19 → bit (streams_in h) k ≡ comes_in N x T h k)

-- the states of the runs of bs, the last first
unfoldable pub runs_in : List State → List ℕ → List State
runs_in T [] = []
runs_in T (b ∷ bs) = runs_in T bs ++ run_in T b

-- hs are bs, put among each other one after the other, the last first
abbrev pub Mixed : List ℕ → List ℕ → Type 0
Mixed [] hs = hs ≡ []
Mixed (b ∷ bs) hs = (gs : List ℕ) × Among b gs hs × Mixed bs gs

-- hs are the heads of all runs of T, in some order, and nothing of them has come
pub record Runs (N : ℕ) (x : Target) (T : List State) (hs : List ℕ) : Type 0 where
  pub heads : Every (Whole N x T) hs
  pub runs : List ℕ
  pub mixed : Mixed runs hs
  pub all : runs_in T runs ≡ T

-- the first r of gs are these, and those behind them are as they were in hs
pub record RunsListed (N : ℕ) (x : Target) (T : List State) (r : ℕ) (hs gs : List ℕ) : Type 0 where
  pub few : r ≤ length T
  pub listed : Runs N x T (take r gs)
  pub beyond : drop r gs ≡ drop r hs
  pub same : length gs ≡ length hs
