-- A run in one stream: how it goes on there.
use Rattle.std.specs.Prelude.{◌≡◌, true, cond, List, map, ℕ, ◌-◌, ◌/◌, eqb, ltb}
use Rattle.rules.specs.declared.State.{State}
use Rattle.rules.specs.declared.Target.{Target}
use Rattle.rules.specs.Contents.{hits, with, shared, size}
use Rattle.rules.specs.Shape.{Every}
use Rattle.rules.specs.Table.{units_of, rising}
use Rattle.heads.specs.Head.{contents_at}
use Rattle.estimate.specs.Following.{Workable}
use Rattle.estimate.specs.Merging.{comes, fills}
use Rattle.estimate.specs.Sharing.{CanLose}
use Rattle.estimate.specs.Splitting.{SplitIn}
use Rattle.estimate.specs.ToCome.{Heads}

-- the parts of how many of N ways come in stream k, where the blocks E can be lost; 0 where nothing is split
unfoldable pub times_of : ℕ → ℕ → ℕ → ℕ
times_of N E k = cond (ltb k 16) 1 (cond (ltb 16 k) 0 (cond (eqb E 0) 0 (N - size E)))

-- R is a run of the contents C that comes to the contents D in stream k, and Q are the parts of its states, if they can lose a block
pub record Goes (N : ℕ) (x : Target) (k C D : ℕ) (R : List State) (Q : List ℕ) : Type 0 where
  pub rises : rising R ≡ true
  pub workable : Every (Workable N x) R
  pub coming : Every (λ s. comes (hits x s.mask) (fills N x s) (shared s.mask x.mates) k ≡ true) R
  pub alike : Every (λ s. s.mask ≡ C) R
  pub contents : D ≡ contents_at C (with 0 x.place) k
  pub split : Every (CanLose N x) R → Q ≡ map (λ s. units_of s / N) R

-- h is a head of T, and the states of its run have their parts in Q
abbrev pub Waits : ℕ → Target → List State → List ℕ → ℕ → Type 0
Waits N x T Q h = Heads N x T h × SplitIn N x T Q h
