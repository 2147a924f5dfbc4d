-- What every table of the work is: code is held to it, and the laws in proofs/ show that each step keeps it.
use Rattle.std.specs.Prelude.{◌≡◌, true, false, List, [], ◌∷◌, ℕ, ◌+◌, ◌^◌, ◌≤◌, ◌<◌, length, Some}
use Rattle.rules.specs.Units.{whole}
use Rattle.rules.specs.Contents.{Place, Target, bit, shared, size, of_set}
use Rattle.rules.specs.Filling.{Filled, filled_at, evenly}
use Rattle.rules.specs.Ordered.{rises}
use Rattle.rules.specs.AnyTable.{Listing, total}
use Rattle.rules.specs.Table.{State, listing}
use Rattle.rules.specs.Best.{BestState, misses_of, hits_of}

-- every element of a list has the property
abbrev pub Every : {A : Type 0} → (A → Type 0) → List A → Type 0
Every P [] = Unit {0}
Every P (x ∷ xs) = P x × Every P xs

-- P is so of s, and it has at least 1 unit
abbrev pub Present : {A : Type 0} → Listing A → (A → Type 0) → A → Type 0
Present l P s = P s × (1 ≤ l.units s)

-- a table of at most K states, of each of which P is so: it rises, and its units total WHOLE
pub record Sound {A : Type 0} (l : Listing A) (P : A → Type 0) (K : ℕ) (T : List A) : Type 0 where
  pub rises : rises l.order T ≡ true
  pub short : length T ≤ K
  pub shaped : Every (Present l P) T
  pub full : total l T ≡ whole

-- x is one of k places, or untracked
abbrev pub Listed : ℕ → Place → Type 0
Listed k x = (i : ℕ) → x ≡ Some i → i < k

-- x has one of the places of ts or none, a place of its own set, one of sixteen, and that set's blocks beside it
pub record Aimed (Z : ℕ) (ts : List ℕ) (x : Target) : Type 0 where
  pub near : x.set < 16
  pub placed : Listed (length ts) x.place
  pub own : (i : ℕ) → x.place ≡ Some i → bit x.mates i ≡ true
  pub beside : x.mates ≡ of_set Z ts x.set

-- C has no more blocks of any set than ways of it may be filled, which are no more than N
abbrev pub Room : ℕ → ℕ → List ℕ → ℕ → Filled → Type 0
Room N Z ts C F = (j : ℕ) → (size (shared C (of_set Z ts j)) ≤ filled_at F j) × (filled_at F j ≤ N)

-- Z sets of N ways, the tracked blocks ts
module _ (N Z : ℕ) (ts : List ℕ) where
  -- a mask of a bit for each, at most M misses, no more blocks of a set than ways that may be filled
  pub record Loose (M : ℕ) (s : State) : Type 0 where
    pub masked : s.mask < 2 ^ length ts
    pub few : s.misses ≤ M
    pub small : Room N Z ts s.mask s.filled

  -- and at least 1 unit
  abbrev pub Shaped : ℕ → State → Type 0
  Shaped M s = Present listing (Loose M) s

  -- at most K states, after at most M accesses
  abbrev pub Table : ℕ → ℕ → List State → Type 0
  Table K M T = Sound listing (Loose M) K T

-- ---- the best case's

module _ (N Z : ℕ) (ts : List ℕ) where
  -- contents of no more blocks of a set than ways, each of which may be filled
  abbrev pub RoomFor : ℕ → Type 0
  RoomFor C = Room N Z ts C (evenly 16 N)

  -- a mask of a bit for each tracked block, no more blocks of a set than ways, the mask of an open state 0, and no more hits and misses than M
  pub record BestLoose (M : ℕ) (s : BestState) : Type 0 where
    pub masked : s.mask < 2 ^ length ts
    pub small : RoomFor s.mask
    pub nothing : s.exact ≡ false → s.mask ≡ 0
    pub few : misses_of s + hits_of s ≤ M
