-- An access's successors as streams: document 02, request 2/13. N ways in a set; x is what the access is after.
--
-- A stream lists what becomes of the states of a table in one way each: this block is lost, or none is though one can be, or an empty way is filled, or it is a hit. All states
-- of a stream change by the same amount, so that they stand in the order of the table they come from, and can be merged. What is left over keeps nothing of a mask, and so does
-- not: it is put in first, in its own place.
use Rattle.std.specs.Prelude.{◌≡◌, ◌≢◌, ◌⊎◌, Bool, cond, List, [], ◌++◌, map, ℕ, zero, suc, ◌-◌, ◌*◌, ◌/◌, ◌^◌, ◌<◌, eqb, ltb}
use Rattle.rules.specs.declared.State.{State}
use Rattle.rules.specs.declared.Target.{Target}
use Rattle.rules.specs.Contents.{bit, hits, without, shared, size}
use Rattle.rules.specs.Filling.{filled_at}
use Rattle.rules.specs.Table.{state, units_of}
use Rattle.rules.specs.Step.{at_risk, missed, left_over}
pub use Rattle.states.specs.Step.{fills}
use Rattle.estimate.specs.Placing.{place_of}

-- ---- what becomes of a state, with 0 units where that does not happen to it

-- what is left over goes to the accessed block only
unfoldable pub alone : ℕ → Target → State → State
alone N x s = missed N x s 0 (left_over N x s)

-- the block at place e is lost, with one way's part
unfoldable pub losing : ℕ → Target → ℕ → State → State
losing N x e s = missed N x s (without s.mask e) (cond (hits x s.mask) 0 (cond (bit (at_risk N x s.filled s.mask) e) (units_of s / N) 0))

-- of u units, those that lose nothing where the blocks E can be lost: all, if there are none
abbrev pub kept_of : ℕ → ℕ → ℕ → ℕ
kept_of N E u = cond (eqb E 0) u ((N - size E) * (u / N))

-- every way may be filled, and nothing is lost
unfoldable pub keeping : ℕ → Target → State → State
keeping N x s = missed N x s s.mask (cond (hits x s.mask) 0 (cond (ltb (filled_at s.filled x.set) N) 0 (kept_of N (at_risk N x s.filled s.mask) (units_of s))))

-- an empty way is filled
unfoldable pub filling : ℕ → Target → State → State
filling N x s = missed N x s s.mask (cond (hits x s.mask) 0 (cond (ltb (filled_at s.filled x.set) N) (units_of s) 0))

-- it is a hit, and stays
unfoldable pub hitting : Target → State → State
hitting x s = state s.mask s.misses s.filled (cond (hits x s.mask) (units_of s) 0)

-- the nineteen kinds, by number: 0 to 15 lose the block at that place, 16 keeps, 17 fills, 18 hits
unfoldable pub part : ℕ → Target → ℕ → State → State
part N x k s = cond (ltb k 16) (losing N x k s) (cond (eqb k 16) (keeping N x s) (cond (eqb k 17) (filling N x s) (hitting x s)))

-- ---- streams

-- the first k streams, one behind the other; states of 0 units among them
unfoldable pub in_all : ℕ → Target → List State → ℕ → List State
in_all N x T zero = []
in_all N x T (suc k) = in_all N x T k ++ map (part N x k) T

-- ---- runs

-- whether stream k has anything of states that all are hits (h), or fill an empty way (f), or can lose the blocks E
unfoldable pub comes : Bool → Bool → ℕ → ℕ → Bool
comes h f E k = cond h (ltb 17 k) (cond f (eqb k 17) (cond (ltb k 16) (bit E k) (eqb k 16)))

-- a state of a run: it has the contents C, and fills an empty way or not, as f says
abbrev pub InRun : ℕ → Target → ℕ → Bool → State → Type 0
InRun N x C f s = (s.mask ≡ C) × (fills N x s ≡ f)

-- a state that is a hit or not, fills an empty way or not, and holds these blocks of the accessed set
abbrev pub Alike : ℕ → Target → Bool → Bool → ℕ → State → Type 0
Alike N x h f E s = (hits x s.mask ≡ h) × (fills N x s ≡ f) × (shared s.mask x.mates ≡ E)

-- the filled numbers are words of 64 bits
abbrev pub Words : State → Type 0
Words s = (s.filled.front < 256 ^ 8) × (s.filled.back < 256 ^ 8)

-- how far a run goes on in the table T with s, from place `at` to place `to`: no further if nothing of s comes in stream k, else to the place behind it
abbrev pub Onward : ℕ → Target → ℕ → State → List State → ℕ → ℕ → Type 0
Onward N x k s T at to = ((units_of (part N x k s) ≡ 0) × (to ≡ at)) ⊎ ((units_of (part N x k s) ≢ 0) × Words s × (to ≡ suc (place_of (part N x k s) T)))
