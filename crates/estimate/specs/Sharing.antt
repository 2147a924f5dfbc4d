-- What becomes of a run that evicts. Each of its states is split into a part for each way; in one stream all of them have the same contents then, one miss more, and the parts of so
-- many ways.
use Rattle.std.specs.Prelude.{◌≡◌, ◌≢◌, ◌⊎◌, false, cond, List, [], ◌∷◌, ℕ, suc, ◌+◌, ◌-◌, ◌*◌, ltb}
use Rattle.rules.specs.declared.State.{State}
use Rattle.rules.specs.declared.Target.{Target}
use Rattle.rules.specs.Contents.{hits, shared}
use Rattle.rules.specs.Table.{state, units_of, state_at}
use Rattle.states.specs.Step.{fills}
use Rattle.estimate.specs.Placing.{place_of}

-- what becomes of s, which then has the contents C and u units: one miss more
abbrev pub share_of : ℕ → State → ℕ → State
share_of C s u = state C (suc s.misses) s.filled u

-- the same with the parts of t ways, of q units each
unfoldable pub share : ℕ → ℕ → State → ℕ → State
share C t s q = share_of C s (q * t)

-- what becomes of the states S, whose parts are Q
unfoldable pub sharing : ℕ → ℕ → List State → List ℕ → List State
sharing C t [] Q = []
sharing C t (s ∷ S) [] = []
sharing C t (s ∷ S) (q ∷ Q) = share C t s q ∷ sharing C t S Q

-- s misses, fills no empty way, and holds a block that it can lose
abbrev pub CanLose : ℕ → Target → State → Type 0
CanLose N x s = (hits x s.mask ≡ false) × (fills N x s ≡ false) × (shared s.mask x.mates ≢ 0)

-- where what becomes of a state is sought first, if it has m misses: among the first n states of T as far behind place p as it has misses more than the state there
abbrev pub guessed : List State → ℕ → ℕ → ℕ → ℕ
guessed T n p m = cond (ltb p n) (p + (m - (state_at T p).misses)) p

-- how far a run goes on in the table T with s, from place p to place q: no further if s has no units, else to the place behind it
abbrev pub Reaches : State → List State → ℕ → ℕ → Type 0
Reaches s T p q = ((units_of s ≡ 0) × (q ≡ p)) ⊎ ((units_of s ≢ 0) × (q ≡ suc (place_of s T)))
