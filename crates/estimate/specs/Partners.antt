-- What replaces two states in a fold.
use Rattle.std.specs.Prelude.{◌≡◌, List, [], ◌∷◌, ℕ, length, take}
use Rattle.rules.specs.declared.State.{State}
use Rattle.rules.specs.Ordered.{remove}
use Rattle.rules.specs.Table.{add}
-- the place of the one at place p among the others than the one at place i
pub use Rattle.rules.proofs.Partners.{among}

-- T with m in place of the states at places i and p: added into an equal state if there is one
unfoldable pub replaced : ℕ → ℕ → State → List State → List State
replaced i p m T = add (m ∷ []) (remove (among i p) (remove i T))

-- the states at places i and p of the first n states of T are replaced by m; the table is then the first r states of T'
pub record Replaced (i p : ℕ) (m : State) (n r : ℕ) (T T' : List State) : Type 0 where
  pub count : r ≡ length (replaced i p m (take n T))
  pub table : take r T' ≡ replaced i p m (take n T)
