-- What the search for the fewest units knows on its way.
use Rattle.std.specs.Prelude.{◌≡◌, List, ℕ, ◌≤◌, ◌<◌}
use Rattle.rules.specs.declared.State.{State}
use Rattle.rules.specs.Table.{units_of, state_at}

-- u is the least of the units of the states from place i to before place j, and the state at place `has` has it
pub record Fewest (T : List State) (i j u : ℕ) : Type 0 where
  pub each : (q : ℕ) → i ≤ q → q < j → u ≤ units_of (state_at T q)
  pub has : ℕ
  pub from : i ≤ has
  pub to : has < j
  pub units : units_of (state_at T has) ≡ u

-- u is the least of the units of the first n states, and those before place i have more
abbrev pub Lowest : List State → ℕ → ℕ → ℕ → Type 0
Lowest T n u i = Fewest T i n u × ((q : ℕ) → q < i → u < units_of (state_at T q))
