-- What is first of a table that is walked from the front, and what is first when some units of it are used.
use Rattle.std.specs.Prelude.{cond, List, ℕ, suc, eqb}
use Rattle.rules.specs.AnyTable.{Listing, at, less}

-- a place, and the state that is first from there on, with the units that are left of it
pub record Front (A : Type 0) : Type 0 where
  pub place : ℕ
  pub state : A

module _ {A : Type 0} (l : Listing A) where
  -- nothing is used yet of the state at place i; past the end there is none, with 0 units
  abbrev pub front_at : List A → ℕ → Front A
  front_at S i = record { place = i; state = at l S i }

  -- u units more are used of the first state: if those are all, the next one is first
  abbrev pub front_after : List A → ℕ → Front A → Front A
  front_after S u f = cond (eqb (l.units f.state) u) (front_at S (suc f.place)) (record { place = f.place; state = less l f.state u })
