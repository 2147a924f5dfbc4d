-- Words of the working room, handed over to the result.
use Rattle.std.specs.Prelude.{Bool, cond, ◌&&◌, List, ◌++◌, ℕ, ◌+◌, ◌-◌, leb, length, take, drop, replicate}

-- whether a room of k words has n words from place p on, and a result of r words has room for them
abbrev pub goes_over : ℕ → ℕ → ℕ → ℕ → Bool
goes_over r k p n = leb n r && leb (p + n) k

-- the result: the n words of the room from place p on with zeros behind them, where they fit
abbrev pub handed_over : List ℕ → List ℕ → ℕ → ℕ → List ℕ
handed_over rs ws p n = cond (goes_over (length rs) (length ws) p n) (take n (drop p ws) ++ replicate (length rs - n) 0) rs

-- the room after that: zeros
abbrev pub emptied : List ℕ → List ℕ → ℕ → ℕ → List ℕ
emptied rs ws p n = cond (goes_over (length rs) (length ws) p n) (replicate (length ws) 0) ws
