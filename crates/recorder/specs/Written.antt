-- What is written: the trace of a run of accesses.
use Rattle.std.specs.Prelude.{List, [], ◌++◌, ℕ, zero, suc, ◌+◌, ◌/◌, length, take, drop}
use Rattle.trace_blocks.specs.Written.{block_of}

-- how many blocks n accesses take: every block but the last is full, and none is written for no access
abbrev pub blocks_for : ℕ → ℕ
blocks_for n = (n + 124) / 125

-- n blocks from number k on, with 125 of the accesses each, and in the last one what is left
unfoldable pub trace_from : ℕ → ℕ → List ℕ → List ℕ
trace_from zero k xs = []
trace_from (suc n) k xs = block_of k (take 125 xs) ++ trace_from n (suc k) (drop 125 xs)

-- the trace of the accesses xs
unfoldable pub trace_of : List ℕ → List ℕ
trace_of xs = trace_from (blocks_for (length xs)) 0 xs
