-- `carry` goes state by state. The invariant of its loop: i states are carried.
use mathlib.Core.Path.{◌≡◌}
use mathlib.Core.List.{◌++◌}
use Prim.Native.Nat.{◌*◌}
use lib.ListN.{take, drop}
use Rattle.words.specs.BestTables.{table_of, words_of}
use Rattle.best.proofs.finish.carry.Given as goal

abbrev pub invariant-loop-i : goal.invariant-loop-i
invariant-loop-i l =
    l.res ≡ words_of (take l.i (drop l.from (table_of l.work))) ++ drop (l.i * 5) l.initial.res
