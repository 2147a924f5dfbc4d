-- Folding: document 01, section 3; document 02, request 6/13. What is folded and what becomes of it; how long folds go on is said for every kind
-- of table (AnyTable.antt).
use Rattle.std.specs.Prelude.{Bool, cond, ◌||◌, ◌&&◌, List, ℕ, ◌+◌, ◌-◌, max, eqb, ltb}
use Rattle.rules.specs.declared.Pair.{Pair}
use Rattle.rules.specs.Contents.{size, shared}
use Rattle.rules.specs.AnyTable.{Kind, fewer as fewer_of, choice as choice_of, fold_at as fold_at_of, fold as fold_of, folds_of as folds_of_any, folded as folded_of}
use Rattle.rules.specs.Filling.{fullest, same_filled, at_start}
use Rattle.rules.specs.Table.{State, state, units_of, initial, listing, Work}
use Rattle.rules.specs.Step.{successors, left_over}

-- ---- which two

-- how many blocks s shares with t
abbrev pub sharing : State → State → ℕ
sharing s t = size (shared s.mask t.mask)

-- how far apart in misses they are
abbrev pub apart : State → State → ℕ
apart s t = (s.misses - t.misses) + (t.misses - s.misses)

-- t is a better partner of s than u: it shares more blocks, or as many and is nearer in misses
abbrev pub closer : State → State → State → Bool
closer s t u = ltb (sharing s u) (sharing s t) || (eqb (sharing s u) (sharing s t) && ltb (apart s t) (apart s u))

-- ---- what becomes of them

-- u units of the shared blocks, the larger miss count and the larger filled number of each set
abbrev pub meet : State → State → ℕ → State
meet s t u = state (shared s.mask t.mask) (max s.misses t.misses) (fullest s.filled t.filled) u

-- the units of s, where its mask, misses or filled numbers are not those of m
abbrev pub changed : State → State → ℕ
changed s m = cond (eqb s.mask m.mask && eqb s.misses m.misses && same_filled s.filled m.filled) 0 (units_of s)

-- ---- document 01's kind of table

-- the start is nothing held and 0 misses, with WHOLE units; in a fold and in a join two states become their shared blocks, the larger miss count and
-- the larger filled numbers
abbrev pub states : Kind State
states =
    record {
      listing = listing;
      start = λ i. initial (at_start i);
      successors = successors;
      left_over = left_over;
      closer = closer;
      folds = λ s t. meet s t 0;
      changed = changed;
      joins = λ s t. meet s t 0;
    }

-- s has fewer units than t
abbrev pub fewer : State → State → Bool
fewer s t = fewer_of states s t

-- the state of fewest units and its partner among the others, each the earliest if tied
abbrev pub choice : List State → Pair
choice T = choice_of states T

-- the state at a place, and the state at a place of the others, replaced by one: the units of each that changed are set aside
abbrev pub fold_at : Pair → Work → Work
fold_at p w = fold_at_of states p w

-- one fold, of the two states that document 01 chooses
abbrev pub fold : Work → Work
fold w = fold_of states w

-- only while more than K states remain: n folds at most
abbrev pub folds_of : ℕ → Bool → ℕ → Work → Work
folds_of n enough K w = folds_of_any states n enough K w

-- folded until at most K states are left
abbrev pub folded : ℕ → Work → Work
folded K w = folded_of states K w
