-- A pairing or none for each join, as it is handed in, and what the graph call with them answers: document 02, request 11/13.
use Rattle.std.specs.Prelude.{Bool, true, cond, ◌||◌, ◌&&◌, not, List, [], ◌∷◌, ◌++◌, ℕ, ◌+◌, ◌*◌, eqb, leb, length, get_or, take, drop, Err, Ok}
use Rattle.rules.specs.declared.Refusal.TheVariants.{Pairing}
use Rattle.rules.specs.Units.{units}
use Rattle.rules.specs.Answers.{Reason, when, first, Outcome, Verdict}
use Rattle.rules.specs.Input.{Input, nodes, edges_of, joins_to}
use Rattle.rules.specs.AnyTable.{Match, Entries, no_pairing, pairing}
use Rattle.rules.specs.Graph.{finished_by, all_fit}
use Rattle.rules.specs.Refusals.{reasons}

-- ---- entries, as numbers: for each join how many rows its pairing has, or a number that stands for none; and the rows

-- the number that stands for none
abbrev pub no_rows : ℕ
no_rows = 18446744073709551615

-- rows of three numbers: a place in the table joined so far, a place in the joined one, and units
abbrev pub rows_of : List ℕ → List Match
rows_of [] = []
rows_of (a ∷ []) = []
rows_of (a ∷ b ∷ []) = []
rows_of (a ∷ b ∷ u ∷ ns) = record { left = a; right = b; units = u } ∷ rows_of ns

-- how many rows these entries have together
unfoldable pub rows_told : List ℕ → ℕ
rows_told [] = 0
rows_told (n ∷ ns) = cond (eqb n no_rows) 0 n + rows_told ns

-- the entry for join m: none where its number says so or where it has no number; otherwise its rows, which stand behind those of the joins before it
unfoldable pub entry_of : List ℕ → List ℕ → Entries
entry_of ns rs m =
    let n = get_or ns m no_rows in
    cond (eqb n no_rows) no_pairing (pairing (rows_of (take (n * 3) (drop (rows_told (take m ns) * 3) rs))))

-- no pairing has more than 1,088 rows
abbrev pub few_rows : List ℕ → Bool
few_rows [] = true
few_rows (n ∷ ns) = (eqb n no_rows || leb n 1088) && few_rows ns

-- the form, for so many joins: an entry for each, and just the rows that the entries have
unfoldable pub in_form : ℕ → List ℕ → List ℕ → Bool
in_form joins ns rs = eqb (length ns) joins && few_rows ns && eqb (length rs) (rows_told ns * 3)

-- ---- what the graph call answers with them

-- the joins of a graph
abbrev pub joins_of : Input → ℕ
joins_of i = joins_to (edges_of i.edges) (nodes i)

-- the entries have the form, and each pairing is accepted
unfoldable pub entries_fit : Input → List ℕ → List ℕ → Bool
entries_fit i ns rs = in_form (joins_of i) ns rs && all_fit (entry_of ns rs) i (nodes i)

-- 19: entries for more or fewer joins than the graph has, or a pairing that is not accepted
abbrev pub pairing_reason : Input → List ℕ → List ℕ → Reason
pairing_reason i ns rs = when (not (entries_fit i ns rs)) Pairing

-- the first reason that applies: 19 comes after 6
unfoldable pub paired_verdict : Input → List ℕ → List ℕ → Verdict
paired_verdict i ns rs = first (reasons i ++ (pairing_reason i ns rs ∷ []))

-- accepted: the finished table's number of states and its set-aside count; refused: the refusal
abbrev pub paired_answered : Verdict → Input → Entries → Outcome
paired_answered (Ok tt) i q = let w = finished_by q i in Ok (record { states = length w.table; aside = units w.aside })
paired_answered (Err r) i q = Err r

-- the answer: a refusal, or how many states there are and what is set aside
unfoldable pub paired_outcome : Input → List ℕ → List ℕ → Outcome
paired_outcome i ns rs = paired_answered (paired_verdict i ns rs) i (entry_of ns rs)
