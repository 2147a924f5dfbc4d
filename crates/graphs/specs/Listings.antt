-- The text of a listing, and the curve program's input that it becomes: document 02, request 8/13.
use Rattle.std.specs.Prelude.{Bool, cond, ◌&&◌, List, [], ◌∷◌, ◌++◌, ℕ, ◌/◌, eqb, leb, length, get_or, take}
use Rattle.rules.specs.declared.Refusal.TheVariants.{Text}
use Rattle.rules.specs.Answers.{number_of, first, Verdict}
use Rattle.listing_form.specs.Reading.{listing_of, listing_in}
use Rattle.listing.specs.Expansion.{Graph, graph_of, lengths, accesses, flat}
use Rattle.listing.specs.Call.{listing_reasons}
use Rattle.curve_numbers.specs.Parts.{Part, counted, tracked_part}
use Rattle.writing.specs.Writing.{refused_line, numbers_line}
use Rattle.writing.specs.Told.{told, of_text, accepts, text_worked}

-- ---- what the numbers mean, in order: ways, K, tracked count, tracked blocks, token count, tokens

-- the tokens, behind the tracked blocks
abbrev pub tokens_part : List ℕ → Part
tokens_part ns = counted 1 (tracked_part ns).rest

-- no number is missing and none is left over
unfoldable pub listing_complete : List ℕ → Bool
listing_complete ns = leb 2 (length ns) && (tracked_part ns).enough && (tokens_part ns).enough && eqb (length (tokens_part ns).rest) 0

-- ---- the curve program's input

-- ways and K, the tracked blocks, the run lengths, the accesses, the edges: a line each, the lists behind how many they are; an edge is two numbers
unfoldable pub input_lines : ℕ → ℕ → List ℕ → List ℕ → List ℕ → List ℕ → List ℕ
input_lines N K ts ns bs es =
    numbers_line (N ∷ K ∷ []) ++ numbers_line (length ts ∷ ts) ++ numbers_line (length ns ∷ ns) ++ numbers_line (length bs ∷ bs) ++ numbers_line (length es / 2 ∷ es)

-- of a graph. Of more than 17 tracked blocks 17 are written: the graph call refuses them alike, and the text stays as short as the curve program reads.
abbrev pub input_text : ℕ → ℕ → List ℕ → Graph → List ℕ
input_text N K ts g = input_lines N K (take 17 ts) (lengths g) (accesses g) (flat g.edges)

-- ---- what is printed: 9 for what is malformed, then 14 and 15, then the input with the listing's graph

-- the first reason to refuse tokens, where there is room enough
abbrev pub tokens_verdict : List ℕ → Verdict
tokens_verdict ts = first (listing_reasons (listing_of ts) 64 4096 4032)

-- for ways N, K, tracked blocks and tokens
unfoldable pub of_tokens : ℕ → ℕ → List ℕ → List ℕ → List ℕ
of_tokens N K tracked ts = told (tokens_verdict ts) (input_text N K tracked (graph_of (listing_in (listing_of ts))))

-- for a list of numbers in this order
unfoldable pub listing_of_numbers : List ℕ → List ℕ
listing_of_numbers ns =
    cond (listing_complete ns) (of_tokens (get_or ns 0 0) (get_or ns 1 0) (tracked_part ns).numbers (tokens_part ns).numbers) (refused_line (number_of Text))

-- for a text
abbrev pub listing_of_text : List ℕ → List ℕ
listing_of_text = of_text listing_of_numbers

-- ---- what is expanded: everything else is refused

-- whether a list of numbers is expanded: none is missing or left over, and there is no reason to refuse the tokens
unfoldable pub numbers_expanded : List ℕ → Bool
numbers_expanded ns = listing_complete ns && accepts (tokens_verdict (tokens_part ns).numbers)

-- whether a text is expanded
abbrev pub text_expanded : List ℕ → Bool
text_expanded = text_worked numbers_expanded
