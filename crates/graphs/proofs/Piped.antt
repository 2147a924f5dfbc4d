-- What the listing program writes is text that the curve program reads, and the input that it reads there is the graph of the listing: however many numbers the listing
-- has, its graph has no more than 4,351, each of 10 digits at most.
use Rattle.std.specs.Prelude.{Ok}
use mathlib.Core.Path.{◌≡◌, refl, sym, ap, ◌∙◌}
use mathlib.Core.Bool.{true, ◌&&◌}
use mathlib.Core.List.{List, [], ◌∷◌, ◌++◌, map, append-nil, append_assoc, map-append}
use Prim.Native.Nat.{ℕ, zero, suc, ◌*◌, ◌/◌, ◌≤◌}
use native.Mathlib.Omega.{arith}
use borrow.Author.Tests.{leb-true, le-leb}
use lib.Dec.{eqb, leb}
use lib.ListN.{length, get_or, take, drop, length-append, length-take}
use lib.Seq.{take_at, drop_at}
use Rattle.basics.proofs.Bools.{and_left, and_right}
use Rattle.rules.specs.Answers.{first}
use Rattle.rules.specs.declared.Start.TheVariants.{Cold as cold}
use Rattle.rules.specs.Input.{cache, input_of}
use Rattle.rules.specs.Shape.{Every}
use Rattle.rules.proofs.Lists.{every_append, every_take, every_at, every_weaker}
use Rattle.reading.specs.Reading.{all_digits, value_from, is_number, words_from, all_numbers, well_formed, numbers_in}
use Rattle.listing_form.specs.Listing.{Listing, tokens as tokens_of}
use Rattle.listing_form.specs.Reading.{listing_of, listing_in}
use Rattle.listing.specs.Expansion.{graph_of, lengths, accesses, flat}
use Rattle.listing.specs.Call.{listing_reasons}
use Rattle.listing_form.proofs.Reading.{form}
use Rattle.listing.proofs.Calls.{Checked, checked, is_listing}
use Rattle.listing.proofs.Blocks.{accesses_listed, lengths_most, edges_most}
use Rattle.curve_numbers.specs.Parts.{plain, Part, counted, tracked_part, runs_part, accesses_part, edges_part, complete, input_from}
use Rattle.writing.specs.Writing.{decimal, numbers_line}
use Rattle.writing.specs.Told.{of_text}
use Rattle.writing.proofs.ReadBack.{numbers_read, numbers_formed, line_words, line_short}
use Rattle.graphs.specs.Listings.{tokens_part, listing_complete, input_lines, input_text, of_tokens, listing_of_numbers, listing_of_text}
use Rattle.graphs.proofs.Inputs.{Small, graph_small}

-- a line, and what is behind it
lines_words : (ns t rest : List ℕ) → words_from [] t ≡ map decimal rest → words_from [] (numbers_line ns ++ t) ≡ map decimal (ns ++ rest)
lines_words ns t rest e = line_words ns t ∙ ap (λ (ws : List (List ℕ)). map decimal ns ++ ws) e ∙ sym (map-append decimal ns rest)

-- a count and so many numbers for each
counted_front : (w k : ℕ) (xs rest : List ℕ) → length xs ≡ k * w → counted w (k ∷ (xs ++ rest)) ≡ record { enough = true; numbers = xs; rest = rest }
counted_front w k xs rest e =
    let fits : leb (k * w) (length (xs ++ rest)) ≡ true = le-leb (k * w) (length (xs ++ rest)) (omega (arith, length-append xs rest, e)) in
    λ i. record { enough = fits i; numbers = take_at xs rest (k * w) e i; rest = drop_at xs rest (k * w) e i }

-- ---- how long the lines are

-- the rest of a list behind its front, and the front
after : (P : ℕ → Type 0) (xs ys : List ℕ) → Every P (xs ++ ys) → Every P xs × Every P ys
after P [] ys h = (tt, h)
after P (x ∷ xs) ys h = let (a, b) = after P xs ys h.1 in ((h.0, a), b)

input_short : (N K : ℕ) (ts ns bs es : List ℕ) → let all = N ∷ K ∷ length ts ∷ (ts ++ (length ns ∷ (ns ++ (length bs ∷ (bs ++ (length es / 2 ∷ es)))))) in
    Every (λ n. n ≤ 4294967295) all → length (input_lines N K ts ns bs es) ≤ length all * 11
unfolding input_lines
input_short N K ts ns bs es small =
    let P : ℕ → Type 0 = λ n. n ≤ 4294967295 in
    let (ts-small, r₁) = after P ts _ small.1.1.1 in
    let (ns-small, r₂) = after P ns _ r₁.1 in
    let (bs-small, r₃) = after P bs _ r₂.1 in
    let A = numbers_line (N ∷ K ∷ []) in
    let B = numbers_line (length ts ∷ ts) in
    let C = numbers_line (length ns ∷ ns) in
    let D = numbers_line (length bs ∷ bs) in
    let E = numbers_line (length es / 2 ∷ es) in
    omega (
      arith,
      length-append (A ++ B ++ C ++ D) E,
      length-append (A ++ B ++ C) D,
      length-append (A ++ B) C,
      length-append A B,
      line_short (N ∷ K ∷ []) (small.0, (small.1.0, tt)),
      line_short (length ts ∷ ts) (small.1.1.0, ts-small),
      line_short (length ns ∷ ns) (r₁.0, ns-small),
      line_short (length bs ∷ bs) (r₂.0, bs-small),
      line_short (length es / 2 ∷ es) r₃,
      length-append ts (length ns ∷ (ns ++ (length bs ∷ (bs ++ (length es / 2 ∷ es))))),
      length-append ns (length bs ∷ (bs ++ (length es / 2 ∷ es))),
      length-append bs (length es / 2 ∷ es),
    )

-- ---- the numbers that an input says, in the curve program's order

module _ (N K : ℕ) (ts ns bs es : List ℕ) where
  abbrev pub numbers_of : List ℕ
  numbers_of = N ∷ K ∷ length ts ∷ (ts ++ (length ns ∷ (ns ++ (length bs ∷ (bs ++ (length es / 2 ∷ es))))))

  input_words : words_from [] (input_lines N K ts ns bs es) ≡ map decimal numbers_of
  unfolding input_lines words_from
  input_words =
      let A = numbers_line (N ∷ K ∷ []) in
      let B = numbers_line (length ts ∷ ts) in
      let C = numbers_line (length ns ∷ ns) in
      let D = numbers_line (length bs ∷ bs) in
      let E = numbers_line (length es / 2 ∷ es) in
      let last = lines_words (length es / 2 ∷ es) [] [] refl ∙ ap (map decimal) (append-nil (length es / 2 ∷ es)) in
      let two = lines_words (length bs ∷ bs) (E ++ []) (length es / 2 ∷ es) last in
      let three = lines_words (length ns ∷ ns) (D ++ (E ++ [])) (length bs ∷ (bs ++ (length es / 2 ∷ es))) two in
      let four = lines_words (length ts ∷ ts) (C ++ (D ++ (E ++ []))) (length ns ∷ (ns ++ (length bs ∷ (bs ++ (length es / 2 ∷ es))))) three in
      ap (words_from [])
      (append_assoc (A ++ B ++ C) D E ∙ append_assoc (A ++ B) C (D ++ E) ∙ append_assoc A B (C ++ (D ++ E))
      ∙ ap (λ (e : List ℕ). A ++ (B ++ (C ++ (D ++ e)))) (sym (append-nil E)))
      ∙ lines_words (N ∷ K ∷ []) (B ++ (C ++ (D ++ (E ++ [])))) (length ts ∷ (ts ++ (length ns ∷ (ns ++ (length bs ∷ (bs ++ (length es / 2 ∷ es))))))) four

  -- ---- where no number is too large, they are read again

  module _ (small : Every (λ n. n ≤ 4294967295) numbers_of) where
    pub input_read : numbers_in (input_lines N K ts ns bs es) ≡ numbers_of
    input_read = numbers_read (input_lines N K ts ns bs es) numbers_of input_words small

    -- 65,527 bytes at most
    pub input_formed : length numbers_of ≤ 5957 → well_formed (input_lines N K ts ns bs es) ≡ true
    input_formed few =
        numbers_formed (input_lines N K ts ns bs es) numbers_of input_words small (omega (arith, few)) (omega (arith, few, input_short N K ts ns bs es small))

  -- ---- and they are complete

  -- what stands behind each list
  abbrev edges_left : List ℕ
  edges_left = length es / 2 ∷ es

  abbrev accesses_left : List ℕ
  accesses_left = length bs ∷ (bs ++ edges_left)

  abbrev runs_left : List ℕ
  runs_left = length ns ∷ (ns ++ accesses_left)

  tracked_are : tracked_part numbers_of ≡ record { enough = true; numbers = ts; rest = runs_left }
  tracked_are = counted_front 1 (length ts) ts runs_left (omega arith)

  runs_are : runs_part numbers_of ≡ record { enough = true; numbers = ns; rest = accesses_left }
  runs_are = ap (λ (p : Part). counted 1 p.rest) tracked_are ∙ counted_front 1 (length ns) ns accesses_left (omega arith)

  accesses_are : accesses_part numbers_of ≡ record { enough = true; numbers = bs; rest = edges_left }
  accesses_are = ap (λ (p : Part). counted 1 p.rest) runs_are ∙ counted_front 1 (length bs) bs edges_left (omega arith)

  module _ (even : length es ≡ length es / 2 * 2) where
    edges_are : edges_part numbers_of ≡ record { enough = true; numbers = es; rest = [] }
    edges_are =
        ap (λ (p : Part). counted 2 p.rest) accesses_are
        ∙ ap (λ (xs : List ℕ). counted 2 (length es / 2 ∷ xs)) (sym (append-nil es))
        ∙ counted_front 2 (length es / 2) es [] even

    pub input_complete : complete numbers_of ≡ true
    unfolding complete
    input_complete =
        let two : leb 2 (length numbers_of) ≡ true = le-leb 2 (length numbers_of) (omega arith) in
        λ i. two i && (tracked_are i).enough && (runs_are i).enough && (accesses_are i).enough && (edges_are i).enough && eqb (length (edges_are i).rest) 0

    pub input_is : input_from plain numbers_of ≡ input_of (cache 1 N 1 cold) K ts ns bs es
    unfolding input_from
    input_is = λ i. input_of (cache 1 N 1 cold) K (tracked_are i).numbers (runs_are i).numbers (accesses_are i).numbers (edges_are i).numbers

-- ---- the numbers of a listing's text, and those of its graph

numbers_small : (bytes : List ℕ) → well_formed bytes ≡ true → Every (λ n. n ≤ 4294967295) (numbers_in bytes)
unfolding well_formed numbers_in is_number
numbers_small bytes h = values_small (words_from [] bytes) (and_right (leb (length bytes) 65536) _ (and_left (leb (length bytes) 65536 && all_numbers (words_from [] bytes)) _ h))
  where
    value_small : (w : List ℕ) → is_number w ≡ true → value_from 0 w ≤ 4294967295
    value_small w h = leb-true (value_from 0 w) 4294967295 (and_right (leb 1 (length w) && leb (length w) 10 && all_digits w) _ h)

    values_small : (ws : List (List ℕ)) → all_numbers ws ≡ true → Every (λ n. n ≤ 4294967295) (map (value_from 0) ws)
    values_small [] h = tt
    values_small (w ∷ ws) h = (value_small w (and_left (is_number w) (all_numbers ws) h), values_small ws (and_right (is_number w) (all_numbers ws) h))

every_drop : (P : ℕ → Type 0) (i : ℕ) (ns : List ℕ) → Every P ns → Every P (drop i ns)
every_drop P zero ns h = h
every_drop P (suc i) [] h = tt
every_drop P (suc i) (n ∷ ns) h = every_drop P i ns h.1

part_small : (P : ℕ → Type 0) (w : ℕ) (ns : List ℕ) → Every P ns → Every P (counted w ns).numbers × Every P (counted w ns).rest
part_small P w [] h = (tt, tt)
part_small P w (k ∷ ns) h = (every_take P (k * w) ns h.1, every_drop P (k * w) ns h.1)

-- what it writes
written : (bytes : List ℕ) → well_formed bytes ≡ true → listing_complete (numbers_in bytes) ≡ true → first (listing_reasons (listing_of (tokens_part (numbers_in bytes)).numbers) 64 4096 4032) ≡ Ok tt
    → listing_of_text bytes ≡ input_text (get_or (numbers_in bytes) 0 0) (get_or (numbers_in bytes) 1 0) (tracked_part (numbers_in bytes)).numbers (graph_of (listing_in (listing_of (tokens_part (numbers_in bytes)).numbers)))
unfolding of_text listing_of_numbers of_tokens
written bytes formed is_complete ok = rw (formed, is_complete, ok)

-- The curve program reads what the listing program writes, whatever listing is accepted: it is well formed and complete, and the input that it says has the graph of the
-- listing, with the ways, the state limit and (up to 17 of) the tracked blocks of its text.
pub piped : (bytes : List ℕ) → well_formed bytes ≡ true
    → let all = numbers_in bytes in
    listing_complete all ≡ true
    → let read = listing_of (tokens_part all).numbers in
    first (listing_reasons read 64 4096 4032) ≡ Ok tt
    → let g = graph_of (listing_in read) in
    let text = listing_of_text bytes in
    (well_formed text ≡ true)
    × (complete (numbers_in text) ≡ true)
    × (input_from plain (numbers_in text) ≡ input_of (cache 1 (get_or all 0 0) 1 cold) (get_or all 1 0) (take 17 (tracked_part all).numbers) (lengths g) (accesses g) (flat g.edges))
piped bytes formed is_complete ok =
    rw (written bytes formed is_complete ok, input_read N K ts ns bs es small) (input_formed N K ts ns bs es small few, input_complete N K ts ns bs es g.even, input_is N K ts ns bs es g.even)
  where
    P : ℕ → Type 0
    P n = n ≤ 4294967295

    all : List ℕ
    all = numbers_in bytes

    tokens : List ℕ
    tokens = (tokens_part all).numbers

    s : Listing
    s = listing_in (listing_of tokens)

    N : ℕ
    N = get_or all 0 0

    K : ℕ
    K = get_or all 1 0

    ts : List ℕ
    ts = take 17 (tracked_part all).numbers

    ns : List ℕ
    ns = lengths (graph_of s)

    bs : List ℕ
    bs = accesses (graph_of s)

    es : List ℕ
    es = flat (graph_of s).edges

    c : Checked tokens 64 4096 4032
    c = checked tokens 64 4096 4032 (sym ok)

    g : Small (graph_of s)
    g = graph_small tokens ok

    all_small : Every P all
    all_small = numbers_small bytes formed

    tracked_small : Every P (tracked_part all).numbers × Every P (tracked_part all).rest
    tracked_small = part_small P 1 (drop 2 all) (every_drop P 2 all all_small)

    tokens_small : Every P (tokens_of s)
    tokens_small = rw ((form tokens s).0 (is_listing tokens c.good)).listed (part_small P 1 (tracked_part all).rest tracked_small.1).0

    few_tracked : length ts ≤ 17
    few_tracked = omega (arith, length-take 17 (tracked_part all).numbers)

    few : length (numbers_of N K ts ns bs es) ≤ 5957
    few =
        omega (
          arith,
          length-append ts (length ns ∷ (ns ++ (length bs ∷ (bs ++ (length es / 2 ∷ es))))),
          length-append ns (length bs ∷ (bs ++ (length es / 2 ∷ es))),
          length-append bs (length es / 2 ∷ es),
          few_tracked,
          g.runs,
          g.accesses,
          g.edges,
        )

    small : Every P (numbers_of N K ts ns bs es)
    small =
        let edges-small = every_weaker _ P (λ n h. omega (arith, h, c.few_nodes)) es (edges_most s) in
        let last : Every P (length es / 2 ∷ es) = (omega (arith, g.edges), edges-small) in
        let two : Every P (length bs ∷ (bs ++ (length es / 2 ∷ es))) = (omega (arith, g.accesses), every_append P bs (length es / 2 ∷ es) (accesses_listed P s tokens_small) last) in
        let runs-small = every_weaker _ P (λ n h. omega (arith, h, c.few_accesses)) ns (lengths_most s) in
        let three : Every P (length ns ∷ (ns ++ (length bs ∷ (bs ++ (length es / 2 ∷ es))))) = (omega (arith, g.runs), every_append P ns _ runs-small two) in
        let four = every_append P ts _ (every_take P 17 (tracked_part all).numbers tracked_small.0) three in
        (every_at P 0 (omega arith) 0 all all_small, (every_at P 0 (omega arith) 1 all all_small, (omega (arith, few_tracked), four)))
