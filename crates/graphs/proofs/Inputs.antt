-- The curve program's input for a listing: which text the numbers of a listing give, that it is never longer than 262,144 bytes, and what a call leaves in its rooms.
use mathlib.Core.Path.{◌≡◌, refl, sym, ap, subst, ◌∙◌}
use mathlib.Core.Bool.{Bool, true, false, ◌&&◌}
use mathlib.Core.List.{List, [], ◌∷◌}
use Prim.Native.Nat.{ℕ, ◌+◌, ◌-◌, ◌*◌, ◌/◌, ◌≤◌, ◌<◌, min}
use native.Mathlib.Omega.{arith}
use borrow.Author.Tests.{ltb-true, ltb-false, leb-true}
use lib.Dec.{ltb, leb}
use lib.ListN.{length, get_or, take, drop, replicate, length-append, length-take}
use lib.Seq.{take_all, take-take}
use Rattle.std.specs.Prelude.{Some, None, Err, Ok}
use Rattle.basics.proofs.Bools.{and_left, and_right}
use Rattle.rules.specs.declared.Refusal.{Refusal}
use Rattle.rules.specs.Answers.{number_of, Verdict}
use Rattle.listing_form.specs.Reading.{listing_of, listing_in}
use Rattle.listing.specs.Expansion.{Graph, graph_of, lengths, accesses, flat}
use Rattle.listing.proofs.Sizes.{edges_by_nodes}
use Rattle.listing.proofs.Edges.{node_count}
use Rattle.listing.proofs.Shows.{flat_long}
use Rattle.listing.proofs.Calls.{Expanded, checked, graph_nodes, graph_accesses, graph_edges}
use Rattle.curve_numbers.specs.Parts.{tracked_part}
use Rattle.writing.specs.Put.{Put}
use Rattle.writing.specs.Writing.{refused_line}
use Rattle.writing.specs.Told.{told, accepts}
use Rattle.writing.proofs.Putting.{line_long, put_whole}
use Rattle.writing.proofs.Told.{tested_long, told_long, text_long}
use Rattle.graphs.specs.Listings.{tokens_part, listing_complete, input_lines, input_text, tokens_verdict, of_tokens, listing_of_numbers, listing_of_text, numbers_expanded}
use Rattle.graphs.specs.GraphRooms.{GraphRooms, GraphWrote, room_for_graph, enough_for_graph, graph_written}
use Rattle.graphs.proofs.Places.{Listed}

-- ---- which text the numbers give

pub listing_incomplete : (ns : List ℕ) → listing_complete ns ≡ false → refused_line 9 ≡ listing_of_numbers ns
unfolding listing_of_numbers
listing_incomplete ns h = rw h

pub incomplete_unexpanded : (ns : List ℕ) → listing_complete ns ≡ false → numbers_expanded ns ≡ false
unfolding numbers_expanded
incomplete_unexpanded ns h = rw h

module _ (ns : List ℕ) (a : ℕ) (listed : Listed ns a) where
  -- the tracked blocks and the tokens
  abbrev blocks : List ℕ
  blocks = take (a - 3) (drop 3 ns)

  abbrev tokens : List ℕ
  tokens = take (length ns - (a + 1)) (drop (a + 1) ns)

  printed : of_tokens (get_or ns 0 0) (get_or ns 1 0) blocks tokens ≡ listing_of_numbers ns
  unfolding listing_of_numbers
  printed = rw (listed.complete, listed.tracked, listed.tokens)

  pub listing_refused : (why : Refusal) (n : ℕ) → n ≡ number_of why → tokens_verdict tokens ≡ Err why
      → refused_line n ≡ listing_of_numbers ns
  unfolding of_tokens
  listing_refused why n e h =
      ap refused_line e ∙ sym (ap (λ (v : Verdict). told v (input_text (get_or ns 0 0) (get_or ns 1 0) blocks (graph_of (listing_in (listing_of tokens))))) h) ∙ printed

  accepts_them : accepts (tokens_verdict tokens) ≡ numbers_expanded ns
  unfolding numbers_expanded
  accepts_them = rw (listed.complete, listed.tokens)

  pub refused_unexpanded : (why : Refusal) → tokens_verdict tokens ≡ Err why → numbers_expanded ns ≡ false
  refused_unexpanded why h = sym accepts_them ∙ ap accepts h

  pub shown_expanded : (n b e : ℕ) (rs bs es : List ℕ) → Expanded tokens n b e rs bs es → numbers_expanded ns ≡ true
  shown_expanded n b e rs bs es x = sym accepts_them ∙ ap accepts x.accepted

  -- 17 blocks at most
  shown : take (min 20 a - 3) (drop 3 ns) ≡ take 17 blocks
  shown = go (ltb 20 a) refl
    where
      go : (b : Bool) → ltb 20 a ≡ b → take (min 20 a - 3) (drop 3 ns) ≡ take 17 blocks
      go true e =
          let l : 20 < a = ltb-true 20 a e in
          let many : min 20 a - 3 ≡ 17 = omega (arith, l) in
          ap (λ (k : ℕ). take k (drop 3 ns)) many ∙ sym (take-take 17 (a - 3) (drop 3 ns) (omega (arith, l)))
      go false e =
          let l : a ≤ 20 = ltb-false 20 a e in
          let few : min 20 a ≡ a = omega (arith, l) in
          ap (λ (k : ℕ). take (k - 3) (drop 3 ns)) few ∙ sym (take_all 17 blocks (omega (arith, length-take (a - 3) (drop 3 ns), l)))

  pub listing_shown : (n b e : ℕ) (rs bs es : List ℕ) → Expanded tokens n b e rs bs es
      → input_lines (get_or ns 0 0) (get_or ns 1 0) (take (min 20 a - 3) (drop 3 ns)) (take n rs) (take b bs) (take (e * 2) es) ≡ listing_of_numbers ns
  unfolding of_tokens
  listing_shown n b e rs bs es x =
      (λ i. input_lines (get_or ns 0 0) (get_or ns 1 0) (shown i) (x.runs i) (x.accesses i) (x.edges i))
      ∙ sym (ap (λ (v : Verdict). told v (input_text (get_or ns 0 0) (get_or ns 1 0) blocks (graph_of (listing_in (listing_of tokens))))) x.accepted)
      ∙ printed

-- ---- how long it is

-- how large the graph of an accepted listing is
pub record Small (g : Graph) : Type 0 where
  pub runs : length (lengths g) ≤ 64
  pub accesses : length (accesses g) ≤ 4096
  pub edges : length (flat g.edges) ≤ 168
  pub even : length (flat g.edges) ≡ length (flat g.edges) / 2 * 2

pub graph_small : (ts : List ℕ) → tokens_verdict ts ≡ Ok tt → Small (graph_of (listing_in (listing_of ts)))
graph_small ts ok =
    let s = listing_in (listing_of ts) in
    let g = graph_of s in
    let c = checked ts 64 4096 4032 (sym ok) in
    record {
      runs = omega (arith, node_count g, graph_nodes s, length-append g.earlier (g.current ∷ []), c.few_nodes);
      accesses = omega (arith, graph_accesses s, c.few_accesses);
      edges = omega (arith, flat_long g.edges, graph_edges s, edges_by_nodes s, c.few_nodes);
      even = omega (arith, flat_long g.edges);
    }

input_long : (N K : ℕ) (ts ns bs es : List ℕ) → length ts ≤ 17 → length ns ≤ 64 → length bs ≤ 4096 → length es ≤ 4032
    → length (input_lines N K ts ns bs es) ≤ 262144
unfolding input_lines
input_long N K ts ns bs es few_tracked few_runs few_accesses few_edges =
    simp (length-append)
    (omega (
      arith,
      line_long (N ∷ K ∷ []),
      line_long (length ts ∷ ts),
      line_long (length ns ∷ ns),
      line_long (length bs ∷ bs),
      line_long (length es / 2 ∷ es),
      few_tracked,
      few_runs,
      few_accesses,
      few_edges,
    ))

numbers_long : (ns : List ℕ) → length (listing_of_numbers ns) ≤ 262144
unfolding listing_of_numbers of_tokens
numbers_long ns =
    let N = get_or ns 0 0 in
    let K = get_or ns 1 0 in
    let tracked = (tracked_part ns).numbers in
    let ts = (tokens_part ns).numbers in
    let g = graph_of (listing_in (listing_of ts)) in
    let M : ℕ = 262144 in
    tested_long M (omega arith) (listing_complete ns) 9 (told (tokens_verdict ts) (input_text N K tracked g))
    (λ whole. told_long M (omega arith) (tokens_verdict ts) (input_text N K tracked g)
    (λ ok. let s = graph_small ts ok in
    input_long N K (take 17 tracked) (lengths g) (accesses g) (flat g.edges) (omega (arith, length-take 17 tracked)) s.runs s.accesses (omega (arith, s.edges))))

pub listing_long : (text : List ℕ) → length (listing_of_text text) ≤ 262144
listing_long = text_long 262144 (omega arith) listing_of_numbers numbers_long

-- ---- the rooms

output_long : (a b c d e : ℕ) → room_for_graph a b c d e ≡ true → 262144 ≤ e
output_long a b c d e h = leb-true 262144 e (and_right (leb 16384 a && leb 64 b && leb 4096 c && leb 4032 d) (leb 262144 e) h)

-- what was refused left the rooms as they were
pub graph_refused : (expanded : Bool) (bs : List ℕ) (e : ℕ) (a b : GraphRooms) → expanded ≡ false → Put bs 0 e a.output b.output
    → b.runs ≡ a.runs → b.accesses ≡ a.accesses → b.edges ≡ a.edges → GraphWrote expanded bs e a b
graph_refused expanded bs e a b h done p q s = record { put = done; runs = rw h p; accesses = rw h q; edges = rw h s }

-- what was expanded left them zero
pub graph_worked : (expanded : Bool) (bs : List ℕ) (e : ℕ) (a b : GraphRooms) → expanded ≡ true → Put bs 0 e a.output b.output
    → b.runs ≡ replicate (length a.runs) 0 → b.accesses ≡ replicate (length a.accesses) 0 → b.edges ≡ replicate (length a.edges) 0
    → GraphWrote expanded bs e a b
graph_worked expanded bs e a b h done p q s = record { put = done; runs = rw h p; accesses = rw h q; edges = rw h s }

-- the same, said of a text that is expanded where the other is, and gives the same bytes
pub graph_same : (expanded expanded' : Bool) (bs bs' : List ℕ) (e : ℕ) (a b : GraphRooms) → GraphWrote expanded bs e a b → expanded ≡ expanded' → bs ≡ bs'
    → GraphWrote expanded' bs' e a b
graph_same expanded expanded' bs bs' e a b done p q =
    subst (λ (w : Bool). GraphWrote w bs' e a b) p (subst (λ (t : List ℕ). GraphWrote expanded t e a b) q done)

module _ (expanded : Bool) (bs : List ℕ) (short : length bs ≤ 262144) (numbers : List ℕ) (r : GraphRooms) where
  pub graph_none : enough_for_graph numbers r ≡ false
      → record { answer = None; numbers = numbers; rooms = r } ≡ graph_written (enough_for_graph numbers r) expanded bs numbers r
  graph_none h = rw h

  pub graph_all : enough_for_graph numbers r ≡ true → (e : ℕ) (ns ls bs' es o : List ℕ) → ns ≡ replicate (length numbers) 0
      → GraphWrote expanded bs e r (record { runs = ls; accesses = bs'; edges = es; output = o })
      → record { answer = Some e; numbers = ns; rooms = record { runs = ls; accesses = bs'; edges = es; output = o } }
      ≡ graph_written (enough_for_graph numbers r) expanded bs numbers r
  graph_all h e ns ls bs' es o p done =
      let long = output_long (length numbers) (length r.runs) (length r.accesses) (length r.edges) (length r.output) h in
      let all = put_whole bs e r.output o done.put (omega (arith, short, long)) in
      rw h (λ i. record { answer = Some (all i).end; numbers = p i; rooms = record { runs = done.runs i; accesses = done.accesses i; edges = done.edges i; output = (all i).room } })
