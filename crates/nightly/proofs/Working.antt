-- The pass over the graphs: of the rows of all graphs some are in the room and in the report, and the others are those of the graphs behind the place that is reached.
use mathlib.Core.Path.{◌≡◌, refl, sym, ap, ap₂, subst, ◌∙◌}
use mathlib.Core.Bool.{Bool, true, false, cond}
use mathlib.Core.List.{List, [], ◌∷◌, ◌++◌, map, append_assoc, append-nil}
use Prim.Native.Nat.{ℕ, suc, ◌+◌, ◌-◌, ◌*◌, ◌≤◌, ◌<◌}
use native.Mathlib.Omega.{arith}
use borrow.Author.Tests.{leb-true, leb-false}
use lib.Dec.{leb}
use lib.ListN.{length, take, drop, length-append, length-take, length-drop}
use lib.Seq.{take_at, drop-drop}
use Rattle.curve_numbers.specs.Places.{end_of}
use Rattle.night_rows.specs.declared.Report.{Report}
use Rattle.night_rows.specs.declared.Row.{Row}
use Rattle.night_rows.specs.Graphs.{Cut, cut, exactly, graphs_in}
use Rattle.night_rows.specs.Rows.{row_words, rows_words, row_put}
use Rattle.night_rows.proofs.Rows.{five_put}
use Rattle.nightly.specs.Rows.{row_of}
use Rattle.night_rows.specs.Report.{report_of, with_row}
use Rattle.nightly.specs.Call.{rows_of}
use Rattle.night_rows.proofs.Cutting.{cut_end, cut_few, cut_full, next_whole, next_short}
use Rattle.night_rows.proofs.Reporting.{together, nothing, none_together, together_none, together_row}
use Rattle.nightly.proofs.Reporting.{counts_small, aside_small}

-- k graphs are worked: their report is a, and their rows stand at the front of the words ws; the graphs of the cut c are not worked yet
pub record Halfway (u : ℕ) (ns : List ℕ) (k : ℕ) (a : Report) (ws : List ℕ) (c : Cut) : Type 0 where
  pub exact : c.exact ≡ true
  pub many : k + length c.graphs ≡ length (graphs_in ns)
  pub words : take (k * 5) ws ++ rows_words (map (row_of u) c.graphs) ≡ rows_words (rows_of u ns)
  pub report : together a (report_of (map (row_of u) c.graphs)) ≡ report_of (rows_of u ns)

-- a row stands behind those before it
row_behind : (k : ℕ) (ws ws' : List ℕ) (r : Row) → ws' ≡ take (k * 5) ws ++ (row_words r ++ drop (k * 5 + 5) ws) → k * 5 + 5 ≤ length ws
    → take ((k + 1) * 5) ws' ≡ take (k * 5) ws ++ row_words r
row_behind k ws ws' r g long =
    let front : length (take (k * 5) ws ++ row_words r) ≡ (k + 1) * 5 = omega (arith, length-append (take (k * 5) ws) (row_words r), length-take (k * 5) ws, long) in
    ap (take ((k + 1) * 5)) (g ∙ sym (append_assoc (take (k * 5) ws) (row_words r) (drop (k * 5 + 5) ws)))
    ∙ take_at (take (k * 5) ws ++ row_words r) (drop (k * 5 + 5) ws) ((k + 1) * 5) front

-- a row that is put into a part of the room stands there in the whole of it
pub row_stands : (k : ℕ) (ws five : List ℕ) (r : Row) → k * 5 + 5 ≤ length ws → five ≡ row_put r (take (k * 5 + 5 - k * 5) (drop (k * 5) ws))
    → take (k * 5) ws ++ (five ++ drop (k * 5 + 5 - k * 5) (drop (k * 5) ws)) ≡ take (k * 5) ws ++ (row_words r ++ drop (k * 5 + 5) ws)
row_stands k ws five r long e =
    let part = take (k * 5 + 5 - k * 5) (drop (k * 5) ws) in
    let same : k * 5 + (k * 5 + 5 - k * 5) ≡ k * 5 + 5 = omega arith in
    let long-part : length part ≡ 5 = omega (arith, length-take (k * 5 + 5 - k * 5) (drop (k * 5) ws), length-drop (k * 5) ws, long) in
    ap₂ (λ (us vs : List ℕ). take (k * 5) ws ++ (us ++ vs)) (e ∙ five_put part r long-part) (drop-drop (k * 5 + 5 - k * 5) (k * 5) ws ∙ ap (λ (n : ℕ). drop n ws) same)

-- ---- at the start, and in the end

pub halfway_start : (u : ℕ) (ns ws : List ℕ) → exactly ns ≡ true → Halfway u ns 0 nothing ws (cut 256 ns)
halfway_start u ns ws e = record { exact = e; many = omega arith; words = refl; report = none_together (report_of (rows_of u ns)) }

module _ (u : ℕ) (ns : List ℕ) (k at : ℕ) (a : Report) (ws : List ℕ) (h : Halfway u ns k a ws (cut (256 - k) (drop at ns))) where
  module _ (l : length ns ≤ at) where
    last : Halfway u ns k a ws (record { exact = true; graphs = [] })
    last = subst (Halfway u ns k a ws) (cut_end (256 - k) ns at l) h

    pub all_reported : a ≡ report_of (rows_of u ns)
    all_reported = sym (together_none a) ∙ last.report

    pub all_written : take (length (graphs_in ns) * 5) ws ≡ rows_words (rows_of u ns)
    unfolding rows_words
    all_written =
        let count : length (graphs_in ns) ≡ k = omega (arith, last.many) in
        ap (λ (n : ℕ). take (n * 5) ws) count ∙ sym (append-nil (take (k * 5) ws)) ∙ last.words

  -- ---- a graph more

  module _ (l : at < length ns) where
    nonsense : (b : Bool) → (cut (256 - k) (drop at ns)).exact ≡ b → b ≡ false → ⊥
    nonsense b p q = let z : ◌≡◌ {A = ℕ} 0 1 = ap (λ (x : Bool). cond x 0 1) (sym h.exact ∙ p ∙ q) in absurd (omega (arith, z))

    pub few_yet : k < 256
    few_yet = go (leb 256 k) refl
      where
        go : (b : Bool) → leb 256 k ≡ b → k < 256
        go true e =
            let none : 256 - k ≡ 0 = omega (arith, leb-true 256 k e) in
            absurd (nonsense _ refl (ap (λ (n : ℕ). (cut n (drop at ns)).exact) none ∙ ap (λ (c : Cut). c.exact) (cut_full ns at l)))
        go false e = leb-false 256 k e

    one : 256 - k ≡ suc (255 - k)
    one = omega (arith, few_yet)

    pub ends_inside : end_of 1 ns at ≤ length ns
    ends_inside = go (leb (end_of 1 ns at) (length ns)) refl
      where
        go : (b : Bool) → leb (end_of 1 ns at) (length ns) ≡ b → end_of 1 ns at ≤ length ns
        go true e = leb-true (end_of 1 ns at) (length ns) e
        go false e =
            absurd (nonsense _ refl (ap (λ (n : ℕ). (cut n (drop at ns)).exact) one ∙ next_short ns at l (255 - k) (leb-false (end_of 1 ns at) (length ns) e)))

    -- its numbers, and the cut behind it
    abbrev graph : List ℕ
    graph = take (end_of 1 ns at - (at + 1)) (drop (at + 1) ns)

    abbrev rest : Cut
    rest = cut (255 - k) (drop (end_of 1 ns at) ns)

    now_at : Halfway u ns k a ws (record { exact = rest.exact; graphs = graph ∷ rest.graphs })
    now_at = subst (Halfway u ns k a ws) (ap (λ (n : ℕ). cut n (drop at ns)) one ∙ next_whole ns at l (255 - k) ends_inside) h

    pub room_for_row : k * 5 + 5 ≤ length (graphs_in ns) * 5
    room_for_row = omega (arith, now_at.many)

    few_graphs : length (graphs_in ns) ≤ 256
    few_graphs = cut_few 256 ns

    pub row_fits : (r : Row) → r ≡ row_of u graph
        → (a.accepted ≤ 256) × (a.text ≤ 256) × (a.ways ≤ 256) × (a.limit ≤ 256) × (a.tracked ≤ 256) × (a.accesses ≤ 256) × (a.graph ≤ 256)
        × (a.aside + r.aside ≤ 72057594037927936)
    unfolding report_of
    row_fits r e =
        let small = counts_small u (graphs_in ns) few_graphs a (report_of (row_of u graph ∷ map (row_of u) rest.graphs)) now_at.report in
        let sum = aside_small u (graphs_in ns) few_graphs a (report_of (row_of u graph ∷ map (row_of u) rest.graphs)) now_at.report in
        let same : r.aside ≡ (row_of u graph).aside = ap (λ (q : Row). q.aside) e in
        (small.0, small.1, small.2, small.3, small.4, small.5, small.6, omega (arith, sum, same))

    pub halfway_next : (r : Row) → r ≡ row_of u graph → (a' : Report) → a' ≡ with_row a r → (ws' : List ℕ)
        → ws' ≡ take (k * 5) ws ++ (row_words r ++ drop (k * 5 + 5) ws) → k * 5 + 5 ≤ length ws
        → (e : ℕ) → e ≡ end_of 1 ns at → Halfway u ns (k + 1) a' ws' (cut (256 - (k + 1)) (drop e ns))
    unfolding rows_words
    halfway_next r e a' f ws' g long end is =
        let fewer : 255 - k ≡ 256 - (k + 1) = omega (arith, few_yet) in
        let rows = map (row_of u) rest.graphs in
        subst (Halfway u ns (k + 1) a' ws') (ap₂ (λ (n m : ℕ). cut n (drop m ns)) fewer (sym is))
        (record {
          exact = now_at.exact;
          many = omega (arith, now_at.many);
          words =
              ap (λ (xs : List ℕ). xs ++ rows_words rows) (row_behind k ws ws' r g long)
              ∙ append_assoc (take (k * 5) ws) (row_words r) (rows_words rows)
              ∙ ap (λ (q : Row). take (k * 5) ws ++ rows_words (q ∷ rows)) e
              ∙ now_at.words;
          report =
              ap (λ (b : Report). together b (report_of rows)) f
              ∙ together_row a r rows
              ∙ ap (λ (q : Row). together a (report_of (q ∷ rows))) e
              ∙ now_at.report;
        })
