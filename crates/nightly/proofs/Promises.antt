-- What the nightly build promises: each row is that of the graph by itself; every graph is counted once; and the sum of the set-aside counts fits 64 bits, since of
-- 256 graphs none sets more than WHOLE aside. The first two follow from the definitions alone, the rules of the graph call leaving no other refusals for one set of the
-- first revision with room enough.
use Rattle.std.specs.Prelude.{Err, Ok}
use mathlib.Core.Path.{◌≡◌, refl, sym, ap, ap₂, ◌∙◌}
use mathlib.Core.Bool.{Bool, true, false, cond, ◌||◌, not}
use mathlib.Core.List.{List, [], ◌∷◌, map}
use Prim.Native.Nat.{ℕ, zero, suc, ◌+◌, ◌*◌, ◌^◌, ◌≤◌, ◌<◌}
use native.Mathlib.Nat.{le_refl}
use native.Mathlib.Omega.{arith}
use borrow.Author.Tests.{le-ltb}
use lib.Dec.{eqb, leb, ltb}
use lib.ListN.{length, get_or, drop_of_length-le}
use lib.Seq.{take_all}
use Rattle.basics.specs.Sums.{sum_over}
use Rattle.rules.specs.declared.Refusal.TheVariants.{Text, Ways, Limit, Tracked, Accesses, Graph}
use Rattle.rules.specs.Answers.{Verdict}
use Rattle.rules.specs.Contents.{once}
use Rattle.rules.specs.Input.{Input, nodes}
use Rattle.rules.specs.Refusals.{outside, edges_kept, reasons, verdict, answered, outcome}
use Rattle.curve_numbers.specs.Parts.{plain, complete, input_from}
use Rattle.parts.specs.Call.{numbers_outcome}
use Rattle.night_rows.specs.declared.Row.{Row}
use Rattle.night_rows.specs.Graphs.{cut, graphs_in}
use Rattle.night_rows.specs.Rows.{refused_row}
use Rattle.nightly.specs.Rows.{row_for, row_of}
use Rattle.night_rows.specs.Report.{one_of, under, report_of}
use Rattle.nightly.specs.Call.{rows_of}
use Rattle.night_rows.proofs.Cutting.{cut_few}
use Rattle.nightly.proofs.Reporting.{sum_most}

-- ---- each row is that of the graph by itself

-- a graph's numbers, alone in a list
abbrev alone : List ℕ → List ℕ
alone g = length g ∷ g

graph_alone : (g : List ℕ) → graphs_in (alone g) ≡ g ∷ []
unfolding cut
graph_alone g =
    let all : length g ≤ length g * 1 = omega arith in
    ap₂ (λ (ms rs : List ℕ). ms ∷ (cut 255 rs).graphs) (take_all (length g * 1) g all) (drop_of_length-le g all)

pub row_alone : (u : ℕ) (g : List ℕ) → rows_of u (alone g) ≡ row_of u g ∷ []
row_alone u g = ap (map (row_of u)) (graph_alone g)

map_at : (u : ℕ) (gs : List (List ℕ)) (k : ℕ) (z : Row) → k < length gs → get_or (map (row_of u) gs) k z ≡ row_of u (get_or gs k [])
map_at u [] k z l = absurd (omega arith)
map_at u (g ∷ gs) zero z l = refl
map_at u (g ∷ gs) (suc k) z l = map_at u gs k z (omega arith)

pub each_alone : (u : ℕ) (ns : List ℕ) (k : ℕ) (z : Row) → k < length (graphs_in ns) → get_or (rows_of u ns) k z ∷ [] ≡ rows_of u (alone (get_or (graphs_in ns) k []))
each_alone u ns k z l = ap (λ (r : Row). r ∷ []) (map_at u (graphs_in ns) k z l) ∙ sym (row_alone u (get_or (graphs_in ns) k []))

-- ---- every graph is counted once

-- the counts that a row is added to
abbrev in_counts : Row → ℕ
in_counts r = one_of 0 r + one_of 9 r + one_of 1 r + one_of 2 r + one_of 3 r + one_of 4 r + one_of 5 r

-- the verdict on a graph of one set and the first revision with room enough
abbrev plain_verdict : Bool → Bool → Bool → Bool → Bool → Verdict
plain_verdict w k t a g = cond w (Err Ways) (cond k (Err Limit) (cond t (Err Tracked) (cond a (Err Accesses) (cond g (Err Graph) (Ok tt)))))

verdict_is : (ns : List ℕ) → let i = input_from plain ns in
    verdict i
    ≡ plain_verdict (outside 1 16 i.ways) (outside 1 64 i.limit) (ltb 16 (length i.tracked) || not (once i.tracked)) (ltb 4096 (length i.accesses))
    (outside 1 64 (nodes i) || not (eqb (sum_over (λ n. n) i.lengths) (length i.accesses)) || not (edges_kept (nodes i) i.edges))
unfolding verdict reasons input_from
verdict_is ns = rw (le-ltb (get_or ns 1 0) (get_or ns 1 0) (le_refl (get_or ns 1 0))) refl

counts_verdict : (u : ℕ) (i : Input) (w k t a g : Bool) → in_counts (row_for u i (answered (plain_verdict w k t a g) i)) ≡ 1
counts_verdict u i true k t a g = refl
counts_verdict u i false true t a g = refl
counts_verdict u i false false true a g = refl
counts_verdict u i false false false true g = refl
counts_verdict u i false false false false true = refl
counts_verdict u i false false false false false = refl

counts_of : (u : ℕ) (i : Input) (v : Verdict) (w k t a g : Bool) → v ≡ plain_verdict w k t a g → in_counts (row_for u i (answered v i)) ≡ 1
counts_of u i v w k t a g e = ap (λ (x : Verdict). in_counts (row_for u i (answered x i))) e ∙ counts_verdict u i w k t a g

counts_plain : (u : ℕ) (ns : List ℕ) → in_counts (row_for u (input_from plain ns) (answered (verdict (input_from plain ns)) (input_from plain ns))) ≡ 1
counts_plain u ns =
    let i = input_from plain ns in
    counts_of u i (verdict i) (outside 1 16 i.ways) (outside 1 64 i.limit) (ltb 16 (length i.tracked) || not (once i.tracked)) (ltb 4096 (length i.accesses))
    (outside 1 64 (nodes i) || not (eqb (sum_over (λ n. n) i.lengths) (length i.accesses)) || not (edges_kept (nodes i) i.edges))
    (verdict_is ns)

counts_row : (u : ℕ) (ns : List ℕ) → in_counts (row_of u ns) ≡ 1
unfolding row_of numbers_outcome outcome
counts_row u ns = go (leb (length ns) 16384) (complete ns)
  where
    go : (b c : Bool) → in_counts (cond b (row_for u (input_from plain ns) (cond c (answered (verdict (input_from plain ns)) (input_from plain ns)) (Err Text))) (refused_row Text)) ≡ 1
    go true true = counts_plain u ns
    go true false = refl
    go false c = refl

counts_rows : (u : ℕ) (gs : List (List ℕ)) → let rs = map (row_of u) gs in
    under 0 rs + under 9 rs + under 1 rs + under 2 rs + under 3 rs + under 4 rs + under 5 rs ≡ length gs
counts_rows u [] = refl
counts_rows u (g ∷ gs) = omega (arith, counts_row u g, counts_rows u gs)

pub all_counted : (u : ℕ) (ns : List ℕ) → let a = report_of (rows_of u ns) in
    a.accepted + a.text + a.ways + a.limit + a.tracked + a.accesses + a.graph ≡ length (graphs_in ns)
unfolding report_of
all_counted u ns = counts_rows u (graphs_in ns)

-- ---- the sum of the set-aside counts

pub aside_fits : (u : ℕ) (ns : List ℕ) → (report_of (rows_of u ns)).aside ≤ 2 ^ 56
unfolding report_of
aside_fits u ns = omega (arith, sum_most u (graphs_in ns), cut_few 256 ns)
