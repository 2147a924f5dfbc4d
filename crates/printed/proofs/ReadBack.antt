-- What a curve says, read back: the numbers in its lines are each miss count, the units there and the units above; the second of every three are the spread.
use mathlib.Core.Path.{◌≡◌, refl, sym, ap, ◌∙◌}
use mathlib.Core.Bool.{true}
use mathlib.Core.List.{List, [], ◌∷◌, ◌++◌, map, map-append, append-nil, append_assoc}
use Prim.Native.Nat.{ℕ, zero, suc, ◌≤◌}
use native.Mathlib.Omega.{arith}
use lib.Seq.{append_snoc}
use Rattle.rules.specs.declared.State.{State}
use Rattle.rules.specs.Units.{whole}
use Rattle.rules.specs.Shape.{Every}
use Rattle.rules.specs.Counts.{spread as spread_any}
use Rattle.rules.specs.Questions.{is_table, units_at, largest, above, counts_below, spread}
use Rattle.rules.proofs.Lists.{every_append}
use Rattle.rules.proofs.Questions.{units_most, above_most, table_total, table_largest}
use Rattle.reading.specs.Reading.{value_from, words_from}
use Rattle.writing.specs.Writing.{decimal}
use Rattle.writing.proofs.ReadBack.{word_decimal, values_read}
use Rattle.lines.specs.Lines.{count_line, lines_below, curve_line, curve_lines}
use Rattle.printed.specs.Numbers.{triples, seconds}

-- ---- the words of a curve's lines: of one line, of those below m, and of all

line_words : (m u v : ℕ) (t : List ℕ) → words_from [] (count_line m u v ++ t) ≡ decimal m ∷ decimal u ∷ decimal v ∷ words_from [] t
unfolding count_line
line_words m u v t = simp (append_assoc, word_decimal)

lines_words : (m : ℕ) (T : List State) (t : List ℕ) → words_from [] (lines_below (curve_line T) m ++ t) ≡ map decimal (triples m T) ++ words_from [] t
unfolding lines_below triples
lines_words zero T t = refl
lines_words (suc m) T t = simp (append_assoc, map-append, lines_words m T, line_words)

curve_words : (T : List State) → words_from [] (curve_lines T) ≡ map decimal (triples (suc (largest T)) T)
unfolding words_from
curve_words T =
    ap (words_from []) (sym (append-nil (curve_lines T)))
    ∙ lines_words (suc (largest T)) T []
    ∙ append-nil (map decimal (triples (suc (largest T)) T))

-- ---- the numbers in a table's lines, none of them above WHOLE

triples_most : (T : List State) → is_table T ≡ true → (m : ℕ) → m ≤ suc (largest T) → Every (λ n. n ≤ whole) (triples m T)
unfolding triples
triples_most T h zero l = tt
triples_most T h (suc m) l =
    every_append (λ n. n ≤ whole) (triples m T) _ (triples_most T h m (omega arith))
    (omega (arith, table_largest T h, table_total T h, units_most m T, above_most m T))

pub curve_read : (T : List State) → is_table T ≡ true → map (value_from 0) (words_from [] (curve_lines T)) ≡ triples (suc (largest T)) T
curve_read T h =
    ap (map (value_from 0)) (curve_words T)
    ∙ values_read whole (omega arith) (triples (suc (largest T)) T) (triples_most T h (suc (largest T)) (omega arith))

-- ---- the spread in them

triples_counts : (m : ℕ) (T : List State) (ns : List ℕ) → seconds (triples m T ++ ns) ≡ counts_below m T ++ seconds ns
unfolding triples seconds
triples_counts zero T ns = refl
triples_counts (suc m) T ns =
    ap seconds (append_assoc (triples m T) (m ∷ units_at m T ∷ above m T ∷ []) ns)
    ∙ triples_counts m T (m ∷ units_at m T ∷ above m T ∷ ns)
    ∙ sym (append_snoc (counts_below m T) (units_at m T) (seconds ns))

pub triples_spread : (T : List State) → seconds (triples (suc (largest T)) T) ≡ spread T
unfolding spread_any seconds
triples_spread T =
    ap seconds (sym (append-nil (triples (suc (largest T)) T)))
    ∙ triples_counts (suc (largest T)) T []
    ∙ append-nil (counts_below (suc (largest T)) T)

pub curve_spread : (T : List State) → is_table T ≡ true → seconds (map (value_from 0) (words_from [] (curve_lines T))) ≡ spread T
curve_spread T h = ap seconds (curve_read T h) ∙ triples_spread T
