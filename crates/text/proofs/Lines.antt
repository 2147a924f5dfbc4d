-- The lines of a table, in misses or in cycles, from the units at each miss count: what is left of WHOLE behind a count is what stands above it. The
-- spread of a table is answered, and stands at the front of its room.
use Rattle.std.specs.Prelude.{Err, Ok, Result}
use mathlib.Core.Path.{◌≡◌, refl, sym, ap, ap₂, ◌∙◌}
use mathlib.Core.Bool.{true}
use mathlib.Core.List.{List, [], ◌∷◌, ◌++◌, append-nil, append_assoc}
use Prim.Native.Nat.{ℕ, zero, suc, ◌+◌, ◌-◌, ◌*◌, ◌≤◌, ◌<◌}
use native.Mathlib.Nat.{le_of_eq, le_trans, zero-add}
use native.Mathlib.Omega.{arith}
use lib.ListN.{length, take, drop, drop_of_length-le}
use lib.Seq.{drop-cons, take_all}
use Rattle.basics.specs.Sums.{sum_over}
use Rattle.basics.proofs.Sums.{sum_append}
use Rattle.rules.specs.declared.Core.{Core}
use Rattle.rules.specs.declared.State.{State}
use Rattle.rules.specs.declared.Refusal.{Refusal}
use Rattle.rules.specs.Answers.{number_says}
use Rattle.rules.specs.Units.{whole}
use Rattle.rules.specs.Counts.{spread as spread_any}
use Rattle.rules.specs.Table.{total}
use Rattle.rules.specs.Questions.{is_table, units_at, largest, above, counts_below, spread, SpreadAnswer, spread_answer}
use Rattle.rules.specs.Cycles.{cores, core_at}
use Rattle.rules.proofs.Refusals.{numbered}
use Rattle.rules.proofs.Questions.{table_largest, length_counts, counts_at, counts_take, counts_above, table_total, spread_answered}
use Rattle.rules.proofs.Cycles.{miss_above_hit_lem, cycles_are, above_cycles_at}
use Rattle.lines.specs.Lines.{count_line, lines_below, curve_line, curve_lines}
use Rattle.lines.specs.Cores.{core_line, cycle_line, core_lines}
use Rattle.lines.specs.Counts.{count_lines, core_counts}
use Rattle.text.specs.Working.{Counted}

-- the same lines for each number below n
lines_alike : (f g : ℕ → List ℕ) (n : ℕ) → ((k : ℕ) → k < n → f k ≡ g k) → lines_below f n ≡ lines_below g n
unfolding lines_below
lines_alike f g zero h = refl
lines_alike f g (suc n) h = ap₂ ◌++◌ (lines_alike f g n (λ k l. h k (omega arith))) (h n (omega arith))

module _ (T : List State) (full : total T ≡ whole) where
  -- the units with k misses or more
  abbrev left : ℕ → ℕ
  left k = whole - sum_over (λ n. n) (counts_below k T)

  below_next : (k : ℕ) → sum_over (λ n. n) (counts_below (suc k) T) ≡ sum_over (λ n. n) (counts_below k T) + units_at k T
  below_next k = omega (arith, sum_append (λ n. n) (counts_below k T) (units_at k T ∷ []))

  -- without those at k, they are those above k
  left_less : (k : ℕ) → left k - units_at k T ≡ above k T
  left_less k = omega (arith, below_next k, counts_above k T)

  left_next : (k : ℕ) → left (suc k) ≡ above k T
  left_next k = omega (arith, counts_above k T)

  -- the counts from k on: the first is that at k
  counts_from : (n k : ℕ) → k < n → drop k (counts_below n T) ≡ units_at k T ∷ drop (suc k) (counts_below n T)
  counts_from n k l =
      drop-cons (counts_below n T) k 0 (rw (length_counts n T) l) ∙ ap (λ (u : ℕ). u ∷ drop (suc k) (counts_below n T)) (counts_at n T k l)

  -- lines that say, for each miss count that is there, what it stands for, the units there and the units above
  module _ (line : ℕ → List ℕ) (first step : ℕ) (is : (k : ℕ) → k ≤ largest T → line k ≡ count_line (first + k * step) (units_at k T) (above k T)) where
    -- those below k, and those of the counts from k on
    lines_from : (n k : ℕ) → n + k ≤ suc (largest T)
        → lines_below line k ++ count_lines first step k (left k) (drop k (counts_below (n + k) T)) ≡ lines_below line (n + k)
    unfolding count_lines lines_below
    lines_from zero k l =
        let none : drop k (counts_below k T) ≡ [] = drop_of_length-le (counts_below k T) (le_of_eq (length_counts k T)) in
        rw (zero-add k, none) (append-nil (lines_below line k))
    lines_from (suc n) k l =
        let more : suc n + k ≡ n + suc k = omega arith in
        let rest = drop (suc k) (counts_below (n + suc k) T) in
        rw (more)
        (ap (λ (us : List ℕ). lines_below line k ++ count_lines first step k (left k) us) (counts_from (n + suc k) k (omega arith))
        ∙ ap (λ (v : ℕ). lines_below line k ++ (count_line (first + k * step) (units_at k T) v ++ count_lines first step (suc k) v rest)) (left_less k)
        ∙ ap (λ (t : List ℕ). lines_below line k ++ (t ++ count_lines first step (suc k) (above k T) rest)) (sym (is k (omega arith)))
        ∙ sym (append_assoc (lines_below line k) (line k) (count_lines first step (suc k) (above k T) rest))
        ∙ ap (λ (v : ℕ). lines_below line (suc k) ++ count_lines first step (suc k) v rest) (sym (left_next k))
        ∙ lines_from n (suc k) (omega arith))

    lines_spread : count_lines first step 0 whole (spread T) ≡ lines_below line (suc (largest T))
    unfolding spread_any lines_below
    lines_spread =
        let all : suc (largest T) + 0 ≡ suc (largest T) = omega arith in
        rw all at (lines_from (suc (largest T)) 0 (omega arith))

  curve_spread : count_lines 0 1 0 whole (spread T) ≡ curve_lines T
  curve_spread =
      lines_spread (curve_line T) 0 1 (λ k l. ap (λ (m : ℕ). count_line m (units_at k T) (above k T)) (itself k))
    where
      itself : (k : ℕ) → k ≡ 0 + k * 1
      itself k = omega arith

  -- on a core a miss count stands for its cycles
  cycles_spread : (c : Core) → c.hit < c.miss → (L : ℕ) → largest T ≤ L
      → count_lines (L * c.hit) (c.miss - c.hit) 0 whole (spread T) ≡ lines_below (cycle_line c L T) (suc (largest T))
  cycles_spread c d L inside =
      lines_spread (cycle_line c L T) (L * c.hit) (c.miss - c.hit)
      (λ k l. ap₂ (λ (m v : ℕ). count_line m (units_at k T) v) (cycles_are c d L k (le_trans l inside)) (above_cycles_at c d L k T (le_trans l inside) inside))

-- ---- the spread of a table, as the question answers it

module _ (T : List State) (good : is_table T ≡ true) (room : List ℕ) (long : 4097 ≤ length room) (a : Result ℕ Refusal) (ns : List ℕ)
    (is : record { answer = a; room = ns } ≡ spread_answer T room) where
  answered : ◌≡◌ {A = SpreadAnswer} (record { answer = a; room = ns }) (record { answer = Ok (largest T); room = counts_below (length room) T })
  answered = is ∙ sym (spread_answered T good room (omega (arith, table_largest T good)) (largest T) refl (counts_below (length room) T) refl)

  pub last_counted : (last : ℕ) → a ≡ Ok last → Counted T (last + 1) ns
  unfolding spread_any
  last_counted last e =
      let most : last ≡ largest T = ap (λ (c : Result ℕ Refusal). (number_says c).value) (sym e ∙ ap (λ (s : SpreadAnswer). s.answer) answered) in
      let rest : length room ≡ length room - suc (largest T) + suc (largest T) = omega (arith, table_largest T good) in
      record {
        count = omega arith;
        spread =
            ap₂ (λ (k : ℕ) (t : List ℕ). take k t) (omega_count most) (ap (λ (s : SpreadAnswer). s.room) answered ∙ ap (λ (n : ℕ). counts_below n T) rest)
            ∙ counts_take (length room - suc (largest T)) (suc (largest T)) T;
      }
    where
      omega_count : last ≡ largest T → last + 1 ≡ suc (largest T)
      omega_count most = omega arith

  pub not_refused : (why : Refusal) → a ≡ Err why → ⊥
  not_refused why e = numbered why (ap (λ (c : Result ℕ Refusal). (number_says c).number) (sym e ∙ ap (λ (s : SpreadAnswer). s.answer) answered))

pub counted_long : (T : List State) (n : ℕ) (ns : List ℕ) → Counted T n ns → n ≡ length (take n ns)
unfolding spread_any
counted_long T n ns found = found.count ∙ sym (ap length found.spread ∙ length_counts (suc (largest T)) T)

-- there are no more than a curve can have
counted_few : (T : List State) (n : ℕ) (ns : List ℕ) → is_table T ≡ true → Counted T n ns → take 4097 (take n ns) ≡ spread T
counted_few T n ns good found =
    take_all 4097 (take n ns) (omega (arith, counted_long T n ns found, found.count, table_largest T good)) ∙ found.spread

-- and their lines
pub counted_lines : (T : List State) (n : ℕ) (ns : List ℕ) → is_table T ≡ true → Counted T n ns → count_lines 0 1 0 whole (take 4097 (take n ns)) ≡ curve_lines T
counted_lines T n ns good found = ap (count_lines 0 1 0 whole) (counted_few T n ns good found) ∙ curve_spread T (table_total T good)

pub counted_cores : (T : List State) (n : ℕ) (ns : List ℕ) → is_table T ≡ true → Counted T n ns → (L : ℕ) → largest T ≤ L
    → lines_below (core_counts L (take 4097 (take n ns))) 12 ≡ lines_below (core_lines L T) (length cores)
unfolding core_counts core_lines cores
counted_cores T n ns good found L inside =
    lines_alike (core_counts L (take 4097 (take n ns))) (core_lines L T) 12
    (λ k l. ap (λ (us : List ℕ). core_line k (core_at k) ++ count_lines (L * (core_at k).hit) ((core_at k).miss - (core_at k).hit) 0 whole us) (counted_few T n ns good found)
    ∙ ap (λ (t : List ℕ). core_line k (core_at k) ++ t) (cycles_spread T (table_total T good) (core_at k) (miss_above_hit_lem k l) L inside))
