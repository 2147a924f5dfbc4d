-- What makes the states in some words a table: the numbers of one state, and that what any kind of table is asked is what this one is.
use mathlib.Core.Path.{◌≡◌, refl, sym, ap, ◌∙◌}
use mathlib.Core.Bool.{◌&&◌, and_assoc}
use mathlib.Core.List.{List, [], ◌∷◌, ◌++◌}
use Prim.Native.Nat.{ℕ}
use native.Mathlib.Nat.{div-div-eq-div-mul}
use lib.Dec.{leb}
use Rattle.std.specs.Int.{w64, to_be_bytes}
use Rattle.std.specs.List.{list_all}
use Rattle.std.proofs.lemmas.List.Recursion.{same_from_clauses}
use Rattle.rules.specs.declared.Filled.{Filled}
use Rattle.rules.specs.declared.State.{State}
use Rattle.rules.specs.Table.{listing}
use Rattle.rules.specs.Filling.{bytes_of, numbers_of}
use Rattle.rules.specs.Questions.{all_most, fitting, all_fitting, is_table}
use Rattle.any_table.specs.Accepted.{all_fitting as all_of, is_table_of}

-- ---- the filled numbers of a word

most_append : (k : ℕ) (ms ns : List ℕ) → all_most k (ms ++ ns) ≡ (all_most k ms && all_most k ns)
most_append k [] ns = refl
most_append k (m ∷ ms) ns = ap (leb m k &&◌) (most_append k ms ns) ∙ sym (and_assoc (leb m k) (all_most k ms) (all_most k ns))

-- the eight bytes of a word, first to last
pub word_bytes : (w : ℕ) → bytes_of 8 w ≡ to_be_bytes w64 w
unfolding bytes_of
word_bytes w = simp div-div-eq-div-mul

pub all_bytes : (ns : List ℕ) → all_most 16 ns ≡ list_all (λ n. leb n 16) ns
all_bytes ns = same_from_clauses (all_most 16) (list_all (λ n. leb n 16)) (λ n r. leb n 16 && r) refl (λ _ _. refl) (λ _ _. refl) ns

-- both words' numbers
pub all_numbers : (F : Filled) → all_most 16 (numbers_of F) ≡ (all_most 16 (bytes_of 8 F.front) && all_most 16 (bytes_of 8 F.back))
unfolding numbers_of
all_numbers F = most_append 16 (bytes_of 8 F.front) (bytes_of 8 F.back)

-- ---- a table

each_fits : (T : List State) → all_of fitting T ≡ all_fitting T
each_fits [] = refl
each_fits (s ∷ T) = ap (fitting s &&◌) (each_fits T)

pub same_table : (T : List State) → is_table_of listing fitting T ≡ is_table T
unfolding is_table_of is_table
same_table T = rw (each_fits T)
