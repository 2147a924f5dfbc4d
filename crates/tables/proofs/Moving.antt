-- States moved within lent words, all at once: a stretch of them copied, and one taken out. Five words to a state, whatever a state is.
use mathlib.Core.Path.{◌≡◌, refl, sym, ap, ap₂, ◌∙◌}
use mathlib.Core.List.{List, [], ◌∷◌, ◌++◌}
use Prim.Native.Nat.{ℕ, zero, suc, ◌+◌, ◌-◌, ◌*◌, ◌≤◌, ◌<◌}
use native.Mathlib.Numerals.{add-one}
use native.Mathlib.Omega.{arith}
use lib.ListN.{length, take, drop, length-drop}
use lib.Seq.{paste, length_paste_head, length-take-le, take-paste, take-take}
use Rattle.std.proofs.lemmas.List.{drop-take}
use Rattle.rules.specs.Ordered.{remove}
use Rattle.tables.proofs.Reading.{Reading}

module _ {A : Type 0} {table_of : List ℕ → List A} (reads : Reading table_of) (ws : List ℕ) where
  -- n states pasted are n * 5 words pasted
  pasted_table : (vs : List ℕ) (to n : ℕ) → to * 5 ≤ length ws → n * 5 ≤ length vs → table_of (paste ws (to * 5) vs (n * 5)) ≡ paste (table_of ws) to (table_of vs) n
  pasted_table vs to n h l =
      reads.onto (take (to * 5) ws ++ take (n * 5) vs) (drop (to * 5 + n * 5) ws) (to + n) (omega (arith, length_paste_head ws (to * 5) vs (n * 5) h l))
      ∙ ap₂ (λ (S T : List A). S ++ T)
      (reads.onto (take (to * 5) ws) (take (n * 5) vs) to (length-take-le (to * 5) ws h) ∙ ap₂ (λ (S T : List A). S ++ T) (reads.first ws to) (reads.first vs n))
      (ap (λ (k : ℕ). table_of (drop k ws)) behind ∙ reads.behind ws (to + n))
    where
      behind : to * 5 + n * 5 ≡ (to + n) * 5
      behind = omega arith

  -- the states from place `from` to before place `past`, copied to place `to` too
  pub moved_table : (from past to : ℕ) → from ≤ past → past * 5 ≤ length ws → to * 5 ≤ length ws
      → table_of (paste ws (to * 5) (drop (from * 5) ws) (past * 5 - from * 5)) ≡ paste (table_of ws) to (drop from (table_of ws)) (past - from)
  moved_table from past to l h k =
      ap (λ (m : ℕ). table_of (paste ws (to * 5) (drop (from * 5) ws) m)) many
      ∙ pasted_table (drop (from * 5) ws) to (past - from) k (omega (arith, length-drop (from * 5) ws))
      ∙ ap (λ (S : List A). paste (table_of ws) to S (past - from)) (reads.behind ws from)
    where
      many : past * 5 - from * 5 ≡ (past - from) * 5
      many = omega arith

  pub copied_table : (from to n : ℕ) → (from + n) * 5 ≤ length ws → to * 5 ≤ length ws
      → table_of (paste ws (to * 5) (drop (from * 5) ws) ((from + n) * 5 - from * 5)) ≡ paste (table_of ws) to (drop from (table_of ws)) n
  copied_table from to n h k =
      let many : from + n - from ≡ n = omega arith in
      moved_table from (from + n) to (omega arith) h k ∙ ap (paste (table_of ws) to (drop from (table_of ws))) many

module _ {A : Type 0} where
  parted : (i : ℕ) (T : List A) → remove i T ≡ take i T ++ drop (suc i) T
  unfolding remove
  parted zero [] = refl
  parted (suc i) [] = refl
  parted zero (t ∷ T) = refl
  parted (suc i) (t ∷ T) = ap (t ∷◌) (parted i T)

  -- those behind place i, of the first n, moved down by one
  pub taken_out : (T : List A) (i n : ℕ) → i < n → n ≤ length T → take (n - 1) (paste T i (drop (i + 1) T) (n - (i + 1))) ≡ remove i (take n T)
  taken_out T i n l h =
      ap (λ (k : ℕ). take k (paste T i (drop (i + 1) T) (n - (i + 1)))) fewer
      ∙ take-paste T i (drop (i + 1) T) (n - (i + 1)) (omega arith) (omega (arith, length-drop (i + 1) T))
      ∙ ap₂ (λ (S U : List A). S ++ U) (sym (take-take i n T (omega arith)))
      (sym (drop-take (i + 1) (n - (i + 1)) T) ∙ ap₂ (λ (k m : ℕ). drop k (take m T)) (add-one i) all)
      ∙ sym (parted i (take n T))
    where
      fewer : n - 1 ≡ i + (n - (i + 1))
      fewer = omega arith

      all : i + 1 + (n - (i + 1)) ≡ n
      all = omega arith
