-- A table in lent words opens where a state comes in: those from there on are moved up by one, as words, and so as states.
use mathlib.Core.Path.{◌≡◌, sym, ap, ap₂, ◌∙◌}
use mathlib.Core.List.{List, [], ◌∷◌, ◌++◌}
use Prim.Native.Nat.{ℕ, suc, ◌+◌, ◌-◌, ◌*◌, ◌≤◌}
use native.Mathlib.Numerals.{add-one}
use native.Mathlib.Omega.{arith}
use lib.ListN.{length, set, take, drop, length-drop}
use lib.Seq.{paste, length-paste, length-take-le, take-add, take-suc-set, drop-set-lt, drop_at, append_snoc}
use Rattle.rules.specs.declared.State.{State}
use Rattle.words.specs.Tables.{table_of}
use Rattle.words.proofs.Tables.{fits_table}
use Rattle.tables.proofs.Reading.{states_read}
use Rattle.tables.proofs.Moving.{moved_table}
use Rattle.tables.proofs.Nodes.{paste_take, paste_there}

module _ {A : Type 0} where
  -- m states from place `at` on moved up by one, and s put there
  opened : (T : List A) (at m : ℕ) (s : A) → suc at + m ≤ length T
      → take (suc at + m) (set (paste T (suc at) (drop at T) m) at s) ≡ take at T ++ (s ∷ drop at (take (at + m) T))
  opened T at m s room =
      take-add (suc at) m (set U at s)
      ∙ ap₂ (λ (X Y : List A). X ++ Y) (take-suc-set U at s (omega (arith, long)) ∙ ap (◌++ (s ∷ [])) (paste_take T (drop at T) (suc at) m at (omega arith) (omega arith)))
      (ap (take m) (drop-set-lt (suc at) U at s (omega arith)) ∙ paste_there T (drop at T) (suc at) m (omega arith) many)
      ∙ append_snoc (take at T) s (take m (drop at T))
      ∙ ap (λ (Y : List A). take at T ++ (s ∷ Y)) (sym behind)
    where
      U : List A
      U = paste T (suc at) (drop at T) m

      many : m ≤ length (drop at T)
      many = omega (arith, length-drop at T)

      long : length U ≡ length T
      long = length-paste T (suc at) (drop at T) m room many

      behind : drop at (take (at + m) T) ≡ take m (drop at T)
      behind = ap (drop at) (take-add at m T) ∙ drop_at (take at T) (take m (drop at T)) at (length-take-le at T (omega arith))

-- the words of the states from place `at` on, of n, copied to the place behind, and s put there
pub put_in : (ws us : List ℕ) (T : List State) (n at : ℕ) (s : State) → at ≤ n → n * 5 + 5 ≤ length ws
    → us ≡ paste ws ((at + 1) * 5) (drop (at * 5) ws) (n * 5 - at * 5) → T ≡ set (table_of us) at s
    → take (suc n) T ≡ take at (table_of ws) ++ (s ∷ drop at (take n (table_of ws)))
put_in ws us T n at s low room e put =
    ap (take (suc n)) (put ∙ ap (λ (U : List State). set U at s) (ap table_of e ∙ moved_table states_read ws at n (at + 1) low (omega arith) (omega arith)))
    ∙ ap₂ (λ (k p : ℕ). take k (set (paste (table_of ws) p (drop at (table_of ws)) m) at s)) more (add-one at)
    ∙ opened (table_of ws) at m s (omega (arith, fits_table ws (n + 1) (omega arith)))
    ∙ ap (λ (k : ℕ). take at (table_of ws) ++ (s ∷ drop at (take k (table_of ws)))) all
  where
    m : ℕ
    m = n - at

    more : suc n ≡ suc at + m
    more = omega arith

    all : at + m ≡ n
    all = omega arith
