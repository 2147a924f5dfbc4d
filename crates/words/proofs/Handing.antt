-- Words handed over: word by word into a room of zeros they are the words with zeros behind them.
use mathlib.Core.Path.{◌≡◌, sym, ap, ap₂, ◌∙◌}
use mathlib.Core.Bool.{true}
use mathlib.Core.List.{List, ◌++◌}
use Prim.Native.Nat.{ℕ, ◌+◌, ◌-◌, ◌≤◌, ◌<◌}
use native.Mathlib.Nat.{zero-add}
use native.Mathlib.Numerals.{add-one}
use native.Mathlib.Omega.{arith}
use borrow.Author.Tests.{leb-true, le-leb}
use lib.Dec.{leb}
use lib.ListN.{length, get_or, set, take, drop, replicate, length-drop, length-replicate, replicate-append-replicate}
use lib.Seq.{paste, paste-suc, get_or-drop, drop_at}
use Rattle.basics.proofs.Bools.{both, and_left}
use Rattle.words.specs.Handing.{goes_over, handed_over}

-- one word more is carried
pub carry_turn : (ws vs us us' : List ℕ) (from i : ℕ) → i < length ws → from + i < length vs → us ≡ paste ws 0 (drop from vs) i → us' ≡ set us i (get_or vs (from + i) 0)
    → us' ≡ paste ws 0 (drop from vs) (i + 1)
carry_turn ws vs us us' from i l k p q =
    q ∙ rw (add-one i, p, ← get_or-drop from vs i 0)
    (ap (λ (k : ℕ). set (paste ws 0 (drop from vs) i) k (get_or (drop from vs) i 0)) (sym (zero-add i))
    ∙ paste-suc ws 0 (drop from vs) i 0 (omega arith) (omega (arith, length-drop from vs)))

-- zeros behind what was written over zeros
pub zeros_rest : (n k : ℕ) → k ≤ n → drop {A = ℕ} k (replicate n 0) ≡ replicate (n - k) 0
zeros_rest n k l =
    ap (drop {A = ℕ} k) (ap (λ (m : ℕ). replicate {A = ℕ} m 0) all ∙ sym (replicate-append-replicate k (n - k) 0))
    ∙ drop_at {A = ℕ} (replicate k 0) (replicate (n - k) 0) k (length-replicate {A = ℕ} k 0)
  where
    all : n ≡ k + (n - k)
    all = omega arith

-- n words of ws from place p on, and what they become in a result of the length of rs
module _ (rs ws : List ℕ) (p n : ℕ) where
  -- they fit
  pub goes : n ≤ length rs → p + n ≤ length ws → goes_over (length rs) (length ws) p n ≡ true
  goes l k = both (leb n (length rs)) (leb (p + n) (length ws)) (le-leb _ _ l) (le-leb _ _ k)

  -- and where they do
  fit_result : goes_over (length rs) (length ws) p n ≡ true → n ≤ length rs
  fit_result h = leb-true n (length rs) (and_left (leb n (length rs)) (leb (p + n) (length ws)) h)

  pub hands_over : goes_over (length rs) (length ws) p n ≡ true → (zs us : List ℕ) → zs ≡ replicate (length rs) 0 → us ≡ paste zs 0 (drop p ws) n
      → us ≡ handed_over rs ws p n
  hands_over h zs us z q =
      q ∙ rw h (ap (λ (vs : List ℕ). take n (drop p ws) ++ vs) (ap₂ (λ (k : ℕ) (vs : List ℕ). drop k vs) (zero-add n) z ∙ zeros_rest (length rs) n (fit_result h)))
