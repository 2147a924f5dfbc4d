-- A number in decimal: all digits, at least one and no more than it needs, and read back they say the number; so a number of 32 bits is a
-- number of a well-formed text. The kit's decimal writer writes the same. The laws go by the digits from the last one on, as `decimal_from`
-- does.
use mathlib.Core.Path.{◌≡◌, refl, ap₂, ◌∙◌}
use mathlib.Core.Bool.{Bool, true, false, cond}
use mathlib.Core.List.{List, [], ◌∷◌, ◌++◌}
use Prim.Native.Nat.{ℕ, zero, suc, ◌+◌, ◌-◌, ◌/◌, ◌%◌, ◌^◌, ◌≤◌, ◌<◌, zero-le}
use native.Mathlib.Nat.{one-le-pow}
use native.Mathlib.Omega.{arith}
use lib.Dec.{ltb}
use lib.ListN.{length, length-append}
use borrow.Author.Tests.{ltb-true, ltb-false, lt-ltb, le-ltb, le-leb}
use Rattle.basics.proofs.Bools.{both}
use Rattle.io.specs.Digits.{hex_digit_ascii, last_digits, IsDigitCount}
use Rattle.reading.specs.Reading.{all_digits, value_from, is_number}
use Rattle.writing.specs.Writing.{decimal_from, decimal}
use Rattle.reading.proofs.Appended.{digits_append, value_append}

-- the last digit of n
abbrev last : ℕ → List ℕ
last n = (48 + n % 10) ∷ []

-- P k n holds of n in at most k digits, if it holds of no digit, of one, and with one more at the end
module _ (P : ℕ → ℕ → List ℕ → Type 0) (none : (n : ℕ) → P 0 n []) (one : (k n : ℕ) → n < 10 → P (suc k) n (last n))
    (more : (k n : ℕ) → 10 ≤ n → (w : List ℕ) → P k (n / 10) w → P (suc k) n (w ++ last n)) where
  by_digits : (k n : ℕ) → P k n (decimal_from k n)
  by_digits zero n = none n
  by_digits (suc k) n = go (ltb n 10) refl (by_digits k (n / 10))
    where
      go : (b : Bool) → ltb n 10 ≡ b → P k (n / 10) (decimal_from k (n / 10)) → P (suc k) n (cond b [] (decimal_from k (n / 10)) ++ last n)
      go true p h = one k n (ltb-true n 10 p)
      go false p h = more k n (ltb-false n 10 p) (decimal_from k (n / 10)) h

-- ---- its digits

last_digit : (n : ℕ) → all_digits (last n) ≡ true
last_digit n = rw (le-leb 48 (48 + n % 10) (omega arith), le-leb (48 + n % 10) 57 (omega arith))

pub decimal_digits : (n : ℕ) → all_digits (decimal n) ≡ true
unfolding decimal
decimal_digits =
    by_digits (λ k n w. all_digits w ≡ true) (λ n. refl) (λ k n s. last_digit n) (λ k n s w h. digits_append w (last n) ∙ both (all_digits w) (all_digits (last n)) h (last_digit n)) 20

-- ---- read back

pub decimal_value : (n : ℕ) → n < 10 ^ 20 → value_from 0 (decimal n) ≡ n
unfolding decimal
decimal_value =
    by_digits (λ k n w. n < 10 ^ k → value_from 0 w ≡ n)
    (λ n l. omega arith)
    (λ k n s l. omega arith)
    (λ k n s w h l. value_append 0 w (last n) ∙ omega (arith, h (omega arith)))
    20

-- ---- how many they are

pub decimal_some : (n : ℕ) → 1 ≤ length (decimal n)
unfolding decimal
decimal_some n = omega (arith, length-append (cond (ltb n 10) [] (decimal_from 19 (n / 10))) (last n))

pub decimal_long : (n : ℕ) → length (decimal n) ≤ 20
unfolding decimal
decimal_long =
    by_digits (λ k n w. length w ≤ k) (λ n. zero-le) (λ k n s. omega arith) (λ k n s w h. omega (arith, length-append w (last n))) 20

-- no more than the number needs
pub decimal_short : (k n : ℕ) → 1 ≤ k → n < 10 ^ k → length (decimal n) ≤ k
unfolding decimal
decimal_short k n =
    by_digits (λ j n w. (k : ℕ) → 1 ≤ k → n < 10 ^ k → length w ≤ k) (λ n k o l. zero-le) (λ j n s k o l. o) longer 20 n k
  where
    longer : (j n : ℕ) → 10 ≤ n → (w : List ℕ) → ((k : ℕ) → 1 ≤ k → n / 10 < 10 ^ k → length w ≤ k)
        → (k : ℕ) → 1 ≤ k → n < 10 ^ k → length (w ++ last n) ≤ k
    longer j n s w h zero o l = absurd (omega arith)
    longer j n s w h (suc zero) o l = absurd (omega arith)
    longer j n s w h (suc (suc k)) o l = omega (arith, length-append w (last n), h (suc k) (omega arith) (omega arith))

pub decimal_number : (n : ℕ) → n ≤ 4294967295 → is_number (decimal n) ≡ true
unfolding is_number
decimal_number n l =
    rw (
      le-leb 1 (length (decimal n)) (decimal_some n),
      le-leb (length (decimal n)) 10 (decimal_short 10 n (omega arith) (omega arith)),
      decimal_digits n,
      decimal_value n (omega arith),
    )
    (le-leb n 4294967295 l)

-- ---- the kit's writer

glyph_last : (n : ℕ) → hex_digit_ascii (n % 10) ∷ [] ≡ last n
glyph_last n = rw (lt-ltb (n % 10) 10 (omega arith))

-- suc r digits, the fewest that hold n
from_written : (r k n : ℕ) → n < 10 ^ suc k → n < 10 ^ suc r → (0 < r → 10 ^ r ≤ n) → last_digits 10 (suc r) n ≡ decimal_from (suc k) n
from_written zero k n l h m = rw (lt-ltb n 10 h) (glyph_last n)
from_written (suc r) zero n l h m = absurd (omega (arith, m (omega arith), one-le-pow r 10 (omega arith)))
from_written (suc r) (suc k) n l h m =
    let s : 10 ^ suc r ≤ n = m (omega arith) in
    rw (le-ltb n 10 (omega (arith, one-le-pow r 10 (omega arith))))
    (ap₂ ◌++◌ (from_written r k (n / 10) (omega arith) (omega arith) (λ o. omega arith)) (glyph_last n))

-- every number of 64 bits
pub decimal_written : (n r : ℕ) → n < 2 ^ 64 → IsDigitCount 10 1 n r → last_digits 10 r n ≡ decimal n
unfolding decimal
decimal_written n zero l h = absurd (omega arith)
decimal_written n (suc r) l h =
    let e : suc r - 1 ≡ r = omega arith in
    from_written r 19 n (omega arith) h.1 (λ o. rw e at (h.2 (omega arith)))
