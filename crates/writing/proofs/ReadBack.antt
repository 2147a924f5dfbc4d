-- What is written is what is read. Digits with a gap behind them are a word, so the words of a line of numbers are those numbers in decimal, and read they are the numbers
-- again, from a text that is well formed.
use mathlib.Core.Path.{◌≡◌, refl, sym, ap, ap₂, ◌∙◌}
use mathlib.Core.Bool.{Bool, true, false}
use mathlib.Core.List.{List, [], ◌∷◌, ◌++◌, map, append-nil, append_assoc}
use Prim.Native.Nat.{ℕ, ◌*◌, ◌^◌, ◌≤◌, ◌<◌}
use native.Mathlib.Omega.{arith}
use lib.Dec.{eqb, leb}
use lib.ListN.{length, length-append, length-map}
use lib.Seq.{append_snoc}
use borrow.Author.Tests.{leb-true, le-leb, ne_eqb}
use Rattle.basics.proofs.Bools.{and_left, and_right, both, neither}
use Rattle.rules.specs.Shape.{Every}
use Rattle.reading.specs.Reading.{is_gap, is_digit, all_digits, value_from, is_number, ended, words_from, all_numbers, well_formed, numbers_in}
use Rattle.writing.specs.Writing.{decimal, gap, numbers_line}
use Rattle.writing.proofs.Decimals.{decimal_digits, decimal_value, decimal_some, decimal_short, decimal_number}

-- ---- words

digit_no_gap : (b : ℕ) → is_digit b ≡ true → is_gap b ≡ false
digit_no_gap b h =
    let l : 48 ≤ b = leb-true 48 b (and_left (leb 48 b) (leb b 57) h) in
    neither (eqb b 32) (eqb b 10) (ne_eqb b 32 (omega arith)) (ne_eqb b 10 (omega arith))

-- digits v are added to the word under way, w, and the gap g ends it
words_under_way : (w v : List ℕ) (g : ℕ) (t : List ℕ) → all_digits v ≡ true → is_gap g ≡ true
    → words_from w (v ++ (g ∷ t)) ≡ ended (w ++ v) (words_from [] t)
unfolding words_from
words_under_way w [] g t h l = rw (l, append-nil)
words_under_way w (b ∷ v) g t h l =
    rw (digit_no_gap b (and_left (is_digit b) (all_digits v) h))
    (words_under_way (w ++ (b ∷ [])) v g t (and_right (is_digit b) (all_digits v) h) l
    ∙ ap (λ (u : List ℕ). ended u (words_from [] t)) (append_snoc w b v))

pub words_one : (w : List ℕ) (g : ℕ) (t : List ℕ) → all_digits w ≡ true → 1 ≤ length w → is_gap g ≡ true
    → words_from [] (w ++ (g ∷ t)) ≡ w ∷ words_from [] t
words_one [] g t h s l = absurd (omega arith)
words_one (b ∷ w) g t h s l = words_under_way [] (b ∷ w) g t h l

pub word_decimal : (n g : ℕ) (t : List ℕ) → is_gap g ≡ true → words_from [] (decimal n ++ (g ∷ t)) ≡ decimal n ∷ words_from [] t
word_decimal n g t l = words_one (decimal n) g t (decimal_digits n) (decimal_some n) l

-- ---- numbers

-- no number of 20 digits or fewer is lost
pub values_read : (M : ℕ) → M < 10 ^ 20 → (ns : List ℕ) → Every (λ n. n ≤ M) ns → map (value_from 0) (map decimal ns) ≡ ns
values_read M l [] h = refl
values_read M l (n ∷ ns) h = ap₂ ◌∷◌ (decimal_value n (omega (arith, h.0))) (values_read M l ns h.1)

pub all_numbers_lem : (ns : List ℕ) → Every (λ n. n ≤ 4294967295) ns → all_numbers (map decimal ns) ≡ true
all_numbers_lem [] h = refl
all_numbers_lem (n ∷ ns) h = both (is_number (decimal n)) (all_numbers (map decimal ns)) (decimal_number n h.0) (all_numbers_lem ns h.1)

-- a text whose words are numbers in decimal is read as they are
module _ (text ns : List ℕ) (words : words_from [] text ≡ map decimal ns) (small : Every (λ n. n ≤ 4294967295) ns) where
  pub numbers_read : numbers_in text ≡ ns
  unfolding numbers_in
  numbers_read = rw words (values_read 4294967295 (omega arith) ns small)

  pub numbers_formed : length ns ≤ 16384 → length text ≤ 65536 → well_formed text ≡ true
  unfolding well_formed
  numbers_formed few short = rw (words, le-leb (length text) 65536 short, all_numbers_lem ns small, length-map ns decimal) (le-leb (length ns) 16384 few)

-- ---- a line of numbers, and what is behind it

is_gap_lem : (last : Bool) → is_gap (gap last) ≡ true
is_gap_lem true = refl
is_gap_lem false = refl

pub line_words : (ns t : List ℕ) → words_from [] (numbers_line ns ++ t) ≡ map decimal ns ++ words_from [] t
unfolding numbers_line
line_words [] t = refl
line_words (n ∷ ns) t =
    let g = gap (eqb (length ns) 0) in
    let rest = numbers_line ns in
    ap (words_from []) (append_assoc (decimal n ++ (g ∷ [])) rest t ∙ append_assoc (decimal n) (g ∷ []) (rest ++ t))
    ∙ word_decimal n g (rest ++ t) (is_gap_lem (eqb (length ns) 0))
    ∙ ap (λ (ws : List (List ℕ)). decimal n ∷ ws) (line_words ns t)

-- a number of 32 bits has 10 digits at most
pub line_short : (ns : List ℕ) → Every (λ n. n ≤ 4294967295) ns → length (numbers_line ns) ≤ length ns * 11
unfolding numbers_line
line_short [] h = omega arith
line_short (n ∷ ns) h =
    let g = gap (eqb (length ns) 0) in
    omega (
      arith,
      length-append (decimal n ++ (g ∷ [])) (numbers_line ns),
      length-append (decimal n) (g ∷ []),
      decimal_short 10 n (omega arith) (omega (arith, h.0)),
      line_short ns h.1,
    )

-- alone it is a well-formed text of these numbers
module _ (ns : List ℕ) (small : Every (λ n. n ≤ 4294967295) ns) where
  words_are : words_from [] (numbers_line ns) ≡ map decimal ns
  unfolding words_from
  words_are = ap (words_from []) (sym (append-nil (numbers_line ns))) ∙ line_words ns [] ∙ append-nil (map decimal ns)

  pub line_read : numbers_in (numbers_line ns) ≡ ns
  line_read = numbers_read (numbers_line ns) ns words_are small

  -- 65,527 bytes at most
  pub line_formed : length ns ≤ 5957 → well_formed (numbers_line ns) ≡ true
  line_formed few = numbers_formed (numbers_line ns) ns words_are small (omega (arith, few)) (omega (arith, few, line_short ns small))
