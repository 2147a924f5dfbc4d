-- The filled numbers in their two words, as code reads and writes them: a byte by a shift, the larger numbers byte by byte.
use Rattle.std.proofs.Common.{◌≡◌, ℕ, zero, suc, ◌+◌, ◌-◌, ◌*◌, ◌/◌, ◌%◌, ◌^◌, ◌<◌, ◌≤◌, max, Bool, true, false, cond, ◌&&◌, ltb, leb, List, ◌++◌, length, get_or, take, drop, replicate, sym, refl, ap, ◌∙◌, ap₂, mod-eq_of_lt, add-one, arith, lit<, length-append, length-drop, length-take-le, get_or-drop, take_all, get_or-take, pow-add, ltb-false, ltb-true, le-ltb, lt-ltb, le-leb, leb-true}
use native.Mathlib.Nat.{pow-zero, pow-succ', pow-le-pow_right}
use native.Mathlib.Decide.{dec_lt}
use lib.ListN.{length-replicate}
use Rattle.basics.proofs.Bools.{and_left, and_right}
use Rattle.basics.proofs.Lists.{list_next, list_end}
use Rattle.rules.specs.declared.Cache.{Cache}
use Rattle.rules.specs.declared.Filled.{Filled}
use Rattle.rules.specs.Filling.{bytes_of, word_from, filled_from, larger_of, filled_at, of_sets, evenly, fill_one}
use Rattle.states.specs.Filling.{one_more, words_more, filled_more, sixteen_of, starts_empty_of, start_of, start_in}
use Rattle.rules.proofs.Filling.{bytes_first, filled_front, filled_back, front_fits, more_front, back_fits, more_back}

-- ---- a byte of a word

pub byte_shift : (n : ℕ) → 2 ^ (8 * n) ≡ 256 ^ n
byte_shift zero = rw (pow-zero 256)
byte_shift (suc n) =
    let e : 8 * suc n ≡ 8 + 8 * n = omega arith in
    rw (e, pow-add 2 8 (8 * n), pow-succ' 256 n) (ap (256 *◌) (byte_shift n))

-- ---- the larger of each two bytes, the highest first: `left` bytes are to come behind `word`, and together they make the whole

abbrev pub rest_of_bytes : ℕ → ℕ → ℕ → ℕ → ℕ
rest_of_bytes word left v w = word_from word (larger_of (bytes_of left v) (bytes_of left w))

-- in a word of fewer than eight bytes there is room for one more
pub word_fits : (word i : ℕ) → word < 256 ^ i → i < 8 → word * 256 + 256 ≤ 18446744073709551616
word_fits word i short l =
    let most : 256 ^ i ≤ 72057594037927936 = pow-le-pow_right (lit< tt) {i = i} {j = 7} (omega arith) in
    omega (arith, most, short)

module _ (word left v w whole : ℕ) (short : word < 256 ^ (8 - left)) (few : left ≤ 8) (some : 0 < left)
    (rest : rest_of_bytes word left v w ≡ whole)
    (a b m : ℕ) (first : a ≡ v / 256 ^ (left - 1) % 256) (second : b ≡ w / 256 ^ (left - 1) % 256) (larger : m ≡ max a b) where
  pub byte_small : m < 256
  byte_small = omega (arith, first, second, larger)

  pub bytes_short : word * 256 + m < 256 ^ (8 - (left - 1))
  bytes_short =
      let e : 8 - (left - 1) ≡ suc (8 - left) = omega arith in
      rw (e, pow-succ' 256 (8 - left)) (omega (arith, byte_small, short))

  pub bytes_next : rest_of_bytes (word * 256 + m) (left - 1) v w ≡ whole
  unfolding word_from
  bytes_next =
      let e : left ≡ suc (left - 1) = omega arith in
      sym (ap (λ (k : ℕ). rest_of_bytes word k v w) e ∙ rw (bytes_first (left - 1) v, bytes_first (left - 1) w, larger, first, second)) ∙ rest

pub bytes_end : (word left v w whole : ℕ) → left ≤ 0 → rest_of_bytes word left v w ≡ whole → word ≡ whole
unfolding word_from bytes_of
bytes_end word left v w whole h rest = let e : left ≡ 0 = omega arith in rw e at rest

-- ---- the number of a set, and one more

module _ (F : Filled) (j r : ℕ) where
  pub at_front_lem : j < 8 → r ≡ F.front / 256 ^ (7 - j) % 256 → r ≡ filled_at F j
  at_front_lem l e = e ∙ sym (filled_front F j l)

  pub at_back : 8 ≤ j → j < 16 → r ≡ F.back / 256 ^ (15 - j) % 256 → r ≡ filled_at F j
  at_back h l e =
      let i : j ≡ 8 + (j - 8) = omega arith in
      let z : 15 - j ≡ 7 - (j - 8) = omega arith in
      e ∙ ap (λ (k : ℕ). F.back / 256 ^ k % 256) z ∙ sym (filled_back F (j - 8) (omega arith)) ∙ ap (filled_at F) (sym i)

-- n ways of set j may be filled
module _ (N j : ℕ) (F : Filled) (n : ℕ) (number : n ≡ filled_at F j) where
  pub full_stays : N ≤ n → F ≡ words_more N j F
  unfolding words_more
  full_stays h = rw (← number, le-ltb n N h)

  -- fewer than N; p is 1 in the set's byte
  module _ (spare : n < N) (p : ℕ) where
    pub one_more_front : j < 8 → p ≡ 256 ^ (7 - j) → (w : ℕ) → w ≡ (F.front + p) % 2 ^ 64 → record { front = w; back = F.back } ≡ words_more N j F
    unfolding words_more one_more
    one_more_front l one w e = rw (← number, lt-ltb n N spare, lt-ltb j 8 l, e, one)

    pub one_more_back : 8 ≤ j → p ≡ 256 ^ (15 - j) → (w : ℕ) → w ≡ (F.back + p) % 2 ^ 64 → record { front = F.front; back = w } ≡ words_more N j F
    unfolding words_more one_more
    one_more_back h one w e = rw (← number, lt-ltb n N spare, le-ltb j 8 h, e, one)

full_is : (N j : ℕ) (F : Filled) → N ≤ filled_at F j → F ≡ fill_one N j F
unfolding fill_one
full_is N j F h = rw (le-ltb (filled_at F j) N h)

-- of sixteen sets with at most sixteen ways the bytes have room, so that it is one more of the set's number
words_so : (N : ℕ) → N ≤ 16 → (j : ℕ) → j < 16 → (F : Filled) → F.front < 256 ^ 8 → F.back < 256 ^ 8 → words_more N j F ≡ fill_one N j F
unfolding words_more one_more
words_so N few j near F front back = go (dec_lt (filled_at F j) N) (dec_lt j 8)
  where
    ahead : filled_at F j < N → j < 8 → record { front = (F.front + 256 ^ (7 - j)) % 2 ^ 64; back = F.back } ≡ fill_one N j F
    ahead spare l =
        let e : (F.front + 256 ^ (7 - j)) % 2 ^ 64 ≡ F.front + 256 ^ (7 - j) = mod-eq_of_lt (front_fits N few F front back j l spare) in
        ap (λ (w : ℕ). record { front = w; back = F.back }) e ∙ sym (more_front N few F front back j l spare)

    behind : filled_at F j < N → 8 ≤ j → record { front = F.front; back = (F.back + 256 ^ (15 - j)) % 2 ^ 64 } ≡ fill_one N j F
    behind spare h =
        let there : j ≡ 8 + (j - 8) = omega arith in
        let z : 15 - j ≡ 7 - (j - 8) = omega arith in
        let low : filled_at F (8 + (j - 8)) < N = omega (arith, spare, ap (filled_at F) there) in
        let fits = back_fits N few F front back (j - 8) (omega arith) low in
        ap (λ (k : ℕ). record { front = F.front; back = (F.back + 256 ^ k) % 2 ^ 64 }) z
        ∙ ap (λ (w : ℕ). record { front = F.front; back = w }) (mod-eq_of_lt fits)
        ∙ sym (more_back N few F front back (j - 8) (omega arith) low) ∙ ap (λ (i : ℕ). fill_one N i F) (sym there)

    go : Dec (filled_at F j < N) → Dec (j < 8) → cond (ltb (filled_at F j) N) (one_more j F) F ≡ fill_one N j F
    go (no d) l = rw (le-ltb (filled_at F j) N (omega arith)) (full_is N j F (omega arith))
    go (yes d) (yes l) = rw (lt-ltb (filled_at F j) N d, lt-ltb j 8 l) (ahead d l)
    go (yes d) (no l) = rw (lt-ltb (filled_at F j) N d, le-ltb j 8 (omega arith)) (behind d (omega arith))

pub words_are : (N j : ℕ) → j < 16 → (F : Filled) → F.front < 256 ^ 8 → F.back < 256 ^ 8 → words_more N j F ≡ filled_more N j F
unfolding filled_more
words_are N j near F front back = go (leb N 16) refl
  where
    go : (b : Bool) → leb N 16 ≡ b → words_more N j F ≡ cond b (fill_one N j F) (words_more N j F)
    go true e = words_so N (leb-true N 16 e) j near F front back
    go false e = refl

pub filled_so : (N j : ℕ) (F : Filled) → N ≤ 16 → filled_more N j F ≡ fill_one N j F
unfolding filled_more
filled_so N j F few = rw (le-leb N 16 few)

-- ---- the same number for each of some sets

sixteen_at : (Z k n i : ℕ) → get_or (replicate Z n ++ replicate k 0) i 0 ≡ cond (ltb i Z) n 0
sixteen_at zero k n i = none k i ∙ sym (ap (λ (b : Bool). cond b n 0) (le-ltb i 0 (omega arith)))
  where
    none : (k i : ℕ) → get_or {A = ℕ} (replicate k 0) i 0 ≡ 0
    none zero i = refl
    none (suc k) zero = refl
    none (suc k) (suc i) = none k i
sixteen_at (suc Z) k n zero = rw (lt-ltb 0 (suc Z) (omega arith))
sixteen_at (suc Z) k n (suc i) = sixteen_at Z k n i ∙ go (ltb i Z) refl
  where
    go : (b : Bool) → ltb i Z ≡ b → cond b n 0 ≡ cond (ltb (suc i) (suc Z)) n 0
    go true e = rw (lt-ltb (suc i) (suc Z) (omega (arith, ltb-true i Z e)))
    go false e = rw (le-ltb (suc i) (suc Z) (omega (arith, ltb-false i Z e)))

module _ (Z n : ℕ) (few : Z ≤ 16) where
  sixteen_long : length (sixteen_of Z n) ≡ 16
  sixteen_long = omega (arith, length-append (replicate Z n) (replicate (16 - length (replicate Z n)) 0), length-replicate Z n, length-replicate {A = ℕ} (16 - length (replicate Z n)) 0)

  -- the eight from set `first` on
  abbrev eight_of : ℕ → List ℕ
  eight_of first = take 8 (drop first (sixteen_of Z n))

  eight_long : (first : ℕ) → first ≤ 8 → length (eight_of first) ≡ 8
  eight_long first h = length-take-le 8 (drop first (sixteen_of Z n)) (omega (arith, sixteen_long, length-drop first (sixteen_of Z n)))

  -- i of them stand in the word, and the others come behind it
  module _ (first : ℕ) (h : first ≤ 8) (word i : ℕ) (short : word < 256 ^ i) (l : i < 8) (whole : ℕ) (rest : word_from word (drop i (eight_of first)) ≡ whole)
      (byte : n < 256) (b : ℕ) (number : b ≡ cond (ltb (first + i) Z) n 0) where
    pub number_small : b < 256
    number_small = rw number (go (ltb (first + i) Z))
      where
        go : (t : Bool) → cond t n 0 < 256
        go true = byte
        go false = omega arith

    pub word_short : word * 256 + b < 256 ^ (i + 1)
    word_short = rw (add-one i, pow-succ' 256 i) (omega (arith, short, number_small))

    pub word_next : word_from (word * 256 + b) (drop (i + 1) (eight_of first)) ≡ whole
    unfolding word_from
    word_next =
        rw (number, ← sixteen_at Z (16 - length (replicate Z n)) n (first + i), ← get_or-drop first (sixteen_of Z n) i 0, ← get_or-take 8 (drop first (sixteen_of Z n)) i 0 l)
        (list_next (word_from word) (eight_of first) i whole rest 0 (omega (arith, eight_long first h)))

  pub word_end : (first : ℕ) → first ≤ 8 → (word i : ℕ) → 8 ≤ i → (whole : ℕ) → word_from word (drop i (eight_of first)) ≡ whole → word ≡ whole
  unfolding word_from
  word_end first h word i l whole rest = list_end (word_from word) (eight_of first) i whole rest (omega (arith, eight_long first h))

  pub evenly_words : (v w : ℕ) → v ≡ word_from 0 (eight_of 0) → w ≡ word_from 0 (eight_of 8) → record { front = v; back = w } ≡ evenly Z n
  unfolding of_sets filled_from
  evenly_words v w p q =
      ap₂ (λ (x y : ℕ). record { front = x; back = y }) p
      (q ∙ ap (word_from 0) (take_all 8 (drop 8 (sixteen_of Z n)) (omega (arith, sixteen_long, length-drop 8 (sixteen_of Z n)))))

-- ---- the numbers at the start

-- at most sixteen sets and ways, or not, as k says
module _ (c : Cache) (k : Bool) (known : k ≡ (leb c.sets 16 && leb c.ways 16)) where
  pub start_none : k ≡ false → record { front = 0; back = 0 } ≡ start_in c
  unfolding start_in
  start_none h = rw (← known, h)

  module _ (h : k ≡ true) where
    pub few_sets : c.sets ≤ 16
    few_sets = leb-true c.sets 16 (and_left (leb c.sets 16) _ (sym known ∙ h))

    pub few_ways : c.ways ≤ 16
    few_ways = leb-true c.ways 16 (and_right (leb c.sets 16) _ (sym known ∙ h))

    module _ (F : Filled) (r : Bool) (empty : r ≡ starts_empty_of c) where
      pub start_empty : r ≡ true → F ≡ evenly c.sets 0 → F ≡ start_in c
      unfolding start_in
      start_empty d e = e ∙ rw (← known, h, ← empty, d)

      pub start_full : r ≡ false → F ≡ evenly c.sets c.ways → F ≡ start_in c
      unfolding start_in
      start_full d e = e ∙ rw (← known, h, ← empty, d)

pub start_so : (c : Cache) (F : Filled) → c.sets ≤ 16 → c.ways ≤ 16 → F ≡ start_in c → F ≡ start_of c
unfolding start_in
start_so c F sets ways e = e ∙ rw (le-leb c.sets 16 sets, le-leb c.ways 16 ways)
