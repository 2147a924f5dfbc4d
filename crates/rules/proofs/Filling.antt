-- The filled numbers: sixteen of them, and what is stored in two words is read from them; one more and the larger of two, set by set; and
-- comparing the words compares the numbers, set 0 first.
use mathlib.Core.Path.{◌≡◌, refl, sym, ap, ap₂, ◌∙◌}
use mathlib.Core.Logic.{◌≢◌, ◌⊎◌, inl, inr}
use mathlib.Core.Bool.{Bool, true, false, cond}
use mathlib.Core.List.{List, [], ◌∷◌, ◌++◌, append_assoc, append-nil}
use Prim.Native.Nat.{ℕ, zero, suc, ◌+◌, ◌-◌, ◌*◌, ◌/◌, ◌%◌, ◌^◌, ◌≤◌, ◌<◌, max, zero-le, suc-le-suc}
use native.Mathlib.Nat.{le_refl, le_of_suc-le-suc, not-suc-le-zero, zero-add, suc-add, eq-or-lt_of_le, div-one, div-div-eq-div-mul, le-max_left, le-max_right, pow-succ', pow-zero}
use native.Mathlib.Decide.{ℕ_discrete}
use native.Mathlib.Omega.{arith}
use lib.Dec.{eqb, ltb, leb}
use lib.ListN.{length, get_or, set, take, drop, replicate, length-append, length-set, length-replicate, length-drop, take-append-drop, get_or-append}
use lib.Seq.{get_or_at, get_or-set_same, get_or-set_other, length-take-le, take_at, drop_at}
use borrow.Author.Tests.{ltb-true, ltb-false, eqb-true, eqb-false, lt-ltb, le-ltb, eq-eqb, ne_eqb, le-leb}
use Rattle.basics.proofs.Bools.{both, and_left, and_right}
use Rattle.rules.specs.Ordered.{Order, before, same, after, by_number, then_by}
use Rattle.rules.specs.Filling.{Filled, bytes_of, word_from, numbers_of, filled_from, filled_at, with_filled, of_sets, evenly, fill_one, larger_of, fullest, same_filled}
use Rattle.rules.specs.Questions.{all_most}
use Rattle.rules.specs.Shape.{Every}
use Rattle.rules.proofs.Lists.{every_append, every_take}

-- ---- bytes and words

-- a byte
abbrev pub Byte : ℕ → Type 0
Byte n = n < 256

length_bytes : (n w : ℕ) → length (bytes_of n w) ≡ n
unfolding bytes_of
length_bytes zero w = refl
length_bytes (suc n) w = omega (arith, length-append (bytes_of n (w / 256)) (w % 256 ∷ []), length_bytes n (w / 256))

every_byte : (n w : ℕ) → Every Byte (bytes_of n w)
unfolding bytes_of
every_byte zero w = tt
every_byte (suc n) w = every_append Byte (bytes_of n (w / 256)) (w % 256 ∷ []) (every_byte n (w / 256)) (omega arith, tt)

-- bytes put behind a word are read there
bytes_behind : (ns : List ℕ) (k w : ℕ) → Every Byte ns → bytes_of (length ns + k) (word_from w ns) ≡ bytes_of k w ++ ns
unfolding bytes_of word_from
bytes_behind [] k w h = rw (zero-add k, append-nil)
bytes_behind (n ∷ ns) k w h =
    ap (λ (m : ℕ). bytes_of m (word_from (w * 256 + n) ns)) more
    ∙ bytes_behind ns (suc k) (w * 256 + n) h.1
    ∙ ap (◌++ ns) (ap₂ (λ (v b : ℕ). bytes_of k v ++ (b ∷ [])) high low)
    ∙ append_assoc (bytes_of k w) (n ∷ []) ns
  where
    byte : n < 256
    byte = h.0

    more : suc (length ns) + k ≡ length ns + suc k
    more = omega arith

    high : (w * 256 + n) / 256 ≡ w
    high = omega arith

    low : (w * 256 + n) % 256 ≡ n
    low = omega arith

bytes_word : (ns : List ℕ) → Every Byte ns → (k : ℕ) → length ns ≡ k → bytes_of k (word_from 0 ns) ≡ ns
unfolding bytes_of
bytes_word ns h k e = ap (λ (n : ℕ). bytes_of n (word_from 0 ns)) (sym e ∙ plus (length ns)) ∙ bytes_behind ns 0 0 h
  where
    plus : (n : ℕ) → n ≡ n + 0
    plus n = omega arith

-- ---- the sixteen numbers

-- sixteen bytes
pub record Sixteen (ns : List ℕ) : Type 0 where
  pub long : length ns ≡ 16
  pub bytes : Every Byte ns

pub numbers_sixteen : (F : Filled) → Sixteen (numbers_of F)
unfolding numbers_of
numbers_sixteen F =
    record {
      long = omega (arith, length-append (bytes_of 8 F.front) (bytes_of 8 F.back), length_bytes 8 F.front, length_bytes 8 F.back);
      bytes = every_append Byte (bytes_of 8 F.front) (bytes_of 8 F.back) (every_byte 8 F.front) (every_byte 8 F.back);
    }

zero_numbers : numbers_of (record { front = 0; back = 0 }) ≡ replicate 16 0
unfolding numbers_of bytes_of
zero_numbers = refl

-- they are read as they were stored
pub numbers_from : (ns : List ℕ) → Sixteen ns → numbers_of (filled_from ns) ≡ ns
unfolding numbers_of filled_from
numbers_from ns s =
    ap₂ ◌++◌ (bytes_word (take 8 ns) (every_take Byte 8 ns s.bytes) 8 (length-take-le 8 ns (omega (arith, s.long))))
    (bytes_word (drop 8 ns) (every_drop 8 ns s.bytes) 8 (omega (arith, length-drop 8 ns, s.long)))
    ∙ take-append-drop 8 ns
  where
    every_drop : (n : ℕ) (ns : List ℕ) → Every Byte ns → Every Byte (drop n ns)
    every_drop zero ns h = h
    every_drop (suc n) [] h = tt
    every_drop (suc n) (m ∷ ns) h = every_drop n ns h.1

at_from : (ns : List ℕ) → Sixteen ns → (j : ℕ) → filled_at (filled_from ns) j ≡ get_or ns j 0
unfolding filled_at
at_from ns s j = ap (λ (ms : List ℕ). get_or ms j 0) (numbers_from ns s)

-- each is at most n where the number of every set is
pub numbers_most : (n : ℕ) (F : Filled) → ((j : ℕ) → filled_at F j ≤ n) → all_most n (numbers_of F) ≡ true
unfolding filled_at
numbers_most n F = each (numbers_of F)
  where
    each : (ms : List ℕ) → ((j : ℕ) → get_or ms j 0 ≤ n) → all_most n ms ≡ true
    each [] h = refl
    each (m ∷ ms) h = both (leb m n) (all_most n ms) (le-leb m n (h 0)) (each ms (λ j. h (suc j)))

-- ---- another number for one set

every_set : (ns : List ℕ) (j n : ℕ) → n < 256 → Every Byte ns → Every Byte (set ns j n)
every_set [] j n l h = tt
every_set (m ∷ ns) zero n l h = (l, h.1)
every_set (m ∷ ns) (suc j) n l h = (h.0, every_set ns j n l h.1)

sixteen_set : (ns : List ℕ) (j n : ℕ) → n < 256 → Sixteen ns → Sixteen (set ns j n)
sixteen_set ns j n l s = record { long = length-set ns j n ∙ s.long; bytes = every_set ns j n l s.bytes }

module _ (F : Filled) (j n : ℕ) (byte : n < 256) where
  pub with_same : j < 16 → filled_at (with_filled F j n) j ≡ n
  unfolding with_filled
  with_same l =
      at_from (set (numbers_of F) j n) (sixteen_set (numbers_of F) j n byte (numbers_sixteen F)) j
      ∙ get_or-set_same (numbers_of F) j n 0 (omega (arith, (numbers_sixteen F).long))

  pub with_other : (i : ℕ) → i ≢ j → filled_at (with_filled F j n) i ≡ filled_at F i
  unfolding with_filled filled_at
  with_other i e =
      ap (λ (ms : List ℕ). get_or ms i 0) (numbers_from (set (numbers_of F) j n) (sixteen_set (numbers_of F) j n byte (numbers_sixteen F)))
      ∙ get_or-set_other (numbers_of F) j i n 0 e

-- ---- fewer

-- no number of G is above that of F
abbrev pub Fewer : Filled → Filled → Type 0
Fewer G F = (j : ℕ) → filled_at G j ≤ filled_at F j

-- ---- one more, up to N

module _ (N : ℕ) (few : N ≤ 16) (j : ℕ) (near : j < 16) where
  -- while the number is below N
  pub one_more_lem : (F : Filled) → filled_at F j < N → filled_at (fill_one N j F) j ≡ suc (filled_at F j)
  unfolding fill_one
  one_more_lem F l = rw (lt-ltb (filled_at F j) N l) (with_same F j (suc (filled_at F j)) (omega arith) near)

  pub no_more : (F : Filled) → N ≤ filled_at F j → fill_one N j F ≡ F
  unfolding fill_one
  no_more F l = rw (le-ltb (filled_at F j) N l)

  pub one_other : (F : Filled) (i : ℕ) → i ≢ j → filled_at (fill_one N j F) i ≡ filled_at F i
  unfolding fill_one
  one_other F i n = go (ltb (filled_at F j) N) refl
    where
      go : (b : Bool) → ltb (filled_at F j) N ≡ b → filled_at (cond b (with_filled F j (suc (filled_at F j))) F) i ≡ filled_at F i
      go true e = with_other F j (suc (filled_at F j)) (omega (arith, ltb-true (filled_at F j) N e)) i n
      go false e = refl

  -- it is never less, and of fewer it is fewer
  pub more_filled : (F : Filled) → Fewer F (fill_one N j F)
  more_filled F i = go (ℕ_discrete i j) (ltb (filled_at F j) N) refl
    where
      go : Dec (i ≡ j) → (b : Bool) → ltb (filled_at F j) N ≡ b → filled_at F i ≤ filled_at (fill_one N j F) i
      go (no n) b e = rw (one_other F i n) (le_refl (filled_at F i))
      go (yes q) true e = rw (q, one_more_lem F (ltb-true (filled_at F j) N e)) (omega arith)
      go (yes q) false e = rw (no_more F (ltb-false (filled_at F j) N e)) (le_refl (filled_at F i))

  pub fewer_more : (G F : Filled) → Fewer G F → Fewer (fill_one N j G) (fill_one N j F)
  fewer_more G F h i = go (ℕ_discrete i j) (ltb (filled_at G j) N) (ltb (filled_at F j) N) refl refl
    where
      go : Dec (i ≡ j) → (a b : Bool) → ltb (filled_at G j) N ≡ a → ltb (filled_at F j) N ≡ b → filled_at (fill_one N j G) i ≤ filled_at (fill_one N j F) i
      go (no n) a b p q = rw (one_other G i n, one_other F i n) (h i)
      go (yes e) true true p q =
          rw (e, one_more_lem G (ltb-true (filled_at G j) N p), one_more_lem F (ltb-true (filled_at F j) N q)) (suc-le-suc (h j))
      go (yes e) true false p q =
          rw (e, one_more_lem G (ltb-true (filled_at G j) N p), no_more F (ltb-false (filled_at F j) N q))
          (omega (arith, ltb-true (filled_at G j) N p, ltb-false (filled_at F j) N q))
      go (yes e) false true p q = absurd (omega (arith, h j, ltb-false (filled_at G j) N p, ltb-true (filled_at F j) N q))
      go (yes e) false false p q =
          rw (no_more G (ltb-false (filled_at G j) N p), no_more F (ltb-false (filled_at F j) N q)) (h i)

  pub most_filled : (F : Filled) (i : ℕ) → filled_at F i ≤ N → filled_at (fill_one N j F) i ≤ N
  most_filled F i l = go (ℕ_discrete i j) (ltb (filled_at F j) N) refl
    where
      go : Dec (i ≡ j) → (b : Bool) → ltb (filled_at F j) N ≡ b → filled_at (fill_one N j F) i ≤ N
      go (no n) b e = rw (one_other F i n) l
      go (yes q) true e = rw (q, one_more_lem F (ltb-true (filled_at F j) N e)) (ltb-true (filled_at F j) N e)
      go (yes q) false e = rw (no_more F (ltb-false (filled_at F j) N e)) l

-- ---- the larger of each two

length_larger : (ms ns : List ℕ) → length ms ≡ length ns → length (larger_of ms ns) ≡ length ms
length_larger [] ns e = refl
length_larger (m ∷ ms) [] e = absurd (omega arith)
length_larger (m ∷ ms) (n ∷ ns) e = ap suc (length_larger ms ns (omega arith))

every_larger : (ms ns : List ℕ) → Every Byte ms → Every Byte ns → Every Byte (larger_of ms ns)
every_larger [] ns a b = tt
every_larger (m ∷ ms) [] a b = tt
every_larger (m ∷ ms) (n ∷ ns) a b = (omega (arith, a.0, b.0), every_larger ms ns a.1 b.1)

at_larger : (ms ns : List ℕ) (j : ℕ) → length ms ≡ length ns → get_or (larger_of ms ns) j 0 ≡ max (get_or ms j 0) (get_or ns j 0)
at_larger [] [] j e = omega arith
at_larger [] (n ∷ ns) j e = absurd (omega arith)
at_larger (m ∷ ms) [] j e = absurd (omega arith)
at_larger (m ∷ ms) (n ∷ ns) zero e = refl
at_larger (m ∷ ms) (n ∷ ns) (suc j) e = at_larger ms ns j (omega arith)

larger_self : (ns : List ℕ) → larger_of ns ns ≡ ns
larger_self [] = refl
larger_self (m ∷ ns) = ap₂ ◌∷◌ (omega arith) (larger_self ns)

pub fullest_at : (F G : Filled) (j : ℕ) → filled_at (fullest F G) j ≡ max (filled_at F j) (filled_at G j)
unfolding fullest filled_at
fullest_at F G j =
    ap (λ (ms : List ℕ). get_or ms j 0)
    (numbers_from (larger_of (numbers_of F) (numbers_of G))
    (record { long = length_larger (numbers_of F) (numbers_of G) even ∙ f.long; bytes = every_larger (numbers_of F) (numbers_of G) f.bytes g.bytes }))
    ∙ at_larger (numbers_of F) (numbers_of G) j even
  where
    f : Sixteen (numbers_of F)
    f = numbers_sixteen F

    g : Sixteen (numbers_of G)
    g = numbers_sixteen G

    even : length (numbers_of F) ≡ length (numbers_of G)
    even = f.long ∙ sym g.long

pub fewer_left : (F G : Filled) → Fewer F (fullest F G)
fewer_left F G j = rw (fullest_at F G j) (le-max_left (filled_at F j) (filled_at G j))

pub fewer_right : (F G : Filled) → Fewer G (fullest F G)
fewer_right F G j = rw (fullest_at F G j) (le-max_right (filled_at F j) (filled_at G j))

-- ---- some sets' numbers

module _ (ns : List ℕ) (short : length ns ≤ 16) (bytes : Every Byte ns) where
  abbrev padded : List ℕ
  padded = ns ++ replicate (16 - length ns) 0

  zeros : (n : ℕ) → Every Byte (replicate n 0)
  zeros zero = tt
  zeros (suc n) = (omega arith, zeros n)

  pub padded_sixteen : Sixteen padded
  padded_sixteen =
      record {
        long = omega (arith, length-append ns (replicate (16 - length ns) 0), length-replicate {A = ℕ} (16 - length ns) 0);
        bytes = every_append Byte ns (replicate (16 - length ns) 0) bytes (zeros (16 - length ns));
      }

  -- each set's number, and 0 beyond them
  pub at_sets : (j : ℕ) → filled_at (of_sets ns) j ≡ get_or ns j 0
  unfolding of_sets
  at_sets j = at_from padded padded_sixteen j ∙ past ns j (16 - length ns)
    where
      none : (k j : ℕ) → get_or {A = ℕ} (replicate k 0) j 0 ≡ 0
      none zero j = refl
      none (suc k) zero = refl
      none (suc k) (suc j) = none k j

      past : (ns : List ℕ) (j k : ℕ) → get_or (ns ++ replicate k 0) j 0 ≡ get_or ns j 0
      past [] j k = none k j
      past (n ∷ ns) zero k = refl
      past (n ∷ ns) (suc j) k = past ns j k

  -- another number for one of them
  pub sets_with : (j n : ℕ) → j < length ns → with_filled (of_sets ns) j n ≡ of_sets (set ns j n)
  unfolding with_filled of_sets
  sets_with j n l =
      ap (λ (ms : List ℕ). filled_from (set ms j n)) (numbers_from padded padded_sixteen)
      ∙ ap filled_from (front ns j (16 - length ns) l ∙ ap (λ (k : ℕ). set ns j n ++ replicate (16 - k) 0) (sym (length-set ns j n)))
    where
      front : (ns : List ℕ) (j k : ℕ) → j < length ns → set (ns ++ replicate k 0) j n ≡ set ns j n ++ replicate k 0
      front [] j k l = absurd (not-suc-le-zero l)
      front (m ∷ ns) zero k l = refl
      front (m ∷ ns) (suc j) k l = ap (m ∷◌) (front ns j k (le_of_suc-le-suc l))

-- the same for each of Z sets
module _ (Z n : ℕ) (short : Z ≤ 16) (byte : n < 256) where
  each_byte : (z : ℕ) → Every Byte (replicate z n)
  each_byte zero = tt
  each_byte (suc z) = (byte, each_byte z)

  pub evenly_at : (j : ℕ) → filled_at (evenly Z n) j ≡ get_or (replicate Z n) j 0
  evenly_at = at_sets (replicate Z n) (omega (arith, length-replicate Z n)) (each_byte Z)

  pub evenly_most : (j : ℕ) → filled_at (evenly Z n) j ≤ n
  evenly_most j = rw (evenly_at j) (most Z j)
    where
      most : (z j : ℕ) → get_or (replicate z n) j 0 ≤ n
      most zero j = zero-le
      most (suc z) zero = le_refl n
      most (suc z) (suc j) = most z j

  -- the larger of them and themselves are they: in the first revision a fold changes no number
  pub evenly_fullest : fullest (evenly Z n) (evenly Z n) ≡ evenly Z n
  unfolding fullest of_sets
  evenly_fullest =
      let s = padded_sixteen (replicate Z n) (omega (arith, length-replicate Z n)) (each_byte Z) in
      rw (numbers_from _ s) (ap filled_from (larger_self (replicate Z n ++ replicate (16 - length (replicate Z n)) 0)))

  -- and so are the larger of them and none
  pub evenly_none : (fullest (evenly Z n) (record { front = 0; back = 0 }) ≡ evenly Z n) × (fullest (record { front = 0; back = 0 }) (evenly Z n) ≡ evenly Z n)
  unfolding fullest of_sets
  evenly_none =
      let s = padded_sixteen (replicate Z n) (omega (arith, length-replicate Z n)) (each_byte Z) in
      (rw (numbers_from _ s, zero_numbers) (ap filled_from (right padded' 16 s.long)), rw (numbers_from _ s, zero_numbers) (ap filled_from (left 16 padded' s.long)))
    where
      padded' : List ℕ
      padded' = replicate Z n ++ replicate (16 - length (replicate Z n)) 0

      right : (ns : List ℕ) (k : ℕ) → length ns ≡ k → larger_of ns (replicate k 0) ≡ ns
      right [] k e = refl
      right (m ∷ ns) zero e = absurd (omega arith)
      right (m ∷ ns) (suc k) e = ap₂ ◌∷◌ (omega arith) (right ns k (omega arith))

      left : (k : ℕ) (ns : List ℕ) → length ns ≡ k → larger_of (replicate k 0) ns ≡ ns
      left zero [] e = refl
      left zero (m ∷ ns) e = absurd (omega arith)
      left (suc k) [] e = absurd (omega arith)
      left (suc k) (m ∷ ns) e = ap₂ ◌∷◌ (omega arith) (left k ns (omega arith))

-- words of 0 have all numbers 0
pub none_at : (j : ℕ) → filled_at (record { front = 0; back = 0 }) j ≡ 0
unfolding filled_at
none_at j = ap (λ (ns : List ℕ). get_or ns j 0) zero_numbers ∙ zeros 16 j
  where
    zeros : (k j : ℕ) → get_or {A = ℕ} (replicate k 0) j 0 ≡ 0
    zeros zero j = refl
    zeros (suc k) zero = refl
    zeros (suc k) (suc j) = zeros k j

-- ---- the same numbers

pub same_filled_lem : (F G : Filled) → (F.front ≡ G.front) × (F.back ≡ G.back) → F ≡ G
same_filled_lem F G (p, q) = ap₂ (λ (a b : ℕ). record { front = a; back = b }) p q

-- ---- the order of the words is that of the numbers

-- by the first number, then by the next
abbrev pub by_numbers : List ℕ → List ℕ → Order
by_numbers [] ns = same
by_numbers (m ∷ ms) [] = same
by_numbers (m ∷ ms) (n ∷ ns) = then_by (by_number m n) (by_numbers ms ns)

then_assoc : (o p q : Order) → then_by (then_by o p) q ≡ then_by o (then_by p q)
then_assoc before p q = refl
then_assoc same p q = refl
then_assoc after p q = refl

then_same : (o : Order) → then_by o same ≡ o
then_same before = refl
then_same same = refl
then_same after = refl

numbers_append : (ks ls ms ns : List ℕ) → length ks ≡ length ms → by_numbers (ks ++ ls) (ms ++ ns) ≡ then_by (by_numbers ks ms) (by_numbers ls ns)
numbers_append [] ls [] ns e = refl
numbers_append [] ls (m ∷ ms) ns e = absurd (omega arith)
numbers_append (k ∷ ks) ls [] ns e = absurd (omega arith)
numbers_append (k ∷ ks) ls (m ∷ ms) ns e =
    ap (then_by (by_number k m)) (numbers_append ks ls ms ns (omega arith)) ∙ sym (then_assoc (by_number k m) (by_numbers ks ms) (by_numbers ls ns))

-- a number is compared by all but its last byte, then by that
by_bytes : (v w : ℕ) → by_number v w ≡ then_by (by_number (v / 256) (w / 256)) (by_number (v % 256) (w % 256))
by_bytes v w = go (ltb a b) (eqb a b) refl refl (ltb c d) (eqb c d) refl refl
  where
    a : ℕ
    a = v / 256

    b : ℕ
    b = w / 256

    c : ℕ
    c = v % 256

    d : ℕ
    d = w % 256

    lower : v < w → by_number v w ≡ before
    lower l = rw (lt-ltb v w l)

    equal : v ≡ w → by_number v w ≡ same
    equal e = rw (le-ltb v w (omega arith), eq-eqb v w e)

    higher : w < v → by_number v w ≡ after
    higher l = rw (le-ltb v w (omega arith), ne_eqb v w (λ e. absurd (omega arith)))

    go : (p q : Bool) → ltb a b ≡ p → eqb a b ≡ q → (r s : Bool) → ltb c d ≡ r → eqb c d ≡ s
        → by_number v w ≡ then_by (cond p before (cond q same after)) (cond r before (cond s same after))
    go true q x y r s z t = lower (omega (arith, ltb-true a b x))
    go false true x y true s z t = lower (omega (arith, eqb-true a b y, ltb-true c d z))
    go false true x y false true z t = equal (omega (arith, eqb-true a b y, eqb-true c d t))
    go false true x y false false z t =
        let n : c ≡ d → ⊥ = eqb-false c d t in
        higher (omega (arith, eqb-true a b y, ltb-false c d z, n))
    go false false x y r s z t =
        let n : a ≡ b → ⊥ = eqb-false a b y in
        higher (omega (arith, ltb-false a b x, n))

word_order : (n v w : ℕ) → v < 256 ^ n → w < 256 ^ n → by_number v w ≡ by_numbers (bytes_of n v) (bytes_of n w)
unfolding bytes_of
word_order zero v w p q = let a : v ≡ 0 = omega (arith, rw (pow-zero 256) at p) in let b : w ≡ 0 = omega (arith, rw (pow-zero 256) at q) in rw (a, b)
word_order (suc n) v w p q =
    by_bytes v w
    ∙ ap₂ then_by (word_order n (v / 256) (w / 256) (below v (rw (pow-succ' 256 n) at p)) (below w (rw (pow-succ' 256 n) at q)))
    (sym (then_same (by_number (v % 256) (w % 256))))
    ∙ sym (numbers_append (bytes_of n (v / 256)) (v % 256 ∷ []) (bytes_of n (w / 256)) (w % 256 ∷ []) (length_bytes n (v / 256) ∙ sym (length_bytes n (w / 256))))
  where
    below : (u : ℕ) → u < 256 * 256 ^ n → u / 256 < 256 ^ n
    below u l = omega arith

-- words of 64 bits
pub words_order : (F G : Filled) → F.front < 256 ^ 8 → F.back < 256 ^ 8 → G.front < 256 ^ 8 → G.back < 256 ^ 8
    → then_by (by_number F.front G.front) (by_number F.back G.back) ≡ by_numbers (numbers_of F) (numbers_of G)
unfolding numbers_of
words_order F G a b c d =
    ap₂ then_by (word_order 8 F.front G.front a c) (word_order 8 F.back G.back b d)
    ∙ sym (numbers_append (bytes_of 8 F.front) (bytes_of 8 F.back) (bytes_of 8 G.front) (bytes_of 8 G.back)
    (length_bytes 8 F.front ∙ sym (length_bytes 8 G.front)))

-- ---- for code: a number is a byte of its word, and one more is added to the word

byte_at : (n w j : ℕ) → j < n → get_or (bytes_of n w) j 0 ≡ w / 256 ^ (n - suc j) % 256
unfolding bytes_of
byte_at zero w j l = absurd (not-suc-le-zero l)
byte_at (suc n) w j l = go (eq-or-lt_of_le (le_of_suc-le-suc l)) (byte_at n (w / 256) j)
  where
    go : (j ≡ n) ⊎ (j < n) → (j < n → get_or (bytes_of n (w / 256)) j 0 ≡ w / 256 / 256 ^ (n - suc j) % 256)
        → get_or (bytes_of n (w / 256) ++ (w % 256 ∷ [])) j 0 ≡ w / 256 ^ (suc n - suc j) % 256
    go (inl e) ih =
        let z : suc n - suc j ≡ 0 = omega arith in
        get_or_at (bytes_of n (w / 256)) (w % 256) [] 0 j (length_bytes n (w / 256) ∙ sym e) ∙ rw (z, pow-zero 256, div-one w)
    go (inr k) ih =
        let z : suc n - suc j ≡ suc (n - suc j) = omega arith in
        get_or-append (bytes_of n (w / 256)) (w % 256 ∷ []) 0 j (omega (arith, length_bytes n (w / 256)))
        ∙ ih k ∙ rw (z, pow-succ' 256 (n - suc j)) (ap (◌% 256) (div-div-eq-div-mul w 256 (256 ^ (n - suc j))))

pub filled_front : (F : Filled) (j : ℕ) → j < 8 → filled_at F j ≡ F.front / 256 ^ (7 - j) % 256
unfolding filled_at numbers_of
filled_front F j l =
    let z : 8 - suc j ≡ 7 - j = omega arith in
    get_or-append (bytes_of 8 F.front) (bytes_of 8 F.back) 0 j (omega (arith, length_bytes 8 F.front))
    ∙ byte_at 8 F.front j l ∙ ap (λ (k : ℕ). F.front / 256 ^ k % 256) z

at_behind : (ms ns : List ℕ) (k j : ℕ) → length ms ≡ k → get_or (ms ++ ns) (k + j) 0 ≡ get_or ns j 0
at_behind [] ns zero j e = rw (zero-add j)
at_behind [] ns (suc k) j e = absurd (omega arith)
at_behind (m ∷ ms) ns zero j e = absurd (omega arith)
at_behind (m ∷ ms) ns (suc k) j e = rw (suc-add k j) (at_behind ms ns k j (omega arith))

pub filled_back : (F : Filled) (j : ℕ) → j < 8 → filled_at F (8 + j) ≡ F.back / 256 ^ (7 - j) % 256
unfolding filled_at numbers_of
filled_back F j l =
    let z : 8 - suc j ≡ 7 - j = omega arith in
    at_behind (bytes_of 8 F.front) (bytes_of 8 F.back) 8 j (length_bytes 8 F.front)
    ∙ byte_at 8 F.back j l ∙ ap (λ (k : ℕ). F.back / 256 ^ k % 256) z

-- a byte that can take one more: the word grows by its place
word_more : (n w j : ℕ) → j < n → get_or (bytes_of n w) j 0 < 255 → set (bytes_of n w) j (suc (get_or (bytes_of n w) j 0)) ≡ bytes_of n (w + 256 ^ (n - suc j))
unfolding bytes_of
word_more zero w j l h = absurd (not-suc-le-zero l)
word_more (suc n) w j l h = go (eq-or-lt_of_le (le_of_suc-le-suc l)) (word_more n (w / 256) j) h
  where
    xs : List ℕ
    xs = bytes_of n (w / 256)

    b : ℕ
    b = w % 256

    at_end : (xs : List ℕ) (k m : ℕ) → length xs ≡ k → set (xs ++ (b ∷ [])) k m ≡ xs ++ (m ∷ [])
    at_end [] zero m e = refl
    at_end [] (suc k) m e = absurd (omega arith)
    at_end (x ∷ xs) zero m e = absurd (omega arith)
    at_end (x ∷ xs) (suc k) m e = ap (x ∷◌) (at_end xs k m (omega arith))

    inside : (xs : List ℕ) (k m : ℕ) → k < length xs → set (xs ++ (b ∷ [])) k m ≡ set xs k m ++ (b ∷ [])
    inside [] k m e = absurd (not-suc-le-zero e)
    inside (x ∷ xs) zero m e = refl
    inside (x ∷ xs) (suc k) m e = ap (x ∷◌) (inside xs k m (le_of_suc-le-suc e))

    go : (j ≡ n) ⊎ (j < n)
        → (j < n → get_or xs j 0 < 255 → set xs j (suc (get_or xs j 0)) ≡ bytes_of n (w / 256 + 256 ^ (n - suc j)))
        → get_or (xs ++ (b ∷ [])) j 0 < 255
        → set (xs ++ (b ∷ [])) j (suc (get_or (xs ++ (b ∷ [])) j 0))
        ≡ bytes_of n ((w + 256 ^ (suc n - suc j)) / 256) ++ ((w + 256 ^ (suc n - suc j)) % 256 ∷ [])
    go (inl e) ih h =
        let z : suc n - suc j ≡ 0 = omega arith in
        let here : get_or (xs ++ (b ∷ [])) j 0 ≡ b = get_or_at xs b [] 0 j (length_bytes n (w / 256) ∙ sym e) in
        let small : b < 255 = omega arith in
        let high : (w + 1) / 256 ≡ w / 256 = omega arith in
        let low : (w + 1) % 256 ≡ suc b = omega arith in
        rw (here, z, pow-zero 256, high, low) (at_end xs j (suc b) (length_bytes n (w / 256) ∙ sym e))
    go (inr k) ih h =
        let z : suc n - suc j ≡ suc (n - suc j) = omega arith in
        let within : j < length xs = omega (arith, length_bytes n (w / 256)) in
        let here : get_or (xs ++ (b ∷ [])) j 0 ≡ get_or xs j 0 = get_or-append xs (b ∷ []) 0 j within in
        let p : ℕ = 256 ^ (n - suc j) in
        let high : (w + 256 * p) / 256 ≡ w / 256 + p = omega arith in
        let low : (w + 256 * p) % 256 ≡ b = omega arith in
        rw (z, pow-succ' 256 (n - suc j), high, low, here)
        (inside xs j (suc (get_or xs j 0)) within ∙ ap (◌++ (b ∷ [])) (ih k (omega arith)))

-- it stays a word of n bytes
word_fits : (n w j : ℕ) → j < n → w < 256 ^ n → get_or (bytes_of n w) j 0 < 255 → w + 256 ^ (n - suc j) < 256 ^ n
unfolding bytes_of
word_fits zero w j l k h = absurd (not-suc-le-zero l)
word_fits (suc n) w j l k h = go (eq-or-lt_of_le (le_of_suc-le-suc l)) (word_fits n (w / 256) j) h (rw (pow-succ' 256 n) at k)
  where
    xs : List ℕ
    xs = bytes_of n (w / 256)

    go : (j ≡ n) ⊎ (j < n) → (j < n → w / 256 < 256 ^ n → get_or xs j 0 < 255 → w / 256 + 256 ^ (n - suc j) < 256 ^ n)
        → get_or (xs ++ (w % 256 ∷ [])) j 0 < 255 → w < 256 * 256 ^ n → w + 256 ^ (suc n - suc j) < 256 ^ suc n
    go (inl e) ih h k =
        let z : suc n - suc j ≡ 0 = omega arith in
        let here : get_or (xs ++ (w % 256 ∷ [])) j 0 ≡ w % 256 = get_or_at xs (w % 256) [] 0 j (length_bytes n (w / 256) ∙ sym e) in
        let small : w % 256 < 255 = omega arith in
        rw (z, pow-zero 256, pow-succ' 256 n) (omega arith)
    go (inr m) ih h k =
        let z : suc n - suc j ≡ suc (n - suc j) = omega arith in
        let here : get_or (xs ++ (w % 256 ∷ [])) j 0 ≡ get_or xs j 0 = get_or-append xs (w % 256 ∷ []) 0 j (omega (arith, length_bytes n (w / 256))) in
        let less : w / 256 + 256 ^ (n - suc j) < 256 ^ n = ih m (omega arith) (omega arith) in
        rw (z, pow-succ' 256 (n - suc j), pow-succ' 256 n) (omega arith)

-- a word is made of its bytes
word_bytes : (n v w : ℕ) → w < 256 ^ n → word_from v (bytes_of n w) ≡ v * 256 ^ n + w
unfolding bytes_of word_from
word_bytes zero v w l = let z : w ≡ 0 = omega (arith, rw (pow-zero 256) at l) in rw (pow-zero 256, z) (omega arith)
word_bytes (suc n) v w l =
    last (bytes_of n (w / 256)) v (w % 256)
    ∙ rw (word_bytes n v (w / 256) (below (rw (pow-succ' 256 n) at l)), pow-succ' 256 n) (ring (256 ^ n) (w / 256) (w % 256) (omega arith))
  where
    last : (ns : List ℕ) (v b : ℕ) → word_from v (ns ++ (b ∷ [])) ≡ word_from v ns * 256 + b
    last [] v b = refl
    last (n ∷ ns) v b = last ns (v * 256 + n) b

    below : w < 256 * 256 ^ n → w / 256 < 256 ^ n
    below h = omega arith

    ring : (p a b : ℕ) → w ≡ a * 256 + b → (v * p + a) * 256 + b ≡ v * (256 * p) + w
    ring p a b e = omega (arith, e)

-- two words are made of their bytes
from_words : (a b : ℕ) → a < 256 ^ 8 → b < 256 ^ 8 → filled_from (bytes_of 8 a ++ bytes_of 8 b) ≡ record { front = a; back = b }
unfolding filled_from
from_words a b p q =
    ap₂ (λ (x y : ℕ). record { front = x; back = y })
    (ap (word_from 0) (take_at (bytes_of 8 a) (bytes_of 8 b) 8 (length_bytes 8 a)) ∙ word_bytes 8 0 a p ∙ omega arith)
    (ap (word_from 0) (drop_at (bytes_of 8 a) (bytes_of 8 b) 8 (length_bytes 8 a)) ∙ word_bytes 8 0 b q ∙ omega arith)

module _ (N : ℕ) (few : N ≤ 16) (F : Filled) (front : F.front < 256 ^ 8) (back : F.back < 256 ^ 8) (j : ℕ) (l : j < 8) where
  abbrev xs : List ℕ
  xs = bytes_of 8 F.front

  abbrev ys : List ℕ
  ys = bytes_of 8 F.back

  set_front : (ms ns : List ℕ) (k m : ℕ) → k < length ms → set (ms ++ ns) k m ≡ set ms k m ++ ns
  set_front [] ns k m h = absurd (not-suc-le-zero h)
  set_front (x ∷ ms) ns zero m h = refl
  set_front (x ∷ ms) ns (suc k) m h = ap (x ∷◌) (set_front ms ns k m (le_of_suc-le-suc h))

  set_back : (ms ns : List ℕ) (k m : ℕ) → length ms ≡ k → set (ms ++ ns) (k + j) m ≡ ms ++ set ns j m
  set_back [] ns zero m e = rw (zero-add j)
  set_back [] ns (suc k) m e = absurd (omega arith)
  set_back (x ∷ ms) ns zero m e = absurd (omega arith)
  set_back (x ∷ ms) ns (suc k) m e = rw (suc-add k j) (ap (x ∷◌) (set_back ms ns k m (omega arith)))

  place : 8 - suc j ≡ 7 - j
  place = omega arith

  -- below N, one more in one of the first eight sets is added to the first word, which stays one of 64 bits
  module _ (h : filled_at F j < N) where
    in_front : get_or (xs ++ ys) j 0 ≡ get_or xs j 0
    in_front = get_or-append xs ys 0 j (omega (arith, length_bytes 8 F.front))

    small_front : get_or xs j 0 < 255
    unfolding filled_at numbers_of
    small_front = omega (arith, h, few, in_front)

    pub front_fits : F.front + 256 ^ (7 - j) < 256 ^ 8
    front_fits = rw place at (word_fits 8 F.front j l front small_front)

    pub more_front : fill_one N j F ≡ record { front = F.front + 256 ^ (7 - j); back = F.back }
    unfolding fill_one with_filled filled_at numbers_of
    more_front =
        rw (lt-ltb (get_or (xs ++ ys) j 0) N h, in_front)
        (ap filled_from (set_front xs ys j (suc (get_or xs j 0)) (omega (arith, length_bytes 8 F.front)) ∙ ap (◌++ ys) (word_more 8 F.front j l small_front ∙ ap (λ (k : ℕ). bytes_of 8 (F.front + 256 ^ k)) place))
        ∙ from_words (F.front + 256 ^ (7 - j)) F.back front_fits back)

  -- and in one of the other eight to the second
  module _ (h : filled_at F (8 + j) < N) where
    in_back : get_or (xs ++ ys) (8 + j) 0 ≡ get_or ys j 0
    in_back = at_behind xs ys 8 j (length_bytes 8 F.front)

    small_back : get_or ys j 0 < 255
    unfolding filled_at numbers_of
    small_back = omega (arith, h, few, in_back)

    pub back_fits : F.back + 256 ^ (7 - j) < 256 ^ 8
    back_fits = rw place at (word_fits 8 F.back j l back small_back)

    pub more_back : fill_one N (8 + j) F ≡ record { front = F.front; back = F.back + 256 ^ (7 - j) }
    unfolding fill_one with_filled filled_at numbers_of
    more_back =
        rw (lt-ltb (get_or (xs ++ ys) (8 + j) 0) N h, in_back)
        (ap filled_from (set_back xs ys 8 (suc (get_or ys j 0)) (length_bytes 8 F.front) ∙ ap (xs ++◌) (word_more 8 F.back j l small_back ∙ ap (λ (k : ℕ). bytes_of 8 (F.back + 256 ^ k)) place))
        ∙ from_words F.front (F.back + 256 ^ (7 - j)) front back_fits)

-- ---- for code: the larger numbers, word by word and byte by byte

-- numbers that are the same are themselves the larger
pub fullest_same : (F G : Filled) → F.front < 256 ^ 8 → F.back < 256 ^ 8 → same_filled F G ≡ true → F ≡ fullest F G
unfolding fullest numbers_of
fullest_same F G a b h =
    sym
    (ap (fullest F) (sym alike)
    ∙ ap filled_from (larger_self (bytes_of 8 F.front ++ bytes_of 8 F.back))
    ∙ from_words F.front F.back a b)
  where
    alike : F ≡ G
    alike = same_filled_lem F G
        (eqb-true F.front G.front (and_left (eqb F.front G.front) (eqb F.back G.back) h), eqb-true F.back G.back (and_right (eqb F.front G.front) (eqb F.back G.back) h))

-- otherwise those of each word
pub fullest_words : (F G : Filled) (v w : ℕ) → v ≡ word_from 0 (larger_of (bytes_of 8 F.front) (bytes_of 8 G.front))
    → w ≡ word_from 0 (larger_of (bytes_of 8 F.back) (bytes_of 8 G.back)) → record { front = v; back = w } ≡ fullest F G
unfolding fullest numbers_of filled_from
fullest_words F G v w p q =
    ap₂ (λ (x y : ℕ). record { front = x; back = y })
    (p ∙ ap (word_from 0) (sym (ap (take 8) halves ∙ take_at xs ys 8 long)))
    (q ∙ ap (word_from 0) (sym (ap (drop 8) halves ∙ drop_at xs ys 8 long)))
  where
    xs : List ℕ
    xs = larger_of (bytes_of 8 F.front) (bytes_of 8 G.front)

    ys : List ℕ
    ys = larger_of (bytes_of 8 F.back) (bytes_of 8 G.back)

    even : length (bytes_of 8 F.front) ≡ length (bytes_of 8 G.front)
    even = length_bytes 8 F.front ∙ sym (length_bytes 8 G.front)

    long : length xs ≡ 8
    long = length_larger (bytes_of 8 F.front) (bytes_of 8 G.front) even ∙ length_bytes 8 F.front

    each : (ms ns ks ls : List ℕ) → length ms ≡ length ks → larger_of (ms ++ ns) (ks ++ ls) ≡ larger_of ms ks ++ larger_of ns ls
    each [] ns [] ls e = refl
    each [] ns (k ∷ ks) ls e = absurd (omega arith)
    each (m ∷ ms) ns [] ls e = absurd (omega arith)
    each (m ∷ ms) ns (k ∷ ks) ls e = ap (max m k ∷◌) (each ms ns ks ls (omega arith))

    halves : larger_of (bytes_of 8 F.front ++ bytes_of 8 F.back) (bytes_of 8 G.front ++ bytes_of 8 G.back) ≡ xs ++ ys
    halves = each (bytes_of 8 F.front) (bytes_of 8 F.back) (bytes_of 8 G.front) (bytes_of 8 G.back) even

-- the highest of k + 1 bytes first
pub bytes_first : (k w : ℕ) → bytes_of (suc k) w ≡ w / 256 ^ k % 256 ∷ bytes_of k w
unfolding bytes_of
bytes_first zero w = rw (pow-zero 256, div-one w)
bytes_first (suc k) w =
    rw (bytes_first k (w / 256), pow-succ' 256 k) (ap (λ (n : ℕ). n % 256 ∷ bytes_of (suc k) w) (div-div-eq-div-mul w 256 (256 ^ k)))
