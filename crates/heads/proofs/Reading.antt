-- What a head says is what it was made of: each part of the number has room for what it says.
use Rattle.std.specs.Prelude.{None, Some}
use mathlib.Core.Path.{◌≡◌, refl, sym, ap, ◌∙◌}
use mathlib.Core.Logic.{◌≢◌}
use mathlib.Core.Bool.{Bool, true, false, cond, ◌&&◌, true≢false}
use Prim.Native.Nat.{ℕ, zero, suc, ◌-◌, ◌*◌, ◌/◌, ◌%◌, ◌^◌, ◌≤◌, ◌<◌}
use native.Mathlib.Nat.{pow-succ'}
use native.Mathlib.Decide.{dec_lt, ℕ_discrete}
use native.Mathlib.Omega.{arith}
use lib.Bits.{bit_and, bit_or, or_lt, or_zero_l, or_zero_r, xor_lt, xor_add_and, and_le_r, and_mask, shifted_half, shifted_even}
use lib.Dec.{eqb, ltb}
use lib.Pow.{pow_mono, pow_pos}
use borrow.Author.Tests.{lt-ltb, le-ltb, eq-eqb, ne_eqb}
use Rattle.basics.proofs.Bools.{and_left}
use Rattle.rules.specs.Contents.{bit, with, without, Place}
use Rattle.rules.proofs.Bits.{bit_low, bit_rest, bit_and_lem, bit_pow, bit_zero, bit_beyond, bits_same}
use Rattle.tables.specs.Following.{top_held}
use Rattle.tables.proofs.Places.{top_held_lem}
use Rattle.heads.specs.Head.{streams_in, stream_in, stretch_in, length_in, start_in, contents_in, first_stream, contents_at, head_of, next_head}

-- ---- what is said has room

pub contents_small : (C o k : ℕ) → C < 2 ^ 16 → o < 2 ^ 16 → contents_at C o k < 2 ^ 16
unfolding contents_at without
contents_small C o k h l = go (dec_lt k 16)
  where
    go : Dec (k < 16) → cond (ltb k 16) (bit_or (without C k) o) (bit_or C o) < 2 ^ 16
    go (yes m) = rw (lt-ltb k 16 m) (or_lt 16 (without C k) o (xor_lt 16 C (2 ^ k) h (omega (arith, pow_mono {j = 16} m, pow-succ' 2 k, pow_pos k))) l)
    go (no n) = rw (le-ltb k 16 (omega arith)) (or_lt 16 C o h l)

-- the highest place of a number of n + 1 digits
top_small : (m n L : ℕ) → L < 2 ^ suc n → top_held m L ≤ n
unfolding top_held
top_small zero n L l = omega arith
top_small (suc m) n L l = go (bit L m) refl (top_small m n L l)
  where
    go : (b : Bool) → bit L m ≡ b → top_held m L ≤ n → cond b m (top_held m L) ≤ n
    go false e h = h
    go true e h = low (dec_lt n m)
      where
        low : Dec (n < m) → m ≤ n
        low (yes q) = absurd (true≢false (sym e ∙ bit_beyond (suc n) L m l q))
        low (no q) = omega arith

pub stream_small : (L : ℕ) → first_stream (L % 524288) ≤ 18
unfolding first_stream
stream_small L = go (eqb (L % 524288 % 65536) 0)
  where
    go : (b : Bool) → cond b (top_held 64 (L % 524288)) (top_held 64 (L % 524288 % 65536)) ≤ 18
    go true = top_small 64 18 (L % 524288) (omega arith)
    go false = top_small 64 18 (L % 524288 % 65536) (omega arith)

-- ---- what is said of a head

module _ (C o R L : ℕ) where
  abbrev made : ℕ
  made = head_of C o R L

  pub streams_made : streams_in made ≡ L % 524288
  unfolding head_of
  streams_made = omega (arith, stream_small L)

  pub stream_made : stream_in made ≡ first_stream (L % 524288)
  unfolding head_of
  stream_made = omega (arith, stream_small L)

  pub stretch_made : stretch_in made ≡ R % 8192
  unfolding head_of
  stretch_made = omega (arith, stream_small L)

  pub contents_made : contents_in made ≡ contents_at C o (first_stream (L % 524288)) % 16777216
  unfolding head_of
  contents_made = omega (arith, stream_small L)

  pub length_made : length_in made ≡ R % 128
  unfolding head_of
  length_made = omega (arith, stream_small L)

  pub start_made : start_in made ≡ R / 128 % 64
  unfolding head_of
  start_made = omega (arith, stream_small L)

  made_fits : made ≤ 18446744073709551615
  unfolding head_of
  made_fits = omega (arith, stream_small L)

pub next_fits : (C o h : ℕ) → next_head C o h ≤ 18446744073709551615
unfolding next_head
next_fits C o h = made_fits C o (stretch_in h) (without (streams_in h) (stream_in h))

-- ---- the stream that comes next is one of those left

held_top : (M : ℕ) → M < 2 ^ 64 → M ≢ 0 → bit M (top_held 64 M) ≡ true
held_top M l n = go (bit M (top_held 64 M)) refl
  where
    go : (b : Bool) → bit M (top_held 64 M) ≡ b → b ≡ true
    go true e = refl
    go false e = absurd (n (bits_same 64 M 0 l (omega arith) (λ i m. none i m (bit M i) refl)))
      where
        none : (i : ℕ) → i < 64 → (b : Bool) → bit M i ≡ b → bit M i ≡ bit 0 i
        none i m false f = f ∙ sym (bit_zero i)
        none i m true f = absurd (true≢false (sym (top_held_lem 64 M i m f).0 ∙ e))

pub first_held_lem : (L : ℕ) → L < 2 ^ 64 → L ≢ 0 → bit L (first_stream L) ≡ true
unfolding first_stream
first_held_lem L l n = go (ℕ_discrete (L % 65536) 0)
  where
    go : Dec (L % 65536 ≡ 0) → bit L (cond (eqb (L % 65536) 0) (top_held 64 L) (top_held 64 (L % 65536))) ≡ true
    go (yes e) = rw (eq-eqb (L % 65536) 0 e) (held_top L l n)
    go (no d) = rw (ne_eqb (L % 65536) 0 d)
        (and_left (bit L top) (bit (2 ^ 16 - 1) top) (sym (bit_and_lem top L (2 ^ 16 - 1)) ∙ ap (λ (M : ℕ). bit M top) (and_mask L 16) ∙ held_top (L % 65536) (omega arith) d))
      where
        top : ℕ
        top = top_held 64 (L % 65536)

-- where it loses nothing, none is left that does
low_none : (a n k : ℕ) → k < n → bit (a * 2 ^ n) k ≡ false
low_none a zero k l = absurd (omega arith)
low_none a (suc n) zero l = bit_low (a * 2 ^ suc n) ∙ ap (λ (m : ℕ). eqb m 1) (shifted_even a n)
low_none a (suc n) (suc k) l = bit_rest (a * 2 ^ suc n) k ∙ ap (λ (m : ℕ). bit m k) (shifted_half a n) ∙ low_none a n k (omega arith)

pub none_lost : (L : ℕ) → 15 < first_stream L → (k : ℕ) → k < 16 → bit L k ≡ false
unfolding first_stream
none_lost L l k m = go (ℕ_discrete (L % 65536) 0)
  where
    go : Dec (L % 65536 ≡ 0) → bit L k ≡ false
    go (yes e) = let high : L ≡ L / 65536 * 2 ^ 16 = omega arith in ap (λ (M : ℕ). bit M k) high ∙ low_none (L / 65536) 16 k m
    go (no d) =
        let low : first_stream L ≡ top_held 64 (L % 65536) = ap (λ (b : Bool). cond b (top_held 64 L) (top_held 64 (L % 65536))) (ne_eqb (L % 65536) 0 d) in
        absurd (omega (arith, l, low, top_small 64 15 (L % 65536) (omega arith)))

-- ---- when a stream has come, the number of those left is less

pub less_left : (L k : ℕ) → bit L k ≡ true → without L k < L
unfolding without
less_left L k e = omega (arith, xor_add_and L (2 ^ k), one, pow_pos k)
  where
    same : (i : ℕ) → i < suc k → bit (bit_and L (2 ^ k)) i ≡ bit (2 ^ k) i
    same i l = bit_and_lem i L (2 ^ k) ∙ go (ℕ_discrete k i)
      where
        go : Dec (k ≡ i) → (bit L i && bit (2 ^ k) i) ≡ bit (2 ^ k) i
        go (yes s) = ap (◌&& bit (2 ^ k) i) (ap (bit L) (sym s) ∙ e)
        go (no d) = ap (bit L i &&◌) (bit_pow k i ∙ ne_eqb k i d) ∙ no_more (bit L i) ∙ sym (bit_pow k i ∙ ne_eqb k i d)
          where
            no_more : (b : Bool) → (b && false) ≡ false
            no_more true = refl
            no_more false = refl

    one : bit_and L (2 ^ k) ≡ 2 ^ k
    one = bits_same (suc k) (bit_and L (2 ^ k)) (2 ^ k) (omega (arith, and_le_r L (2 ^ k), pow-succ' 2 k, pow_pos k)) (omega (arith, pow-succ' 2 k, pow_pos k)) same

-- ---- the contents with the accessed block

or_own : (C : ℕ) (p : Place) → bit_or C (with 0 p) ≡ with C p
unfolding with
or_own C (Some i) = ap (bit_or C) (or_zero_l (2 ^ i))
or_own C None = or_zero_r C

pub contents_with : (C : ℕ) (p : Place) (k : ℕ) → contents_at C (with 0 p) k ≡ cond (ltb k 16) (with (without C k) p) (with C p)
unfolding contents_at
contents_with C p k = go (ltb k 16)
  where
    go : (b : Bool) → cond b (bit_or (without C k) (with 0 p)) (bit_or C (with 0 p)) ≡ cond b (with (without C k) p) (with C p)
    go true = or_own (without C k) p
    go false = or_own C p
