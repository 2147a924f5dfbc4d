-- Units by mask: what one lost block adds, and what all of them add, place by place.
use mathlib.Core.Path.{◌≡◌, refl}
use mathlib.Core.Logic.{◌≢◌}
use mathlib.Core.Bool.{Bool, true, false}
use mathlib.Core.List.{List}
use Prim.Native.Nat.{ℕ, suc, ◌+◌, ◌-◌, ◌*◌, ◌^◌, ◌≤◌, ◌<◌, zero-le}
use native.Mathlib.Nat.{le_refl, mul-le-mul_right, suc-le-suc_iff, sub-le}
use native.Mathlib.Omega.{arith}
use lib.ListN.{length, set}
use borrow.Author.Tests.{eq-eqb, ne_eqb}
use Rattle.rules.specs.declared.Target.{Target}
use Rattle.rules.specs.Contents.{hits, bit, with, without, shared, size}
use Rattle.tight_rows.specs.Room.{words_of, Leaves}
use Rattle.tight_rows.specs.Rows.{raised, if, comes_to}
use Rattle.tight.specs.Access.{risk, lost_to, miss_to, row_goes, Summable}
use Rattle.tight_rows.proofs.Raising.{raised_at, raised_none, raised_then, raised_same, raised_one, live_most, lost_below, lost_more, lost_nothing_yet, lost_everywhere, lost_most}

module _ (plan C E : ℕ) (x : Target) (L u : ℕ) where
  -- the units that go to D where the block at place e is lost
  abbrev pub lost_one : ℕ → ℕ → ℕ
  lost_one D e = if (comes_to L D (with (without C e) x.place)) u

  -- so many places have been passed
  abbrev pub LostTo : ℕ → List ℕ → List ℕ → Type 0
  LostTo k xs ys = Leaves (raised plan (suc L) (λ D. lost_below (lost_one D) E k)) xs ys

  pub one_lost : (e D : ℕ) (xs : List ℕ) → bit E e ≡ true → D ≡ shared (with (without C e) x.place) L → plan + L < length xs
      → Leaves (raised plan (suc L) (λ D. if (bit E e) (lost_one D e))) xs (set xs (plan + D) (words_of xs (plan + D) + u))
  one_lost e D xs b d l =
      rw (b, d) (raised_one plan (suc L) (shared (with (without C e) x.place) L) u xs (suc-le-suc_iff.1 (live_most (with (without C e) x.place) L)) (omega arith))

  pub lost_from_none : (xs : List ℕ) → LostTo 0 xs xs
  lost_from_none xs = raised_none plan (suc L) (λ D. lost_below (lost_one D) E 0) xs (λ D l. lost_nothing_yet (lost_one D) E)

  pub lost_onward : (k : ℕ) (xs ys zs : List ℕ) → plan + L < length xs → LostTo k xs ys
      → Leaves (raised plan (suc L) (λ D. if (bit E k) (lost_one D k))) ys zs → LostTo (k + 1) xs zs
  lost_onward k xs ys zs l f g =
      raised_then plan (suc L) (λ D. lost_below (lost_one D) E k) (λ D. if (bit E k) (lost_one D k)) (λ D. lost_below (lost_one D) E (k + 1)) xs ys zs f g (omega arith)
      (λ D m. lost_more (lost_one D) E k)

  pub lost_in_all : (k : ℕ) (xs ys : List ℕ) → k ≡ 16 → plan + L < length xs → LostTo k xs ys → Leaves (raised plan (suc L) (λ D. lost_to x (comes_to L D) C E u)) xs ys
  unfolding lost_to
  lost_in_all k xs ys e l f =
      raised_same plan (suc L) (λ D. lost_below (lost_one D) E k) (λ D. lost_to x (comes_to L D) C E u) xs ys (omega arith) (λ D m. rw e (lost_everywhere (lost_one D) E)) f

  -- there is room for one more
  pub lost_fits : (k : ℕ) (xs ys : List ℕ) → k < 16 → plan + L < length xs → LostTo k xs ys → ((D : ℕ) → D ≤ L → words_of xs (plan + D) + 16 * u < 2 ^ 64)
      → (D : ℕ) → D ≤ L → words_of ys (plan + D) + u < 2 ^ 64
  lost_fits k xs ys m l f fits D d =
      omega (
        arith,
        raised_at plan (suc L) (λ D. lost_below (lost_one D) E k) xs ys f (omega arith) D (suc-le-suc_iff.1 d),
        lost_most (lost_one D) u (λ e. part (comes_to L D (with (without C e) x.place))) E k,
        mul-le-mul_right u m,
        fits D d,
      )
    where
      part : (b : Bool) → if b u ≤ u
      part true = le_refl u
      part false = omega arith

-- ---- a row of contents

module _ (N : ℕ) (x : Target) (plan L C all q stay : ℕ) (xs : List ℕ) (ok : Summable N x plan L C all q stay xs) where
  pub all_fits : (D : ℕ) → D ≤ L → words_of xs (plan + D) + all < 2 ^ 64
  all_fits D l = omega (arith, ok.fits D l)

  kept_most : (N - size (risk x C)) * q ≤ N * q
  kept_most = mul-le-mul_right q (sub-le N (size (risk x C)))

  pub kept_part_fits : (N - size (risk x C)) * q < 2 ^ 64
  kept_part_fits = omega (arith, kept_most, ok.fits 0 zero-le)

  pub kept_fits : (N - size (risk x C)) * q + stay < 2 ^ 64
  kept_fits = omega (arith, kept_most, ok.fits 0 zero-le)

  module _ (ys : List ℕ) (lost : Leaves (raised plan (suc L) (λ D. lost_to x (comes_to L D) C (risk x C) q)) xs ys) where
    pub kept_sum_fits : (D : ℕ) → D ≤ L → words_of ys (plan + D) + ((N - size (risk x C)) * q + stay) < 2 ^ 64
    unfolding lost_to
    kept_sum_fits D l =
        omega (
          arith,
          kept_most,
          ok.fits D l,
          raised_at plan (suc L) (λ D. lost_to x (comes_to L D) C (risk x C) q) xs ys lost (omega (arith, ok.room)) D (suc-le-suc_iff.1 l),
          lost_everywhere (lost_one plan C (risk x C) x L q D) (risk x C),
          lost_most (lost_one plan C (risk x C) x L q D) q (λ e. part (comes_to L D (with (without C e) x.place))) (risk x C) 16,
        )
      where
        part : (b : Bool) → if b q ≤ q
        part true = le_refl q
        part false = omega arith

    pub miss_summed : (D u : ℕ) → D ≡ shared (with C x.place) L → u ≡ (N - size (risk x C)) * q + stay
        → Leaves (raised plan (suc L) (λ D. miss_to N x (comes_to L D) C q stay)) xs (set ys (plan + D) (words_of ys (plan + D) + u))
    unfolding miss_to
    miss_summed D u d e =
        rw (d, e)
        (raised_then plan (suc L) (λ D. lost_to x (comes_to L D) C (risk x C) q) (λ D. if (comes_to L D (with C x.place)) ((N - size (risk x C)) * q + stay)) (λ D. miss_to N x (comes_to L D) C q stay) xs ys _ lost
        (raised_one plan (suc L) (shared (with C x.place) L) ((N - size (risk x C)) * q + stay) ys (suc-le-suc_iff.1 (live_most (with C x.place) L)) (omega (arith, lost.long, ok.room)))
        (omega (arith, ok.room)) (λ D l. refl))

  -- at a hit, and where no block can be lost
  pub hit_summed : hits x C ≡ true → (D : ℕ) → D ≡ shared C L → Leaves (raised plan (suc L) (λ D. row_goes N x (comes_to L D) C all q stay)) xs (set xs (plan + D) (words_of xs (plan + D) + all))
  unfolding row_goes
  hit_summed h D d = rw (h, d) (raised_one plan (suc L) (shared C L) all xs (suc-le-suc_iff.1 (live_most C L)) (omega (arith, ok.room)))

  pub safe_summed : hits x C ≡ false → risk x C ≡ 0 → (D : ℕ) → D ≡ shared (with C x.place) L
      → Leaves (raised plan (suc L) (λ D. row_goes N x (comes_to L D) C all q stay)) xs (set xs (plan + D) (words_of xs (plan + D) + all))
  unfolding row_goes
  safe_summed h r D d =
      rw (h, eq-eqb (risk x C) 0 r, d) (raised_one plan (suc L) (shared (with C x.place) L) all xs (suc-le-suc_iff.1 (live_most (with C x.place) L)) (omega (arith, ok.room)))

  pub row_summed : hits x C ≡ false → risk x C ≢ 0 → (ys : List ℕ) → Leaves (raised plan (suc L) (λ D. miss_to N x (comes_to L D) C q stay)) xs ys
      → Leaves (raised plan (suc L) (λ D. row_goes N x (comes_to L D) C all q stay)) xs ys
  unfolding row_goes
  row_summed h r ys f = rw (h, ne_eqb (risk x C) 0 r) f
