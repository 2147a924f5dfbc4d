-- The partner of a state in a fold, and where the search for it may stop. A place is the best of a list where it takes over from all before it and none
-- behind it takes over (`first_best`), and only there (`best_found`). So the first that reaches a bound of all scores is the best, and nothing behind it needs to be looked at. For a
-- partner there are two bounds. None shares more blocks than those that hold all of them: where some do, it is the nearest of these in misses, the first of
-- them (`nearest_partner`). And none is nearer than one that has as many misses (`alike_nearest`). In a table such a one stands behind
-- (`none_alike_before`), since contents that are part of others do not stand later (`holds_not_later`).
use mathlib.Core.Path.{◌≡◌, refl, sym, ap, subst, ◌∙◌}
use mathlib.Core.Logic.{◌≢◌, ◌⊎◌, inl, inr}
use mathlib.Core.Bool.{Bool, true, false, cond, ◌&&◌, true≢false}
use mathlib.Core.List.{List, [], ◌∷◌}
use Prim.Native.Nat.{ℕ, zero, suc, ◌+◌, ◌-◌, ◌^◌, ◌≤◌, ◌<◌, suc-le-suc}
use native.Mathlib.Nat.{not-suc-le-zero, le_of_suc-le-suc, eq-or-lt_of_le}
use native.Mathlib.Decide.{ℕ_discrete, dec_le, dec_lt}
use native.Mathlib.Omega.{arith}
use lib.Bits.{and_le_r}
use lib.Dec.{eqb, ltb}
use lib.ListN.{length, get_or}
use borrow.Author.Tests.{lt-ltb, le-ltb, eq-eqb, ne_eqb, eqb-true, ltb-true, ltb-false}
use Rattle.basics.proofs.Bools.{and_left, and_right, or_cases}
use Rattle.rules.specs.Contents.{bit, size, shared, without}
use Rattle.rules.specs.Ordered.{Order, before, same, after, by_number, then_by, remove, best_from, best}
use Rattle.rules.specs.Table.{State, order, no_state, state_at}
use Rattle.rules.specs.Fold.{sharing, apart, closer}
use Rattle.rules.specs.Shape.{Every}
use Rattle.rules.proofs.Bits.{bits_same}
use Rattle.rules.proofs.Contents.{sixteen_places, size_sub, size_without, sub_shared_left, sub_into_without, shared_lt}
use Rattle.rules.proofs.Lists.{length_remove}
use Rattle.rules.proofs.Ordered.{InOrder, said_before, said_same}
use Rattle.rules.proofs.Table.{Rising}

-- ---- the best of a list

module _ {A : Type 0} (better : A → A → Bool) (z : A) where
  -- the one at place k takes over from each before it, and none behind it takes over from it
  pub record Best (T : List A) (k : ℕ) : Type 0 where
    pub within : k < length T
    pub ahead : (i : ℕ) → i < k → better (get_or T k z) (get_or T i z) ≡ true
    pub behind : (i : ℕ) → k < i → i < length T → better (get_or T i z) (get_or T k z) ≡ false

  -- none takes over from s
  pub stays : (s : A) (j i : ℕ) (T : List A) → ((p : ℕ) → p < length T → better (get_or T p z) s ≡ false) → best_from better s j i T ≡ j
  stays s j i [] h = refl
  stays s j i (t ∷ T) h = rw (h 0 (omega arith)) (stays s j (suc i) T (λ p l. h (suc p) (suc-le-suc l)))

  -- the one at place k takes over from s too
  reaches : (s : A) (j i : ℕ) (T : List A) (k : ℕ) → Best T k → better (get_or T k z) s ≡ true → best_from better s j i T ≡ i + k
  reaches s j i [] k h e = absurd (not-suc-le-zero h.within)
  reaches s j i (t ∷ T) zero h e =
      let end : i + 0 ≡ i = omega arith in
      rw (e, end) (stays t i (suc i) T (λ p l. h.behind (suc p) (omega arith) (suc-le-suc l)))
  reaches s j i (t ∷ T) (suc k) h e =
      let on : suc i + k ≡ i + suc k = omega arith in
      reaches (cond (better t s) t s) (cond (better t s) i j) (suc i) T k further (go (better t s)) ∙ on
    where
      further : Best T k
      further =
          record {
            within = le_of_suc-le-suc h.within;
            ahead = λ p l. h.ahead (suc p) (suc-le-suc l);
            behind = λ p l m. h.behind (suc p) (suc-le-suc l) (suc-le-suc m);
          }

      go : (b : Bool) → better (get_or T k z) (cond b t s) ≡ true
      go true = h.ahead 0 (omega arith)
      go false = e

  pub first_best : (T : List A) (k : ℕ) → Best T k → best better T ≡ k
  unfolding best
  first_best [] k h = absurd (not-suc-le-zero h.within)
  first_best (t ∷ T) zero h = stays t 0 1 T (λ p l. h.behind (suc p) (omega arith) (suc-le-suc l))
  first_best (t ∷ T) (suc k) h =
      reaches t 0 1 T k
      record {
        within = le_of_suc-le-suc h.within;
        ahead = λ p l. h.ahead (suc p) (suc-le-suc l);
        behind = λ p l m. h.behind (suc p) (suc-le-suc l) (suc-le-suc m);
      }
      (h.ahead 0 (omega arith))
      ∙ (let e : 1 + k ≡ suc k = omega arith in e)

-- And the best is such a place, where being better is a matter of a score: of two only one is better than the other, and what is better than s is better than
-- whatever is not better than s.
module _ {A : Type 0} (better : A → A → Bool) (z : A) (turns : (s t : A) → better s t ≡ true → better t s ≡ false)
    (passes : (s t u : A) → better t s ≡ true → better u s ≡ false → better t u ≡ true) where
  record Somewhere (T : List A) : Type 0 where
    pub place : ℕ
    pub is : Best better z T place

  -- the best of the rest, or the first, if that one is not better than it
  somewhere : (t : A) (T : List A) → Somewhere (t ∷ T)
  somewhere t [] =
      record {
        place = 0;
        is = record { within = omega arith; ahead = λ p l. absurd (not-suc-le-zero l); behind = λ p l m. absurd (omega (arith, l, m)) };
      }
  somewhere t (u ∷ T) = go (somewhere u T)
    where
      go : Somewhere (u ∷ T) → Somewhere (t ∷ u ∷ T)
      go h = side (better (get_or (u ∷ T) h.place z) t) refl
        where
          there : A
          there = get_or (u ∷ T) h.place z

          side : (b : Bool) → better there t ≡ b → Somewhere (t ∷ u ∷ T)
          side true e = record { place = suc h.place; is = record { within = suc-le-suc h.is.within; ahead = ahead; behind = behind } }
            where
              ahead : (p : ℕ) → p < suc h.place → better there (get_or (t ∷ u ∷ T) p z) ≡ true
              ahead zero l = e
              ahead (suc p) l = h.is.ahead p (le_of_suc-le-suc l)

              behind : (p : ℕ) → suc h.place < p → p < length (t ∷ u ∷ T) → better (get_or (t ∷ u ∷ T) p z) there ≡ false
              behind zero l m = absurd (not-suc-le-zero l)
              behind (suc p) l m = h.is.behind p (le_of_suc-le-suc l) (le_of_suc-le-suc m)
          side false e = record { place = 0; is = record { within = omega arith; ahead = λ p l. absurd (not-suc-le-zero l); behind = behind } }
            where
              -- none of the rest is better than its best
              none : (p : ℕ) → p < length (u ∷ T) → better (get_or (u ∷ T) p z) there ≡ true → ⊥
              none p l b = among (dec_lt p h.place) (dec_lt h.place p)
                where
                  among : Dec (p < h.place) → Dec (h.place < p) → ⊥
                  among (yes k) n = true≢false (sym b ∙ turns there (get_or (u ∷ T) p z) (h.is.ahead p k))
                  among (no k) (yes n) = true≢false (sym b ∙ h.is.behind p n l)
                  among (no k) (no n) =
                      let d : p ≡ h.place = omega (arith, k, n) in
                      let c : better there there ≡ true = rw d at b in true≢false (sym c ∙ turns there there c)

              behind : (p : ℕ) → 0 < p → p < length (t ∷ u ∷ T) → better (get_or (t ∷ u ∷ T) p z) t ≡ false
              behind zero l m = absurd (not-suc-le-zero l)
              behind (suc p) l m = end (better (get_or (u ∷ T) p z) t) refl
                where
                  end : (b : Bool) → better (get_or (u ∷ T) p z) t ≡ b → b ≡ false
                  end true b = absurd (none p (le_of_suc-le-suc m) (passes t (get_or (u ∷ T) p z) there b e))
                  end false b = refl

  pub best_found : (T : List A) → 0 < length T → Best better z T (best better T)
  best_found [] l = absurd (not-suc-le-zero l)
  best_found (t ∷ T) l = let h = somewhere t T in rw (first_best better z (t ∷ T) h.place h.is) h.is

-- ---- the others than the one at place i

-- the place of the one at place p among them
abbrev pub among : ℕ → ℕ → ℕ
among i p = cond (ltb i p) (p - 1) p

-- the place in the list of the one at place j of them
abbrev pub past : ℕ → ℕ → ℕ
past i j = cond (ltb j i) j (suc j)

pub past_other : (i j : ℕ) → past i j ≢ i
past_other i j = go (ltb j i) refl
  where
    go : (b : Bool) → ltb j i ≡ b → cond b j (suc j) ≢ i
    go true e q = absurd (omega (arith, ltb-true j i e))
    go false e q = absurd (omega (arith, ltb-false j i e))

pub past_among : (i p : ℕ) → p ≢ i → past i (among i p) ≡ p
past_among i p n = go (ltb i p) refl
  where
    go : (b : Bool) → ltb i p ≡ b → past i (cond b (p - 1) p) ≡ p
    go true e =
        let l : i < p = ltb-true i p e in
        let q : suc (p - 1) ≡ p = omega arith in
        rw (le-ltb (p - 1) i (omega arith)) q
    go false e = rw (lt-ltb p i (omega (arith, ltb-false i p e, n)))

pub among_past : (i j : ℕ) → among i (past i j) ≡ j
among_past i j = go (ltb j i) refl
  where
    go : (b : Bool) → ltb j i ≡ b → among i (cond b j (suc j)) ≡ j
    go true e = rw (le-ltb i j (let l : j < i = ltb-true j i e in omega arith))
    go false e = rw (lt-ltb i (suc j) (omega (arith, ltb-false j i e))) (omega arith)

-- the others keep their order
pub past_rises : (i j k : ℕ) → j < k → past i j < past i k
past_rises i j k l = go (ltb j i) (ltb k i) refl refl
  where
    go : (a b : Bool) → ltb j i ≡ a → ltb k i ≡ b → cond a j (suc j) < cond b k (suc k)
    go true true p q = l
    go true false p q = omega arith
    go false true p q = absurd (omega (arith, ltb-false j i p, ltb-true k i q))
    go false false p q = omega arith

module _ {A : Type 0} (z : A) where
  -- the places before it stay, those behind it come one place nearer
  others_before : (i j : ℕ) (T : List A) → j < i → get_or (remove i T) j z ≡ get_or T j z
  unfolding remove
  others_before i j [] l = refl
  others_before zero j (t ∷ T) l = absurd (omega arith)
  others_before (suc i) zero (t ∷ T) l = refl
  others_before (suc i) (suc j) (t ∷ T) l = others_before i j T (le_of_suc-le-suc l)

  pub others_behind : (i j : ℕ) (T : List A) → i ≤ j → get_or (remove i T) j z ≡ get_or T (suc j) z
  unfolding remove
  others_behind i j [] l = refl
  others_behind zero j (t ∷ T) l = refl
  others_behind (suc i) zero (t ∷ T) l = absurd (omega arith)
  others_behind (suc i) (suc j) (t ∷ T) l = others_behind i j T (le_of_suc-le-suc l)

  pub others_at : (i j : ℕ) (T : List A) → get_or (remove i T) j z ≡ get_or T (past i j) z
  others_at i j T = go (ltb j i) refl
    where
      go : (b : Bool) → ltb j i ≡ b → get_or (remove i T) j z ≡ get_or T (cond b j (suc j)) z
      go true e = others_before i j T (ltb-true j i e)
      go false e = others_behind i j T (ltb-false j i e)

-- a place of the others is a place of the list
pub past_within : (i j n : ℕ) → suc j < n → past i j < n
past_within i j n l = go (ltb j i)
  where
    go : (b : Bool) → cond b j (suc j) < n
    go true = omega arith
    go false = l

-- ---- the partner, by places of the table

-- the partner of s among the others than the one at place i is the one at place p: it is better than each before it, and none behind it is better
pub record Partner (s : State) (T : List State) (i p : ℕ) : Type 0 where
  pub other : p ≢ i
  pub within : p < length T
  pub ahead : (q : ℕ) → q < p → q ≢ i → closer s (state_at T p) (state_at T q) ≡ true
  pub behind : (q : ℕ) → p < q → q < length T → q ≢ i → closer s (state_at T q) (state_at T p) ≡ false

pub partner_best : (s : State) (T : List State) (i p : ℕ) → i < length T → Partner s T i p → best (closer s) (remove i T) ≡ among i p
partner_best s T i p l h =
    first_best (closer s) no_state (remove i T) (among i p)
    record {
      within = go (ltb i p) refl;
      ahead = λ j m.
          rw (others_at no_state i (among i p) T, others_at no_state i j T, here)
          (h.ahead (past i j) (subst (λ (n : ℕ). past i j < n) here (past_rises i j (among i p) m)) (past_other i j));
      behind = λ j m n.
          rw (others_at no_state i (among i p) T, others_at no_state i j T, here)
          (h.behind (past i j) (subst (λ (n : ℕ). n < past i j) here (past_rises i (among i p) j m)) (past_within i j (length T) (omega (arith, long))) (past_other i j));
    }
  where
    here : past i (among i p) ≡ p
    here = past_among i p h.other

    long : suc (length (remove i T)) ≡ length T
    long = length_remove i T l

    go : (b : Bool) → ltb i p ≡ b → cond b (p - 1) p < length (remove i T)
    go true e = omega (arith, long, ltb-true i p e, h.within)
    go false e = let n : p ≢ i = h.other in omega (arith, long, ltb-false i p e, n)

-- ---- all blocks of a state

-- t holds all blocks of s
abbrev pub Holds : State → State → Type 0
Holds s t = shared s.mask t.mask ≡ s.mask

-- contents that are part of others do not stand later
pub holds_not_later : (s t : State) → Holds s t → s.mask ≤ t.mask
unfolding shared
holds_not_later s t h = omega (arith, h, and_le_r s.mask t.mask)

-- none shares more blocks than there are
pub shares_most : (s t : State) → sharing s t ≤ size s.mask
shares_most s t = size_sub (shared s.mask t.mask) s.mask (sub_shared_left s.mask t.mask)

pub holds_shares : (s t : State) → Holds s t → sharing s t ≡ size s.mask
holds_shares s t h = ap size h

-- of sixteen places, one that shares all blocks holds all of them
pub shares_holds : (s t : State) → s.mask < 2 ^ 16 → size s.mask ≤ sharing s t → Holds s t
shares_holds s t l m = bits_same 16 (shared s.mask t.mask) s.mask (shared_lt 16 s.mask t.mask l) l (λ i n. go i n (bit (shared s.mask t.mask) i) (bit s.mask i) refl refl)
  where
    go : (i : ℕ) → i < 16 → (a b : Bool) → bit (shared s.mask t.mask) i ≡ a → bit s.mask i ≡ b → bit (shared s.mask t.mask) i ≡ bit s.mask i
    go i n true b p q = p ∙ sym (sub_shared_left s.mask t.mask i p)
    go i n false false p q = p ∙ sym q
    go i n false true p q =
        let part = sub_into_without (shared s.mask t.mask) s.mask i (sub_shared_left s.mask t.mask) p in
        absurd
        (omega (
          arith,
          size_sub (shared s.mask t.mask) (without s.mask i) part,
          size_without s.mask i (rw sixteen_places n) q,
        ))

-- ---- which of two is the better partner of s

module _ (s t u : State) where
  closer_by_blocks : sharing s u < sharing s t → closer s t u ≡ true
  closer_by_blocks l = rw (lt-ltb (sharing s u) (sharing s t) l)

  closer_by_misses : sharing s u ≡ sharing s t → apart s t < apart s u → closer s t u ≡ true
  closer_by_misses e l =
      rw (le-ltb (sharing s u) (sharing s t) (omega arith), eq-eqb (sharing s u) (sharing s t) e, lt-ltb (apart s t) (apart s u) l)

  pub not_closer : sharing s t ≤ sharing s u → (sharing s u ≡ sharing s t → apart s u ≤ apart s t) → closer s t u ≡ false
  not_closer l h = rw (le-ltb (sharing s u) (sharing s t) l) (go (ℕ_discrete (sharing s u) (sharing s t)))
    where
      go : Dec (sharing s u ≡ sharing s t) → (eqb (sharing s u) (sharing s t) && ltb (apart s t) (apart s u)) ≡ false
      go (yes e) = rw (eq-eqb (sharing s u) (sharing s t) e, le-ltb (apart s t) (apart s u) (h e))
      go (no n) = rw (ne_eqb (sharing s u) (sharing s t) n)

  closer_so : closer s t u ≡ true → (sharing s u < sharing s t) ⊎ ((sharing s u ≡ sharing s t) × (apart s t < apart s u))
  closer_so e = go (or_cases (ltb (sharing s u) (sharing s t)) _ e)
    where
      go : (ltb (sharing s u) (sharing s t) ≡ true) ⊎ ((eqb (sharing s u) (sharing s t) && ltb (apart s t) (apart s u)) ≡ true)
          → (sharing s u < sharing s t) ⊎ ((sharing s u ≡ sharing s t) × (apart s t < apart s u))
      go (inl a) = inl (ltb-true _ _ a)
      go (inr a) = inr (eqb-true _ _ (and_left (eqb (sharing s u) (sharing s t)) _ a), ltb-true _ _ (and_right (eqb (sharing s u) (sharing s t)) _ a))

  closer_not : closer s t u ≡ false → (sharing s t ≤ sharing s u) × (sharing s u ≡ sharing s t → apart s u ≤ apart s t)
  closer_not e = (blocks (dec_le (sharing s t) (sharing s u)), λ d. misses d (dec_le (apart s u) (apart s t)))
    where
      blocks : Dec (sharing s t ≤ sharing s u) → sharing s t ≤ sharing s u
      blocks (yes l) = l
      blocks (no l) = absurd (true≢false (sym (closer_by_blocks (omega (arith, l))) ∙ e))

      misses : sharing s u ≡ sharing s t → Dec (apart s u ≤ apart s t) → apart s u ≤ apart s t
      misses d (yes l) = l
      misses d (no l) = absurd (true≢false (sym (closer_by_misses d (omega (arith, l))) ∙ e))

-- it is a matter of a score
closer_turns : (s t u : State) → closer s t u ≡ true → closer s u t ≡ false
closer_turns s t u e = go (closer_so s t u e)
  where
    go : (sharing s u < sharing s t) ⊎ ((sharing s u ≡ sharing s t) × (apart s t < apart s u)) → closer s u t ≡ false
    go (inl l) = not_closer s u t (omega arith) (λ d. absurd (omega (arith, d, l)))
    go (inr (d, l)) = not_closer s u t (omega arith) (λ k. omega arith)

closer_passes : (s t u v : State) → closer s u t ≡ true → closer s v t ≡ false → closer s u v ≡ true
closer_passes s t u v e f = go (closer_so s u t e) (dec_lt (sharing s v) (sharing s u))
  where
    go : (sharing s t < sharing s u) ⊎ ((sharing s t ≡ sharing s u) × (apart s u < apart s t)) → Dec (sharing s v < sharing s u) → closer s u v ≡ true
    go a (yes l) = closer_by_blocks s u v l
    go (inl a) (no l) = absurd (omega (arith, a, l, (closer_not s v t f).0))
    go (inr (d, a)) (no l) =
        let k : sharing s v ≡ sharing s u = omega (arith, d, l, (closer_not s v t f).0) in
        closer_by_misses s u v k (omega (arith, a, (closer_not s v t f).1 (d ∙ sym k)))

-- the partner that document 01 chooses is better than each before it, and none behind it is better
pub partner_found : (s : State) (R : List State) → 0 < length R → Best (closer s) no_state R (best (closer s) R)
partner_found s R l = best_found (closer s) no_state (closer_turns s) (closer_passes s) R l

-- of the others than the one at place i that hold all blocks of s, the one at place p is the nearest in misses, and the first of these
pub record NearestHolder (s : State) (T : List State) (i p : ℕ) : Type 0 where
  pub other : p ≢ i
  pub within : p < length T
  pub holds : Holds s (state_at T p)
  pub ahead : (q : ℕ) → q < p → q ≢ i → Holds s (state_at T q) → apart s (state_at T p) < apart s (state_at T q)
  pub behind : (q : ℕ) → p < q → q < length T → q ≢ i → Holds s (state_at T q) → apart s (state_at T p) ≤ apart s (state_at T q)

module _ (s : State) (T : List State) (i p : ℕ) (l : s.mask < 2 ^ 16) (h : NearestHolder s T i p) where
  abbrev t : State
  t = state_at T p

  most : sharing s t ≡ size s.mask
  most = holds_shares s t h.holds

  first : (q : ℕ) → q < p → q ≢ i → Dec (size s.mask ≤ sharing s (state_at T q)) → closer s t (state_at T q) ≡ true
  first q m n (yes k) =
      let hq : Holds s (state_at T q) = shares_holds s (state_at T q) l k in
      closer_by_misses s t (state_at T q) (holds_shares s (state_at T q) hq ∙ sym most) (h.ahead q m n hq)
  first q m n (no k) = closer_by_blocks s t (state_at T q) (omega (arith, most, k))

  pub nearest_partner : Partner s T i p
  nearest_partner =
      record {
        other = h.other;
        within = h.within;
        ahead = λ q m n. first q m n (dec_le (size s.mask) (sharing s (state_at T q)));
        behind = λ q m k n.
            not_closer s (state_at T q) t (rw most (shares_most s (state_at T q)))
            (λ e. h.behind q m k n (shares_holds s (state_at T q) l (omega (arith, e, most))));
      }

-- ---- as many misses too

-- t holds all blocks of s and has as many misses
abbrev pub Alike : State → State → Type 0
Alike s t = Holds s t × (s.misses ≡ t.misses)

pub alike_near : (s t : State) → Alike s t → apart s t ≡ 0
alike_near s t h = omega (arith, h.1)

-- what holds all blocks and is not so is some way off
pub unlike_far : (s t : State) → (Alike s t → ⊥) → Holds s t → 0 < apart s t
unlike_far s t n h = go (ℕ_discrete s.misses t.misses)
  where
    go : Dec (s.misses ≡ t.misses) → 0 < apart s t
    go (yes e) = absurd (n (h, e))
    go (no d) = omega (arith, d)

-- the first such state
pub alike_nearest : (s : State) (T : List State) (i p : ℕ) → p ≢ i → p < length T → Alike s (state_at T p)
    → ((q : ℕ) → q < p → q ≢ i → Alike s (state_at T q) → ⊥) → NearestHolder s T i p
alike_nearest s T i p n l h none =
    record {
      other = n;
      within = l;
      holds = h.0;
      ahead = λ q m d k. omega (arith, alike_near s (state_at T p) h, unlike_far s (state_at T q) (none q m d) k);
      behind = λ q m d e k. omega (arith, alike_near s (state_at T p) h);
    }

-- ---- where it stands

module _ {A : Type 0} (o : A → A → Order) (z : A) where
  -- in a rising list each stands before those behind it
  pub in_order_at : (T : List A) → InOrder o T → (i j : ℕ) → i < j → j < length T → o (get_or T i z) (get_or T j z) ≡ before
  in_order_at [] h i j l k = absurd (not-suc-le-zero k)
  in_order_at (t ∷ T) h i zero l k = absurd (not-suc-le-zero l)
  in_order_at (t ∷ T) h zero (suc j) l k = in_all_lem T h.0 j (le_of_suc-le-suc k)
    where
      in_all_lem : (T : List A) → Every (λ u. o t u ≡ before) T → (j : ℕ) → j < length T → o t (get_or T j z) ≡ before
      in_all_lem [] a j k = absurd (not-suc-le-zero k)
      in_all_lem (u ∷ T) a zero k = a.0
      in_all_lem (u ∷ T) a (suc j) k = in_all_lem T a.1 j (le_of_suc-le-suc k)
  in_order_at (t ∷ T) h (suc i) (suc j) l k = in_order_at T h.1 i j (le_of_suc-le-suc l) (le_of_suc-le-suc k)

-- what stands before has a smaller mask, or the same one and no more misses
pub before_says : (s t : State) → order s t ≡ before → (s.mask < t.mask) ⊎ ((s.mask ≡ t.mask) × (s.misses ≤ t.misses))
unfolding order
before_says s t e = go (by_number s.mask t.mask) (by_number s.misses t.misses) _ refl refl e
  where
    go : (a b c : Order) → by_number s.mask t.mask ≡ a → by_number s.misses t.misses ≡ b → then_by (then_by a b) c ≡ before
        → (s.mask < t.mask) ⊎ ((s.mask ≡ t.mask) × (s.misses ≤ t.misses))
    go before b c p q h = inl (said_before s.mask t.mask p)
    go same before c p q h =
        inr (said_same s.mask t.mask p, (let l : s.misses < t.misses = said_before s.misses t.misses q in omega arith))
    go same same c p q h = inr (said_same s.mask t.mask p, (let l : s.misses ≡ t.misses = said_same s.misses t.misses q in omega arith))
    go same after c p q h = let z : ◌≡◌ {A = ℕ} 0 1 = cc in absurd (omega arith)
    go after b c p q h = let z : ◌≡◌ {A = ℕ} 0 1 = cc in absurd (omega arith)

-- where the state directly before place i is not alike, none before it is: it would have the same mask and as many misses, and so would all between
pub none_alike_before : (T : List State) (i : ℕ) → Rising T → i < length T → ((k : ℕ) → suc k ≡ i → Alike (state_at T i) (state_at T k) → ⊥)
    → (q : ℕ) → q < i → Alike (state_at T i) (state_at T q) → ⊥
none_alike_before T zero r l next q m h = absurd (not-suc-le-zero m)
none_alike_before T (suc k) r l next q m h =
    go (eq-or-lt_of_le (le_of_suc-le-suc m))
  where
    before_last : order (state_at T k) (state_at T (suc k)) ≡ before
    before_last = in_order_at order no_state T r k (suc k) (omega arith) l

    go : (q ≡ k) ⊎ (q < k) → ⊥
    go (inl e) = next k refl (rw e at h)
    go (inr n) =
        next k refl
        (between (before_says (state_at T q) (state_at T k) (in_order_at order no_state T r q k n (omega arith)))
        (before_says (state_at T k) (state_at T (suc k)) before_last))
      where
        between : ((state_at T q).mask < (state_at T k).mask) ⊎ (((state_at T q).mask ≡ (state_at T k).mask) × ((state_at T q).misses ≤ (state_at T k).misses))
            → ((state_at T k).mask < (state_at T (suc k)).mask) ⊎ (((state_at T k).mask ≡ (state_at T (suc k)).mask) × ((state_at T k).misses ≤ (state_at T (suc k)).misses))
            → Alike (state_at T (suc k)) (state_at T k)
        between (inl a) (inl b) = absurd (omega (arith, a, b, holds_not_later (state_at T (suc k)) (state_at T q) h.0))
        between (inl a) (inr b) = absurd (omega (arith, a, b.0, holds_not_later (state_at T (suc k)) (state_at T q) h.0))
        between (inr a) (inl b) = absurd (omega (arith, a.0, b, holds_not_later (state_at T (suc k)) (state_at T q) h.0))
        between (inr a) (inr b) =
            (subst (λ (m : ℕ). shared (state_at T (suc k)).mask m ≡ (state_at T (suc k)).mask) a.0 h.0, omega (arith, a.1, b.1, h.1))
