-- The two states that are sought (searches/specs) are document 01's choice, where the table rises. The partner is found in one of three ways. The first state alike behind one that
-- stands before all alike is it: no other can be better. Where none is alike, it is the nearest of those that hold all blocks, which stand behind the first of their mask, and one miss away is
-- as near as can be. And the best of all is found place by place, and may be taken as soon as none can beat it. (rules/proofs/Partners)
use mathlib.Core.Path.{◌≡◌, refl, sym, ap, ◌∙◌}
use mathlib.Core.Logic.{◌≢◌, ◌⊎◌, inl, inr}
use mathlib.Core.Bool.{Bool, true, false, cond, ◌&&◌, not, true≢false}
use mathlib.Core.List.{List}
use Prim.Native.Nat.{ℕ, zero, suc, ◌+◌, ◌-◌, ◌≤◌, ◌<◌}
use native.Mathlib.Nat.{le_of_suc-le-suc, eq-or-lt_of_le}
use native.Mathlib.Decide.{ℕ_discrete, dec_lt, dec_le}
use native.Mathlib.Omega.{arith}
use lib.Dec.{eqb, ltb, leb}
use lib.ListN.{length, take, drop, length-drop}
use lib.Seq.{get_or-take, get_or-drop, length-take-le}
use borrow.Author.Tests.{lt-ltb, le-ltb, le-leb, eq-eqb, ne_eqb, ltb-true, ltb-false, eqb-true, leb-true, not-true}
use Rattle.basics.proofs.Bools.{and_left, and_right, both, or_cases}
use Rattle.rules.specs.declared.State.{State}
use Rattle.rules.specs.declared.Pair.{Pair}
use Rattle.rules.specs.Ordered.{remove, best}
use Rattle.rules.specs.AnyTable.{choice as choice_any}
use Rattle.rules.specs.Table.{order, no_state, state_at, rising, listing}
use Rattle.rules.specs.Contents.{size}
use Rattle.rules.specs.Fold.{sharing, apart, closer, fewer, choice}
use Rattle.rules.proofs.Lists.{length_remove, best_lt}
use Rattle.rules.proofs.Table.{rising_so}
use Rattle.rules.proofs.Partners.{stays, past, among, past_other, past_among, others_at, not_closer, Holds, Alike, holds_not_later, in_order_at, before_says, shares_most, shares_holds, NearestHolder, nearest_partner, partner_best, alike_nearest, unlike_far, none_alike_before}
use Rattle.folding.specs.Ends.{none_nearer}
use Rattle.searches.specs.declared.Two.{Two}
use Rattle.searches.specs.Searches.{holds_all, is_alike, leads, unbeaten, best_until, first_of_mask, is_holder, is_nearer, is_closer, first_holder, nearest_holder, nearest_of_all, nearest, first_alike, partner_of, chosen, sought}
use Rattle.searches.proofs.Seeking.{FirstIn, first_in, MaskFrom, mask_from}
use Rattle.tables.proofs.Folding.{other_within, Searched, search_turn, search_start, search_end}

-- ---- what tests say

module _ (s t : State) where
  alike_so : is_alike s t ≡ true → Alike s t
  alike_so e = (eqb-true _ _ (and_left (holds_all s t) _ e), eqb-true _ _ (and_right (holds_all s t) _ e))

  alike_not : is_alike s t ≡ false → Alike s t → ⊥
  alike_not e h = true≢false (sym so ∙ e)
    where
      so : is_alike s t ≡ true
      so = rw (eq-eqb _ _ h.0, eq-eqb _ _ h.1)

  not_alike : (Alike s t → ⊥) → is_alike s t ≡ false
  not_alike n = go (is_alike s t) refl
    where
      go : (b : Bool) → is_alike s t ≡ b → b ≡ false
      go true e = absurd (n (alike_so e))
      go false e = refl

  holds_so : holds_all s t ≡ true → Holds s t
  holds_so e = eqb-true _ _ e

  holds_not : holds_all s t ≡ false → Holds s t → ⊥
  holds_not e h = true≢false (sym (eq-eqb _ _ h) ∙ e)

-- another place is another one, and a test of it is a test of what stands there
module _ (i q : ℕ) (b : Bool) where
  other_so : (not (eqb q i) && b) ≡ true → q ≢ i
  other_so e d = true≢false (sym (eq-eqb q i d) ∙ not-true _ (and_left (not (eqb q i)) _ e))

  other_is : q ≢ i → (not (eqb q i) && b) ≡ b
  other_is d = rw (ne_eqb q i d)

-- none of those that are left is better
search_stop : (better : State → State → Bool) (R : List State) (k j : ℕ)
    → ((p : ℕ) → p < length R → better (state_at R p) (state_at R k) ≡ false) → Searched listing better R k j → best better R ≡ k
search_stop better R k j none h =
    h ∙ stays better no_state (state_at R k) k j (drop j R) (λ p l. rw (get_or-drop j R p no_state) (none (j + p) (omega (arith, l, length-drop j R))))

-- X is the table, the first n states of T; s stands at place i, and R are the others
module _ (T : List State) (n : ℕ) (room : n ≤ length T) (rises : rising (take n T) ≡ true) (i : ℕ) (within : i < n) (s : State) (is : s ≡ state_at T i) where
  abbrev X : List State
  X = take n T

  abbrev R : List State
  R = remove i X

  long : length X ≡ n
  long = length-take-le n T room

  long_others : suc (length R) ≡ n
  long_others = length_remove i X (omega (arith, long)) ∙ long

  here : (j : ℕ) → j < n → state_at X j ≡ state_at T j
  here j l = get_or-take n T j no_state l

  -- document 01's partner stands at place p
  abbrev Found : ℕ → Type 0
  Found p = (p ≢ i) × (among i p ≡ best (closer s) R)

  -- ---- the first alike behind it

  -- none of the others before place j is alike
  abbrev Unlike : ℕ → Type 0
  Unlike j = (q : ℕ) → q < j → q ≢ i → is_alike s (state_at X q) ≡ false

  module _ (h : leads s T i ≡ true) where
    tracked_only : s.mask < 65536
    tracked_only = ltb-true s.mask 65536 (and_left (ltb s.mask 65536) _ h)

    ahead_start : Unlike (suc i)
    ahead_start q l n =
        not_alike s (state_at X q) (rw there (none_alike_before X i (rising_so X rises) (omega (arith, long)) next q (omega (arith, n))))
      where
        there : s ≡ state_at X i
        there = is ∙ sym (here i within)

        next : (k : ℕ) → suc k ≡ i → Alike (state_at X i) (state_at X k) → ⊥
        next k p a = go (or_cases (eqb i 0) _ (and_right (ltb s.mask 65536) _ h))
          where
            last : state_at X k ≡ state_at T (i - 1)
            last = let c : i - 1 ≡ k = omega arith in rw c (here k (omega arith))

            go : (eqb i 0 ≡ true) ⊎ (not (is_alike s (state_at T (i - 1))) ≡ true) → ⊥
            go (inl z) = absurd (omega (arith, eqb-true i 0 z))
            go (inr z) = alike_not s (state_at X k) (ap (is_alike s) last ∙ not-true _ z) (rw there a)

    module _ (j : ℕ) (f : FirstIn (λ q. is_alike s (state_at T q)) (suc i) n j) where
      ahead_all : Unlike j
      ahead_all q l d = go (dec_lt q (suc i))
        where
          go : Dec (q < suc i) → is_alike s (state_at X q) ≡ false
          go (yes k) = ahead_start q k d
          go (no k) = rw (here q (omega (arith, l, f.to))) (f.ahead q (omega (arith, k)) l)

      alike_found : j < n → Found j
      alike_found l = (other, sym (partner_best s X i j (omega (arith, long)) (nearest_partner s X i j tracked_only alike)))
        where
          other : j ≢ i
          other e = absurd (omega (arith, f.from))

          alike : NearestHolder s X i j
          alike =
              alike_nearest s X i j other (omega (arith, long)) (alike_so s (state_at X j) (rw (here j l) (f.passes l)))
              (λ q k d. alike_not s (state_at X q) (ahead_all q k d))

  -- ---- those that hold all blocks

  -- none of the others before place j does
  abbrev Unheld : ℕ → Type 0
  Unheld j = (q : ℕ) → q < j → q ≢ i → holds_all s (state_at X q) ≡ false

  -- none of those before the first of its mask does: their masks are lower
  unheld_start : (r : ℕ) → MaskFrom T s.mask i r → Unheld r
  unheld_start r h q m d = none (holds_all s (state_at X q)) refl
    where
      not_later : (j : ℕ) → j < r - 1 → (state_at X j).mask ≤ (state_at X (r - 1)).mask
      not_later j k = go (before_says (state_at X j) (state_at X (r - 1)) (in_order_at order no_state X (rising_so X rises) j (r - 1) k (omega (arith, long, h.first))))
        where
          go : ((state_at X j).mask < (state_at X (r - 1)).mask) ⊎ (((state_at X j).mask ≡ (state_at X (r - 1)).mask) × ((state_at X j).misses ≤ (state_at X (r - 1)).misses))
              → (state_at X j).mask ≤ (state_at X (r - 1)).mask
          go (inl b) = omega arith
          go (inr b) = omega (arith, b.0)

      last : (state_at X (r - 1)).mask < s.mask
      last = go (before_says (state_at X (r - 1)) (state_at X r) (in_order_at order no_state X (rising_so X rises) (r - 1) r (omega (arith, m)) (omega (arith, long, h.first))))
        where
          own : (state_at X r).mask ≡ s.mask
          own = ap (λ (t : State). t.mask) (here r (omega (arith, h.first))) ∙ h.has (ap (λ (t : State). t.mask) (sym is))

          other : (state_at X (r - 1)).mask ≢ s.mask
          other b = h.other (omega (arith, m)) (ap (λ (t : State). t.mask) (sym (here (r - 1) (omega (arith, h.first)))) ∙ b)

          go : ((state_at X (r - 1)).mask < (state_at X r).mask) ⊎ (((state_at X (r - 1)).mask ≡ (state_at X r).mask) × ((state_at X (r - 1)).misses ≤ (state_at X r).misses))
              → (state_at X (r - 1)).mask < s.mask
          go (inl b) = omega (arith, b, own)
          go (inr b) = absurd (other (b.0 ∙ own))

      lower : (Dec (q < r - 1)) → (state_at X q).mask < s.mask
      lower (yes k) = omega (arith, not_later q k, last)
      lower (no k) = let a : q ≡ r - 1 = omega (arith, k, m) in rw a last

      none : (b : Bool) → holds_all s (state_at X q) ≡ b → b ≡ false
      none true b = absurd (omega (arith, lower (dec_lt q (r - 1)), holds_not_later s (state_at X q) (holds_so s (state_at X q) b)))
      none false b = refl

  -- the first of them
  abbrev First : ℕ → Type 0
  First r = Unheld r × (r ≤ n) × (r < n → (r ≢ i) × Holds s (state_at X r))

  first_holder_lem : First (first_holder n T s i)
  unfolding first_holder
  first_holder_lem = (ahead, f.to, λ l. (other_so i r _ (f.passes l), holds_so s (state_at X r) (rw (here r l) (and_right (not (eqb r i)) _ (f.passes l)))))
    where
      from : ℕ
      from = first_of_mask T s.mask i

      begin : MaskFrom T s.mask i from
      begin = mask_from T s.mask i

      r : ℕ
      r = first_holder n T s i

      f : FirstIn (is_holder n T s i) from n r
      f = first_in (is_holder n T s i) (n - from) from n (omega (arith, begin.first))

      ahead : Unheld r
      ahead q l d = go (dec_lt q from)
        where
          go : Dec (q < from) → holds_all s (state_at X q) ≡ false
          go (yes k) = unheld_start from begin q k d
          go (no k) = rw (here q (omega (arith, l, f.to))) (sym (other_is i q _ d) ∙ f.ahead q (omega (arith, k)) l)

  -- ---- the nearest of them

  -- the one at place p, before place j, holds all blocks, those before it are further away, and none before place j is nearer
  record Seen (p j : ℕ) : Type 0 where
    pub earlier : p < j
    pub other : p ≢ i
    pub holds : Holds s (state_at X p)
    pub ahead : (q : ℕ) → q < p → q ≢ i → Holds s (state_at X q) → apart s (state_at X p) < apart s (state_at X q)
    pub least : (q : ℕ) → q < j → q ≢ i → Holds s (state_at X q) → apart s (state_at X p) ≤ apart s (state_at X q)

  seen_start : (r : ℕ) → First r → r < n → Seen r (suc r)
  seen_start r f l =
      record {
        earlier = omega arith;
        other = (f.2 l).0;
        holds = (f.2 l).1;
        ahead = λ q k m z. absurd (holds_not s (state_at X q) (f.0 q k m) z);
        least = λ q k m z. go q (eq-or-lt_of_le (le_of_suc-le-suc k)) m z;
      }
    where
      go : (q : ℕ) → (q ≡ r) ⊎ (q < r) → q ≢ i → Holds s (state_at X q) → apart s (state_at X r) ≤ apart s (state_at X q)
      go q (inl e) m z = rw e (omega arith)
      go q (inr e) m z = absurd (holds_not s (state_at X q) (f.0 q e m) z)

  module _ (k j : ℕ) (l : j < n) (h : Seen k j) where
    -- the test of the state at place j, as one of the table
    of_table : is_nearer n T s i j k ≡ is_nearer n X s i j k
    of_table = rw (here j l, here k (omega (arith, h.earlier)))

    seen_nearer : is_nearer n T s i j k ≡ true → Seen j (suc j)
    seen_nearer e =
        record {
          earlier = omega arith;
          other = other_so i j _ e;
          holds = holds_so s (state_at X j) (and_left (holds_all s (state_at X j)) _ rest);
          ahead = λ q b m z. omega (arith, h.least q b m z, less);
          least = λ q b m z. go q (eq-or-lt_of_le (le_of_suc-le-suc b)) m z;
        }
      where
        rest : (holds_all s (state_at X j) && ltb (apart s (state_at X j)) (apart s (state_at X k))) ≡ true
        rest = and_right (not (eqb j i)) _ (sym of_table ∙ e)

        less : apart s (state_at X j) < apart s (state_at X k)
        less = ltb-true _ _ (and_right (holds_all s (state_at X j)) _ rest)

        go : (q : ℕ) → (q ≡ j) ⊎ (q < j) → q ≢ i → Holds s (state_at X q) → apart s (state_at X j) ≤ apart s (state_at X q)
        go q (inl b) m z = rw b (omega arith)
        go q (inr b) m z = omega (arith, h.least q b m z, less)

    seen_other : is_nearer n T s i j k ≡ false → Seen k (suc j)
    seen_other e =
        record {
          earlier = omega (arith, h.earlier);
          other = h.other;
          holds = h.holds;
          ahead = h.ahead;
          least = λ q b m z. go q (eq-or-lt_of_le (le_of_suc-le-suc b)) m z;
        }
      where
        far : j ≢ i → Holds s (state_at X j) → apart s (state_at X k) ≤ apart s (state_at X j)
        far m z = side (ltb (apart s (state_at X j)) (apart s (state_at X k))) refl
          where
            side : (b : Bool) → ltb (apart s (state_at X j)) (apart s (state_at X k)) ≡ b → apart s (state_at X k) ≤ apart s (state_at X j)
            side true b =
                absurd (true≢false (sym (both (not (eqb j i)) _ (ap not (ne_eqb j i m)) (both (holds_all s (state_at X j)) _ (eq-eqb _ _ z) b)) ∙ sym of_table ∙ e))
            side false b = ltb-false _ _ b

        go : (q : ℕ) → (q ≡ j) ⊎ (q < j) → q ≢ i → Holds s (state_at X q) → apart s (state_at X k) ≤ apart s (state_at X q)
        go q (inl b) m z = rw b (far (λ d. m (b ∙ d)) (rw b at z))
        go q (inr b) m z = h.least q b m z

  module _ (tracked : s.mask < 65536) where
    -- none of those that are left is nearer
    seen_rest : (k j : ℕ) → Seen k j → j ≤ n → ((q : ℕ) → j ≤ q → q < n → q ≢ i → Holds s (state_at X q) → apart s (state_at X k) ≤ apart s (state_at X q)) → Found k
    seen_rest k j h l rest = (h.other, sym (partner_best s X i k (omega (arith, long)) (nearest_partner s X i k tracked found)))
      where
        found : NearestHolder s X i k
        found =
            record {
              other = h.other;
              within = omega (arith, h.earlier, long);
              holds = h.holds;
              ahead = h.ahead;
              behind = λ q a d m z. go q (omega (arith, d, long)) m z (dec_lt q j);
            }
          where
            go : (q : ℕ) → q < n → q ≢ i → Holds s (state_at X q) → Dec (q < j) → apart s (state_at X k) ≤ apart s (state_at X q)
            go q d m z (yes a) = h.least q a m z
            go q d m z (no a) = rest q (omega (arith, a)) d m z

    -- one miss away is near enough, where none is alike
    seen_until : Unlike n → (f k j : ℕ) → j + f ≡ n → Seen k j
        → Found (best_until (is_nearer n T s i) (λ q. none_nearer (apart s (state_at T q))) f k j)
    unfolding best_until
    seen_until none zero k j e h = seen_rest k j h (omega arith) (λ q a b. absurd (omega arith))
    seen_until none (suc f) k j e h = go (none_nearer (apart s (state_at T k))) refl (is_nearer n T s i j k) refl (λ p. seen_until none f p (suc j) (omega arith))
      where
        on : ℕ → ℕ
        on p = best_until (is_nearer n T s i) (λ q. none_nearer (apart s (state_at T q))) f p (suc j)

        go : (a : Bool) → none_nearer (apart s (state_at T k)) ≡ a → (b : Bool) → is_nearer n T s i j k ≡ b → ((p : ℕ) → Seen p (suc j) → Found (on p))
            → Found (cond a k (on (cond b j k)))
        go true near b d ih =
            seen_rest k j h (omega arith)
            (λ q a l m z. omega (arith, close, unlike_far s (state_at X q) (alike_not s (state_at X q) (none q l m)) z))
          where
            close : apart s (state_at X k) ≤ 1
            close = rw (here k (omega (arith, h.earlier))) (leb-true _ 1 near)
        go false near true d ih = ih j (seen_nearer k j (omega arith) h d)
        go false near false d ih = ih k (seen_other k j (omega arith) h d)

  -- ---- the best of all

  -- none of the others shares more than m blocks with s
  abbrev NoneMore : ℕ → Type 0
  NoneMore m = (q : ℕ) → q < n → q ≢ i → sharing s (state_at X q) ≤ m

  none_more_all : NoneMore (size s.mask)
  none_more_all q l m = shares_most s (state_at X q)

  -- where none holds all, none shares more than all but one
  none_more : s.mask < 65536 → Unheld n → NoneMore (size s.mask - 1)
  none_more tracked h q l m = go (dec_le (size s.mask) (sharing s (state_at X q)))
    where
      go : Dec (size s.mask ≤ sharing s (state_at X q)) → sharing s (state_at X q) ≤ size s.mask - 1
      go (yes k) = absurd (holds_not s (state_at X q) (h q l m) (shares_holds s (state_at X q) tracked k))
      go (no k) = omega (arith, k)

  -- the place among the others of the one behind place j, which is one of them or not
  among_on : (j : ℕ) → j ≢ i → among i (suc j) ≡ among i j + 1
  among_on j d = go (ltb i j) refl
    where
      go : (b : Bool) → ltb i j ≡ b → among i (suc j) ≡ cond b (j - 1) j + 1
      go true e = let l : i < j = ltb-true i j e in rw (lt-ltb i (suc j) (omega arith)) (omega arith)
      go false e = rw (le-ltb i (suc j) (omega (arith, ltb-false i j e, d))) (omega arith)

  among_out : among i (suc i) ≡ among i i
  among_out = rw (lt-ltb i (suc i) (omega arith), le-ltb i i (omega arith)) (omega arith)

  among_end : (j : ℕ) → j ≡ n → suc (among i j) ≡ n
  among_end j e = rw (lt-ltb i j (omega arith)) (omega arith)

  -- the one at place p is the one at that place among the others
  listed : (p : ℕ) → p < n → p ≢ i → state_at R (among i p) ≡ state_at T p
  listed p l d = others_at no_state i (among i p) X ∙ ap (state_at X) (past_among i p d) ∙ here p l

  -- of the others that come before place n
  among_less : (p : ℕ) → p < n → p ≢ i → among i p < length R
  among_less p l d = go (ltb i p) refl
    where
      go : (b : Bool) → ltb i p ≡ b → cond b (p - 1) p < length R
      go true e = let k : i < p = ltb-true i p e in omega (arith, long_others)
      go false e = omega (arith, long_others, ltb-false i p e, d)

  -- none can beat it
  unbeaten_found : (m k j : ℕ) → NoneMore m → k < n → k ≢ i → unbeaten m (sharing s (state_at T k)) (apart s (state_at T k)) ≡ true
      → Searched listing (closer s) R (among i k) j → Found k
  unbeaten_found m k j none l d e h = (d, sym (search_stop (closer s) R (among i k) j none_better h))
    where
      enough : m ≤ sharing s (state_at R (among i k))
      enough = rw (listed k l d) (leb-true m _ (and_left (leb m (sharing s (state_at T k))) _ e))

      nearest_of : apart s (state_at R (among i k)) ≡ 0
      nearest_of = rw (listed k l d) (eqb-true _ 0 (and_right (leb m (sharing s (state_at T k))) _ e))

      none_better : (p : ℕ) → p < length R → closer s (state_at R p) (state_at R (among i k)) ≡ false
      none_better p a = not_closer s (state_at R p) (state_at R (among i k)) (omega (arith, enough, shares)) (λ z. omega (arith, nearest_of))
        where
          shares : sharing s (state_at R p) ≤ m
          shares = rw (others_at no_state i p X) (none (past i p) (other_within i p (past i p) n refl (omega (arith, long_others))) (past_other i p))

  module _ (m : ℕ) (none : NoneMore m) where
    abbrev enough : ℕ → Bool
    enough k = unbeaten m (sharing s (state_at T k)) (apart s (state_at T k))

    -- place by place
    search_until : (f k j : ℕ) → j + f ≡ n → k < j → k ≢ i → Searched listing (closer s) R (among i k) (among i j) → Found (best_until (is_closer n T s i) enough f k j)
    unfolding best_until
    search_until zero k j e l d h = (d, sym (search_end listing (closer s) R (among i k) (among i j) (omega (arith, among_end j (omega arith), long_others)) h))
    search_until (suc f) k j e l d h = go (enough k) refl (ℕ_discrete j i) (λ p. search_until f p (suc j) (omega arith))
      where
        on : ℕ → ℕ
        on p = best_until (is_closer n T s i) enough f p (suc j)

        turn : j ≢ i → (b : Bool) → closer s (state_at T j) (state_at T k) ≡ b → Searched listing (closer s) R (cond b (among i j) (among i k)) (among i (suc j))
        turn c b q =
            rw (among_on j c)
            (search_turn listing (closer s) R (among i k) (among i j) b (among_less j (omega arith) c) (rw (listed j (omega arith) c, listed k (omega arith) d) q) h)

        go : (a : Bool) → enough k ≡ a → Dec (j ≡ i)
            → ((p : ℕ) → p < suc j → p ≢ i → Searched listing (closer s) R (among i p) (among i (suc j)) → Found (on p))
            → Found (cond a k (on (cond (is_closer n T s i j k) j k)))
        go true a c ih = unbeaten_found m k (among i j) none (omega arith) d a h
        go false a (yes c) ih = rw (eq-eqb j i c) (ih k (omega arith) d (rw (c, among_out) (rw c at h)))
        go false a (no c) ih = rw (other_is i j (closer s (state_at T j) (state_at T k)) c) (side (closer s (state_at T j) (state_at T k)) refl)
          where
            side : (b : Bool) → closer s (state_at T j) (state_at T k) ≡ b → Found (on (cond b j k))
            side true b = ih j (omega arith) c (turn c true b)
            side false b = ih k (omega arith) d (turn c false b)

    best_found_of_all : 2 ≤ n → Found (nearest_of_all n T s i m)
    unfolding nearest_of_all
    best_found_of_all two = go (eqb i 0) refl
      where
        begin : Searched listing (closer s) R 0 1
        begin = search_start listing (closer s) R (omega (arith, long_others))

        go : (b : Bool) → eqb i 0 ≡ b → Found (best_until (is_closer n T s i) enough (n - suc (cond b 1 0)) (cond b 1 0) (suc (cond b 1 0)))
        go true e = let z : i ≡ 0 = eqb-true i 0 e in search_until (n - 2) 1 2 (omega arith) (omega arith) (λ d. absurd (omega arith)) (rw (lt-ltb i 1 (omega arith), lt-ltb i 2 (omega arith)) begin)
        go false e =
            let z : i ≢ 0 = λ d. true≢false (sym (eq-eqb i 0 d) ∙ e) in
            search_until (n - 1) 0 1 (omega arith) (omega arith) (λ d. z (sym d)) (rw (le-ltb i 0 (omega arith), le-ltb i 1 (omega (arith, z))) begin)

  -- ---- the partner

  partner_is : 2 ≤ n → Found (partner_of n T s i)
  unfolding partner_of nearest nearest_holder first_alike
  partner_is two = go (leads s T i) refl
    where
      f : FirstIn (λ q. is_alike s (state_at T q)) (suc i) n (first_alike n T s i)
      f = first_in (λ q. is_alike s (state_at T q)) (n - suc i) (suc i) n (omega arith)

      go : (a : Bool) → leads s T i ≡ a → Found (cond a (cond (ltb (first_alike n T s i) n) (first_alike n T s i) (nearest n T s i)) (nearest_of_all n T s i (size s.mask)))
      go false a = best_found_of_all (size s.mask) none_more_all two
      go true a = side (ltb (first_alike n T s i) n) refl
        where
          side : (b : Bool) → ltb (first_alike n T s i) n ≡ b → Found (cond b (first_alike n T s i) (nearest n T s i))
          side true b = alike_found a (first_alike n T s i) f (ltb-true _ n b)
          side false b = end (ltb (first_holder n T s i) n) refl
            where
              none : Unlike n
              none q l d = ahead_all a (first_alike n T s i) f q (omega (arith, l, ltb-false _ n b)) d

              end : (c : Bool) → ltb (first_holder n T s i) n ≡ c → Found (cond c (nearest_holder n T s i (first_holder n T s i)) (nearest_of_all n T s i (size s.mask - 1)))
              end true c =
                  let l = ltb-true (first_holder n T s i) n c in
                  seen_until (tracked_only a) none (n - suc (first_holder n T s i)) (first_holder n T s i) (suc (first_holder n T s i)) (omega (arith, l))
                  (seen_start (first_holder n T s i) first_holder_lem l)
              end false c =
                  best_found_of_all (size s.mask - 1)
                  (none_more (tracked_only a) (λ q l d. first_holder_lem.0 q (omega (arith, l, ltb-false (first_holder n T s i) n c)) d)) two

-- ---- both

-- the two that are sought are document 01's: the second one by its place among the others
pub chosen_is : (T : List State) (n : ℕ) → n ≤ length T → rising (take n T) ≡ true → 2 ≤ n → (r : Two) → r ≡ sought n T
    → (record { fewest = r.fewest; partner = among r.fewest r.partner } ≡ choice (take n T)) × (r.partner ≢ r.fewest)
unfolding chosen choice_any
chosen_is T n room rises two r e = rw is (ap both_at (found.1 ∙ same), found.0)
  where
    i : ℕ
    i = best fewer (take n T)

    within : i < n
    within = omega (arith, length-take-le n T room, best_lt fewer (take n T) (omega (arith, length-take-le n T room)))

    p : ℕ
    p = partner_of n T (state_at T i) i

    is : r ≡ record { fewest = i; partner = p }
    is = e ∙ rw (le-leb 2 n two, le-leb n (length T) room)

    found : (p ≢ i) × (among i p ≡ best (closer (state_at T i)) (remove i (take n T)))
    found = partner_is T n room rises i within (state_at T i) refl two

    same : best (closer (state_at T i)) (remove i (take n T)) ≡ best (closer (state_at (take n T) i)) (remove i (take n T))
    same = ap (λ (t : State). best (closer t) (remove i (take n T))) (sym (get_or-take n T i no_state within))

    both_at : ℕ → Pair
    both_at q = record { fewest = i; partner = q }
