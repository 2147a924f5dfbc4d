-- The value of contents C with m misses and F filled along the accesses ahead: what the rules say that all draws to come add up to, for a
-- weight W of what they end in. It rises as blocks are taken away, misses added and numbers raised, and a remainder that goes to the accessed block alone, and
-- a fold, are safe for that reason. Nor does it fall where less is known of the block accessed directly before.
use Rattle.std.specs.Prelude.{None, Some}
use mathlib.Core.Path.{◌≡◌, refl, sym, ap, ◌∙◌, subst}
use mathlib.Core.Logic.{inl, inr}
use mathlib.Core.Bool.{Bool, true, false, cond, true≢false}
use mathlib.Core.List.{List, [], ◌∷◌, ◌++◌}
use Prim.Native.Nat.{ℕ, zero, suc, ◌+◌, ◌-◌, ◌*◌, ◌%◌, ◌^◌, ◌≤◌, ◌<◌, suc-le-suc}
use native.Mathlib.Nat.{le_refl, le_trans, le_step, mul-le-mul_left, pow-zero, pow-succ'}
use native.Mathlib.Omega.{arith}
use lib.Dec.{ltb}
use lib.ListN.{length}
use borrow.Author.Tests.{ltb-true, ltb-false}
use Rattle.basics.proofs.Sums.{sum_on, sum_le, sum_add, sum_each}
use Rattle.rules.specs.declared.Target.{Target}
use Rattle.rules.specs.Contents.{places, find, is_last, last_after, bit, has, hits, with, without, held, size, of_set, target_of, Last, Place}
use Rattle.rules.specs.declared.Filled.{Filled}
use Rattle.rules.specs.Filling.{filled_at, fill_one}
use Rattle.rules.specs.Step.{at_risk}
use Rattle.rules.specs.Shape.{Every, Aimed, Room}
use Rattle.rules.proofs.Bits.{bit_zero}
use Rattle.rules.proofs.Contents.{Sub, sum_held, size_zero, size_sub, sub_shared_right, sub_with, sub_with_has, sub_without, sub_without_both, sub_into_without}
use Rattle.rules.proofs.Sets.{aimed, both_shared, sub_shared, risk_none, risk_set, risk_full, risk_sub, room_risk, room_joined, room_moved}
use Rattle.rules.proofs.Filling.{Fewer, more_filled, fewer_more}
use Rattle.rules.proofs.Table.{Weight}
use Rattle.rules.proofs.Step.{over_ways, ahead, others, over_ways_none, over_ways_each}
use Rattle.rules.proofs.Graph.{Vaguer}

-- what the accesses to bs are after, where l was accessed directly before them
abbrev pub targets_of : ℕ → List ℕ → Last → List ℕ → List Target
targets_of Z ts l [] = []
targets_of Z ts l (b ∷ bs) = target_of Z ts l b ∷ targets_of Z ts (Some b) bs

module _ (Z : ℕ) (ts : List ℕ) where
  pub all_aimed : 0 < Z → Z ≤ 16 → (l : Last) (bs : List ℕ) → Every (Aimed Z ts) (targets_of Z ts l bs)
  all_aimed sets few_sets l [] = tt
  all_aimed sets few_sets l (b ∷ bs) = (aimed Z ts sets few_sets l b, all_aimed sets few_sets (Some b) bs)

  pub length_targets : (l : Last) (bs : List ℕ) → length (targets_of Z ts l bs) ≡ length bs
  length_targets l [] = refl
  length_targets l (b ∷ bs) = ap suc (length_targets (Some b) bs)

  -- those of p and then those of q
  pub targets_append : (l : Last) (p q : List ℕ) → targets_of Z ts l (p ++ q) ≡ targets_of Z ts l p ++ targets_of Z ts (last_after l p) q
  unfolding last_after
  targets_append l [] q = refl
  targets_append l (b ∷ p) q = ap (target_of Z ts l b ∷◌) (targets_append (Some b) p q)

-- the weight W summed over the N ^ (length p) draws of the accesses p, from contents C with m misses and F filled
unfoldable pub value : Weight → ℕ → List Target → Weight
value W N [] C m F = W C m F
value W N (x ∷ p) C m F = ahead N x (value W N p) C m F

-- a weight rises with the misses, with the filled numbers, and as blocks are taken away from contents that have room in their sets
abbrev pub Rises : ℕ → ℕ → List ℕ → Weight → Type 0
Rises N Z ts f = (C D m n : ℕ) (F G : Filled) → Sub C D → n ≤ m → Fewer G F → Room N Z ts D G → f D n G ≤ f C m F

-- ---- the sum over the ways rises

-- as a sum over all places
pub over_places : (N C E : ℕ) (g : ℕ → ℕ) → over_ways N C E g ≡ sum_on places (bit E) (λ e. g (without C e)) + (N - size E) * g C
over_places N C E g = ap (◌+ (N - size E) * g C) (sum_held (λ e. g (without C e)) E)

-- y for each block of E
pub over_blocks : (E y : ℕ) → sum_on places (bit E) (λ i. y) ≡ size E * y
unfolding size
over_blocks E y = sym (sum_held (λ i. y) E) ∙ sum_each y (held E)

-- from C a block of A can go, from D a block of B, all of them blocks of E: way by way, one for each block of E and the others
module _ (N C A D B E : ℕ) (f g : ℕ → ℕ) (a : Sub A E) (b : Sub B E) (small : size E ≤ N)
    (each : (i : ℕ) → i < places → bit E i ≡ true → cond (bit B i) (f (without D i)) (f D) ≤ cond (bit A i) (g (without C i)) (g C))
    (none : size E < N → f D ≤ g C) where
  block_by_block : sum_on places (bit B) (λ i. f (without D i)) + (sum_on places (bit E) (λ i. f D) + sum_on places (bit A) (λ i. g C))
      ≤ sum_on places (bit A) (λ i. g (without C i)) + (sum_on places (bit E) (λ i. g C) + sum_on places (bit B) (λ i. f D))
  block_by_block =
      rw (← sum_add, ← sum_add, ← sum_add, ← sum_add)
      (sum_le places _ _ (λ i l. go i (bit A i) (bit B i) (bit E i) (a i) (b i) (each i l)))
    where
      go : (i : ℕ) (x y z : Bool) → (x ≡ true → z ≡ true) → (y ≡ true → z ≡ true) → (z ≡ true → cond y (f (without D i)) (f D) ≤ cond x (g (without C i)) (g C))
          → cond y (f (without D i)) 0 + (cond z (f D) 0 + cond x (g C) 0) ≤ cond x (g (without C i)) 0 + (cond z (g C) 0 + cond y (f D) 0)
      go i true true true s t e = omega (arith, e refl)
      go i true false true s t e = omega (arith, e refl)
      go i false true true s t e = omega (arith, e refl)
      go i false false true s t e = omega (arith, e refl)
      go i true y false s t e = absurd (true≢false (sym (s refl)))
      go i false true false s t e = absurd (true≢false (sym (t refl)))
      go i false false false s t e = omega arith

  pub way_by_way : over_ways N D B f ≤ over_ways N C A g
  way_by_way =
      let (r, e, d) = others N (size E) small in
      let (p, e', d') = others N (size A) (omega (arith, size_sub A E a)) in
      let (q, e'', d'') = others N (size B) (omega (arith, size_sub B E b)) in
      rw (over_places N D B f, over_places N C A g, d', d'')
      (omega (
        arith,
        block_by_block,
        over_blocks A (g C),
        over_blocks B (f D),
        over_blocks E (f D),
        over_blocks E (g C),
        last r e,
        ap (λ (n : ℕ). n * f D) e,
        ap (λ (n : ℕ). n * g C) e,
        ap (λ (n : ℕ). n * g C) e',
        ap (λ (n : ℕ). n * f D) e'',
      ))
    where
      last : (r : ℕ) → N ≡ size E + r → r * f D ≤ r * g C
      last zero e = omega arith
      last (suc r) e = mul-le-mul_left (suc r) (none (omega arith))

-- where whatever can go from C can go from D
module _ (N C A D B : ℕ) (f g : ℕ → ℕ) (s : Sub A B) (small : size B ≤ N)
    (both : (i : ℕ) → i < places → bit A i ≡ true → f (without D i) ≤ g (without C i))
    (one : (i : ℕ) → i < places → bit B i ≡ true → bit A i ≡ false → f (without D i) ≤ g C)
    (none : size B < N → f D ≤ g C) where
  pub over_ways_rises : over_ways N D B f ≤ over_ways N C A g
  over_ways_rises = way_by_way N C A D B B f g s (λ i h. h) small (λ i l h. rw h (go i (bit A i) (both i l) (one i l h))) none
    where
      go : (i : ℕ) (a : Bool) → (a ≡ true → f (without D i) ≤ g (without C i)) → (a ≡ false → f (without D i) ≤ g C)
          → f (without D i) ≤ cond a (g (without C i)) (g C)
      go i true p q = p refl
      go i false p q = q refl

-- where each way gives at most y, or at least y
module _ (N C E y : ℕ) (g : ℕ → ℕ) (small : size E ≤ N) where
  over_ways_most : ((i : ℕ) → i < places → bit E i ≡ true → g (without C i) ≤ y) → (size E < N → g C ≤ y) → over_ways N C E g ≤ N * y
  over_ways_most lost kept =
      rw (← over_ways_each N C E y small)
      (over_ways_rises N C E C E g (λ D. y) (λ i e. e) small lost (λ i l h n. absurd (true≢false (sym h ∙ n))) kept)

  pub over_ways_least : ((i : ℕ) → i < places → bit E i ≡ true → y ≤ g (without C i)) → (size E < N → y ≤ g C) → N * y ≤ over_ways N C E g
  over_ways_least lost kept =
      rw (← over_ways_each N C E y small)
      (over_ways_rises N C E C E (λ D. y) g (λ i e. e) small lost (λ i l h n. absurd (true≢false (sym h ∙ n))) kept)

-- ---- the value rises

has_sub : (C D : ℕ) (r : Bool) (x : Place) → Sub C D → has C r x ≡ true → has D r x ≡ true
has_sub C D r (Some i) s h = s i h
has_sub C D r None s h = h

pub sub_zero : (C : ℕ) → Sub 0 C
sub_zero C i h = absurd (true≢false (sym h ∙ bit_zero i))

module _ (N Z : ℕ) (ts : List ℕ) (few : N ≤ 16) where
  module _ (x : Target) (aim : Aimed Z ts x) where
    abbrev y : Place
    y = x.place

    -- after a miss
    abbrev more : Filled → Filled
    more F = fill_one N x.set F

    more_fewer : (G F : Filled) → Fewer G F → Fewer (more G) (more F)
    more_fewer G F h = fewer_more N few x.set aim.near G F h

    -- fewer contents have no more blocks at risk than there are ways
    small_risk : (C D : ℕ) (F G : Filled) → Sub C D → Room N Z ts D G → size (at_risk N x F C) ≤ N
    small_risk C D F G s room =
        le_trans (size_sub _ _ (λ i e. sub_shared C D x.mates s i (risk_full N x F C i e).1))
        (rw aim.beside (le_trans (room x.set).0 (room x.set).1))

    pub ahead_rises : (f : Weight) → Rises N Z ts f → Rises N Z ts (ahead N x f)
    ahead_rises f rises C D m n F G s l fewer room = go (hits x C) (hits x D) refl refl
      where
        A : ℕ
        A = at_risk N x F C

        B : ℕ
        B = at_risk N x G D

        less : size A ≤ N
        less = small_risk C D F G s room

        gone : (i : ℕ) → bit A i ≡ true → Sub (without C i) C
        gone i e = sub_without C i (risk_sub N x F C i e)

        -- not every way may be filled: D loses nothing
        spare : filled_at G x.set < N
            → over_ways N D B (λ E. f (with E y) (suc n) (more G)) ≤ over_ways N C A (λ E. f (with E y) (suc m) (more F))
        spare k =
            rw (risk_none N x G D k, over_ways_none N D (λ E. f (with E y) (suc n) (more G)))
            (over_ways_least N C A (f (with D y) (suc n) (more G)) (λ E. f (with E y) (suc m) (more F)) less
            (λ i h e. rises (with (without C i) y) (with D y) (suc m) (suc n) (more F) (more G)
            (sub_with (without C i) D y (λ j t. s j (gone i e j t))) (suc-le-suc l) (more_fewer G F fewer) joined)
            (λ h. rises (with C y) (with D y) (suc m) (suc n) (more F) (more G) (sub_with C D y s) (suc-le-suc l) (more_fewer G F fewer) joined))
          where
            joined : Room N Z ts (with D y) (more G)
            joined = room_joined N Z ts few x aim D G room (rw (risk_none N x G D k) (omega (arith, size_zero)))

        -- every way may be filled: block by block
        full : N ≤ filled_at G x.set
            → over_ways N D B (λ E. f (with E y) (suc n) (more G)) ≤ over_ways N C A (λ E. f (with E y) (suc m) (more F))
        full k =
            over_ways_rises N C A D B (λ E. f (with E y) (suc n) (more G)) (λ E. f (with E y) (suc m) (more F)) both (room_risk N Z ts few x aim D G room)
            (λ i h e. rises (with (without C i) y) (with (without D i) y) (suc m) (suc n) (more F) (more G)
            (sub_with (without C i) (without D i) y (sub_without_both C D i s (risk_sub N x F C i e))) (suc-le-suc l) (more_fewer G F fewer)
            (room_moved N Z ts few x aim D i G room h (both i e)))
            (λ i h e e'. rises (with C y) (with (without D i) y) (suc m) (suc n) (more F) (more G)
            (sub_with C (without D i) y (sub_into_without C D i s (not_held i e e'))) (suc-le-suc l) (more_fewer G F fewer)
            (room_moved N Z ts few x aim D i G room h e))
            (λ h. rises (with C y) (with D y) (suc m) (suc n) (more F) (more G) (sub_with C D y s) (suc-le-suc l) (more_fewer G F fewer)
            (room_joined N Z ts few x aim D G room h))
          where
            both : Sub A B
            both i e = rw (risk_set N x G D k) (sub_shared C D x.mates s i (risk_full N x F C i e).1)

            not_held : (i : ℕ) → bit B i ≡ true → bit A i ≡ false → bit C i ≡ false
            not_held i e e' = pick (bit C i) refl
              where
                pick : (a : Bool) → bit C i ≡ a → a ≡ false
                pick true t =
                    absurd (true≢false (sym (rw (risk_set N x F C (le_trans k (fewer x.set)))
                    (both_shared C x.mates i t (sub_shared_right D x.mates i (risk_full N x G D i e).1))) ∙ e'))
                pick false t = refl

        go : (a b : Bool) → hits x C ≡ a → hits x D ≡ b
            → cond b (N * f D n G) (over_ways N D B (λ E. f (with E y) (suc n) (more G)))
            ≤ cond a (N * f C m F) (over_ways N C A (λ E. f (with E y) (suc m) (more F)))
        go true true c d = mul-le-mul_left N (rises C D m n F G s l fewer room)
        go true false c d = absurd (true≢false (sym (has_sub C D x.again y s c) ∙ d))
        go false true c d =
            over_ways_least N C A (f D n G) (λ E. f (with E y) (suc m) (more F)) less
            (λ i h e. rises (with (without C i) y) D (suc m) n (more F) G
            (sub_with_has (without C i) D x.again y (λ j t. s j (gone i e j t)) d) (le_step l) up room)
            (λ h. rises (with C y) D (suc m) n (more F) G (sub_with_has C D x.again y s d) (le_step l) up room)
          where
            up : Fewer G (more F)
            up j = le_trans (fewer j) (more_filled N few x.set aim.near F j)
        go false false c d = pick (ltb (filled_at G x.set) N) refl
          where
            pick : (t : Bool) → ltb (filled_at G x.set) N ≡ t
                → over_ways N D B (λ E. f (with E y) (suc n) (more G)) ≤ over_ways N C A (λ E. f (with E y) (suc m) (more F))
            pick true q = spare (ltb-true (filled_at G x.set) N q)
            pick false q = full (ltb-false (filled_at G x.set) N q)

    -- ---- the most that an access can be worth

    -- nothing held but x, for every way
    pub alone_most : (C m : ℕ) (F : Filled) (f : Weight) → Rises N Z ts f → Room N Z ts C F
        → over_ways N C (at_risk N x F C) (λ D. f (with D x.place) (suc m) (fill_one N x.set F)) ≤ N * f (with 0 x.place) (suc m) (fill_one N x.set F)
    alone_most C m F f rises room =
        over_ways_most N C (at_risk N x F C) (f (with 0 y) (suc m) (more F)) (λ D. f (with D y) (suc m) (more F)) (room_risk N Z ts few x aim C F room)
        (λ i l h. rises _ _ _ _ (more F) (more F) (sub_with 0 (without C i) y (sub_zero (without C i))) (le_refl (suc m)) (λ j. le_refl _)
        (room_moved N Z ts few x aim C i F room l h))
        (λ h. rises _ _ _ _ (more F) (more F) (sub_with 0 C y (sub_zero C)) (le_refl (suc m)) (λ j. le_refl _) (room_joined N Z ts few x aim C F room h))

    -- where f is at most B, an access ahead is worth at most B for each way
    pub ahead_most : (f : Weight) (B : ℕ) → ((D n : ℕ) (G : Filled) → Room N Z ts D G → f D n G ≤ B) → (C m : ℕ) (F : Filled) → Room N Z ts C F
        → ahead N x f C m F ≤ N * B
    ahead_most f B most C m F room = go (hits x C)
      where
        go : (a : Bool) → cond a (N * f C m F) (over_ways N C (at_risk N x F C) (λ D. f (with D y) (suc m) (more F))) ≤ N * B
        go true = mul-le-mul_left N (most C m F room)
        go false =
            over_ways_most N C (at_risk N x F C) B (λ D. f (with D y) (suc m) (more F)) (room_risk N Z ts few x aim C F room)
            (λ i l h. most _ _ (more F) (room_moved N Z ts few x aim C i F room l h))
            (λ h. most _ _ (more F) (room_joined N Z ts few x aim C F room h))

  pub value_rises : (W : Weight) → Rises N Z ts W → (p : List Target) → Every (Aimed Z ts) p → Rises N Z ts (value W N p)
  unfolding value
  value_rises W rises [] aim = rises
  value_rises W rises (x ∷ p) aim = ahead_rises x aim.0 (value W N p) (value_rises W rises p aim.1)

  -- it does not fall where the block accessed directly before is not known: the access is then a miss, or what it was
  module _ (W : Weight) (rises : Rises N Z ts W) (sets : 0 < Z) (few_sets : Z ≤ 16) where
    value_unknown : (l : Last) (bs : List ℕ) (C m : ℕ) (F : Filled) → Room N Z ts C F
        → value W N (targets_of Z ts l bs) C m F ≤ value W N (targets_of Z ts None bs) C m F
    unfolding value target_of with at_risk
    value_unknown l [] C m F room = le_refl (W C m F)
    value_unknown l (b ∷ bs) C m F room = go (is_last l b) (find ts b) refl
      where
        v : Weight
        v = value W N (targets_of Z ts (Some b) bs)

        to : Bool → Place → Target
        to r y = record { place = y; again = r; set = b % Z; mates = of_set Z ts (b % Z) }

        new : Target
        new = to false None

        aim : find ts b ≡ None → Aimed Z ts new
        aim e = subst (λ (y : Place). Aimed Z ts (to false y)) e (aimed Z ts sets few_sets None b)

        go : (r : Bool) (y : Place) → find ts b ≡ y → ahead N (to r y) v C m F ≤ ahead N (to false y) v C m F
        go r (Some i) e = le_refl (ahead N (to r (Some i)) v C m F)
        go false None e = le_refl (ahead N new v C m F)
        go true None e =
            over_ways_least N C (at_risk N new F C) (v C m F) (λ D. v D (suc m) up) (room_risk N Z ts few new (aim e) C F room)
            (λ i k h. v_rises (without C i) C (suc m) m up F (sub_without C i (risk_sub N new F C i h)) (le_step (le_refl m)) fewer room)
            (λ h. v_rises C C (suc m) m up F (λ i t. t) (le_step (le_refl m)) fewer room)
          where
            up : Filled
            up = fill_one N (b % Z) F

            fewer : Fewer F up
            fewer = more_filled N few (b % Z) (aim e).near F

            v_rises : Rises N Z ts v
            v_rises = value_rises W rises (targets_of Z ts (Some b) bs) (all_aimed Z ts sets few_sets (Some b) bs)

    pub value_vaguer : (k l : Last) → Vaguer k l → (bs : List ℕ) (C m : ℕ) (F : Filled) → Room N Z ts C F
        → value W N (targets_of Z ts l bs) C m F ≤ value W N (targets_of Z ts k bs) C m F
    value_vaguer k l (inl e) bs C m F room = rw e (value_unknown l bs C m F room)
    value_vaguer k l (inr e) bs C m F room = rw e (le_refl (value W N (targets_of Z ts l bs) C m F))

  -- where W is at most 1, the value is at most the number of draws
  pub value_most : (W : Weight) → ((C m : ℕ) (F : Filled) → W C m F ≤ 1) → (p : List Target) → Every (Aimed Z ts) p → (C m : ℕ) (F : Filled)
      → Room N Z ts C F → value W N p C m F ≤ N ^ length p
  unfolding value
  value_most W most [] aim C m F room = rw (pow-zero N) (most C m F)
  value_most W most (x ∷ p) aim C m F room =
      rw (pow-succ' N (length p)) (ahead_most x aim.0 (value W N p) (N ^ length p) (value_most W most p aim.1) C m F room)

-- along p and then q
pub value_append : (W : Weight) (N : ℕ) (p q : List Target) → value W N (p ++ q) ≡ value (value W N q) N p
unfolding value
value_append W N [] q = refl
value_append W N (x ∷ p) q = ap {B = Weight} (λ (g : Weight) C m F. ahead N x g C m F) (value_append W N p q)
