-- Dead blocks: what is not accessed ahead does not matter to the value along the accesses ahead. A hit is a hit with it and without it. At a miss the way that holds it
-- is one way among the others: drawn, it leaves what an empty way would have left; not drawn, it leaves two contents that again differ in dead blocks only.
-- That a dead block taken away loses no value is so of any block (Rises); here, that it adds none.
use Rattle.std.specs.Prelude.{None, Some}
use mathlib.Core.Path.{◌≡◌, refl, sym, ap, ◌∙◌}
use mathlib.Core.Logic.{◌⊎◌, inl, inr}
use mathlib.Core.Bool.{Bool, true, false, cond, true≢false}
use mathlib.Core.List.{List}
use Prim.Native.Nat.{ℕ, suc, ◌*◌, ◌≤◌, ◌<◌}
use native.Mathlib.Nat.{le_refl, le_trans, mul-le-mul_left, lt_of_le_of_lt}
use native.Mathlib.Omega.{arith}
use Rattle.rules.specs.declared.Target.{Target}
use Rattle.rules.specs.declared.Filled.{Filled}
use Rattle.rules.specs.Contents.{places, bit, has, hits, with, without, shared, size, of_set, Place}
use Rattle.rules.specs.Filling.{fill_one}
use Rattle.rules.specs.Step.{at_risk}
use Rattle.rules.specs.Shape.{Aimed, Room}
use Rattle.rules.proofs.Contents.{Sub, size_sub, size_without, with_cases, with_keeps, with_new, without_keeps, without_gone, sub_without, sub_into_without, sub_shared_left, sub_shared_right}
use Rattle.rules.proofs.Sets.{both_shared, sub_shared, risk_set, risk_full, risk_sub, room_risk, room_joined, room_moved}
use Rattle.rules.proofs.Table.{Weight}
use Rattle.rules.proofs.Step.{over_ways, ahead}
use Rattle.promises.proofs.Value.{Rises, way_by_way}

-- fewer blocks have room where more have
pub room_part : (N Z : ℕ) (ts : List ℕ) (C D : ℕ) (F : Filled) → Sub C D → Room N Z ts D F → Room N Z ts C F
room_part N Z ts C D F s r j = (le_trans (size_sub _ _ (sub_shared C D (of_set Z ts j) s)) (r j).0, (r j).1)

-- the blocks that are not in L add nothing to a weight
abbrev pub Deaf : ℕ → ℕ → List ℕ → ℕ → Weight → Type 0
Deaf N Z ts L f = (C m : ℕ) (F : Filled) → Room N Z ts C F → f (shared C L) m F ≤ f C m F

-- nor do they where L has more
pub deaf_wider : (N Z : ℕ) (ts : List ℕ) (L M : ℕ) (f : Weight) → Sub L M → Rises N Z ts f → Deaf N Z ts L f → Deaf N Z ts M f
deaf_wider N Z ts L M f s rises deaf C m F room =
    le_trans
    (rises (shared C L) (shared C M) m m F F (λ i h. both_shared C M i (sub_shared_left C L i h) (s i (sub_shared_right C L i h))) (le_refl m) (λ j. le_refl _)
    (room_part N Z ts (shared C M) C F (sub_shared_left C M) room))
    (deaf C m F room)

-- from D a block of B can go, from C more: a block of A
module _ (N C A D B : ℕ) (g : ℕ → ℕ) (s : Sub B A) (small : size A ≤ N)
    (both : (i : ℕ) → i < places → bit B i ≡ true → g (without D i) ≤ g (without C i))
    (one : (i : ℕ) → i < places → bit A i ≡ true → bit B i ≡ false → g D ≤ g (without C i))
    (none : size A < N → g D ≤ g C) where
  over_ways_falls : over_ways N D B g ≤ over_ways N C A g
  over_ways_falls = way_by_way N C A D B A g g (λ i h. h) s small (λ i l h. rw h (go i (bit B i) (both i l) (one i l h))) none
    where
      go : (i : ℕ) (b : Bool) → (b ≡ true → g (without D i) ≤ g (without C i)) → (b ≡ false → g D ≤ g (without C i))
          → cond b (g (without D i)) (g D) ≤ g (without C i)
      go i true p q = p refl
      go i false p q = q refl

module _ (N Z : ℕ) (ts : List ℕ) (few : N ≤ 16) (x : Target) (aim : Aimed Z ts x) (L : ℕ) (live : (i : ℕ) → x.place ≡ Some i → bit L i ≡ true) where
  -- a hit is a hit with the dead blocks and without
  hits_same : (C : ℕ) → hits x (shared C L) ≡ hits x C
  hits_same C = go x.place live
    where
      go : (y : Place) → ((i : ℕ) → y ≡ Some i → bit L i ≡ true) → has (shared C L) x.again y ≡ has C x.again y
      go None l = refl
      go (Some i) l = pick (bit C i) (bit (shared C L) i) refl refl
        where
          pick : (a b : Bool) → bit C i ≡ a → bit (shared C L) i ≡ b → b ≡ a
          pick true true p q = refl
          pick true false p q = sym q ∙ both_shared C L i p (l i refl)
          pick false true p q = sym (sub_shared_left C L i q) ∙ p
          pick false false p q = refl

  pub ahead_deaf : (f : Weight) → Rises N Z ts f → Deaf N Z ts L f → Deaf N Z ts L (ahead N x f)
  ahead_deaf f rises deaf C m F room = rw (hits_same C) (go (hits x C))
    where
      y : Place
      y = x.place

      D : ℕ
      D = shared C L

      A : ℕ
      A = at_risk N x F C

      B : ℕ
      B = at_risk N x F D

      up : Filled
      up = fill_one N x.set F

      less : Room N Z ts D F
      less = room_part N Z ts D C F (sub_shared_left C L) room

      inside : Sub B A
      inside i h =
          let (full, there) = risk_full N x F D i h in
          rw (risk_set N x F C full) (sub_shared D C x.mates (sub_shared_left C L) i there)

      small : size A ≤ N
      small = room_risk N Z ts few x aim C F room

      -- E holds at least the live blocks of G
      onward : (E G : ℕ) → ((i : ℕ) → bit G i ≡ true → bit L i ≡ true → bit E i ≡ true) → Room N Z ts (with E y) up → Room N Z ts (with G y) up
          → f (with E y) (suc m) up ≤ f (with G y) (suc m) up
      onward E G s e g =
          le_trans (rises (shared (with G y) L) (with E y) (suc m) (suc m) up up held (le_refl (suc m)) (λ j. le_refl _) e) (deaf (with G y) (suc m) up g)
        where
          held : Sub (shared (with G y) L) (with E y)
          held i h = pick (with_cases G y i (sub_shared_left (with G y) L i h))
            where
              pick : (bit G i ≡ true) ⊎ (y ≡ Some i) → bit (with E y) i ≡ true
              pick (inl q) = with_keeps E y i (s i q (sub_shared_right (with G y) L i h))
              pick (inr q) = rw q (with_new E i)

      kept : (i : ℕ) → bit C i ≡ true → bit L i ≡ true → bit D i ≡ true
      kept i p q = both_shared C L i p q

      -- a block that can go from C and not from D leaves D a way
      spare : (i : ℕ) → i < places → bit A i ≡ true → bit B i ≡ false → size B < N
      spare i l h n = omega (arith, small, size_without A i l h, size_sub B (without A i) (sub_into_without B A i inside n))

      go : (a : Bool) → cond a (N * f D m F) (over_ways N D B (λ E. f (with E y) (suc m) up)) ≤ cond a (N * f C m F) (over_ways N C A (λ E. f (with E y) (suc m) up))
      go true = mul-le-mul_left N (deaf C m F room)
      go false =
          over_ways_falls N C A D B (λ E. f (with E y) (suc m) up) inside small
          (λ i l h. onward (without D i) (without C i)
          (λ j p q. without_keeps D i j (λ e. true≢false (sym p ∙ ap (bit (without C i)) (sym e) ∙ without_gone C i (risk_sub N x F C i (inside i h))))
          (kept j (sub_without C i (risk_sub N x F C i (inside i h)) j p) q))
          (room_moved N Z ts few x aim D i F less l h) (room_moved N Z ts few x aim C i F room l (inside i h)))
          (λ i l h n. onward D (without C i) (λ j p q. kept j (sub_without C i (risk_sub N x F C i h) j p) q)
          (room_joined N Z ts few x aim D F less (spare i l h n)) (room_moved N Z ts few x aim C i F room l h))
          (λ h. onward D C kept (room_joined N Z ts few x aim D F less (lt_of_le_of_lt (size_sub B A inside) h)) (room_joined N Z ts few x aim C F room h))
