-- The block accessed directly before: agreeing edge by edge, and the last access of a run.
use Rattle.std.specs.Prelude.{None, Some}
use mathlib.Core.Path.{◌≡◌, refl, ap, ◌∙◌}
use mathlib.Core.Logic.{◌≢◌}
use mathlib.Core.Bool.{true, false}
use mathlib.Core.List.{List, [], ◌∷◌}
use Prim.Native.Nat.{ℕ, suc, ◌-◌}
use native.Mathlib.Omega.{arith}
use lib.ListN.{length, get_or}
use Rattle.rules.specs.Contents.{is_last, agreed, last_after, Last}
use Rattle.rules.specs.Graph.{last_at, agree_all, last_before}

-- ---- agreeing

module _ (l k : Last) (a : ℕ) (e : l ≡ Some a) where
  pub agreed_same : is_last k a ≡ true → Some a ≡ agreed l k
  agreed_same h = rw (e, h) refl

  pub agreed_not : is_last k a ≡ false → None ≡ agreed l k
  agreed_not h = rw (e, h) refl

-- ---- edge by edge

-- one predecessor more agrees or not, or there is none more
module _ (ls : List Last) (R R' : List ℕ) where
  pub agree_turn : (p : ℕ) (l m n : Last) → R ≡ p ∷ R' → m ≡ last_at ls p → n ≡ agreed l m → agree_all ls R' n ≡ agree_all ls R l
  unfolding agree_all
  agree_turn p l m n r e q = rw (r, q, e) refl

pub agree_end : (ls : List Last) (R : List ℕ) (l : Last) → R ≡ [] → agree_all ls R l ≡ l
unfolding agree_all
agree_end ls R l r = rw r refl

-- before a node, by its first predecessor and the others
pub before_none : (ls : List Last) (R : List ℕ) → R ≡ [] → None ≡ last_before ls R
unfolding last_before
before_none ls R r = rw r refl

pub before_some : (ls : List Last) (R R' : List ℕ) (p : ℕ) (l m : Last) → R ≡ p ∷ R' → l ≡ last_at ls p → m ≡ agree_all ls R' l → m ≡ last_before ls R
unfolding last_before
before_some ls R R' p l m r e q = rw (r, q, e) refl

-- ---- after a run

-- its last access
pub after_some : (l : Last) (bs : List ℕ) → length bs ≢ 0 → Some (get_or bs (length bs - 1) 0) ≡ last_after l bs
unfolding last_after
after_some l [] n = absurd (n refl)
after_some l (b ∷ []) n = refl
after_some l (b ∷ d ∷ bs) n =
    let last : length (b ∷ d ∷ bs) - 1 ≡ suc (length (d ∷ bs) - 1) = omega arith in
    ap (λ (k : ℕ). Some (get_or (b ∷ d ∷ bs) k 0)) last ∙ after_some (Some b) (d ∷ bs) (λ e. absurd (omega arith))

pub after_none : (l : Last) (bs : List ℕ) → length bs ≡ 0 → l ≡ last_after l bs
unfolding last_after
after_none l [] e = refl
after_none l (b ∷ bs) e = absurd (omega arith)
