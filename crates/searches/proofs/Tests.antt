-- What the tests of the search for a partner say.
use mathlib.Core.Path.{◌≡◌, sym, ◌∙◌}
use mathlib.Core.Bool.{Bool, true, false, ◌&&◌, not}
use mathlib.Core.List.{List}
use Prim.Native.Nat.{ℕ, ◌-◌, ◌≤◌}
use native.Mathlib.Omega.{arith}
use lib.Dec.{eqb, ltb}
use borrow.Author.Tests.{lt-ltb, eq-eqb, ne_eqb}
use Rattle.rules.specs.declared.State.{State}
use Rattle.rules.specs.Table.{state_at}
use Rattle.rules.specs.Fold.{apart}
use Rattle.searches.specs.Searches.{holds_all, is_alike, leads, nearer}

-- a test and then another, where the first is passed, and where it is not
module _ (r a b : Bool) (e : r ≡ a) where
  both_so : r ≡ true → b ≡ (a && b)
  both_so h = rw (sym e ∙ h)

  first_not : r ≡ false → false ≡ (a && b)
  first_not h = rw (sym e ∙ h)

-- the mask has tracked blocks only, and s stands at the front
pub leads_all : (s : State) (T : List State) (i : ℕ) → s.mask ≤ 65535 → i ≡ 0 → true ≡ leads s T i
leads_all s T i l e = rw (lt-ltb s.mask 65536 (omega arith), eq-eqb i 0 e)

-- the mask has tracked blocks only, and there is a state before, t, of which r says whether it is alike
pub leads_next : (s : State) (T : List State) (i : ℕ) (t : State) (r : Bool) → s.mask ≤ 65535 → (i ≡ 0 → ⊥) → t ≡ state_at T (i - 1) → r ≡ is_alike s t
    → not r ≡ leads s T i
leads_next s T i t r l n d e = rw (lt-ltb s.mask 65536 (omega arith), ne_eqb i 0 n, e, d)

-- t stands at another place than i, and r says whether it holds all blocks of s
module _ (s t u : State) (i j m : ℕ) (r : Bool) (n : j ≡ i → ⊥) (is : t ≡ u) (e : r ≡ holds_all s t) where
  pub nearer_so : r ≡ true → (d : ℕ) → d ≡ apart s t → ltb d m ≡ (not (eqb j i) && nearer s u m)
  nearer_so h d a = rw (ne_eqb j i n, a, ← is) (both_so r (holds_all s t) (ltb (apart s t) m) e h)

  pub nearer_not : r ≡ false → false ≡ (not (eqb j i) && nearer s u m)
  nearer_not h = rw (ne_eqb j i n, ← is) (first_not r (holds_all s t) (ltb (apart s t) m) e h)
