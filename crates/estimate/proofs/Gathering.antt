-- From the heads of a table's runs to the access: each waits with its parts, and behind them stand words that no head is above.
use mathlib.Core.Path.{◌≡◌, sym, ap, ◌∙◌}
use mathlib.Core.List.{List, [], ◌∷◌}
use Prim.Native.Nat.{ℕ, ◌+◌, ◌-◌, ◌≤◌}
use native.Mathlib.Omega.{arith}
use lib.ListN.{get_or, drop}
use lib.Seq.{get_or-drop}
use Rattle.rules.specs.declared.State.{State}
use Rattle.rules.specs.declared.Target.{Target}
use Rattle.rules.specs.Shape.{Every}
use Rattle.estimate.specs.Going.{Waits}
use Rattle.estimate.specs.Splitting.{SplitIn}
use Rattle.estimate.specs.ToCome.{Whole}

pub all_wait : (N : ℕ) (x : Target) (T : List State) (Q hs : List ℕ) → Every (Whole N x T) hs → Every (SplitIn N x T Q) hs → Every (Waits N x T Q) hs
all_wait N x T Q [] h s = tt
all_wait N x T Q (g ∷ hs) h s = ((h.0.0, s.0), all_wait N x T Q hs h.1 s.1)

-- what stands behind the first r words is as it was
pub beyond_as : (r : ℕ) (hs gs : List ℕ) → drop r gs ≡ drop r hs → (i : ℕ) → r ≤ i → get_or gs i 0 ≡ get_or hs i 0
beyond_as r hs gs e i l = ap (λ (j : ℕ). get_or gs j 0) there ∙ sym (get_or-drop r gs (i - r) 0) ∙ ap (λ (ks : List ℕ). get_or ks (i - r) 0) e ∙ get_or-drop r hs (i - r) 0 ∙ ap (λ (j : ℕ). get_or hs j 0) (sym there)
  where
    there : i ≡ r + (i - r)
    there = omega arith
