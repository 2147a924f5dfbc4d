-- What the count of graphs says, and the verdict on a list: 20 where it is not used up exactly or there are too few rows, then 6, and what is known where it is accepted.
use Rattle.std.specs.Prelude.{Err, Ok}
use mathlib.Core.Path.{◌≡◌, refl, sym, ap, ap₂, ◌∙◌}
use mathlib.Core.Bool.{Bool, true, false, cond, ◌||◌, not}
use mathlib.Core.List.{List}
use Prim.Native.Nat.{ℕ, ◌*◌, ◌/◌, ◌≤◌, ◌<◌}
use native.Mathlib.Omega.{arith}
use borrow.Author.Tests.{ltb-false, lt-ltb, le-ltb}
use lib.Dec.{ltb}
use lib.ListN.{length}
use Rattle.rules.specs.declared.Refusal.TheVariants.{Nightly, Room}
use Rattle.rules.specs.Answers.{first, verdict_says, Verdict}
use Rattle.night_rows.specs.Graphs.{exactly, graphs_in, count_of}
use Rattle.night_rows.specs.Reasons.{build_reasons}
use Rattle.night_rows.proofs.Cutting.{cut_few}

-- ---- what the count says

pub counted_graphs : (ns : List ℕ) → exactly ns ≡ true → count_of ns ≡ length (graphs_in ns)
unfolding count_of
counted_graphs ns e = ap (λ (b : Bool). cond b (length (graphs_in ns)) 257) e

module _ (ns : List ℕ) (count : ℕ) (is : count ≡ count_of ns) where
  pub not_exact : 256 < count → exactly ns ≡ false
  unfolding count_of
  not_exact h = go (exactly ns) refl
    where
      go : (b : Bool) → exactly ns ≡ b → exactly ns ≡ false
      go true e = absurd (omega (arith, h, is ∙ ap (λ (b : Bool). cond b (length (graphs_in ns)) 257) e, cut_few 256 ns))
      go false e = e

  module _ (few : count ≤ 256) where
    pub is_exact : exactly ns ≡ true
    unfolding count_of
    is_exact = go (exactly ns) refl
      where
        go : (b : Bool) → exactly ns ≡ b → exactly ns ≡ true
        go true e = e
        go false e = absurd (omega (arith, few, is ∙ ap (λ (b : Bool). cond b (length (graphs_in ns)) 257) e))

    pub count_is : count ≡ length (graphs_in ns)
    count_is = is ∙ counted_graphs ns is_exact

-- ---- the verdict

module _ (ns : List ℕ) (rows work : ℕ) where
  -- by what the three tests say
  abbrev reached : Bool → Bool → Bool → Verdict
  reached e r w = cond (not e || r) (Err Nightly) (cond w (Err Room) (Ok tt))

  pub list_refused : exactly ns ≡ false → Err Nightly ≡ first (build_reasons ns rows work)
  list_refused e = sym (ap (λ (b : Bool). reached b (ltb (rows / 5) (length (graphs_in ns))) (ltb (work / 5) 5248)) e)

  module _ (exact : exactly ns ≡ true) where
    pub rows_refused : rows / 5 < length (graphs_in ns) → Err Nightly ≡ first (build_reasons ns rows work)
    rows_refused h = sym (ap₂ (λ (b c : Bool). reached b c (ltb (work / 5) 5248)) exact (lt-ltb (rows / 5) (length (graphs_in ns)) h))

    module _ (enough : length (graphs_in ns) ≤ rows / 5) where
      pub room_refused : work / 5 < 5248 → Err Room ≡ first (build_reasons ns rows work)
      room_refused h = sym (λ i. reached (exact i) (le-ltb (rows / 5) (length (graphs_in ns)) enough i) (lt-ltb (work / 5) 5248 h i))

      pub list_accepted : 5248 ≤ work / 5 → Ok tt ≡ first (build_reasons ns rows work)
      list_accepted h = sym (λ i. reached (exact i) (le-ltb (rows / 5) (length (graphs_in ns)) enough i) (le-ltb (work / 5) 5248 h i))

  -- what an accepted list and its rooms are
  pub accepted_is : Ok tt ≡ first (build_reasons ns rows work) → (exactly ns ≡ true) × (length (graphs_in ns) * 5 ≤ rows) × (25920 ≤ work)
  accepted_is = go (exactly ns) (ltb (rows / 5) (length (graphs_in ns))) (ltb (work / 5) 5248) refl refl refl
    where
      go : (e r w : Bool) → exactly ns ≡ e → ltb (rows / 5) (length (graphs_in ns)) ≡ r → ltb (work / 5) 5248 ≡ w → Ok tt ≡ reached e r w
          → (exactly ns ≡ true) × (length (graphs_in ns) * 5 ≤ rows) × (25920 ≤ work)
      go false r w p q s a = let z : ◌≡◌ {A = ℕ} 0 20 = ap verdict_says a in absurd (omega (arith, z))
      go true true w p q s a = let z : ◌≡◌ {A = ℕ} 0 20 = ap verdict_says a in absurd (omega (arith, z))
      go true false true p q s a = let z : ◌≡◌ {A = ℕ} 0 6 = ap verdict_says a in absurd (omega (arith, z))
      go true false false p q s a =
          (p, omega (arith, ltb-false (rows / 5) (length (graphs_in ns)) q), omega (arith, ltb-false (work / 5) 5248 s))
