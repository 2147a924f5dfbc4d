-- What the loops over nodes and slots compute, where unfolding a definition does not say it, and where the slots stand in the list.
use mathlib.Core.Path.{◌≡◌, refl, ◌∙◌}
use mathlib.Core.Bool.{Bool, true}
use mathlib.Core.List.{List, [], ◌∷◌, ◌++◌}
use Prim.Native.Nat.{ℕ, zero, suc, ◌+◌, ◌-◌, ◌≤◌, ◌<◌}
use native.Mathlib.Nat.{le_refl, le_step}
use native.Mathlib.Numerals.{add-one}
use native.Mathlib.Omega.{arith}
use native.Mathlib.Decide.{ℕ_discrete}
use borrow.Author.Tests.{le-leb, lt-leb}
use lib.ListN.{length, get_or, set, drop, replicate, length-append, get_or-append}
use lib.Seq.{get_or_at, set_at, append_snoc, drop-cons}
use Rattle.rules.specs.Input.{Edge}
use Rattle.words.proofs.Handing.{zeros_rest}
use Rattle.tight_slots.specs.Slots.{is_taken, first_free, free_at, slots_of, slot_of, slots_in}

-- ---- the first slot that is free

module _ (taken : ℕ → Bool) (v r : ℕ) where
  pub free_next : (s : ℕ) → first_free (v - s) taken s ≡ r → s < v → taken s ≡ true → first_free (v - (s + 1)) taken (s + 1) ≡ r
  unfolding first_free
  free_next s e l t = let more : v - s ≡ suc (v - (s + 1)) = omega arith in rw (add-one s) (rw t at (rw (more, add-one s) at e))

-- ---- the slots of the nodes

module _ (es : List Edge) where
  pub length_slots : (n : ℕ) → length (slots_of es n) ≡ n
  unfolding slots_of
  length_slots zero = refl
  length_slots (suc v) = length-append (slots_of es v) (slot_of es v ∷ []) ∙ omega (arith, length_slots v)

  -- each stands at its node's place
  pub slot_at : (n v : ℕ) → v < n → get_or (slots_of es n) v 0 ≡ slot_of es v
  unfolding slots_of
  slot_at zero v l = absurd (omega arith)
  slot_at (suc n) v l = go (ℕ_discrete v n) (slot_at n v)
    where
      go : Dec (v ≡ n) → (v < n → get_or (slots_of es n) v 0 ≡ slot_of es v) → get_or (slots_of es (suc n)) v 0 ≡ slot_of es v
      go (yes e) rest = rw e (get_or_at (slots_of es n) (slot_of es n) [] 0 n (length_slots n))
      go (no d) rest = get_or-append (slots_of es n) (slot_of es n ∷ []) 0 v (omega (arith, length_slots n)) ∙ rest (omega arith)

  -- only the slots of the nodes before a node matter for it
  taken_same : (v s : ℕ) (ss ts : List ℕ) (u : ℕ) → ((i : ℕ) → i < u → get_or ss i 0 ≡ get_or ts i 0) → is_taken es v ss u s ≡ is_taken es v ts u s
  unfolding is_taken
  taken_same v s ss ts zero h = refl
  taken_same v s ss ts (suc u) h = rw (h u (le_refl (suc u)), taken_same v s ss ts u (λ i l. h i (le_step l))) refl

  first_same : (a b : ℕ → Bool) → ((s : ℕ) → a s ≡ b s) → (n s : ℕ) → first_free n a s ≡ first_free n b s
  unfolding first_free
  first_same a b h zero s = refl
  first_same a b h (suc n) s = rw (h s, first_same a b h n (suc s)) refl

  pub free_among : (v : ℕ) (ts : List ℕ) → free_at es v (slots_of es v ++ ts) ≡ slot_of es v
  unfolding free_at
  free_among v ts =
      first_same (is_taken es v (slots_of es v ++ ts) v) (is_taken es v (slots_of es v) v)
      (λ s. taken_same v s (slots_of es v ++ ts) (slots_of es v) v (λ i l. get_or-append (slots_of es v) ts 0 i (omega (arith, length_slots v)))) v 0

  -- the first n nodes have their slots, with what was behind them
  abbrev pub Given : ℕ → List ℕ → List ℕ → Type 0
  Given n before now = now ≡ slots_of es n ++ drop n before

  pub none_given : (before : List ℕ) → Given 0 before before
  unfolding slots_of
  none_given before = refl

  pub one_given : (v s : ℕ) (before now : List ℕ) → v < length before → Given v before now → s ≡ free_at es v now → Given (v + 1) before (set now v s)
  unfolding slots_of
  one_given v s before now l e q =
      rw (add-one v, q, e, free_among v (drop v before), drop-cons before v 0 l, append_snoc (slots_of es v) (slot_of es v) (drop (suc v) before))
      (set_at (slots_of es v) (get_or before v 0) (drop (suc v) before) (slot_of es v) v (length_slots v))

  -- ---- in 64 numbers

  pub too_many : (n : ℕ) → 64 < n → replicate {A = ℕ} 64 0 ≡ slots_in es n
  unfolding slots_in
  too_many n l = rw (lt-leb n 64 l) refl

  pub all_given : (n : ℕ) (now : List ℕ) → n ≤ 64 → Given n (replicate 64 0) now → now ≡ slots_in es n
  unfolding slots_in
  all_given n now l e = e ∙ rw (le-leb n 64 l, zeros_rest 64 n l) refl
