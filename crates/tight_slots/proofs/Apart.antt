-- The slots suffice, and no table is written over while it is needed. No more slots are taken at a node than tables are kept there, so that one of the first slots is free: the
-- slots of all nodes lie below the most tables that are kept and one more. The other two of `tables_needed` are for work alone. Nothing in the functions' proofs uses this: it is
-- for the callers.
use mathlib.Core.Path.{◌≡◌, refl, sym, ◌∙◌}
use mathlib.Core.Logic.{◌≢◌}
use mathlib.Core.Bool.{Bool, true, false, cond, ◌||◌, ◌&&◌}
use mathlib.Core.List.{List, [], ◌∷◌}
use Prim.Native.Nat.{ℕ, zero, suc, ◌+◌, ◌-◌, ◌≤◌, ◌<◌, max}
use native.Mathlib.Nat.{le_refl, le_step, le_trans}
use native.Mathlib.Omega.{arith}
use native.Mathlib.Decide.{ℕ_discrete}
use borrow.Author.Tests.{eq-eqb, ne_eqb, le-leb, leb-true}
use lib.Dec.{eqb, leb}
use lib.ListN.{get_or, replicate, get_or-append}
use Rattle.basics.proofs.Sums.{sum_on, on_eq, on_none, on_most}
use Rattle.rules.specs.Input.{Edge}
use Rattle.tight_rules.specs.Rooms.{passes, kept_below, most_kept}
use Rattle.tight_slots.specs.Slots.{is_taken, first_free, free_at, slots_of, slot_of, slots_in}
use Rattle.tight_slots.proofs.Kept.{kept_few}
use Rattle.tight_slots.proofs.Found.{length_slots, slot_at}

-- ---- how many slots are taken

-- of the first n slots
abbrev taken_to : ℕ → (ℕ → Bool) → ℕ
taken_to n taken = sum_on n taken (λ s. 1)

module _ (es : List Edge) (v : ℕ) (ss : List ℕ) where
  -- node u's table is in one slot, if it is needed
  one_more_lem : (u n : ℕ) → taken_to n (is_taken es v ss (suc u)) ≤ cond (passes es u v) 1 0 + taken_to n (is_taken es v ss u)
  unfolding is_taken
  one_more_lem u n = go (passes es u v) refl
    where
      none : (b c : Bool) → (b && false || c) ≡ c
      none true c = refl
      none false c = refl

      go : (b : Bool) → passes es u v ≡ b → taken_to n (is_taken es v ss (suc u)) ≤ cond b 1 0 + taken_to n (is_taken es v ss u)
      go true p = omega (arith, on_most n (is_taken es v ss u) (is_taken es v ss (suc u)) (λ s. 1) (get_or ss u 0) (λ s h. rw (ne_eqb (get_or ss u 0) s (λ e. h (sym e)))))
      go false p = omega (arith, on_eq n (is_taken es v ss (suc u)) (is_taken es v ss u) (λ s. 1) (λ s h. rw p (none (eqb (get_or ss u 0) s) (is_taken es v ss u s))))

  -- no more than tables are kept
  taken_few : (u n : ℕ) → taken_to n (is_taken es v ss u) ≤ kept_below es v u
  unfolding kept_below is_taken
  taken_few zero n = omega (arith, on_none n (λ s. false) (λ s. 1) (λ s h. refl))
  taken_few (suc u) n = omega (arith, one_more_lem u n, taken_few u n)

-- ---- the first that is free

all_taken : (n : ℕ) (taken : ℕ → Bool) → ((i : ℕ) → i < n → taken i ≡ true) → taken_to n taken ≡ n
all_taken zero taken h = refl
all_taken (suc n) taken h = rw (h n (le_refl (suc n))) (omega (arith, all_taken n taken (λ i l. h i (le_step l))))

one_taken : (n : ℕ) (taken : ℕ → Bool) → ((i : ℕ) → i < n → taken i ≡ true) → taken n ≡ true → (i : ℕ) → i < suc n → taken i ≡ true
one_taken n taken h e i l = go (ℕ_discrete i n)
  where
    go : Dec (i ≡ n) → taken i ≡ true
    go (yes p) = rw p e
    go (no p) = h i (omega arith)

-- where no more than k slots are taken: it is one of the first k + 1, and free
module _ (taken : ℕ → Bool) (k : ℕ) (few : (n : ℕ) → taken_to n taken ≤ k) where
  abbrev Free : ℕ → Type 0
  Free s = (s ≤ k) × (taken s ≡ false)

  free_found : (f s : ℕ) → ((i : ℕ) → i < s → taken i ≡ true) → k ≤ f + s → Free (first_free f taken s)
  unfolding first_free
  free_found zero s h l = go (taken s) refl
    where
      go : (b : Bool) → taken s ≡ b → Free s
      go true e = absurd (omega (arith, few (suc s), all_taken (suc s) taken (one_taken s taken h e)))
      go false e = (omega (arith, few s, all_taken s taken h), e)
  free_found (suc f) s h l = go (taken s) refl (free_found f (suc s))
    where
      go : (b : Bool) → taken s ≡ b → (((i : ℕ) → i < suc s → taken i ≡ true) → k ≤ f + suc s → Free (first_free f taken (suc s))) → Free (cond b (first_free f taken (suc s)) s)
      go true e rest = rest (one_taken s taken h e) (omega arith)
      go false e rest = (omega (arith, few s, all_taken s taken h), e)

-- ---- the slots of the nodes

or_true : (b : Bool) → (b || true) ≡ true
or_true true = refl
or_true false = refl

-- an edge to node v or beyond it leads to each node before that or beyond it
passes_before : (es : List Edge) (u v w : ℕ) → w ≤ v → passes es u v ≡ true → passes es u w ≡ true
unfolding passes
passes_before [] u v w l p = p
passes_before (e ∷ es) u v w l p = go (eqb e.from u) (leb v e.to) refl p (passes_before es u v w l)
  where
    go : (a b : Bool) → leb v e.to ≡ b → (a && b || passes es u v) ≡ true → (passes es u v ≡ true → passes es u w ≡ true) → (a && leb w e.to || passes es u w) ≡ true
    go true true q h rest = rw (le-leb w e.to (le_trans l (leb-true v e.to q))) refl
    go true false q h rest = rw (rest h) (or_true (leb w e.to))
    go false b q h rest = rest h

module _ (es : List Edge) where
  free_slot : (v : ℕ) → (slot_of es v ≤ kept_below es v v) × (is_taken es v (slots_of es v) v (slot_of es v) ≡ false)
  unfolding free_at
  free_slot v =
      free_found (is_taken es v (slots_of es v) v) (kept_below es v v) (taken_few es v (slots_of es v) v) v 0 (λ i l. absurd (omega arith)) (omega (arith, kept_few es v v))

  -- a table that is needed takes its slot
  takes : (v u n : ℕ) → u < n → n ≤ v → passes es u v ≡ true → is_taken es v (slots_of es v) n (slot_of es u) ≡ true
  unfolding is_taken
  takes v u zero l m p = absurd (omega arith)
  takes v u (suc n) l m p = go (ℕ_discrete u n) (takes v u n)
    where
      go : Dec (u ≡ n) → (u < n → n ≤ v → passes es u v ≡ true → is_taken es v (slots_of es v) n (slot_of es u) ≡ true) → is_taken es v (slots_of es v) (suc n) (slot_of es u) ≡ true
      go (yes e) rest = rw (← e, slot_at es v u (omega arith), p, eq-eqb (slot_of es u) (slot_of es u) refl) refl
      go (no d) rest = rw (rest (omega arith) (omega arith) p) (or_true (eqb (get_or (slots_of es v) n 0) (slot_of es u) && passes es n v))

  -- the table of node u, which node v or one beyond it needs, is in the slot of no node from there up to node v
  pub slots_apart : (u w v : ℕ) → u < w → w ≤ v → passes es u v ≡ true → slot_of es u ≢ slot_of es w
  slots_apart u w v l m p e = differ (rw e at (takes w u w l (le_refl w) (passes_before es u v w m p))) (free_slot w).1
    where
      differ : {b : Bool} → b ≡ true → b ≡ false → ⊥
      differ p q = let z : ◌≡◌ {A = ℕ} 0 1 = cc in absurd (omega arith)

  -- no slot lies beyond the most tables that are kept
  pub slot_few : (n v : ℕ) → v < n → slot_of es v ≤ most_kept es n
  unfolding most_kept
  slot_few zero v l = absurd (omega arith)
  slot_few (suc n) v l = go (ℕ_discrete v n) (slot_few n v)
    where
      go : Dec (v ≡ n) → (v < n → slot_of es v ≤ most_kept es n) → slot_of es v ≤ max (kept_below es n n) (most_kept es n)
      go (yes e) rest = rw e (omega (arith, (free_slot n).0))
      go (no d) rest = omega (arith, rest (omega arith))

  -- the 64 numbers have the slot of each node
  pub slot_given : (n v : ℕ) → v < n → n ≤ 64 → get_or (slots_in es n) v 0 ≡ slot_of es v
  unfolding slots_in
  slot_given n v l m = rw (le-leb n 64 m) (get_or-append (slots_of es n) (replicate (64 - n) 0) 0 v (omega (arith, length_slots es n)) ∙ slot_at es n v l)
