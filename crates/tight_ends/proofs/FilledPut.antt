-- Filled numbers that are written cell by cell. The stage is none of the places written, so that each cell's numbers are those of the stage before.
use mathlib.Core.Path.{◌≡◌, refl, ap, ap₂, ◌∙◌}
use mathlib.Core.Logic.{◌⊎◌, inl, inr, ⊎_elim, ◌≢◌}
use mathlib.Core.Bool.{Bool, cond, not}
use mathlib.Core.List.{List}
use Prim.Native.Nat.{ℕ, zero, suc, ◌+◌, ◌-◌, ◌*◌, ◌≤◌, ◌<◌}
use native.Mathlib.Nat.{mul-le-mul_left}
use native.Mathlib.Omega.{arith}
use native.Mathlib.Decide.{ℕ_discrete}
use lib.Dec.{eqb}
use lib.ListN.{length, set, length-set}
use lib.Seq.{get_or-set_same, get_or-set_other}
use Rattle.basics.proofs.Sums.{sum_to, sum_eq}
use Rattle.rules.specs.declared.Filled.{Filled}
use Rattle.rules.specs.Filling.{fullest, same_filled}
use Rattle.tight_rows.specs.Room.{words_of}
use Rattle.tight_ends.specs.Stage.{Groups, groups_of, stage_at}
use Rattle.tight_ends.specs.Settling.{both, in_use, filled_in, filled_to, settled_filled, unlike, unlike_to, filled_put}
use Rattle.tight_ends.specs.Ending.{FilledPlaces, FilledAll}

-- ---- the same groups give the same numbers

-- two stages have the same groups at cell j
record Alike (h h' : Groups) (j : ℕ) : Type 0 where
  hit_units : h.hit_units j ≡ h'.hit_units j
  missed_units : h.missed_units j ≡ h'.missed_units j
  hit : h.hit j ≡ h'.hit j
  missed : h.missed j ≡ h'.missed j

in_alike : (h h' : Groups) (j : ℕ) → Alike h h' j → filled_in h j ≡ filled_in h' j
unfolding filled_in
in_alike h h' j s = ap₂ fullest (ap₂ in_use s.hit_units s.hit) (ap₂ in_use s.missed_units s.missed)

to_alike : (h h' : Groups) (n : ℕ) → ((j : ℕ) → j < n → Alike h h' j) → filled_to h n ≡ filled_to h' n
unfolding filled_to
to_alike h h' zero s = refl
to_alike h h' (suc n) s = ap₂ fullest (to_alike h h' n (λ j l. s j (omega arith))) (in_alike h h' n (s n (omega arith)))

settled_alike : (h h' : Groups) (bot i : ℕ) → ((j : ℕ) → j ≤ bot + i → Alike h h' j) → settled_filled h bot i ≡ settled_filled h' bot i
unfolding settled_filled
settled_alike h h' bot i s = ap₂ (cond (eqb i 0)) (to_alike h h' (suc bot) (λ j l. s j (omega arith))) (in_alike h h' (bot + i) (s (bot + i) (omega arith)))

unlike_alike : (h h' : Groups) (j : ℕ) (F F' : Filled) → Alike h h' j → F ≡ F' → unlike h j F ≡ unlike h' j F'
unfolding unlike
unlike_alike h h' j F F' s e = ap₂ ◌+◌ (part (h.hit j) (h'.hit j) s.hit s.hit_units) (part (h.missed j) (h'.missed j) s.missed s.missed_units)
  where
    part : (G G' : Filled) {u v : ℕ} → G ≡ G' → u ≡ v → cond (not (same_filled G F)) u 0 ≡ cond (not (same_filled G' F')) v 0
    part G G' p q = ap₂ (λ (b : Bool) (u : ℕ). cond b u 0) (ap not (ap₂ same_filled p e)) q

-- ---- the same words are the same groups

-- the words of the stage at place e are the same
abbrev pub SameStage : ℕ → ℕ → List ℕ → List ℕ → Type 0
SameStage W e ys xs = (p : ℕ) → e ≤ p → p < e + 6 * suc W → words_of ys p ≡ words_of xs p

module _ (W e : ℕ) (ys xs : List ℕ) (same : SameStage W e ys xs) where
  word_same : (r j : ℕ) → r ≤ 5 → j ≤ W → words_of ys (stage_at W e r j) ≡ words_of xs (stage_at W e r j)
  word_same r j a b = same (stage_at W e r j) (omega arith) (omega (arith, mul-le-mul_left (suc W) a))

  groups_same : (j : ℕ) → j ≤ W → Alike (groups_of W e (words_of ys)) (groups_of W e (words_of xs)) j
  groups_same j m =
      record {
        hit_units = word_same 0 j (omega arith) m;
        missed_units = word_same 1 j (omega arith) m;
        hit = ap₂ (λ (a b : ℕ). record { front = a; back = b }) (word_same 2 j (omega arith) m) (word_same 3 j (omega arith) m);
        missed = ap₂ (λ (a b : ℕ). record { front = a; back = b }) (word_same 4 j (omega arith) m) (word_same 5 j (omega arith) m);
      }

  pub settled_same : (bot i : ℕ) → bot + i ≤ W → settled_filled (groups_of W e (words_of ys)) bot i ≡ settled_filled (groups_of W e (words_of xs)) bot i
  settled_same bot i l = settled_alike (groups_of W e (words_of ys)) (groups_of W e (words_of xs)) bot i (λ j m. groups_same j (omega arith))

  pub both_same : (n : ℕ) → n ≤ W → sum_to n (both (groups_of W e (words_of ys))) ≡ sum_to n (both (groups_of W e (words_of xs)))
  both_same n l = sum_eq n _ _ (λ j m. ap₂ ◌+◌ (groups_same j (omega arith)).hit_units (groups_same j (omega arith)).missed_units)

  pub unlike_to_same : (bot n : ℕ) → bot < n → n ≤ W → unlike_to (groups_of W e (words_of ys)) bot n ≡ unlike_to (groups_of W e (words_of xs)) bot n
  unfolding unlike_to
  unlike_to_same bot n b l =
      sum_eq n _ _ (λ j m. unlike_alike (groups_of W e (words_of ys)) (groups_of W e (words_of xs)) j _ _ (groups_same j (omega arith)) (settled_same bot (j - bot) (omega arith)))

-- ---- cell by cell

module _ (W e bot fronts backs wide : ℕ) (xs : List ℕ) (ok : FilledPlaces W e bot fronts backs wide xs) where
  module _ (n : ℕ) (ys : List ℕ) (l : n < wide) (so : FilledAll W e bot fronts backs n xs ys) where
    -- the stage is as it was
    stage_same : SameStage W e ys xs
    stage_same p a b =
        so.beside p (omega (arith, ok.inside)) (⊎_elim (λ h. inr (omega arith)) (λ h. inl (omega arith)) ok.front) (⊎_elim (λ h. inr (omega arith)) (λ h. inl (omega arith)) ok.back)

    same_filled_lem : settled_filled (groups_of W e (words_of ys)) bot n ≡ settled_filled (groups_of W e (words_of xs)) bot n
    same_filled_lem = settled_same W e ys xs stage_same bot n (omega (arith, ok.within))

    other : (p : ℕ) → p ≢ fronts + n → p ≢ backs + n → words_of (filled_put fronts backs n (settled_filled (groups_of W e (words_of ys)) bot n) ys) p ≡ words_of ys p
    other p a b =
        get_or-set_other (set ys (fronts + n) (settled_filled (groups_of W e (words_of ys)) bot n).front) (backs + n) p (settled_filled (groups_of W e (words_of ys)) bot n).back 0 b
        ∙ get_or-set_other ys (fronts + n) p (settled_filled (groups_of W e (words_of ys)) bot n).front 0 a

    pub all_next : (zs : List ℕ) → zs ≡ filled_put fronts backs n (settled_filled (groups_of W e (words_of ys)) bot n) ys → FilledAll W e bot fronts backs (n + 1) xs zs
    all_next zs q =
        record {
          long = ap length q ∙ length-set (set ys (fronts + n) G.front) (backs + n) G.back ∙ length-set ys (fronts + n) G.front ∙ so.long;
          front = λ i m. ap (λ (vs : List ℕ). words_of vs (fronts + i)) q ∙ fronts_at i m (ℕ_discrete i n);
          back = λ i m. ap (λ (vs : List ℕ). words_of vs (backs + i)) q ∙ backs_at i m (ℕ_discrete i n);
          beside = λ p m a b. ap (λ (vs : List ℕ). words_of vs p) q ∙ other p (λ s. outside_front s a) (λ s. outside_back s b)
              ∙ so.beside p m (⊎_elim (λ h. inl h) (λ h. inr (omega arith)) a) (⊎_elim (λ h. inl h) (λ h. inr (omega arith)) b);
        }
      where
        G : Filled
        G = settled_filled (groups_of W e (words_of ys)) bot n

        outside_front : {p : ℕ} → p ≡ fronts + n → (p < fronts) ⊎ (fronts + (n + 1) ≤ p) → ⊥
        outside_front s (inl h) = absurd (omega arith)
        outside_front s (inr h) = absurd (omega arith)

        outside_back : {p : ℕ} → p ≡ backs + n → (p < backs) ⊎ (backs + (n + 1) ≤ p) → ⊥
        outside_back s (inl h) = absurd (omega arith)
        outside_back s (inr h) = absurd (omega arith)

        fronts_at : (i : ℕ) → i < n + 1 → Dec (i ≡ n)
            → words_of (filled_put fronts backs n (settled_filled (groups_of W e (words_of ys)) bot n) ys) (fronts + i) ≡ (settled_filled (groups_of W e (words_of xs)) bot i).front
        fronts_at i m (yes s) =
            rw s
            (get_or-set_other (set ys (fronts + n) G.front) (backs + n) (fronts + n) G.back 0 (λ p. absurd (omega (arith, ok.order)))
            ∙ get_or-set_same ys (fronts + n) G.front 0 (omega (arith, so.long, ok.order, ok.end))
            ∙ ap (λ (H : Filled). H.front) same_filled_lem)
        fronts_at i m (no s) = other (fronts + i) (λ p. s (omega arith)) (λ p. absurd (omega (arith, ok.order))) ∙ so.front i (omega (arith, s))

        backs_at : (i : ℕ) → i < n + 1 → Dec (i ≡ n)
            → words_of (filled_put fronts backs n (settled_filled (groups_of W e (words_of ys)) bot n) ys) (backs + i) ≡ (settled_filled (groups_of W e (words_of xs)) bot i).back
        backs_at i m (yes s) =
            rw s
            (get_or-set_same (set ys (fronts + n) G.front) (backs + n) G.back 0 (rw (length-set ys (fronts + n) G.front) (omega (arith, so.long, ok.end)))
            ∙ ap (λ (H : Filled). H.back) same_filled_lem)
        backs_at i m (no s) = other (backs + i) (λ p. absurd (omega (arith, ok.order))) (λ p. s (omega arith)) ∙ so.back i (omega (arith, s))
