-- A row that is copied state by state, 65 at most, is asked as the row itself: a row of more is no table, and its first 65 states are
-- none either. What is copied is said once for both kinds of state.
use Rattle.std.specs.Prelude.{Err}
use mathlib.Core.Path.{◌≡◌, refl, sym, ap, ◌∙◌}
use mathlib.Core.Bool.{Bool, true, false, cond, not}
use mathlib.Core.List.{List, [], ◌∷◌, ◌++◌, append-nil, append_assoc}
use Prim.Native.Nat.{ℕ, ◌+◌, ◌/◌, ◌≤◌, ◌<◌}
use native.Mathlib.Numerals.{add-one}
use native.Mathlib.Omega.{arith}
use borrow.Author.Tests.{leb-true, leb-false, ltb-true, ltb-false, lt-ltb, le-ltb}
use lib.Dec.{leb, ltb}
use lib.ListN.{length, set, take, length-replicate}
use lib.Seq.{length-take-le, take_all, take_at, take-suc-set}
use Rattle.rules.specs.declared.BestState.{BestState}
use Rattle.rules.specs.declared.Refusal.{Refusal}
use Rattle.rules.specs.declared.Refusal.TheVariants.{NoCore, Accesses, Row}
use Rattle.rules.specs.declared.State.{State}
use Rattle.rules.specs.Answers.{first, Verdict}
use Rattle.rules.specs.Questions.{is_table, above_answer, budget_answer, spread_answer}
use Rattle.rules.specs.BestQuestions.{is_best_table, miss_spread_answer, hit_spread_answer}
use Rattle.rules.specs.Cycles.{cores, cycle_reasons, above_cycles_answer, cycle_budget_answer}
use Rattle.rules.proofs.Questions.{no_table, above_refused, budget_refused, spread_refused}
use Rattle.rules.proofs.BestQuestions.{no_best_table, miss_spread_refused, hit_spread_refused}
use Rattle.rules.proofs.Cycles.{above_cycles_refused, cycle_budget_refused}
use Rattle.words.proofs.Tables as table-laws
use Rattle.words.proofs.BestTables as best-laws
use Rattle.rows.specs.declared.row.Held.{Held}
use Rattle.rows.specs.Rows.{InWords, states, best_states, states_of, nothing_held, one_more, more_of, copied}

-- what is asked of states in words: five words a state, and one stored at its place
pub record Lies {A : Type 0} (k : InWords A) : Type 0 where
  pub many : (ws : List ℕ) → length (k.table_of ws) ≡ length ws / 5
  pub kept : (ws : List ℕ) (i : ℕ) (s : A) → length (k.stored ws i s) ≡ length ws
  pub at_place : (ws : List ℕ) (i : ℕ) (s : A) → k.table_of (k.stored ws i s) ≡ set (k.table_of ws) i s

states_lie : Lies states
states_lie = record { many = table-laws.length_table_of; kept = table-laws.length_stored; at_place = table-laws.table_stored }

best_states_lie : Lies best_states
best_states_lie = record { many = best-laws.length_table_of; kept = best-laws.length_stored; at_place = best-laws.table_stored }

-- what is held: at most 65 states, in 325 words
pub record Holds (h : Held) : Type 0 where
  pub few : h.states ≤ 65
  pub room : length h.words ≡ 325

-- ---- a copied row

-- one state more: there is no room, or there is
module _ {A : Type 0} (k : InWords A) (h : Held) (s : A) where
  pub no_room : 64 < h.states → h ≡ one_more k h s
  no_room l = rw (lt-ltb 64 h.states l)

  pub more_room : h.states ≤ 64 → record { states = h.states + 1; words = k.stored h.words h.states s } ≡ one_more k h s
  more_room l = rw (le-ltb 64 h.states l)

module _ {A : Type 0} (k : InWords A) (lie : Lies k) where
  module _ (h : Held) (ok : Holds h) where
    held_length : length (states_of k h) ≡ h.states
    held_length = length-take-le h.states (k.table_of h.words) (omega (arith, lie.many h.words, ok.few, ok.room))

    one_more_lem : (s : A) → h.states ≤ 64 → states_of k (record { states = h.states + 1; words = k.stored h.words h.states s }) ≡ states_of k h ++ (s ∷ [])
    one_more_lem s l =
        rw (add-one h.states, lie.at_place h.words h.states s)
        (take-suc-set (k.table_of h.words) h.states s (omega (arith, lie.many h.words, ok.room)))

  more_held : (row : List A) (h : Held) → Holds h → states_of k (more_of (one_more k) h row) ≡ take 65 (states_of k h ++ row)
  more_held [] h ok = sym (take_all 65 (states_of k h ++ []) (rw (append-nil (states_of k h), held_length h ok) ok.few) ∙ append-nil (states_of k h))
  more_held (s ∷ row) h ok = go (ltb 64 h.states) refl (more_held row (one_more k h s))
    where
      go : (b : Bool) → ltb 64 h.states ≡ b
          → (Holds (one_more k h s) → states_of k (more_of (one_more k) (one_more k h s) row) ≡ take 65 (states_of k (one_more k h s) ++ row))
          → states_of k (more_of (one_more k) (one_more k h s) row) ≡ take 65 (states_of k h ++ (s ∷ row))
      go true e ih =
          let full : length (states_of k h) ≡ 65 = omega (arith, held_length h ok, ok.few, ltb-true 64 h.states e) in
          let same : one_more k h s ≡ h = sym (no_room k h s (ltb-true 64 h.states e)) in
          ih (rw same ok) ∙ rw same (take_at (states_of k h) row 65 full ∙ sym (take_at (states_of k h) (s ∷ row) 65 full))
      go false e ih =
          let few : h.states ≤ 64 = ltb-false 64 h.states e in
          let next : one_more k h s ≡ record { states = h.states + 1; words = k.stored h.words h.states s } = sym (more_room k h s few) in
          ih (rw next (record { few = omega arith; room = lie.kept h.words h.states s ∙ ok.room }))
          ∙ rw (next, one_more_lem h ok s few) (ap (take 65) (append_assoc (states_of k h) (s ∷ []) row))

  first_states : (row : List A) → states_of k (copied k row) ≡ take 65 row
  first_states row = more_held row nothing_held (record { few = omega arith; room = length-replicate {A = ℕ} 325 0 })

  -- what is asked of rows in the same way where they are no tables, as no row of more than 64 states is, is asked of a copied row as of the row
  asked_alike : (is_table : List A → Bool) → ((T : List A) → 64 < length T → is_table T ≡ false) → {B : Type 0} (ask : List A → B) (refusal : B)
      → ((T : List A) → is_table T ≡ false → refusal ≡ ask T) → (row : List A) → ask (states_of k (copied k row)) ≡ ask row
  asked_alike is_table none ask refusal refused row = ap ask (first_states row) ∙ go (leb (length row) 65) refl
    where
      go : (b : Bool) → leb (length row) 65 ≡ b → ask (take 65 row) ≡ ask row
      go true h = ap ask (take_all 65 row (leb-true (length row) 65 h))
      go false h =
          let long : 65 < length row = leb-false (length row) 65 h in
          sym (refused (take 65 row) (none (take 65 row) (omega (arith, length-take-le 65 row (omega arith))))) ∙ refused row (none row (omega arith))

-- ---- what is asked of it

alike : {B : Type 0} (ask : List State → B) (refusal : B) → ((T : List State) → is_table T ≡ false → refusal ≡ ask T) → (row : List State)
    → ask (states_of states (copied states row)) ≡ ask row
alike = asked_alike states states_lie is_table no_table

pub above_copied : (row : List State) (B : ℕ) → above_answer (states_of states (copied states row)) B ≡ above_answer row B
above_copied row B = alike (λ T. above_answer T B) _ (λ T h. above_refused T h B) row

pub budget_copied : (row : List State) (u : ℕ) → budget_answer (states_of states (copied states row)) u ≡ budget_answer row u
budget_copied row u = alike (λ T. budget_answer T u) _ (λ T h. budget_refused T h u) row

pub spread_copied : (row : List State) (room : List ℕ) → spread_answer (states_of states (copied states row)) room ≡ spread_answer row room
spread_copied row room = alike (λ T. spread_answer T room) _ (λ T h. spread_refused T h room) row

-- in cycles the core and the longest path may refuse a row before it is looked at
abbrev unread : ℕ → ℕ → Refusal
unread k L = cond (ltb k (length cores)) (cond (ltb 4096 L) Accesses Row) NoCore

cycles_refused : (k L : ℕ) (T : List State) → is_table T ≡ false → first (cycle_reasons k L T) ≡ Err (unread k L)
unfolding cycle_reasons
cycles_refused k L T h = rw h (go (ltb k (length cores)) (ltb 4096 L))
  where
    go : (a b : Bool) → ◌≡◌ {A = Verdict} (cond (not a) (Err NoCore) (cond b (Err Accesses) (Err Row))) (Err (cond a (cond b Accesses Row) NoCore))
    go true true = refl
    go true false = refl
    go false b = refl

pub above_cycles_copied : (row : List State) (k L B : ℕ) → above_cycles_answer (states_of states (copied states row)) k L B ≡ above_cycles_answer row k L B
above_cycles_copied row k L B = alike (λ T. above_cycles_answer T k L B) _ (λ T h. above_cycles_refused T k L _ (cycles_refused k L T h) B) row

pub cycle_budget_copied : (row : List State) (k L u : ℕ) → cycle_budget_answer (states_of states (copied states row)) k L u ≡ cycle_budget_answer row k L u
cycle_budget_copied row k L u = alike (λ T. cycle_budget_answer T k L u) _ (λ T h. cycle_budget_refused T k L _ (cycles_refused k L T h) u) row

-- ---- and of the best case's

best_alike : {B : Type 0} (ask : List BestState → B) (refusal : B) → ((T : List BestState) → is_best_table T ≡ false → refusal ≡ ask T)
    → (row : List BestState) → ask (states_of best_states (copied best_states row)) ≡ ask row
best_alike = asked_alike best_states best_states_lie is_best_table no_best_table

pub miss_spread_copied : (row : List BestState) (room : List ℕ) → miss_spread_answer (states_of best_states (copied best_states row)) room ≡ miss_spread_answer row room
miss_spread_copied row room = best_alike (λ T. miss_spread_answer T room) _ (λ T h. miss_spread_refused T h room) row

pub hit_spread_copied : (row : List BestState) (room : List ℕ) → hit_spread_answer (states_of best_states (copied best_states row)) room ≡ hit_spread_answer row room
hit_spread_copied row room = best_alike (λ T. hit_spread_answer T room) _ (λ T h. hit_spread_refused T h room) row
