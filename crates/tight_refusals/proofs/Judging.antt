-- The verdict is made of document 01's, and of the rooms: its call has the same reasons before the rooms, where it is handed a limit that it refuses just where the two limits are refused.
use Rattle.std.specs.Prelude.{Err, Ok}
use mathlib.Core.Path.{◌≡◌, refl, sym, ap, ◌∙◌}
use mathlib.Core.Bool.{Bool, true, false, cond, ◌||◌}
use mathlib.Core.List.{List, [], ◌∷◌, ◌++◌}
use Prim.Native.Nat.{ℕ, ◌+◌, ◌≤◌, ◌<◌}
use native.Mathlib.Omega.{arith}
use borrow.Author.Tests.{lt-ltb, le-ltb}
use lib.ListN.{length}
use Rattle.basics.proofs.Bools.{not_left, not_right}
use Rattle.rules.specs.declared.Cache.{Cache}
use Rattle.rules.specs.declared.Refusal.{Refusal}
use Rattle.rules.specs.declared.Refusal.TheVariants.{Limit, Room}
use Rattle.rules.specs.Answers.{Reason, when, first, verdict_says}
use Rattle.rules.specs.Input.{input_in}
use Rattle.rules.specs.Refusals as Rules
use Rattle.rules.specs.Refusals.{outside}
use Rattle.rules.proofs.Refusals.{Checked, none_applies, within, facts}
use Rattle.tight_rules.specs.Asked.{Asked, asked_in, graph_of}
use Rattle.tight_rules.specs.Rooms.{room_needed}
use Rattle.tight_rules.specs.Refusals.{rooms_reason, before_rooms, reasons, verdict, room_answer}

-- the limits that are out of range
abbrev pub bad_limits : ℕ → ℕ → Bool
bad_limits K W = outside 1 4096 K || outside 2 4098 W

pub judged : (c : Cache) (K W : ℕ) (ts ns bs es : List ℕ) (limit : ℕ) → limit ≡ cond (bad_limits K W) 0 1
    → Rules.verdict (input_in c limit ts ns bs es 1 5184) ≡ first (before_rooms (asked_in c K W ts ns bs es 0 0))
unfolding Rules.verdict Rules.reasons before_rooms
judged c K W ts ns bs es limit e = rw e (go (bad_limits K W))
  where
    go : (b : Bool) → first (Rules.reasons (input_in c (cond b 0 1) ts ns bs es 1 5184)) ≡
        (let i = input_in c 1 ts ns bs es 1 5184 in
        first (Rules.ways_reason i ∷ Rules.sets_reason i ∷ Rules.revision_reason i ∷ when b Limit ∷ Rules.tracked_reason i ∷ Rules.accesses_reason i ∷ Rules.graph_reason i ∷ []))
    go true = refl
    go false = refl

-- ---- the rooms come last

-- where none of the reasons rs applies, the first of those behind them
first_behind : (rs qs : List Reason) → Ok tt ≡ first rs → first (rs ++ qs) ≡ first qs
first_behind [] qs h = refl
first_behind (r ∷ rs) qs h = go r.applies h (first_behind rs qs)
  where
    go : (b : Bool) → Ok tt ≡ cond b (Err r.gives) (first rs) → (Ok tt ≡ first rs → first (rs ++ qs) ≡ first qs)
        → cond b (Err r.gives) (first (rs ++ qs)) ≡ first qs
    go true h rest = absurd (let z : ◌≡◌ {A = ℕ} 0 1 = cc in omega arith)
    go false h rest = rest h

-- and where one does, those behind them do not matter
first_before : (rs qs : List Reason) (x : Refusal) → Err x ≡ first rs → first (rs ++ qs) ≡ Err x
first_before [] qs x h = absurd (let z : ◌≡◌ {A = ℕ} 0 1 = cc in omega arith)
first_before (r ∷ rs) qs x h = go r.applies h (first_before rs qs x)
  where
    go : (b : Bool) → Err x ≡ cond b (Err r.gives) (first rs) → (Err x ≡ first rs → first (rs ++ qs) ≡ Err x)
        → cond b (Err r.gives) (first (rs ++ qs)) ≡ Err x
    go true h rest = sym h
    go false h rest = rest h

module _ (a : Asked) where
  pub refused_before : (x : Refusal) → Err x ≡ first (before_rooms a) → Err x ≡ verdict a
  unfolding verdict reasons
  refused_before x h = sym (first_before (before_rooms a) (rooms_reason a ∷ []) x h)

  -- what is then known
  pub record Few : Type 0 where
    pub graph : Checked (graph_of a)
    pub contents : a.contents ≤ 4096
    pub cells : a.cells ≤ 4098

  module _ (h : Ok tt ≡ first (before_rooms a)) where
    pub few : Few
    unfolding before_rooms Rules.reasons
    few =
        let (w, (n, (v, (k, (t, (b, (g, _))))))) = none_applies (before_rooms a) (ap verdict_says (sym h)) in
        record {
          graph = facts (graph_of a) (w, (n, (v, (refl, (t, (b, (g, (refl, tt))))))));
          contents = (within 1 4096 a.contents (not_left (outside 1 4096 a.contents) (outside 2 4098 a.cells) k)).1;
          cells = (within 2 4098 a.cells (not_right (outside 1 4096 a.contents) (outside 2 4098 a.cells) k)).1;
        }

    -- the result room is too short
    pub short_result : a.result_room ≤ length a.accesses → Err Room ≡ verdict a
    unfolding verdict reasons
    short_result l = sym (first_behind (before_rooms a) (rooms_reason a ∷ []) h ∙ rw (lt-ltb a.result_room (length a.accesses + 1) (omega arith)) refl)

    module _ (long : length a.accesses < a.result_room) (n : ℕ) (e : n ≡ room_needed a) where
      -- the working room is
      pub short_working : a.working_room < n → Err Room ≡ verdict a
      unfolding verdict reasons
      short_working l =
          sym (first_behind (before_rooms a) (rooms_reason a ∷ []) h
          ∙ rw (le-ltb a.result_room (length a.accesses + 1) (omega arith), ← e, lt-ltb a.working_room n l) refl)

      -- neither is
      pub long_enough_lem : n ≤ a.working_room → Ok tt ≡ verdict a
      unfolding verdict reasons
      long_enough_lem l =
          sym (first_behind (before_rooms a) (rooms_reason a ∷ []) h
          ∙ rw (le-ltb a.result_room (length a.accesses + 1) (omega arith), ← e, le-ltb a.working_room n l) refl)

    -- how much is needed
    pub needed : (n : ℕ) → n ≡ room_needed a → n ≡ room_answer a
    unfolding room_answer
    needed n e = rw (← h) e

  pub none_needed : (x : Refusal) → Err x ≡ first (before_rooms a) → 0 ≡ room_answer a
  unfolding room_answer
  none_needed x h = rw (← h)
