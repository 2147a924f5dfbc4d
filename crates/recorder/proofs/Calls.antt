-- What a call leaves, case by case: a reason to refuse applies, a block is damaged, or the work is done; and what a caller knows of it.
use mathlib.Core.Path.{◌≡◌, refl, sym, ap, ◌∙◌}
use mathlib.Core.Logic.{◌≢◌}
use mathlib.Core.Bool.{Bool, true, false, cond}
use mathlib.Core.List.{List, [], ◌∷◌, ◌++◌}
use Prim.Native.Nat.{ℕ, suc, ◌+◌, ◌-◌, ◌*◌, ◌/◌, ◌%◌, ◌≤◌, ◌<◌}
use native.Mathlib.Omega.{arith}
use borrow.Author.Tests.{eq-eqb, ne_eqb, lt-ltb, le-ltb}
use lib.ListN.{length, get_or, take, replicate, length-append}
use Rattle.std.specs.Prelude.{Ok, Err}
use Rattle.rules.specs.declared.Refusal.TheVariants.{Accesses as TooMany, TraceLength, TraceRoom}
use Rattle.rules.specs.Answers.{first, Verdict}
use Rattle.rules.proofs.Refusals.{numbered}
use Rattle.recorder.specs.declared.Reading.TheVariants.{Accesses, Damaged}
use Rattle.trace_blocks.specs.Blocks.{is_sound}
use Rattle.recorder.specs.Traces.{blocks_of, gathered, damage_at, said, damaged_places}
use Rattle.recorder.specs.Written.{blocks_for, trace_of}
use Rattle.recorder.specs.Fronts.{Front}
use Rattle.recorder.specs.Calls.{reading_says, counted_says, trace_reasons, zero_beyond, ReadLeft, read_leaves, trace_read, CountLeft, count_leaves, trace_listed, trace_written}
use Rattle.recorder.proofs.Traces.{length_blocks}
use Rattle.trace_blocks.proofs.Prefixes.{rest_from, with_rest, cleared_rest}
use Rattle.recorder.proofs.Fronts.{front_ends}

-- ---- the first reason to refuse

module _ (each bytes room : ℕ) where
  not_whole : bytes % 512 ≢ 0 → first (trace_reasons each bytes room) ≡ Err TraceLength
  not_whole h = rw (ne_eqb (bytes % 512) 0 h)

  module _ (whole : bytes % 512 ≡ 0) where
    no_room : room < bytes / 512 * each → first (trace_reasons each bytes room) ≡ Err TraceRoom
    no_room h = rw (eq-eqb (bytes % 512) 0 whole, lt-ltb room (bytes / 512 * each) h)

    pub room_enough : bytes / 512 * each ≤ room → first (trace_reasons each bytes room) ≡ Ok tt
    room_enough h = rw (eq-eqb (bytes % 512) 0 whole, le-ltb room (bytes / 512 * each) h)

-- ---- the room beyond becomes zero

-- xs stand at the front of room', and its part from place r on is lent, cleared and given back
module _ (xs room room' ys : List ℕ) (r : ℕ) (same : length room' ≡ length room) (f : Front xs r room') (zeros : ys ≡ replicate (length (rest_from r room')) 0) where
  filled_room : with_rest r room' ys ≡ zero_beyond xs room
  unfolding zero_beyond
  filled_room = cleared_rest room' ys r zeros ∙ rw (f.stands, same, front_ends xs room' r f)

-- ---- reading

module _ (trace room : List ℕ) where
  pub read_not_whole : length trace % 512 ≢ 0 → record { answer = Err TraceLength; room = room } ≡ trace_read trace room
  unfolding trace_read
  read_not_whole h = rw (not_whole 125 (length trace) (length room) h)

  module _ (whole : length trace % 512 ≡ 0) where
    pub read_no_room : length room < length trace / 512 * 125 → record { answer = Err TraceRoom; room = room } ≡ trace_read trace room
    unfolding trace_read
    read_no_room h = rw (no_room 125 (length trace) (length room) whole h)

    module _ (enough : length trace / 512 * 125 ≤ length room) where
      pub read_damaged : (p : ℕ) → p ≡ get_or (damaged_places trace) 0 (length trace / 512) → p < length trace / 512
          → record { answer = Ok (Damaged p); room = room } ≡ trace_read trace room
      unfolding trace_read
      read_damaged p e h = rw (room_enough 125 (length trace) (length room) whole enough) (go (damaged_places trace) e)
        where
          go : (ps : List ℕ) → p ≡ get_or ps 0 (length trace / 512) → record { answer = Ok (Damaged p); room = room } ≡ read_leaves (Ok tt) ps (said trace) room
          go [] q = absurd (omega arith)
          go (x ∷ ps) q = rw q

      pub read_done : damaged_places trace ≡ [] → (r : ℕ) (room' ys : List ℕ) → Front (said trace) r room' → length room' ≡ length room
          → ys ≡ replicate (length (rest_from r room')) 0 → record { answer = Ok (Accesses r); room = with_rest r room' ys } ≡ trace_read trace room
      unfolding trace_read
      read_done none r room' ys f same zeros =
          rw (room_enough 125 (length trace) (length room) whole enough, none, filled_room (said trace) room room' ys r same f zeros)
          (ap (λ (n : ℕ). record { answer = Ok (Accesses n); room = zero_beyond (said trace) room }) (front_ends (said trace) room' r f))

-- no first damaged place, no damaged place
none_from : (n k : ℕ) (bs : List (List ℕ)) → k + length bs ≤ n → n ≤ get_or (gathered damage_at k bs) 0 n → gathered damage_at k bs ≡ []
unfolding gathered
none_from n k [] h l = refl
none_from n k (b ∷ bs) h l = go (is_sound k b) l (none_from n (suc k) bs (omega arith))
  where
    go : (t : Bool) → n ≤ get_or (cond t [] (k ∷ []) ++ gathered damage_at (suc k) bs) 0 n → (n ≤ get_or (gathered damage_at (suc k) bs) 0 n → gathered damage_at (suc k) bs ≡ [])
        → cond t [] (k ∷ []) ++ gathered damage_at (suc k) bs ≡ []
    go true q rest = rest q
    go false q rest = absurd (omega arith)

pub none_damaged : (trace : List ℕ) (p : ℕ) → p ≡ get_or (damaged_places trace) 0 (length trace / 512) → length trace / 512 ≤ p → damaged_places trace ≡ []
unfolding damaged_places
none_damaged trace p e h = none_from (length trace / 512) 0 (blocks_of trace) (omega (arith, length_blocks trace)) (rw e at h)

-- ---- listing

module _ (trace room : List ℕ) where
  pub list_not_whole : length trace % 512 ≢ 0 → record { answer = Err TraceLength; room = room } ≡ trace_listed trace room
  unfolding trace_listed
  list_not_whole h = rw (not_whole 1 (length trace) (length room) h)

  module _ (whole : length trace % 512 ≡ 0) where
    pub list_no_room : length room < length trace / 512 → record { answer = Err TraceRoom; room = room } ≡ trace_listed trace room
    unfolding trace_listed
    list_no_room h = rw (no_room 1 (length trace) (length room) whole (omega arith))

    pub list_done : length trace / 512 ≤ length room → (r : ℕ) (room' ys : List ℕ) → Front (damaged_places trace) r room' → length room' ≡ length room
        → ys ≡ replicate (length (rest_from r room')) 0 → record { answer = Ok r; room = with_rest r room' ys } ≡ trace_listed trace room
    unfolding trace_listed
    list_done h r room' ys f same zeros =
        rw (room_enough 1 (length trace) (length room) whole (omega arith), filled_room (damaged_places trace) room room' ys r same f zeros)
        (ap (λ (n : ℕ). record { answer = Ok n; room = zero_beyond (damaged_places trace) room }) (front_ends (damaged_places trace) room' r f))

-- ---- writing

module _ (xs room : List ℕ) where
  pub write_too_many : 4096 < length xs → record { answer = Err TooMany; room = room } ≡ trace_written xs room
  unfolding trace_written
  write_too_many h = rw (lt-ltb 4096 (length xs) h)

  module _ (few : length xs ≤ 4096) where
    pub write_no_room : length room < blocks_for (length xs) * 512 → record { answer = Err TraceRoom; room = room } ≡ trace_written xs room
    unfolding trace_written
    write_no_room h = rw (le-ltb 4096 (length xs) few, lt-ltb (length room) (blocks_for (length xs) * 512) h)

    pub write_done : blocks_for (length xs) * 512 ≤ length room → (room' ys : List ℕ) → take (blocks_for (length xs) * 512) room' ≡ trace_of xs
        → length room' ≡ length room → ys ≡ replicate (length (rest_from (blocks_for (length xs) * 512) room')) 0
        → record { answer = Ok (blocks_for (length xs)); room = with_rest (blocks_for (length xs) * 512) room' ys } ≡ trace_written xs room
    unfolding trace_written
    write_done h room' ys stands same zeros =
        let n : ℕ = blocks_for (length xs) * 512 in
        rw (
          le-ltb 4096 (length xs) few,
          le-ltb (length room) (blocks_for (length xs) * 512) h,
          filled_room (trace_of xs) room room' ys n same (record { within = omega arith; stands = stands }) zeros,
        )

-- ---- what a caller knows: as many as are answered stand in the room

filled_long : (xs room : List ℕ) → length xs ≤ length (zero_beyond xs room)
unfolding zero_beyond
filled_long xs room = omega (arith, length-append xs (replicate (length room - length xs) 0))

module _ (trace room room' : List ℕ) (n : ℕ) where
  pub read_within : record { answer = Ok (Accesses n); room = room' } ≡ trace_read trace room → n ≤ length room'
  unfolding trace_read
  read_within e = go (first (trace_reasons 125 (length trace) (length room))) (damaged_places trace) (said trace) e
    where
      go : (v : Verdict) (ps xs : List ℕ) → record { answer = Ok (Accesses n); room = room' } ≡ read_leaves v ps xs room → n ≤ length room'
      go (Err r) ps xs q = absurd (numbered r (sym (ap (λ (a : ReadLeft). (reading_says a.answer).number) q)))
      go (Ok tt) (p ∷ ps) xs q = let z : ◌≡◌ {A = ℕ} 0 13 = ap (λ (a : ReadLeft). (reading_says a.answer).number) q in absurd (omega arith)
      go (Ok tt) [] xs q =
          let many : n ≡ length xs = ap (λ (a : ReadLeft). (reading_says a.answer).value) q in
          let long : length room' ≡ length (zero_beyond xs room) = ap (λ (a : ReadLeft). length a.room) q in
          omega (arith, many, long, filled_long xs room)

  pub listed_within : record { answer = Ok n; room = room' } ≡ trace_listed trace room → n ≤ length room'
  unfolding trace_listed
  listed_within e = go (first (trace_reasons 1 (length trace) (length room))) (damaged_places trace) e
    where
      go : (v : Verdict) (ps : List ℕ) → record { answer = Ok n; room = room' } ≡ count_leaves v (length ps) ps room → n ≤ length room'
      go (Err r) ps q = absurd (numbered r (sym (ap (λ (a : CountLeft). (counted_says a.answer).number) q)))
      go (Ok tt) ps q =
          let many : n ≡ length ps = ap (λ (a : CountLeft). (counted_says a.answer).value) q in
          let long : length room' ≡ length (zero_beyond ps room) = ap (λ (a : CountLeft). length a.room) q in
          omega (arith, many, long, filled_long ps room)
