-- The promises of the recorder's blocks, document 02, request 7/13: what the definitions that the three contracts cite say together. Each follows from the
-- file that is named with it.
use mathlib.Core.Path.{◌≡◌, refl}
use mathlib.Core.Logic.{◌≢◌}
use mathlib.Core.Bool.{true, false}
use mathlib.Core.List.{List, [], ◌∷◌}
use Prim.Native.Nat.{ℕ, suc, ◌+◌, ◌-◌, ◌*◌, ◌/◌, ◌%◌, ◌≤◌, ◌<◌, min}
use native.Mathlib.Omega.{arith}
use borrow.Author.Tests.{le-ltb}
use lib.ListN.{length, get_or, set, take, replicate}
use lib.Seq.{take_at}
use Rattle.std.specs.Prelude.{Ok}
use Rattle.rules.specs.Ordered.{by_number, rises}
use Rattle.recorder.specs.declared.Reading.TheVariants.{Accesses, Damaged}
use Rattle.trace_blocks.specs.Blocks.{count_in, is_sound}
use Rattle.recorder.specs.Traces.{blocks_of, said, damaged_places}
use Rattle.recorder.specs.Written.{blocks_for, trace_of}
use Rattle.recorder.specs.Calls.{zero_beyond, read_leaves, count_leaves, trace_read, trace_listed, trace_written}
use Rattle.recorder.proofs.Calls.{room_enough}
use Rattle.recorder.proofs.OneByte.{one_byte}
use Rattle.recorder.proofs.ReadBack as back
use Rattle.recorder.proofs.Places as places

-- ---- reading gives back what was written (ReadBack)

-- a written trace says the accesses that it was written for
pub says_them : (xs : List ℕ) → said (trace_of xs) ≡ xs
says_them xs = back.said_written xs

-- none of its blocks is damaged
pub none_damaged : (xs : List ℕ) → damaged_places (trace_of xs) ≡ []
none_damaged xs = back.none_written xs

-- every block but the last is full: block j has 125 accesses, or those that are left
pub full : (xs : List ℕ) (j : ℕ) → j < blocks_for (length xs) → count_in (get_or (blocks_of (trace_of xs)) j []) ≡ min 125 (length xs - j * 125)
full xs j h = back.count_written xs j h

-- the blocks that a call of `write_trace` leaves in its room, handed to `read_trace`: it answers how many accesses they were, and leaves them in its own room
module _ (xs room out : List ℕ) (few : length xs ≤ 4096)
    (room_fits : blocks_for (length xs) * 512 ≤ length room) (out-fits : blocks_for (length xs) * 125 ≤ length out) where
  blocks_left : take (blocks_for (length xs) * 512) (trace_written xs room).room ≡ trace_of xs
  unfolding trace_written zero_beyond
  blocks_left =
      rw (le-ltb 4096 (length xs) few, le-ltb (length room) (blocks_for (length xs) * 512) room_fits)
      (take_at (trace_of xs) (replicate (length room - length (trace_of xs)) 0) (blocks_for (length xs) * 512) (back.length_written xs))

  pub read_back : trace_read (take (blocks_for (length xs) * 512) (trace_written xs room).room) out ≡ record { answer = Ok (Accesses (length xs)); room = zero_beyond xs out }
  unfolding trace_read
  read_back =
      let size = back.length_written xs in
      rw (blocks_left, room_enough 125 (length (trace_of xs)) (length out) (omega arith) (omega arith), none_damaged xs, says_them xs)

-- ---- any one changed byte is noticed (OneByte, Places)

-- a block that is not damaged is damaged when one of its bytes becomes another byte, whichever it is
pub any_byte : (k : ℕ) (b : List ℕ) → length b ≡ 512 → ((i : ℕ) → get_or b i 0 < 256) → is_sound k b ≡ true
    → (p v : ℕ) → p < 512 → v < 256 → v ≢ get_or b p 0 → is_sound k (set b p v) ≡ false
any_byte k b long bytes sound p v h new other = one_byte k b p v long (bytes p) h new other sound

-- in a trace, whatever its other blocks are: when one byte of block j changes, which was not damaged, block j is damaged, and every other block is as it was
pub its_block : (trace : List ℕ) → ((i : ℕ) → get_or trace i 0 < 256) → (j p v : ℕ) → j < length trace / 512 → p < 512 → v < 256 → v ≢ get_or trace (j * 512 + p) 0
    → is_sound j (get_or (blocks_of trace) j []) ≡ true
    → (is_sound j (get_or (blocks_of (set trace (j * 512 + p) v)) j []) ≡ false)
    × ((i : ℕ) → i ≢ j → get_or (blocks_of (set trace (j * 512 + p) v)) i [] ≡ get_or (blocks_of trace) i [])
its_block trace bytes j p v whole inside new other sound = places.its_block trace j p v whole inside (bytes (j * 512 + p)) new other sound

-- of a trace that has no damaged block: when one byte of block j changes, j is listed and nothing else
pub only_its_block : (trace : List ℕ) → ((i : ℕ) → get_or trace i 0 < 256) → damaged_places trace ≡ []
    → (j p v : ℕ) → j < length trace / 512 → p < 512 → v < 256 → v ≢ get_or trace (j * 512 + p) 0 → damaged_places (set trace (j * 512 + p) v) ≡ j ∷ []
only_its_block trace bytes none j p v whole inside new other = places.only_its_block trace j p v whole inside (bytes (j * 512 + p)) new other none

-- ---- what is listed, and what reading refuses with (Places)

-- the places that are listed rise
pub rise : (trace : List ℕ) → rises by_number (damaged_places trace) ≡ true
rise trace = places.places_rise trace

-- where listing counts a damaged block, reading refuses with the first place that is listed; where it counts none, reading reads
module _ (trace room listed : List ℕ) (whole : length trace % 512 ≡ 0)
    (room_fits : length trace / 512 * 125 ≤ length room) (listed-fits : length trace / 512 ≤ length listed) where
  read_leaves_lem : trace_read trace room ≡ read_leaves (Ok tt) (damaged_places trace) (said trace) room
  unfolding trace_read
  read_leaves_lem = rw (room_enough 125 (length trace) (length room) whole room_fits)

  list_leaves : trace_listed trace listed ≡ count_leaves (Ok tt) (length (damaged_places trace)) (damaged_places trace) listed
  unfolding trace_listed
  list_leaves = rw (room_enough 1 (length trace) (length listed) whole (omega arith))

  pub first_refused : (n : ℕ) → (trace_listed trace listed).answer ≡ Ok (suc n) → (trace_read trace room).answer ≡ Ok (Damaged (get_or (trace_listed trace listed).room 0 0))
  unfolding zero_beyond
  first_refused n h = rw (read_leaves_lem, list_leaves) (go (damaged_places trace) (rw list_leaves at h))
    where
      go : (ps : List ℕ) → (count_leaves (Ok tt) (length ps) ps listed).answer ≡ Ok (suc n)
          → (read_leaves (Ok tt) ps (said trace) room).answer ≡ Ok (Damaged (get_or (count_leaves (Ok tt) (length ps) ps listed).room 0 0))
      go [] e = let z : ◌≡◌ {A = ℕ} 0 (suc n) = cc in absurd (omega arith)
      go (p ∷ ps) e = refl

  pub none_refused : (trace_listed trace listed).answer ≡ Ok 0 → (trace_read trace room).answer ≡ Ok (Accesses (length (said trace)))
  none_refused h = rw read_leaves_lem (go (damaged_places trace) (rw list_leaves at h))
    where
      go : (ps : List ℕ) → (count_leaves (Ok tt) (length ps) ps listed).answer ≡ Ok 0 → (read_leaves (Ok tt) ps (said trace) room).answer ≡ Ok (Accesses (length (said trace)))
      go [] e = refl
      go (p ∷ ps) e = let z : ◌≡◌ {A = ℕ} (suc (length ps)) 0 = cc in absurd (omega arith)
