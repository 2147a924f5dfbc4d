-- What is said of a trace follows what is answered, and fits into the bytes that are surely enough; so it is whole, at the front of the output.
use mathlib.Core.Path.{◌≡◌, sym, ap, ◌∙◌}
use mathlib.Core.Bool.{true, false}
use mathlib.Core.List.{List, ◌++◌}
use Prim.Native.Nat.{ℕ, ◌-◌, ◌/◌, ◌≤◌, ◌<◌}
use native.Mathlib.Omega.{arith}
use borrow.Author.Tests.{leb-true, le-leb, lt-leb}
use lib.Dec.{leb}
use lib.ListN.{length, take, length-append, length-take}
use Rattle.std.specs.Prelude.{Result, Ok, Err, Some, None}
use Rattle.basics.proofs.Bools.{same_test}
use Rattle.rules.specs.declared.Refusal.{Refusal}
use Rattle.rules.specs.Answers.{number_of}
use Rattle.recorder.specs.declared.Reading.{Reading}
use Rattle.recorder.specs.declared.Reading.TheVariants.{Accesses, Damaged}
use Rattle.recorder.specs.Calls.{ReadLeft, trace_read, CountLeft, trace_listed}
use Rattle.recorder.proofs.Calls.{read_within, listed_within}
use Rattle.writing.specs.Put.{Put}
use Rattle.writing.specs.Writing.{numbers_line}
use Rattle.writing.proofs.Decimals.{decimal_long}
use Rattle.writing.proofs.Putting.{line_long, put_whole}
use Rattle.writing.proofs.Told.{refused_long}
use Rattle.traces.specs.Traces.{accesses_word, damaged_word, named_line, damaged_line, reading_text, listing_text, trace_bytes, told_of}

-- ---- what is said follows what is answered: o, which is p, and the room with it

pub reading_within : {o : Result Reading Refusal} {room' : List ℕ} {n : ℕ} (trace room : List ℕ) → o ≡ Ok (Accesses n) → record { answer = o; room = room' } ≡ trace_read trace room
    → n ≤ length room'
reading_within {room' = room'} {n = n} trace room told leaves =
    read_within trace room room' n (ap (λ (q : Result Reading Refusal). record { answer = q; room = room' }) (sym told) ∙ leaves)

pub listing_within : {o : Result ℕ Refusal} {room' : List ℕ} {n : ℕ} (trace room : List ℕ) → o ≡ Ok n → record { answer = o; room = room' } ≡ trace_listed trace room
    → n ≤ length room'
listing_within {room' = room'} {n = n} trace room told leaves =
    listed_within trace room room' n (ap (λ (q : Result ℕ Refusal). record { answer = q; room = room' }) (sym told) ∙ leaves)

pub reading_said : {o p : Result Reading Refusal} {room : List ℕ} (a : ReadLeft) → o ≡ p → record { answer = o; room = room } ≡ a
    → reading_text p room ≡ reading_text a.answer a.room
reading_said {room = room} a told leaves = ap (λ q. reading_text q room) (sym told) ∙ ap (λ b. reading_text b.answer b.room) leaves

pub listing_said : {o p : Result ℕ Refusal} {room : List ℕ} (a : CountLeft) → o ≡ p → record { answer = o; room = room } ≡ a
    → listing_text p room ≡ listing_text a.answer a.room
listing_said {room = room} a told leaves = ap (λ q. listing_text q room) (sym told) ∙ ap (λ b. listing_text b.answer b.room) leaves

-- ---- how long it is

damaged_long : (p : ℕ) → length (damaged_line p) ≤ 50
unfolding damaged_line
damaged_long p = simp (length-append) (omega (arith, decimal_long 13, decimal_long p))

-- a first line and numbers of a room
counted_long : (word : List ℕ) → length word ≤ 9 → (n : ℕ) (room : List ℕ) → length (named_line word n ++ numbers_line (take n room)) ≤ trace_bytes (length room)
unfolding named_line
counted_long word short n room = simp (length-append) (omega (arith, short, decimal_long n, line_long (take n room), length-take n room))

pub reading_long : (a : Result Reading Refusal) (room : List ℕ) → length (reading_text a room) ≤ trace_bytes (length room)
reading_long (Ok (Accesses n)) room = counted_long accesses_word (omega arith) n room
reading_long (Ok (Damaged p)) room = omega (arith, damaged_long p)
reading_long (Err r) room = omega (arith, refused_long (number_of r))

pub listing_long : (a : Result ℕ Refusal) (room : List ℕ) → length (listing_text a room) ≤ trace_bytes (length room)
listing_long (Ok n) room = counted_long damaged_word (omega arith) n room
listing_long (Err r) room = omega (arith, refused_long (number_of r))

-- ---- the room for it

pub bytes_short : (n b : ℕ) → b < 63 → false ≡ leb (trace_bytes n) b
bytes_short n b h = sym (lt-leb (trace_bytes n) b (omega arith))

pub bytes_by_number : (n b : ℕ) → 63 ≤ b → leb n ((b - 63) / 21) ≡ leb (trace_bytes n) b
bytes_by_number n b h =
    same_test (leb n ((b - 63) / 21)) (leb (trace_bytes n) b)
    (λ e. let few = leb-true n ((b - 63) / 21) e in le-leb (trace_bytes n) b (omega (arith, few)))
    (λ e. let enough = leb-true (trace_bytes n) b e in le-leb n ((b - 63) / 21) (omega (arith, enough)))

module _ (n : ℕ) (text left room output : List ℕ) where
  pub told_none : leb (trace_bytes n) (length output) ≡ false
      → record { answer = None; room = room; output = output } ≡ told_of (leb (trace_bytes n) (length output)) text left room output
  told_none h = rw h

  -- a text no longer than is surely enough; the room that is left has the length of the room before
  pub told_written : leb (trace_bytes n) (length output) ≡ true → (e : ℕ) (left' output' : List ℕ) → left' ≡ left → length left' ≡ n → length text ≤ trace_bytes (length left)
      → Put text 0 e output output' → record { answer = Some e; room = left'; output = output' } ≡ told_of (leb (trace_bytes n) (length output)) text left room output
  told_written h e left' output' same kept short done =
      let all = put_whole text e output output' done (omega (arith, leb-true (trace_bytes n) (length output) h, short, ap length same, kept)) in
      rw h (λ i. record { answer = Some (all i).end; room = same i; output = (all i).room })
