-- What is told of a text, case by case: it is malformed, or read; and how long it is, if what an accepted input says is not longer. And a room that a call clears.
use mathlib.Core.Path.{◌≡◌, refl, sym, ap, ◌∙◌}
use mathlib.Core.Bool.{Bool, true, false, cond, ◌&&◌}
use mathlib.Core.List.{List, []}
use Prim.Native.Nat.{ℕ, ◌≤◌}
use native.Mathlib.Omega.{arith}
use borrow.Author.Tests.{leb-true}
use lib.Dec.{leb}
use lib.ListN.{length, take, replicate, length-append, length-map}
use Rattle.std.specs.Prelude.{Option, Some, None, Err, Ok}
use Rattle.basics.proofs.Bools.{and_right}
use Rattle.rules.specs.Answers.{number_of, Verdict}
use Rattle.reading.specs.Reading.{value_from, words_from, all_numbers, well_formed, numbers_in}
use Rattle.reading.specs.Call.{after_reading}
use Rattle.reading.proofs.Calls.{malformed, well_formed_lem, how_many, numbers_there}
use Rattle.writing.specs.Writing.{refused_line}
use Rattle.writing.specs.Told.{told, of_text, text_worked}
use Rattle.writing.proofs.Decimals.{decimal_long}

-- ---- a text is malformed, or read

module _ (text room : List ℕ) (long : 16384 ≤ length room) (r : Option ℕ) (room' : List ℕ) (left : record { answer = r; room = room' } ≡ after_reading text room) where
  pub text_malformed : (of : List ℕ → List ℕ) → r ≡ None → refused_line 9 ≡ of_text of text
  unfolding of_text
  text_malformed of e = rw (malformed text room long r room' left e)

  pub malformed_unworked : (worked : List ℕ → Bool) → r ≡ None → text_worked worked text ≡ false
  unfolding text_worked
  malformed_unworked worked e = rw (malformed text room long r room' left e)

  module _ (n : ℕ) (e : r ≡ Some n) where
    -- as many as there are words, 16,384 at most
    pub numbers_few : n ≤ 16384
    unfolding well_formed numbers_in
    numbers_few =
        let ws = words_from [] text in
        omega (
          arith,
          how_many text room long r room' left n e,
          length-map ws (value_from 0),
          leb-true (length ws) 16384 (and_right (leb (length text) 65536 && all_numbers ws) (leb (length ws) 16384) (well_formed_lem text room long r room' left n e)),
        )

    pub numbers_long : n ≡ length (take n room')
    numbers_long = how_many text room long r room' left n e ∙ sym (ap length (numbers_there text room long r room' left n e))

    pub text_read : (of : List ℕ → List ℕ) → of (take n room') ≡ of_text of text
    unfolding of_text
    text_read of = rw (well_formed_lem text room long r room' left n e) (ap of (numbers_there text room long r room' left n e))

    pub read_worked : (worked : List ℕ → Bool) → worked (take n room') ≡ text_worked worked text
    unfolding text_worked
    read_worked worked = rw (well_formed_lem text room long r room' left n e) (ap worked (numbers_there text room long r room' left n e))

-- ---- how long it is

pub refused_long : (n : ℕ) → length (refused_line n) ≤ 29
unfolding refused_line
refused_long n = simp (length-append) (omega (arith, decimal_long n))

-- at most M bytes, where the line of a refusal is not longer
module _ (M : ℕ) (line : 29 ≤ M) where
  -- of what is refused where a test fails
  pub tested_long : (b : Bool) (n : ℕ) (text : List ℕ) → (b ≡ true → length text ≤ M) → length (cond b text (refused_line n)) ≤ M
  tested_long true n text h = h refl
  tested_long false n text h = omega (arith, line, refused_long n)

  -- of an input
  pub told_long : (v : Verdict) (text : List ℕ) → (v ≡ Ok tt → length text ≤ M) → length (told v text) ≤ M
  told_long (Ok tt) text h = h refl
  told_long (Err r) text h = omega (arith, line, refused_long (number_of r))

  -- of a text, whatever its numbers are
  pub text_long : (of : List ℕ → List ℕ) → ((ns : List ℕ) → length (of ns) ≤ M) → (text : List ℕ) → length (of_text of text) ≤ M
  unfolding of_text
  text_long of h text = tested_long (well_formed text) 9 (of (numbers_in text)) (λ e. h (numbers_in text))

-- ---- a room

-- cleared, after a call that keeps its length
pub cleared : (ns ms : List ℕ) (n : ℕ) → ns ≡ replicate (length ms) 0 → length ms ≡ n → ns ≡ replicate n 0
cleared ns ms n p e = p ∙ ap (λ (k : ℕ). replicate k 0) e
