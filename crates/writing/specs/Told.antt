-- What is told of a text: document 01, section 7. What is malformed is refused with 9, then the refusals of the call are given, then comes what an accepted input says.
use Rattle.std.specs.Prelude.{Bool, true, false, cond, ◌&&◌, List, ℕ, length, replicate, Err, Ok}
use Rattle.rules.specs.declared.Refusal.TheVariants.{Text}
use Rattle.rules.specs.Answers.{number_of, Verdict}
use Rattle.reading.specs.Reading.{well_formed, numbers_in}
use Rattle.writing.specs.Writing.{refused_line}

-- the text of an accepted input, or the line of its refusal
abbrev pub told : Verdict → List ℕ → List ℕ
told (Ok tt) text = text
told (Err r) text = refused_line (number_of r)

-- for a text, `of` being what is told of its numbers
unfoldable pub of_text : (List ℕ → List ℕ) → List ℕ → List ℕ
of_text of bytes = cond (well_formed bytes) (of (numbers_in bytes)) (refused_line (number_of Text))

-- ---- what is worked: everything else is refused

-- whether a verdict accepts
abbrev pub accepts : Verdict → Bool
accepts (Ok tt) = true
accepts (Err r) = false

-- whether a text is worked, `worked` being whether its numbers are
unfoldable pub text_worked : (List ℕ → Bool) → List ℕ → Bool
text_worked worked bytes = well_formed bytes && worked (numbers_in bytes)

-- the room that it was worked in is zero; what was refused left it as it was
abbrev pub zero_if : Bool → List ℕ → List ℕ
zero_if worked room = cond worked (replicate (length room) 0) room
