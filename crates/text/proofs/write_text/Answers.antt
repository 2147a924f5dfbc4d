-- `write_text` meets its contract: where a room is too short nothing is written; otherwise what `put_text` writes, and the room for numbers is cleared.
use mathlib.Core.Path.{sym, ◌∙◌}
use native.Mathlib.Omega.{arith}
use lib.ListN.{length}
use Rattle.writing.specs.Told.{of_text, text_worked}
use Rattle.writing.proofs.Told.{cleared}
use Rattle.printed.specs.Choices.{of_form, form_worked}
use Rattle.printed.specs.Rooms.{Rooms}
use Rattle.printed.specs.Wanted.{wanted_text, wanted_bytes}
use Rattle.printed.proofs.Lengths.{form_text_long}
use Rattle.printed.proofs.Rooms.{rooms_long, written_all, few_numbers, text_none, text_all}
use Rattle.text.proofs.write_text.Goals as goal

pub returns-then-numbers-lt16384 : goal.returns-then-numbers-lt16384
returns-then-numbers-lt16384 c = few_numbers _ _ _ _ _ (omega arith)

pub returns-then-not-has_room : goal.returns-then-not-has_room
returns-then-not-has_room c = text_none _ _ _ _ _ (omega arith) (sym c.has_room.ensures ∙ c.if-not-has_room.true)

pub put_text-end-requires : goal.put_text-end-requires
put_text-end-requires c =
    let a = c.args in
    let (result, work, counts) = rooms_long (wanted_bytes a.wanted) (length a.res.now) (length a.work.now) (length a.counts.now) (length a.output.now) (sym c.has_room.ensures ∙ c.if-not-has_room.false) in
    (omega arith, result, work, counts)

pub returns : goal.returns
returns c =
    let a = c.args in
    let bytes = wanted_bytes a.wanted in
    let worked = text_worked (form_worked a.form) a.text.now in
    let text = of_text (of_form a.form (wanted_text a.wanted)) a.text.now in
    let p = c.put_text-end in
    let rooms : Rooms = record { result = a.res.now; work = a.work.now; counts = a.counts.now; output = a.output.now } in
    let long = sym c.has_room.ensures ∙ c.if-not-has_room.false in
    text_all bytes worked text a.numbers.now rooms (omega arith) long _ _
    (cleared _ p.new.numbers _ (c.fill.ensures.after (λ y p. p)) p.auto.numbers)
    (written_all bytes worked text rooms (form_text_long a.form a.wanted a.text.now) long _ _ _ _ _ p.ensures)
