-- `write_numbers` meets its contract: where a room is too short nothing is written, otherwise what `put_form` writes.
use mathlib.Core.Path.{sym, ◌∙◌}
use lib.ListN.{length}
use Rattle.printed.specs.Printed.{of_numbers, numbers_worked}
use Rattle.printed.specs.Choices.{plain}
use Rattle.printed.specs.Wanted.{wanted_text, wanted_bytes}
use Rattle.printed.proofs.Lengths.{numbers_long}
use Rattle.printed.proofs.Rooms.{rooms_long, written_none, written_all}
use Rattle.text.proofs.write_numbers.Goals as goal

pub returns-then-not-has_room : goal.returns-then-not-has_room
returns-then-not-has_room c = written_none _ _ _ _ (sym c.has_room.ensures ∙ c.if-not-has_room.true)

pub put_form-requires : goal.put_form-requires
put_form-requires c =
    rooms_long (wanted_bytes c.args.wanted) _ _ _ (length c.args.output.now) (sym c.has_room.ensures ∙ c.if-not-has_room.false)

pub returns : goal.returns
returns c =
    let w = c.args.wanted in
    let numbers = c.args.numbers.now in
    written_all (wanted_bytes w) (numbers_worked plain numbers) (of_numbers (wanted_text w) plain numbers) _ (numbers_long w plain numbers)
    (sym c.has_room.ensures ∙ c.if-not-has_room.false) _ _ _ _ _ c.put_form.ensures
