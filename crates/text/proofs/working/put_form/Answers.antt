-- `put_form` meets its contract: each arm puts what is printed for numbers of its form.
use mathlib.Core.Path.{sym, ap}
use Rattle.printed.specs.declared.Form.{Form}
use Rattle.printed.specs.Choices.{of_form, form_worked}
use Rattle.printed.specs.Wanted.{wanted_text}
use Rattle.printed.proofs.Rooms.{wrote_same}
use Rattle.text.proofs.working.put_form.Goals as goal

pub returns-in-Plain : goal.returns-in-Plain
returns-in-Plain c =
    let a = c.args in
    wrote_same _ _ _ _ _ _ _ c.put_numbers.ensures (sym (ap (λ (f : Form). form_worked f a.numbers.now) c.in-Plain.is))
    (sym (ap (λ (f : Form). of_form f (wanted_text a.wanted) a.numbers.now) c.in-Plain.is))

pub returns-in-Chosen : goal.returns-in-Chosen
returns-in-Chosen c =
    let a = c.args in
    wrote_same _ _ _ _ _ _ _ c.put_chosen.ensures (sym (ap (λ (f : Form). form_worked f a.numbers.now) c.in-Chosen.is))
    (sym (ap (λ (f : Form). of_form f (wanted_text a.wanted) a.numbers.now) c.in-Chosen.is))
