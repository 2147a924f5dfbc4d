-- `put_entry` meets its contract: the number, and behind it the byte that belongs there.
use mathlib.Core.Path.{sym, ap}
use mathlib.Core.Bool.{Bool}
use mathlib.Core.List.{[], ◌∷◌, ◌++◌}
use Rattle.writing.specs.Writing.{decimal, gap}
use Rattle.writing.proofs.Putting.{put_is, put_then}
use Rattle.writing.proofs.put_entry.Goals as goal

pub returns-then-last : goal.returns-then-last
returns-then-last c =
    let n = c.args.n in
    put_is _ _ _ _ _ _ (put_then _ _ _ _ _ c.put_number-end.ensures _ _ _ c.put_byte.ensures) (ap (λ (last : Bool). decimal n ++ (gap last ∷ [])) (sym c.if-last.true))

pub returns : goal.returns
returns c =
    let n = c.args.n in
    put_is _ _ _ _ _ _ (put_then _ _ _ _ _ c.put_number-end.ensures _ _ _ c.put_byte-2.ensures) (ap (λ (last : Bool). decimal n ++ (gap last ∷ [])) (sym c.if-last.false))
