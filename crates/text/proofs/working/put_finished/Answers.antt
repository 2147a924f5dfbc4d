-- `put_finished` meets its contract: what is wanted is put, and then two rooms are cleared.
use Rattle.writing.proofs.Told.{cleared}
use Rattle.text.proofs.working.put_finished.Goals as goal

pub put_wanted-end-requires : goal.put_wanted-end-requires
put_wanted-end-requires c = c.requires

pub returns : goal.returns
returns c =
    let put = c.put_wanted-end in
    (put.ensures, (c.fill.ensures.after (λ y p. p)), cleared _ put.new.counts _ (c.fill-2.ensures.after (λ y p. p)) put.auto.counts)
