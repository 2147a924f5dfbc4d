-- `both` meets its contract: the sums are those of `sum`.
use Rattle.listing_form.proofs.both.Goals as goal

pub returns : goal.returns
returns c = rw (c.sum.ensures, c.sum-2.ensures)
