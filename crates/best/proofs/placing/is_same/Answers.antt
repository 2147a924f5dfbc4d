-- `is_same` is what the order says: equally exact, equal masks, equal misses and equal hits.
use Rattle.best.proofs.Insertion.{exact_apart, mask_apart, misses_apart, hits_same}
use Rattle.best.proofs.placing.is_same.Goals as goal

pub returns-then-open_flag : goal.returns-then-open_flag
returns-then-open_flag c = exact_apart _ _ _ _ c.open_flag.ensures c.open_flag-2.ensures c.if-open_flag.true

pub returns-then-s-t : goal.returns-then-s-t
returns-then-s-t c = mask_apart _ _ _ _ c.open_flag.ensures c.open_flag-2.ensures c.if-open_flag.false c.if-s-t.true

pub returns-then-m-n : goal.returns-then-m-n
returns-then-m-n c =
    misses_apart _ _ _ _ c.open_flag.ensures c.open_flag-2.ensures c.if-open_flag.false c.if-s-t.false c.if-m-n.true

pub returns : goal.returns
returns c =
    hits_same _ _ _ _ c.open_flag.ensures c.open_flag-2.ensures c.if-open_flag.false c.if-s-t.false c.if-m-n.false
