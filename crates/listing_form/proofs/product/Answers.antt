-- `product` meets its contract: no times anything is nothing, and any times as many as are counted is no less.
use native.Mathlib.Omega.{arith}
use Rattle.listing_form.proofs.Counts.{product_none, product_large, product_fits}
use Rattle.listing_form.proofs.product.Goals as goal

pub returns-then-n-eq0 : goal.returns-then-n-eq0
returns-then-n-eq0 c = product_none c.args.n c.args.a c.if-n-eq0.true

pub returns-then-a-ge4097 : goal.returns-then-a-ge4097
returns-then-a-ge4097 c = product_large c.args.n c.args.a c.if-n-eq0.false c.if-a-ge4097.true

pub overflow_mul-all : goal.overflow_mul-all
overflow_mul-all c = record { fits = product_fits c.args.n c.args.a (omega (arith, c.ranges.n)) (omega (arith, c.if-a-ge4097.false)) }
