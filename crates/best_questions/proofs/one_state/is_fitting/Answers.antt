-- `is_fitting` meets its contract: each early return is one test of the definition that fails.
use Rattle.best_questions.proofs.Fitting.{mask_unfit, misses_many, hits_many, by_units}
use Rattle.best_questions.proofs.one_state.is_fitting.Goals as goal

pub returns-then-not-mask_fits : goal.returns-then-not-mask_fits
returns-then-not-mask_fits c = mask_unfit c.args.s _ c.mask_fits.ensures (c.if-not-mask_fits.true)

pub returns-then-m-gt4096 : goal.returns-then-m-gt4096
returns-then-m-gt4096 c =
    let s = c.args.s in
    misses_many s _ c.mask_fits.ensures (c.if-not-mask_fits.false) c.if-m-gt4096.true

pub returns-then-h-gt4096 : goal.returns-then-h-gt4096
returns-then-h-gt4096 c =
    let s = c.args.s in
    hits_many s _ c.mask_fits.ensures (c.if-not-mask_fits.false) c.if-m-gt4096.false c.if-h-gt4096.true

pub returns : goal.returns
returns c =
    let s = c.args.s in
    by_units s _ c.mask_fits.ensures (c.if-not-mask_fits.false) c.if-m-gt4096.false c.if-h-gt4096.false
