-- `mask_fits` meets its contract: each return is one test of the definition.
use Rattle.best_questions.proofs.Fitting.{mask_large, mask_exact, mask_open}
use Rattle.best_questions.proofs.one_state.mask_fits.Goals as goal

pub returns-then-s-gt65535 : goal.returns-then-s-gt65535
returns-then-s-gt65535 c = mask_large c.args.s c.if-s-gt65535.true

pub returns-then-s : goal.returns-then-s
returns-then-s c = mask_exact c.args.s c.if-s-gt65535.false c.if-s.true

pub returns : goal.returns
returns c = mask_open c.args.s c.if-s-gt65535.false c.if-s.false
