-- `last_at` reads the array; past its end nothing is known.
use Rattle.std.specs.Prelude.{None}
use mathlib.Core.Path.{refl, sym}
use native.Mathlib.Omega.{arith}
use lib.ListN.{get_or-eq_default}
use Rattle.nodes.proofs.last.last_at.Goals as goal

pub returns-then-node-lt64 : goal.returns-then-node-lt64
returns-then-node-lt64 c = refl

pub returns : goal.returns
returns c = sym (get_or-eq_default c.args.lasts None {n = c.args.node} (omega (arith, c.well_formed.0, c.if-node-lt64.false)))
