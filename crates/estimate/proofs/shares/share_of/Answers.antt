-- `share_of` reads the misses and the filled numbers of the state.
use mathlib.Core.Path.{ap, ◌∙◌, sym}
use Prim.Native.Nat.{ℕ, ◌+◌, ◌*◌}
use native.Mathlib.Numerals.{add-one}
use native.Mathlib.Omega.{arith}
use lib.ListN.{get_or}
use Rattle.rules.specs.declared.State.{State}
use Rattle.rules.specs.Table.{state, no_state}
use Rattle.words.proofs.Tables.{row_at}
use Rattle.estimate.specs.Sharing.{share_of}
use Rattle.estimate.proofs.shares.share_of.Goals as goal

pub overflow_add-result-2 : goal.overflow_add-result-2
overflow_add-result-2 c = omega (arith, c.requires.1, ap (λ (s : State). s.misses) (row_at c.args.work.now c.args.place no_state c.requires.0))

pub returns : goal.returns
returns c = let a = c.args in let ws = a.work.now in
    ap (λ (m : ℕ). state a.to m (record { front = get_or ws (a.place * 5 + 2) 0; back = get_or ws (a.place * 5 + 3) 0 }) a.units.0) (add-one (get_or ws (a.place * 5 + 1) 0))
    ∙ ap (λ (s : State). share_of a.to s a.units.0) (sym (row_at ws a.place no_state c.requires.0))
