-- `seek_on` looks at the last state and at the one at that place first: behind the one, or not behind the other, the place is found.
use mathlib.Core.Path.{◌≡◌, refl, sym, subst}
use mathlib.Core.Bool.{true}
use Prim.Native.Nat.{ℕ, ◌+◌, ◌-◌}
use native.Mathlib.Nat.{le_refl}
use native.Mathlib.Omega.{arith}
use lib.ListN.{take}
use Rattle.words.specs.Tables.{table_of}
use Rattle.words.proofs.Tables.{fits_table}
use Rattle.estimate.specs.Placing.{Passed}
use Rattle.rules.specs.Table.{listing}
use Rattle.rules.proofs.Ordered.{state_orders}
use Rattle.tables.proofs.Insertion.{seek_full, seek_up, seek_down, seek_end}
use Rattle.estimate.proofs.placing.seek_on.Goals as goal

pub returns-then-n-from : goal.returns-then-n-from
returns-then-n-from c = let a = c.args in let T = table_of a.words.now in let room = fits_table a.words.now a.n (omega arith) in
    seek_end listing a.s a.n T room _ c.requires.0 c.requires.3 (seek_full listing a.s a.n T room _ c.if-n-from.true)

pub returns-then-holds_less : goal.returns-then-holds_less
returns-then-holds_less c = let a = c.args in let T = table_of a.words.now in let room = fits_table a.words.now a.n (omega arith) in
    let one : a.n - 1 + 1 ≡ a.n = omega arith in
    seek_end listing a.s a.n T room _ (le_refl a.n)
    (subst (λ (i : ℕ). Passed a.s (take a.n T) i) one
    (seek_up listing a.s a.n T room (a.n - 1) _ true (omega arith) refl (sym (c.holds_less.ensures c.if-holds_less.true)) state_orders c.requires.2 refl))
    (seek_full listing a.s a.n T room _ (le_refl a.n))

pub seek-requires : goal.seek-requires
seek-requires c = let a = c.args in let T = table_of a.words.now in let room = fits_table a.words.now a.n (omega arith) in (
  omega arith,
  c.requires.1,
  c.requires.2,
  seek_up listing a.s a.n T room _ _ _ (omega arith) refl c.is_behind.ensures state_orders c.requires.2 c.if-is_behind.true,
)

pub returns : goal.returns
returns c = let a = c.args in let T = table_of a.words.now in let room = fits_table a.words.now a.n (omega arith) in
    seek_end listing a.s a.n T room _ c.requires.0 c.requires.3 (seek_down listing a.s a.n T room _ _ _ (omega arith) refl c.is_behind.ensures c.if-is_behind.false)
