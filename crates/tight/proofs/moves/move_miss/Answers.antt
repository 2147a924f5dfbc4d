-- `move_miss` moves the row three times: where it loses a block, where it keeps all, and where none can be lost.
use mathlib.Core.Path.{refl, ap}
use Prim.Native.Nat.{ℕ, ◌-◌}
use native.Mathlib.Nat.{le_refl}
use native.Mathlib.Omega.{arith}
use Rattle.rules.specs.Contents.{shared, with}
use Rattle.tight.specs.Moving.{choosing}
use Rattle.tight_rows.proofs.Raising.{live_part}
use Rattle.tight.proofs.Moving.{second_ready, third_ready, third_came}
use Rattle.tight.proofs.moves.move_miss.Goals as goal

pub overflow_sub-others : goal.overflow_sub-others
unfolding shared
overflow_sub-others c = omega (arith, c.size_of.ensures, c.requires.2)

pub move_to-requires : goal.move_to-requires
unfolding shared
move_to-requires c =
    let a = c.args in
    let d = c.comes_to-end.ensures in (
      second_ready a.ways a.x a.live a.r a.keep a.mask a.work.now c.requires.1 c.requires.3 c.requires.4 _ _ (choosing a.r a.keep) d
          (ap (λ (n : ℕ). a.ways - n) c.size_of.ensures) refl _ c.move_lost.ensures,
      live_part (with a.mask a.x.place) a.live _ d,
      le_refl 1,
    )

pub move_to-requires-2 : goal.move_to-requires-2
unfolding shared
move_to-requires-2 c =
    let a = c.args in
    let d = c.comes_to-end.ensures in (
      third_ready a.ways a.x a.live a.r a.keep a.mask a.work.now c.requires.1 c.requires.3 c.requires.4 _ _ _ d
          (ap (λ (n : ℕ). a.ways - n) c.size_of.ensures) c.choosing.ensures _ c.move_lost.ensures _ c.move_to.ensures,
      live_part (with a.mask a.x.place) a.live _ d,
      le_refl 1,
    )

pub returns : goal.returns
unfolding shared
returns c =
    let a = c.args in
    third_came a.ways a.x a.live a.r a.keep a.mask a.work.now c.requires.1 c.requires.3 c.requires.4 _ _ _ c.comes_to-end.ensures
    (ap (λ (n : ℕ). a.ways - n) c.size_of.ensures) c.choosing.ensures _ c.move_lost.ensures _ c.move_to.ensures _ c.move_to-2.ensures
