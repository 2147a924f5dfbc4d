-- `end_of` meets its contract: no sum wraps, since a number has 32 bits, a width 8, and a list lies in memory.
use Prim.Native.Nat.{◌≤◌}
use native.Mathlib.Nat.{mul-le-mul_left}
use native.Mathlib.Omega.{arith}
use lib.ListN.{get_or}
use Rattle.curve_numbers.proofs.end_of.Goals as goal

pub overflow_mul-end : goal.overflow_mul-end
overflow_mul-end c =
    let a = c.args in
    let narrow : a.width ≤ 255 = omega (arith, c.ranges) in
    omega (arith, c.type_inv.numbers a.at, mul-le-mul_left (get_or a.numbers.now a.at 0) narrow)

pub overflow_add-end-2 : goal.overflow_add-end-2
overflow_add-end-2 c =
    let a = c.args in
    let narrow : a.width ≤ 255 = omega (arith, c.ranges) in
    omega (arith, c.type_inv.numbers a.at, mul-le-mul_left (get_or a.numbers.now a.at 0) narrow)
