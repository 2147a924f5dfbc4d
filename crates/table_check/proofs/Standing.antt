-- Of two by two numbers the one with the lower first number stands before, whatever the second numbers are: what `orders::precedes` says first of two states of a table.
use Rattle.std.proofs.Common.{◌≡◌, ℕ, ◌<◌, true}
use borrow.Author.Tests.{lt-ltb}
use Rattle.rules.specs.Ordered.{by_number, then_by, is_before}

pub lower_first : (a b c d : ℕ) → a < c → true ≡ is_before (then_by (by_number a c) (by_number b d))
lower_first a b c d h = rw (lt-ltb a c h)
