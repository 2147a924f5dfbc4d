-- `larger_bytes` makes the word byte by byte. The invariant of its loop: with the larger of the bytes that are left behind it, it is the
-- whole.
use Rattle.std.proofs.Common.{◌≡◌, ◌-◌, ◌^◌, ◌<◌}
use Rattle.states.proofs.Numbers.{rest_of_bytes}
use Rattle.states.proofs.filled.larger_bytes.Given as goal

abbrev pub invariant-loop-at : goal.invariant-loop-at
invariant-loop-at l = (l.word < 256 ^ (8 - l.at)) × (rest_of_bytes l.word l.at l.v l.w ≡ rest_of_bytes 0 8 l.v l.w)
