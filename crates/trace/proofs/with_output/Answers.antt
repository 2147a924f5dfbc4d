-- `with_output` is safe: the room has as many bytes as it is made of, which is shown by a law and not by counting them.
use mathlib.Core.Path.{◌≡◌, sym}
use Prim.Native.Nat.{ℕ}
use lib.ListN.{length, replicate, length-replicate}
use Rattle.trace.proofs.with_output.Goals as goal

zeros_long : (n : ℕ) → n ≡ length {A = ℕ} (replicate n 0)
zeros_long n = sym (length-replicate n 0)

pub slice_bounds-tell_accesses-end : goal.slice_bounds-tell_accesses-end
slice_bounds-tell_accesses-end c = zeros_long 2688063
