-- `next_head` takes out the stream that has come, and makes the head anew.
use mathlib.Core.Path.{◌≡◌, ap, ◌∙◌}
use Prim.Native.Nat.{ℕ, ◌%◌}
use native.Mathlib.Omega.{arith}
use Rattle.rules.specs.Contents.{without}
use Rattle.heads.specs.Head.{streams_in, stream_in, head_of, next_head}
use Rattle.heads.proofs.next_head.Goals as goal

-- a mask has a place for each stream
below : (h : ℕ) → stream_in h % 64 ≡ stream_in h
below h = omega arith

pub returns : goal.returns
unfolding next_head
returns c = let h = c.args.head in
    let left : c.without_place-left.result ≡ without (streams_in h) (stream_in h) =
    c.without_place-left.ensures
    ∙ ap (λ (L : ℕ). without L (c.stream_in.result % 64)) c.streams_in.ensures
    ∙ ap (λ (k : ℕ). without (streams_in h) (k % 64)) c.stream_in.ensures
    ∙ ap (without (streams_in h)) (below h) in
    c.head_of.ensures
    ∙ ap (λ (L : ℕ). head_of c.args.mask c.args.own c.stretch_in.result L) left
    ∙ ap (λ (R : ℕ). head_of c.args.mask c.args.own R (without (streams_in h) (stream_in h))) c.stretch_in.ensures
