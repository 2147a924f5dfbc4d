-- `put_run` puts the run state by state where nothing is split. Else what comes of it are its shares: they are laid behind all others where all of these have contents below, and put among
-- them where not.
use mathlib.Core.Path.{◌≡◌, sym, ◌∙◌, subst}
use mathlib.Core.List.{List}
use Prim.Native.Nat.{ℕ, ◌+◌, ◌<◌}
use native.Mathlib.Omega.{arith}
use lib.ListN.{take, drop}
use lib.Seq.{take_all}
use Rattle.rules.specs.declared.State.{State}
use Rattle.rules.specs.Contents.{shared}
use Rattle.rules.specs.Shape.{Every}
use Rattle.rules.proofs.Lists.{every_weaker}
use Rattle.words.specs.Tables.{table_of}
use Rattle.words.proofs.Tables.{fits_table}
use Rattle.tables.proofs.Scratch.{stretch_long}
use Rattle.estimate.specs.Merging.{part}
use Rattle.estimate.proofs.Sharing.{whole_stream, run_contents, run_shares, shares_ready, lose_room}
use Rattle.estimate.proofs.merge.put_run.Goals as goal

pub times_of-times-requires : goal.times_of-times-requires
unfolding shared
times_of-times-requires c = let a = c.args in let p = c.requires in
    let R = take a.m (drop (a.from + a.start) (table_of a.work.now)) in
    let Q = take a.m (drop a.start a.parts.now) in
    let long = stretch_long (a.from + a.start) a.m (table_of a.work.now) (omega (arith, p.3, fits_table a.work.now 4096 (omega (arith, p.5)))) in
    lose_room a.ways a.x p.1 p.0 a.k a.mask a.to R Q p.11 (omega (arith, long, p.2))

pub put_whole-requires : goal.put_whole-requires
put_whole-requires c = let a = c.args in let p = c.requires in
    let R = take a.m (drop (a.from + a.start) (table_of a.work.now)) in
    let Q = take a.m (drop a.start a.parts.now) in
    let X = take a.n (drop 4096 (table_of a.work.now)) in
    let to = run_contents a.ways a.x p.1 p.0 a.k a.mask a.to R Q p.11 in (
      p.0,
      p.1,
      p.3,
      p.5,
      p.6,
      p.7,
      p.8,
      p.11.rises,
      p.11.workable,
      p.11.coming,
      p.9,
      every_weaker (λ s. (part a.ways a.x a.k s).mask ≡ a.to) (λ s. Every (λ t. t.mask < (part a.ways a.x a.k s).mask) (take a.near X)) (λ s e. subst (λ (D : ℕ). Every (λ t. t.mask < D) (take a.near X)) (sym e) p.10) R to,
      whole_stream a.ways _ a.k (sym c.times_of-times.ensures ∙ c.if-times-eq0.true),
    )

pub lay_shares-requires : goal.lay_shares-requires
unfolding shared
lay_shares-requires c = let a = c.args in let p = c.requires in
    let X = take a.n (drop 4096 (table_of a.work.now)) in
    let t = c.times_of-times in
    let s = shares_ready a.ways a.x p.1 p.0 a.k a.mask a.to _ _ p.11 t.result t.ensures c.if-times-eq0.false X 1088 p.8 in
    let all = subst (λ (Y : List State). Every (λ t. t.mask < a.to) Y) (take_all a.near X (omega (arith, p.6, c.if-n-near.true))) p.10 in
    (p.3, p.4, p.5, p.6, p.7, s.0, s.1, s.2, s.3, all)

pub returns-then-n-near : goal.returns-then-n-near
unfolding shared
returns-then-n-near c = let a = c.args in let p = c.requires in
    let R = take a.m (drop (a.from + a.start) (table_of a.work.now)) in
    let Q = take a.m (drop a.start a.parts.now) in
    let X = take a.n (drop 4096 (table_of a.work.now)) in
    let t = c.times_of-times in
    rw (run_shares a.ways a.x p.1 p.0 a.k a.mask a.to R Q p.11 t.result t.ensures c.if-times-eq0.false) c.lay_shares.ensures

pub put_shares-requires : goal.put_shares-requires
unfolding shared
put_shares-requires c = let a = c.args in let p = c.requires in
    let t = c.times_of-times in
    let s = shares_ready a.ways a.x p.1 p.0 a.k a.mask a.to _ _ p.11 t.result t.ensures c.if-times-eq0.false _ 1088 p.8 in
    (p.9, p.3, p.4, p.5, p.6, p.7, s.0, s.1, s.2, s.3, p.10)

pub returns : goal.returns
unfolding shared
returns c = let a = c.args in let p = c.requires in
    let R = take a.m (drop (a.from + a.start) (table_of a.work.now)) in
    let Q = take a.m (drop a.start a.parts.now) in
    let t = c.times_of-times in
    rw (run_shares a.ways a.x p.1 p.0 a.k a.mask a.to R Q p.11 t.result t.ensures c.if-times-eq0.false) c.put_shares.ensures
