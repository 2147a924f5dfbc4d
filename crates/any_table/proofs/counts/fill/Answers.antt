-- `fill` meets its contract.
use Prim.Native.Nat.{◌<◌}
use lib.ListN.{length}
use Rattle.rules.specs.Counts.{largest}
use Rattle.any_table.proofs.Counting.{cleared, has_place, has_room_lem, counts_next, counts_end}
use Rattle.any_table.proofs.counts.fill.Goals as goal

pub loop-i-init : goal.loop-i-init
loop-i-init g c = cleared g.K.Kind.listing g.C.Count.count _ (length c.args.room.now) (c.fill.ensures.after (λ y p. p))

pub note-requires : goal.note-requires
note-requires g c =
    let l = c.loop-i in
    let T = g.K.Kind.states c.args.words.now in
    let count = g.C.Count.count in
    let m = g.met.K.Kind.fifths c.args.words.now in
    let n = length c.fill.new.self in
    let long : largest count T < n = rw c.fill.ensures.len c.requires.0 in
    let s = c.state_at-s in
    rw (c.of.ensures, c.units.ensures) (
      rw l.auto.room (has_place g.K.Kind.listing count T _ m l.i n l.room l.invariant c.loop-i-test.true s.result s.ensures long),
      has_room_lem g.K.Kind.listing count T _ m l.i n l.room l.invariant c.loop-i-test.true s.result s.ensures long c.requires.1,
    )

pub loop-i-preserved : goal.loop-i-preserved
loop-i-preserved g c =
    let l = c.loop-i in
    let T = g.K.Kind.states c.args.words.now in
    let count = g.C.Count.count in
    let m = g.met.K.Kind.fifths c.args.words.now in
    let n = length c.fill.new.self in
    let long : largest count T < n = rw c.fill.ensures.len c.requires.0 in
    let s = c.state_at-s in
    counts_next g.K.Kind.listing count T _ m l.i n l.room l.invariant c.loop-i-test.true s.result s.ensures long _ _ c.of.ensures c.units.ensures _ c.note.ensures

pub returns : goal.returns
returns g c =
    let l = c.loop-i in
    let a = c.args in
    let m = g.met.K.Kind.fifths a.words.now in
    counts_end g.K.Kind.listing g.C.Count.count (g.K.Kind.states a.words.now) _ m l.i (length a.room.now) l.room (rw c.fill.ensures.len at l.invariant) c.loop-i-test.false
