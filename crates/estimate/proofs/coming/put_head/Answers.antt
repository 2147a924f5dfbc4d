-- `put_head` finds out where the contents begin that the head comes to, and puts its run there.
use mathlib.Core.List.{map}
use native.Mathlib.Omega.{arith}
use lib.ListN.{take, drop}
use Rattle.rules.specs.Table.{listing}
use Rattle.words.specs.Tables.{table_of}
use Rattle.words.proofs.Tables.{fits_table}
use Rattle.tables.proofs.Insertion.{add_grows}
use Rattle.tables.proofs.Scratch.{stretch_long}
use Rattle.heads.specs.Head.{stream_in}
use Rattle.estimate.specs.Merging.{part}
use Rattle.estimate.specs.ToCome.{run_in}
use Rattle.estimate.proofs.HeadByHead.{put_needs, put_gives}
use Rattle.estimate.proofs.coming.put_head.Goals as goal

pub segment-near-requires : goal.segment-near-requires
segment-near-requires c = let a = c.args in let p = c.requires in let W = table_of a.work.now in let T = take a.m (drop a.from W) in
    (p.10, omega (arith, p.4, p.11, p.13, add_grows listing (map (part a.ways a.x (stream_in a.head)) (run_in T a.head)) (take a.reached.states (drop 4096 W))), p.12)

pub put_run-states-requires : goal.put_run-states-requires
put_run-states-requires c = let a = c.args in let p = c.requires in
    let W = table_of a.work.now in
    let X = take a.reached.states (drop 4096 W) in
    let segment = c.segment-near in
    let g = put_needs a.ways a.x W a.from a.m a.parts.now a.head (stretch_long a.from a.m W (fits_table a.work.now _ (omega (arith, p.3, p.4)))) p.2 p.3 p.5 p.8
    c.start_in.result c.length_in.result c.stream_in.result c.contents_in-to.result a.mask
    c.start_in.ensures c.length_in.ensures c.stream_in.ensures c.contents_in-to.ensures p.9 X p.13 p.0.0 p.6 p.7 in
    (p.0, p.1, g.0, g.1, g.2, p.4, p.11, p.12, g.3, segment.ensures.0, segment.ensures.1, g.4)

pub returns : goal.returns
returns c = let a = c.args in let p = c.requires in
    let W = table_of a.work.now in
    let X = take a.reached.states (drop 4096 W) in
    let put = c.put_run-states in
    let g = put_gives a.ways a.x W a.from a.m a.parts.now a.head (stretch_long a.from a.m W (fits_table a.work.now _ (omega (arith, p.3, p.4)))) p.2 p.3 p.5 p.8
    c.start_in.result c.length_in.result c.stream_in.result c.contents_in-to.result a.mask
    c.start_in.ensures c.length_in.ensures c.stream_in.ensures c.contents_in-to.ensures p.9 X _ _ put.ensures in
    (g.0, omega (arith, g.1, p.11, c.segment-near.ensures.0))
