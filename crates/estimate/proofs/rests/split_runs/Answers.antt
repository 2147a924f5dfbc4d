-- `split_runs` takes the heads one by one.
use mathlib.Core.Path.{◌≡◌, refl, sym, ◌∙◌, subst}
use mathlib.Core.List.{List}
use Prim.Native.Nat.{◌+◌, ◌≤◌}
use native.Mathlib.Omega.{arith}
use lib.ListN.{get_or, take, drop}
use lib.Seq.{take_all}
use Rattle.rules.specs.declared.State.{State}
use Rattle.rules.specs.Shape.{Every}
use Rattle.rules.specs.Step.{left_over}
use Rattle.rules.specs.Table.{listing, units_of}
use Rattle.rules.specs.Units.{whole}
use Rattle.rules.proofs.Lists.{every_weaker}
use Rattle.words.specs.Tables.{table_of}
use Rattle.words.proofs.Tables.{fits_table}
use Rattle.tables.proofs.Masks.{with_listed}
use Rattle.tables.proofs.Scratch.{scratch_empty, scratch_more, scratch_rising, slot_same, stretch_long}
use Rattle.heads.specs.Head.{length_in, start_in}
use Rattle.estimate.specs.Following.{Workable}
use Rattle.estimate.specs.Merging.{alone}
use Rattle.estimate.specs.Splitting.{SplitIn}
use Rattle.estimate.proofs.LeftOver.{split_kept, rests_none, left_none_yet, rests_next, left_next, every_next, rests_rising, rests_all, left_all, rests_room, left_room, head_whole}
use Rattle.estimate.proofs.rests.split_runs.Goals as goal

pub loop-head-init : goal.loop-head-init
loop-head-init c = let a = c.args in
    let W = table_of a.work.now in
    let T = take a.m (drop a.from W) in
    let hs = take a.count a.heads.now in (
      rw (rests_none T hs (alone a.ways a.x)) (scratch_empty W),
      sym (left_none_yet T hs (left_over a.ways a.x)),
      tt,
    )

pub split_if-so_far-requires : goal.split_if-so_far-requires
split_if-so_far-requires c = let a = c.args in let p = c.requires in
    let l = c.loop-head in
    let test = c.loop-head-test in
    let own = c.with_block-own in
    let W = table_of a.work.now in
    let T = take a.m (drop a.from W) in
    let hs = take a.count a.heads.now in
    let long = stretch_long a.from a.m W (omega (arith, p.3, fits_table a.work.now 4096 (omega (arith, p.4)))) in
    let same = slot_same listing _ _ _ _ l.invariant.0 a.from a.m p.3 in (
      p.0,
      p.1,
      with_listed 0 a.x.place p.0.0 _ own.ensures,
      p.2,
      p.3,
      omega (arith, p.4, l.auto.work),
      omega (arith, p.6, l.auto.parts),
      omega (arith, p.2, long, rests_room T hs a.ways a.x p.8 (alone a.ways a.x) l.head-index l.so_far.states l.invariant.0.count),
      omega (arith, p.2, long, l.invariant.1, left_room T hs a.ways a.x p.8 (every_weaker (Workable a.ways a.x) (λ s. units_of s ≤ whole) (λ s q. q.1) T p.7) l.head-index),
      scratch_rising listing _ _ _ _ l.invariant.0 (rests_rising T hs (alone a.ways a.x) l.head-index),
      rw same p.7,
      rw same (head_whole T hs a.ways a.x p.8 l.head-index test.true),
    )

pub loop-head-preserved : goal.loop-head-preserved
loop-head-preserved c = let a = c.args in let p = c.requires in
    let l = c.loop-head in
    let test = c.loop-head-test in
    let r = c.split_if-so_far in
    let e = r.ensures in
    let W = table_of a.work.now in
    let T = take a.m (drop a.from W) in
    let hs = take a.count a.heads.now in
    let h = get_or hs l.head-index 0 in
    let same : take a.m (drop a.from (table_of l.work)) ≡ T = slot_same listing _ _ _ _ l.invariant.0 a.from a.m p.3 in
    let long = stretch_long a.from a.m W (omega (arith, p.3, fits_table a.work.now 4096 (omega (arith, p.4)))) in
    let within : start_in h + length_in h ≤ a.m = omega (arith, long, (head_whole T hs a.ways a.x p.8 l.head-index test.true).0.inside) in (
      rw (← rests_next T hs l.head-index h test.true refl (alone a.ways a.x)) (scratch_more listing _ _ _ _ l.invariant.0 _ _ _ (rw same at e.in_scratch)),
      omega (arith, rw same at e.left_value, l.invariant.1, left_next T hs l.head-index h test.true refl (left_over a.ways a.x)),
      every_next T hs l.head-index h test.true refl (λ g. (start_in g + length_in g ≤ a.m) × SplitIn a.ways a.x T r.new.parts g)
          (every_weaker (λ g. (start_in g + length_in g ≤ a.m) × SplitIn a.ways a.x T l.parts g) (λ g. (start_in g + length_in g ≤ a.m) × SplitIn a.ways a.x T r.new.parts g)
          (λ g q. (q.0, split_kept a.from a.m (table_of l.work) a.ways a.x l.parts r.new.parts e.split_in.1 T same g q.0 q.1)) (take l.head-index hs) l.invariant.2)
          (within, subst (λ (U : List State). SplitIn a.ways a.x U r.new.parts h) same e.split_in.0),
    )

pub returns : goal.returns
returns c = let a = c.args in let l = c.loop-head in
    let T = take a.m (drop a.from (table_of a.work.now)) in
    let hs = take a.count a.heads.now in
    let short = c.loop-head-test.false in record {
      in_scratch = rw (← rests_all T hs a.ways a.x c.requires.8 l.head-index short (alone a.ways a.x)) l.invariant.0;
      left_value = l.invariant.1 ∙ left_all T hs a.ways a.x c.requires.8 l.head-index short (left_over a.ways a.x);
      every = subst (Every (SplitIn a.ways a.x T l.parts)) (take_all l.head-index hs short)
          (every_weaker (λ g. (start_in g + length_in g ≤ a.m) × SplitIn a.ways a.x T l.parts g) (SplitIn a.ways a.x T l.parts) (λ g q. q.1) (take l.head-index hs) l.invariant.2);
    }
