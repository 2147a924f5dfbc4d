-- `split_run` takes the states one by one.
use mathlib.Core.Path.{◌≡◌, refl, sym, ap, ◌∙◌}
use mathlib.Core.List.{map}
use Prim.Native.Nat.{◌+◌, ◌*◌, ◌/◌, ◌%◌, ◌≤◌, ◌<◌}
use native.Mathlib.Nat.{le_trans, mod-le, min-le_left}
use native.Mathlib.Omega.{arith}
use lib.ListN.{length, get_or, take, drop, length-take}
use Rattle.rules.specs.Table.{listing, units_of, no_state, state_at}
use Rattle.rules.specs.Units.{whole}
use Rattle.rules.proofs.Lists.{every_weaker}
use Rattle.rules.proofs.Splitting.{split_part, split_rest}
use Rattle.words.specs.Tables.{table_of}
use Rattle.words.proofs.Tables.{fits_table, row_at}
use Rattle.tables.proofs.Reading.{states_read}
use Rattle.tables.proofs.Scratch.{scratch_more, scratch_rising, scratch_stays, slot_reads, stretch_long}
use Rattle.estimate.specs.Splitting.{rest_in}
use Rattle.estimate.proofs.Adding.{added_none, added_rising, added_few, made_next, made_all}
use Rattle.estimate.proofs.LeftOver.{rest_put, sum_next, sum_to, sum_all, part_done, part_kept, parts_same}
use Rattle.estimate.proofs.RunListing.{state_there}
use Rattle.estimate.proofs.Runs.{state_has}
use Rattle.estimate.proofs.rests.split_run.Goals as goal

pub loop-i-init : goal.loop-i-init
loop-i-init c = let a = c.args in
    let W = table_of a.work.now in
    let X = take a.rests.states (drop 4096 W) in (
      rw (added_none (map (rest_in a.ways a.own) (take a.m (drop (a.from + a.start) W))) X) (scratch_stays states_read X a.rests.states a.work.now (omega (arith, c.requires.3, c.requires.2)) refl),
      omega arith,
      (λ j l. absurd (omega arith)),
      parts_same a.ways a.from W a.parts.now,
    )

pub add_rest-so_far-requires : goal.add_rest-so_far-requires
add_rest-so_far-requires c = let a = c.args in let p = c.requires in
    let l = c.loop-i in
    let test = c.loop-i-test in
    let split = c.split-share in
    let S = take a.m (drop (a.from + a.start) (table_of a.work.now)) in
    let X = take a.rests.states (drop 4096 (table_of a.work.now)) in
    let U = map (rest_in a.ways a.own) S in
    let place = a.from + a.start + l.i in
    let s = state_at (table_of l.work) place in
    let low : l.i < length S = omega (arith, stretch_long (a.from + a.start) a.m (table_of a.work.now) (omega (arith, p.0, fits_table a.work.now 4096 (omega (arith, p.2)))), test.true) in
    let read = slot_reads listing _ _ _ _ l.invariant.0 (a.from + a.start) a.m l.i s (omega (arith, test.true)) p.0 refl in
    let few = state_has (λ s. (s.misses ≤ 4095) × (units_of s ≤ whole)) S l.i low p.6 in
    let units : units_of s ≡ get_or l.work (place * 5 + 4) 0 = ap units_of (row_at l.work place no_state (omega (arith, p.0, p.2, l.auto.work, test.true))) in (
      omega (arith, p.0, p.2, l.auto.work, test.true),
      rw read few.0,
      omega (arith, l.invariant.0.count, added_few U X l.i, length-take a.rests.states (drop 4096 (table_of a.work.now)), min-le_left a.rests.states (length (drop 4096 (table_of a.work.now))), p.2, p.3, l.auto.work, test.true),
      scratch_rising listing _ _ _ _ l.invariant.0 (added_rising U X l.i p.5),
      omega (
        arith,
        p.4,
        test.true,
        l.invariant.1,
        sum_to (λ s. units_of s % a.ways) whole S (every_weaker (λ s. (s.misses ≤ 4095) × (units_of s ≤ whole)) (λ s. units_of s % a.ways ≤ whole) (λ s q. le_trans (mod-le (units_of s) a.ways) q.1) S p.6) l.i,
        split_rest split.result _ a.ways split.ensures,
        mod-le (get_or l.work (place * 5 + 4) 0) a.ways,
        units,
        ap units_of read,
        few.1,
      ),
    )

pub loop-i-preserved : goal.loop-i-preserved
loop-i-preserved c = let a = c.args in let p = c.requires in
    let l = c.loop-i in
    let test = c.loop-i-test in
    let split = c.split-share in
    let added = c.add_rest-so_far in
    let W = table_of a.work.now in
    let S = take a.m (drop (a.from + a.start) W) in
    let X = take a.rests.states (drop 4096 W) in
    let U = map (rest_in a.ways a.own) S in
    let place = a.from + a.start + l.i in
    let s = state_at (table_of l.work) place in
    let low : l.i < length S = omega (arith, stretch_long (a.from + a.start) a.m W (omega (arith, p.0, fits_table a.work.now 4096 (omega (arith, p.2)))), test.true) in
    let read = slot_reads listing _ _ _ _ l.invariant.0 (a.from + a.start) a.m l.i s (omega (arith, test.true)) p.0 refl in
    let units : units_of s ≡ get_or l.work (place * 5 + 4) 0 = ap units_of (row_at l.work place no_state (omega (arith, p.0, p.2, l.auto.work, test.true))) in
    let rest : split.result.rest.0 ≡ units_of s % a.ways = split_rest split.result _ a.ways split.ensures ∙ ap (◌% a.ways) (sym units) in
    let part : split.result.part.0 ≡ units_of (state_at W place) / a.ways =
    split_part split.result _ a.ways split.ensures ∙ ap (◌/ a.ways) (sym units ∙ ap units_of (read ∙ state_there W (a.from + a.start) a.m l.i (omega (arith, test.true)))) in (
      rw (← made_next (rest_in a.ways a.own) S X l.i s low read) (scratch_more listing _ _ _ _ l.invariant.0 _ _ _ (rest_put a.ways a.own s _ rest _ _ _ _ added.ensures.0)),
      omega (arith, added.ensures.1, l.invariant.1, rest, sum_next (λ s. units_of s % a.ways) S l.i s low read),
      part_done a.ways a.from a.start W a.parts.now l.parts l.i _ (omega (arith, p.1, l.auto.parts, test.true)) part l.invariant.2,
      part_kept a.ways a.from a.start W a.parts.now l.parts l.i _ (omega (arith, p.1, l.auto.parts, test.true)) part l.invariant.3,
    )

pub returns : goal.returns
returns c = let a = c.args in let l = c.loop-i in
    let W = table_of a.work.now in
    let S = take a.m (drop (a.from + a.start) W) in
    let past : l.i ≡ a.m = omega (arith, l.auto.i-end, c.loop-i-test.false) in
    let short : length S ≤ l.i = omega (arith, length-take a.m (drop (a.from + a.start) W), min-le_left a.m (length (drop (a.from + a.start) W))) in record { in_scratch = rw (← made_all (rest_in a.ways a.own) S (take a.rests.states (drop 4096 W)) l.i short) l.invariant.0; left_value = l.invariant.1 ∙ ap (a.rests.left +◌) (sum_all (λ s. units_of s % a.ways) S l.i short); by_index = (λ j k. l.invariant.2 j (omega arith), l.invariant.3) }
