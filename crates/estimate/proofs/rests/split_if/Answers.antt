-- `split_if` does nothing where nothing can be lost, as the head says or the contents of the first state; otherwise every state of the run can lose a block, and what is left over of it is the remainder.
use mathlib.Core.Path.{◌≡◌, sym, ap, ◌∙◌}
use mathlib.Core.Logic.{◌≢◌}
use mathlib.Core.List.{List, map}
use Prim.Native.Nat.{ℕ, ◌+◌, ◌%◌, ◌≤◌}
use native.Mathlib.Omega.{arith}
use lib.ListN.{length, take, drop}
use Rattle.basics.specs.Sums.{sum_over}
use Rattle.rules.specs.Contents.{shared}
use Rattle.rules.specs.Table.{units_of}
use Rattle.rules.specs.Units.{whole}
use Rattle.rules.proofs.Lists.{every_weaker}
use Rattle.words.specs.Tables.{table_of}
use Rattle.words.proofs.Tables.{fits_table}
use Rattle.tables.proofs.Reading.{states_read}
use Rattle.tables.proofs.Scratch.{scratch_stays, stretch_long}
use Rattle.heads.specs.Head.{length_in, start_in}
use Rattle.estimate.specs.Following.{Workable}
use Rattle.estimate.specs.Merging.{alone}
use Rattle.estimate.specs.Splitting.{rest_in}
use Rattle.estimate.specs.ToCome.{run_in, mask_in}
use Rattle.estimate.proofs.LeftOver.{split_done, mask_there, still_added, still_left, still_split, still_kept, still_safe, run_loses, loses_added, loses_left, parts_same}
use Rattle.estimate.proofs.HeadByHead.{stretch_has}
use Rattle.estimate.proofs.RunListing.{run_there}
use Rattle.estimate.proofs.rests.split_if.Goals as goal

-- the m states at place `from`, of a room for them
long : (from m : ℕ) (ws : List ℕ) → from + m ≤ 4096 → 25920 ≤ length ws → length (take m (drop from (table_of ws))) ≡ m
long from m ws l room = stretch_long from m (table_of ws) (omega (arith, fits_table ws 4096 (omega arith)))

pub returns-then-not-keeps_in : goal.returns-then-not-keeps_in
returns-then-not-keeps_in c = let a = c.args in let p = c.requires in
    let T = take a.m (drop a.from (table_of a.work.now)) in
    let still = still_kept a.ways a.x T a.head p.11 (sym c.keeps_in.ensures ∙ c.if-not-keeps_in.true) in record { in_scratch = scratch_stays states_read _ a.rests.states a.work.now (omega (arith, p.5, p.7)) (still_added a.ways a.x T a.head still _); left_value = omega (arith, still_left a.ways a.x T a.head still); split_in = (still_split a.ways a.x T a.head still p.11.0.inside a.parts.now, parts_same a.ways a.from (table_of a.work.now) a.parts.now) }

pub returns-then-held_of-eq0 : goal.returns-then-held_of-eq0
returns-then-held_of-eq0 c = let a = c.args in let p = c.requires in
    let T = take a.m (drop a.from (table_of a.work.now)) in
    let within : start_in a.head + length_in a.head ≤ a.m = omega (arith, p.11.0.inside, long a.from a.m a.work.now p.4 p.5) in
    let safe : shared (mask_in T a.head) a.x.mates ≡ 0 =
    ap (λ (C : ℕ). shared C a.x.mates) (mask_there a.from a.m a.work.now a.head _ c.start_in-start.ensures (omega (arith, within, p.11.0.some)) (omega (arith, p.4, p.5)))
    ∙ sym c.held_of.ensures ∙ c.if-held_of-eq0.true in
    let still = still_safe a.ways a.x T a.head p.11 safe in record { in_scratch = scratch_stays states_read _ a.rests.states a.work.now (omega (arith, p.5, p.7)) (still_added a.ways a.x T a.head still _); left_value = omega (arith, still_left a.ways a.x T a.head still); split_in = (still_split a.ways a.x T a.head still p.11.0.inside a.parts.now, parts_same a.ways a.from (table_of a.work.now) a.parts.now) }

pub split_run-requires : goal.split_run-requires
split_run-requires c = let a = c.args in let p = c.requires in
    let W = table_of a.work.now in
    let T = take a.m (drop a.from W) in
    let start = c.start_in-start.ensures in
    let n = c.length_in.ensures in
    let within : start_in a.head + length_in a.head ≤ a.m = omega (arith, p.11.0.inside, long a.from a.m a.work.now p.4 p.5) in (
      omega (arith, start, n, within, p.4),
      omega (arith, start, n, within, p.3, p.6),
      p.5,
      omega (arith, n, within, p.3, p.7),
      omega (arith, n, within, p.3, p.8),
      p.9,
      rw (start, n, ← run_there W a.from a.m (start_in a.head) (length_in a.head) within)
          (every_weaker (Workable a.ways a.x) (λ s. (s.misses ≤ 4095) × (units_of s ≤ whole)) (λ s q. (q.0, q.1)) (run_in T a.head) (stretch_has T (start_in a.head) (length_in a.head) (Workable a.ways a.x) p.10)),
    )

pub returns : goal.returns
returns c = let a = c.args in let p = c.requires in
    let W = table_of a.work.now in
    let T = take a.m (drop a.from W) in
    let s = c.start_in-start in
    let start = s.ensures in
    let l = c.length_in in
    let n = l.ensures in
    let r = c.split_run in
    let e = r.ensures in
    let within : start_in a.head + length_in a.head ≤ a.m = omega (arith, p.11.0.inside, long a.from a.m a.work.now p.4 p.5) in
    let held : shared (mask_in T a.head) a.x.mates ≢ 0 =
    λ z. c.if-held_of-eq0.false
    (c.held_of.ensures
    ∙ sym (ap (λ (C : ℕ). shared C a.x.mates) (mask_there a.from a.m a.work.now a.head _ start (omega (arith, within, p.11.0.some)) (omega (arith, p.4, p.5)))) ∙ z) in
    let loses = run_loses a.ways a.x T a.head p.11 (sym c.keeps_in.ensures ∙ c.if-not-keeps_in.false) held in
    let run : take l.result (drop (a.from + s.result) W) ≡ run_in T a.head = rw (start, n) (sym (run_there W a.from a.m (start_in a.head) (length_in a.head) within)) in
    let same : map (rest_in a.ways a.own) (take l.result (drop (a.from + s.result) W)) ≡ map (alone a.ways a.x) (run_in T a.head) =
    ap (map (rest_in a.ways a.own)) run ∙ loses_added a.ways a.x p.1 p.0.1 a.own p.2 (run_in T a.head) loses in record { in_scratch = rw (← same) e.in_scratch; left_value = e.left_value ∙ ap (a.rests.left +◌) (ap (sum_over (λ s. units_of s % a.ways)) run ∙ loses_left a.ways a.x (run_in T a.head) loses); split_in = (split_done a.from a.m W a.ways a.x r.new.parts a.head s.result l.result start n within e.by_index.0, e.by_index.1) }
