-- `gather` works few states one by one. Of more it lists the runs, puts what is left over first, and then all that is to come of the runs behind it and among it: these are the access's
-- successors.
use mathlib.Core.Path.{◌≡◌, sym, ap, ◌∙◌, subst}
use mathlib.Core.List.{List, [], map}
use Prim.Native.Nat.{ℕ, ◌-◌, ◌≤◌}
use native.Mathlib.Nat.{le_refl}
use native.Mathlib.Omega.{arith}
use lib.ListN.{length, get_or, take, drop, length-take, get_or-replicate}
use Rattle.rules.specs.declared.State.{State}
use Rattle.rules.specs.declared.Units.{Units}
use Rattle.rules.specs.Table.{listing, add}
use Rattle.rules.specs.Units.{add_of, more}
use Rattle.words.specs.Tables.{table_of}
use Rattle.rules.proofs.Table.{rising_is, rising_add}
use Rattle.estimate.specs.Merging.{alone}
use Rattle.tables.proofs.Scratch.{scratch_more, scratch_rising, slot_same}
use Rattle.estimate.proofs.Gathering.{all_wait, beyond_as}
use Rattle.estimate.proofs.Mixing.{all_to_come}
use Rattle.estimate.proofs.Runs.{gathered_is}
use Rattle.estimate.proofs.merge.gather.Goals as goal

pub put_heads-states-requires : goal.put_heads-states-requires
put_heads-states-requires c =
    let a = c.args in let p = c.requires in
    let T = table_of a.work.now in
    let S = take a.m (drop a.from T) in
    let l = c.list_runs-count in
    let r = c.split_runs-rests in
    let few : l.result ≤ 64 = omega (arith, l.ensures.few, p.2, length-take a.m (drop a.from T)) in
    let end : length l.new.heads - 1 ≡ 64 = omega (arith, l.ensures.same) in
    let come = all_to_come S a.ways a.x (take l.result l.new.heads) l.ensures.listed in
    let is = gathered_is a.ways a.x S p.1 p.6 in
    let same = slot_same listing _ _ _ _ r.ensures.in_scratch a.from a.m p.3 in (
      p.0,
      p.1,
      p.2,
      p.3,
      omega (arith, p.4, r.auto.work),
      omega (arith, r.auto.parts),
      rw same p.6,
      rw same p.7,
      omega (arith, few, l.ensures.same),
      omega (arith, l.ensures.same),
      beyond_as l.result _ _ l.ensures.beyond l.result (le_refl _) ∙ get_or-replicate 65 l.result 18446744073709551615 0 (omega (arith, few)),
      ap (λ (i : ℕ). get_or l.new.heads i 0) end ∙ beyond_as l.result _ _ l.ensures.beyond 64 few ∙ get_or-replicate 65 64 18446744073709551615 0 (omega arith),
      rw same (all_wait a.ways a.x S r.new.parts (take l.result l.new.heads) l.ensures.listed.heads r.ensures.every),
      r.ensures.in_scratch.count ∙ ap length (sym r.ensures.in_scratch.table),
      scratch_rising listing _ _ _ _ r.ensures.in_scratch (rising_is (add (map (alone a.ways a.x) S) []) (rising_add (map (alone a.ways a.x) S) [] tt)),
      rw (same, r.ensures.in_scratch.table) (subst (λ (Y : List State). length Y ≤ 1088) (sym (come (add (map (alone a.ways a.x) S) []))) (is.1 (omega (arith, p.2, length-take a.m (drop a.from T))))),
    )

pub returns : goal.returns
unfolding add_of more
returns c =
    let a = c.args in let p = c.requires in
    let S = take a.m (drop a.from (table_of a.work.now)) in
    let l = c.list_runs-count in
    let r = c.split_runs-rests in
    let same = slot_same listing _ _ _ _ r.ensures.in_scratch a.from a.m p.3 in
    let come = all_to_come S a.ways a.x (take l.result l.new.heads) l.ensures.listed in record { in_scratch = rw (← (gathered_is a.ways a.x S p.1 p.6).0, ← come (add (map (alone a.ways a.x) S) [])) (scratch_more listing _ _ _ _ r.ensures.in_scratch _ _ _ (rw same at c.put_heads-states.ensures)); aside_value = ap (λ (u : Units). u.0) c.add-aside.ensures ∙ ap (more a.aside.0) r.ensures.left_value }
