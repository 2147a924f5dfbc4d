-- `add_rest` lends the scratch to `put_about`, if there are any units.
use mathlib.Core.Path.{◌≡◌, ap, ◌∙◌}
use mathlib.Core.List.{List}
use Prim.Native.Nat.{ℕ, ◌+◌, ◌≤◌}
use native.Mathlib.Numerals.{add-one}
use native.Mathlib.Omega.{arith}
use lib.ListN.{take, drop}
use Rattle.rules.specs.declared.State.{State}
use Rattle.rules.specs.Table.{listing, state, state_at}
use Rattle.words.specs.Tables.{table_of}
use Rattle.tables.proofs.Reading.{states_read}
use Rattle.tables.proofs.Scratch.{part_table, part_long, lent_inserted, scratch_stays}
use Rattle.estimate.specs.Sharing.{share_of}
use Rattle.estimate.proofs.Adding.{add_gone}
use Rattle.estimate.proofs.Runs.{next_put}
use Rattle.estimate.proofs.rests.add_rest.Goals as goal

pub returns-then-rest-eq0 : goal.returns-then-rest-eq0
returns-then-rest-eq0 c = let a = c.args in
    (scratch_stays states_read _ a.rests.states a.work.now (omega (arith, c.requires.2)) (add_gone (share_of a.own (state_at (table_of a.work.now) a.place) a.rest) c.if-rest-eq0.true _), omega (arith, c.if-rest-eq0.true))

-- the misses of the state that was read
few : (m : State) (W : List State) (p : ℕ) → m ≡ state_at W p → (state_at W p).misses ≤ 4095 → m.misses ≤ 4095
few m W p e h = rw e h

pub put_about-put-requires : goal.put_about-put-requires
put_about-put-requires c = let r = c.load-s in
    let w = c.args.work.now in (
      omega (arith, c.requires.2, part_long states_read w 4096),
      omega (arith, few r.result (table_of w) c.args.place r.ensures c.requires.1),
      rw (part_table states_read w 4096) c.requires.3,
    )

pub returns : goal.returns
returns c = let a = c.args in
    let r = c.load-s in
    let e = c.put_about-put.ensures in
    let W = table_of a.work.now in
    let put = lent_inserted states_read listing _ a.rests.states _ a.work.now _ (omega (arith, c.requires.2)) e.0 in
    (next_put _ (share_of a.own (state_at W a.place) a.rest) (made a.own a.rest r.result (state_at W a.place) r.ensures) c.if-rest-eq0.false (take a.rests.states (drop 4096 W)) _ _ _ put, omega arith)
  where
    made : (o u : ℕ) (s t : State) → s ≡ t → state o (s.misses + 1) s.filled u ≡ share_of o t u
    made o u s t e = ap (λ (n : ℕ). state o n s.filled u) (add-one s.misses) ∙ ap (λ (t : State). share_of o t u) e
