-- `free_slot` meets its contract: where a slot is taken, the first free one is among those behind it.
use Rattle.std.proofs.Common.{sym, ◌∙◌, arith}
use Rattle.rules.specs.Input.{edges_of}
use Rattle.tight_slots.specs.Slots.{is_taken}
use Rattle.tight_slots.proofs.Found.{free_next}
use Rattle.tight_slots.proofs.free_slot.Goals as goal

pub loop-slot-preserved : goal.loop-slot-preserved
loop-slot-preserved c =
    let l = c.loop-slot in
    let a = c.args in
    free_next (is_taken (edges_of a.edges.now) a.v a.slots.now a.v) a.v _ l.slot l.invariant (omega arith) (sym c.is_taken.ensures ∙ c.if-not-is_taken.false)
