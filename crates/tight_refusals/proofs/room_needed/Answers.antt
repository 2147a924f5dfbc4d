-- `room_needed` answers 0 for a refusal, and otherwise adds up the words.
use Rattle.std.proofs.Common.{◌≡◌, sym, ◌∙◌, Ok}
use Rattle.rules.specs.Answers.{first}
use Rattle.tight_rules.specs.Asked.{asked_in}
use Rattle.tight_rules.specs.Rooms.{table_words, room_needed}
use Rattle.tight_rules.specs.Refusals.{before_rooms}
use Rattle.tight_refusals.proofs.Judging.{few, needed, none_needed}
use Rattle.tight_refusals.proofs.room_needed.Goals as goal
use Rattle.tight_refusals.proofs.room_needed.Goals.{In-Ok}

-- it is accepted
passes : (c : In-Ok) →
    let a = c.args in
    (Ok tt) ≡ first (before_rooms (asked_in a.cache a.contents a.cells a.tracked.now a.runs.now a.accesses.now a.edges.now 0 0))
passes c = sym c.in-Ok.is ∙ c.judge_graph.ensures

pub words_needed-requires : goal.words_needed-requires
words_needed-requires c =
    let f = few _ (passes (goal.at.words_needed-requires c).In-Ok) in (f.contents, f.cells, f.graph.few_tracked, f.graph.few_nodes, f.graph.few_accesses)

pub returns-in-Err : goal.returns-in-Err
returns-in-Err c = none_needed _ _ (sym c.in-Err.is ∙ c.judge_graph.ensures)

pub returns-in-Ok : goal.returns-in-Ok
unfolding room_needed table_words
returns-in-Ok c = needed _ (passes (goal.at.returns-in-Ok c).In-Ok) _ c.words_needed.ensures
