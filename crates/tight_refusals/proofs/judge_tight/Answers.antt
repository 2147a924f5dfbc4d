-- `judge_tight` hands the refusal on that comes before the rooms if there is one; otherwise it looks at the result room, and then at the working room.
use Rattle.std.proofs.Common.{◌≡◌, sym, ◌∙◌, ℕ, List, Ok}
use Rattle.std.proofs.lemmas.Result.{err_from_is_err_and}
use Rattle.rules.specs.declared.Cache.{Cache}
use Rattle.rules.specs.Answers.{Verdict, first}
use Rattle.tight_rules.specs.Asked.{asked_in}
use Rattle.tight_rules.specs.Rooms.{table_words, room_needed}
use Rattle.tight_rules.specs.Refusals.{before_rooms}
use Rattle.tight_refusals.proofs.Judging.{few, refused_before, short_result, short_working, long_enough_lem}
use Rattle.tight_refusals.proofs.judge_tight.Goals as goal

-- what comes before the rooms does not look at them
same_before : (c : Cache) (K W : ℕ) (ts ns bs es : List ℕ) (r w : ℕ) {v u : Verdict} → v ≡ u → v ≡ first (before_rooms (asked_in c K W ts ns bs es 0 0))
    → u ≡ first (before_rooms (asked_in c K W ts ns bs es r w))
unfolding before_rooms
same_before c K W ts ns bs es r w is judged = sym is ∙ judged

pub returns-in_err-judge_graph : goal.returns-in_err-judge_graph
returns-in_err-judge_graph c =
    let a = c.args in
    let p = err_from_is_err_and c.from_residual.result c.from_residual.ensures.1 in
    rw (p.1, p.2) (refused_before _ _ (same_before a.cache a.contents a.cells a.tracked.now a.runs.now a.accesses.now a.edges.now a.result_room a.working_room c.in_err-judge_graph.was c.judge_graph.ensures))

pub returns-then-result_room-accesses : goal.returns-then-result_room-accesses
returns-then-result_room-accesses c =
    let a = c.args in
    let accepted = same_before a.cache a.contents a.cells a.tracked.now a.runs.now a.accesses.now a.edges.now a.result_room a.working_room c.in_ok-judge_graph.was c.judge_graph.ensures in
    short_result _ accepted c.if-result_room-accesses.true

pub words_needed-requires : goal.words_needed-requires
words_needed-requires c =
    let a = c.args in
    let f = few _ (same_before a.cache a.contents a.cells a.tracked.now a.runs.now a.accesses.now a.edges.now a.result_room a.working_room c.in_ok-judge_graph.was c.judge_graph.ensures) in
    (f.contents, f.cells, f.graph.few_tracked, f.graph.few_nodes, f.graph.few_accesses)

pub returns-then-working_room-words_needed : goal.returns-then-working_room-words_needed
unfolding room_needed table_words
returns-then-working_room-words_needed c =
    let a = c.args in
    let accepted = same_before a.cache a.contents a.cells a.tracked.now a.runs.now a.accesses.now a.edges.now a.result_room a.working_room c.in_ok-judge_graph.was c.judge_graph.ensures in
    short_working _ accepted c.if-result_room-accesses.false _ c.words_needed.ensures c.if-working_room-words_needed.true

pub returns : goal.returns
unfolding room_needed table_words
returns c =
    let a = c.args in
    let accepted = same_before a.cache a.contents a.cells a.tracked.now a.runs.now a.accesses.now a.edges.now a.result_room a.working_room c.in_ok-judge_graph.was c.judge_graph.ensures in
    long_enough_lem _ accepted c.if-result_room-accesses.false _ c.words_needed.ensures c.if-working_room-words_needed.false
