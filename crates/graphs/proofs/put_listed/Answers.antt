-- `put_listed` meets its contract: 9 for numbers that are not complete, then the refusal of the listing, then the curve program's input with its graph; a refusal
-- leaves the rooms as they were.
use mathlib.Core.Path.{refl}
use native.Mathlib.Omega.{arith}
use Rattle.listing.proofs.Calls.{expansion_refused, expansion_kept, expansion_shown}
use Rattle.writing.proofs.Putting.{put_is}
use Rattle.writing.proofs.Told.{cleared}
use Rattle.graphs.proofs.Places.{listing_ends, listing_cut}
use Rattle.graphs.proofs.Inputs.{listing_incomplete, incomplete_unexpanded, listing_refused, refused_unexpanded, listing_shown, shown_expanded, graph_refused, graph_worked}
use Rattle.graphs.proofs.put_listed.Goals as goal

pub returns-then-end_of-numbers : goal.returns-then-end_of-numbers
returns-then-end_of-numbers c =
    let cut = listing_cut _ _ _ c.end_of-first.ensures c.end_of.ensures c.if-end_of-numbers.true in
    graph_refused _ _ _ _ _ (incomplete_unexpanded _ cut) (put_is _ _ _ _ _ _ c.put_refused.ensures (listing_incomplete _ cut)) refl refl refl

pub expand_from-requires : goal.expand_from-requires
expand_from-requires c = (listing_ends _ _ _ c.end_of-first.ensures c.end_of.ensures c.if-end_of-numbers.false).to

pub put_expanded-requires : goal.put_expanded-requires
put_expanded-requires c =
    let p = c.requires in
    let parts = listing_ends _ _ _ c.end_of-first.ensures c.end_of.ensures c.if-end_of-numbers.false in
    let s = expansion_shown _ _ _ _ p.0 p.1 p.2 _ _ _ _ c.expand_from.ensures _ c.in-Ok.is in (
      parts.from,
      omega (arith, parts.to),
      omega (arith, s.few_nodes, c.expand_from.auto.runs, p.0),
      omega (arith, s.few_accesses, c.expand_from.auto.accesses, p.1),
      omega (arith, s.few_edges, c.expand_from.auto.edges, p.2),
    )

pub returns-in-Err : goal.returns-in-Err
returns-in-Err c =
    let p = c.requires in
    let parts = listing_ends _ _ _ c.end_of-first.ensures c.end_of.ensures c.if-end_of-numbers.false in
    let refused = expansion_refused _ _ _ _ p.0 p.1 p.2 _ _ _ _ c.expand_from.ensures _ c.in-Err.is in
    let kept = expansion_kept _ _ _ _ p.0 p.1 p.2 _ _ _ _ c.expand_from.ensures _ c.in-Err.is in
    graph_refused _ _ _ _ _ (refused_unexpanded _ _ parts _ refused)
    (put_is _ _ _ _ _ _ c.put_refused-in-Err.ensures (listing_refused _ _ parts _ _ c.number.ensures refused))
    kept.0 kept.1 kept.2

pub returns-in-Ok : goal.returns-in-Ok
returns-in-Ok c =
    let p = c.requires in
    let parts = listing_ends _ _ _ c.end_of-first.ensures c.end_of.ensures c.if-end_of-numbers.false in
    let s = expansion_shown _ _ _ _ p.0 p.1 p.2 _ _ _ _ c.expand_from.ensures _ c.in-Ok.is in
    let wrote = c.put_expanded.ensures in
    let e = c.expand_from in
    graph_worked _ _ _ _ _ (shown_expanded _ _ parts _ _ _ _ _ _ s) (put_is _ _ _ _ _ _ wrote.put (listing_shown _ _ parts _ _ _ _ _ _ s))
    (cleared _ e.new.runs _ wrote.runs e.auto.runs)
    (cleared _ e.new.accesses _ wrote.accesses e.auto.accesses)
    (cleared _ e.new.edges _ wrote.edges e.auto.edges)
