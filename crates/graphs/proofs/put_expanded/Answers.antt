-- `put_expanded` meets its contract: what stands at the front of the rooms is put, and then they are cleared.
use mathlib.Core.Path.{sym, ap}
use Prim.Native.Nat.{ℕ, ◌-◌, ◌*◌}
use native.Mathlib.Omega.{arith}
use lib.ListN.{get_or, take, drop}
use lib.Seq.{length-take-le}
use Rattle.writing.proofs.Putting.{put_is}
use Rattle.graphs.specs.Listings.{input_lines}
use Rattle.graphs.proofs.put_expanded.Goals as goal

pub slice_bounds-put_graph-end-2 : goal.slice_bounds-put_graph-end-2
slice_bounds-put_graph-end-2 c = sym (length-take-le c.args.size.nodes c.args.runs.now c.requires.2)

pub slice_bounds-put_graph-end-4 : goal.slice_bounds-put_graph-end-4
slice_bounds-put_graph-end-4 c = sym (length-take-le c.args.size.accesses c.args.accesses.now c.requires.3)

pub slice_bounds-put_graph-end-6 : goal.slice_bounds-put_graph-end-6
slice_bounds-put_graph-end-6 c = sym (length-take-le (c.args.size.edges * 2) c.args.edges.now c.requires.4)

pub put_graph-end-requires : goal.put_graph-end-requires
put_graph-end-requires c =
    (omega (arith, c.last_shown-last.ensures, c.requires.0), omega (arith, c.last_shown-last.ensures, c.requires.1))

pub returns : goal.returns
returns c =
    let a = c.args in
    let ns = a.numbers.now in
    record {
      put =
          put_is _ _ _ _ _ _ c.put_graph-end.ensures
          (ap (λ (k : ℕ). input_lines (get_or ns 0 0) (get_or ns 1 0) (take (k - 3) (drop 3 ns)) (take a.size.nodes a.runs.now) (take a.size.accesses a.accesses.now) (take (a.size.edges * 2) a.edges.now))
          c.last_shown-last.ensures);
      runs = c.fill.ensures.after (λ y p. p);
      accesses = c.fill-2.ensures.after (λ y p. p);
      edges = c.fill-3.ensures.after (λ y p. p);
    }
