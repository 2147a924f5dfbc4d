-- `room_for_graph` meets its contract: each early return is one test of the definition that fails.
use borrow.Author.Tests.{le-leb, lt-leb}
use Rattle.graphs.proofs.room_for_graph.Goals as goal

pub returns-then-numbers-lt16384 : goal.returns-then-numbers-lt16384
returns-then-numbers-lt16384 c = rw (lt-leb 16384 _ c.if-numbers-lt16384.true)

pub returns-then-runs-lt64 : goal.returns-then-runs-lt64
returns-then-runs-lt64 c = rw (le-leb 16384 _ c.if-numbers-lt16384.false, lt-leb 64 _ c.if-runs-lt64.true)

pub returns-then-accesses-lt4096 : goal.returns-then-accesses-lt4096
returns-then-accesses-lt4096 c = rw (le-leb 16384 _ c.if-numbers-lt16384.false, le-leb 64 _ c.if-runs-lt64.false, lt-leb 4096 _ c.if-accesses-lt4096.true)

pub returns-then-edges-lt4032 : goal.returns-then-edges-lt4032
returns-then-edges-lt4032 c =
    rw (le-leb 16384 _ c.if-numbers-lt16384.false, le-leb 64 _ c.if-runs-lt64.false, le-leb 4096 _ c.if-accesses-lt4096.false, lt-leb 4032 _ c.if-edges-lt4032.true)

pub returns : goal.returns
returns c =
    rw (le-leb 16384 _ c.if-numbers-lt16384.false, le-leb 64 _ c.if-runs-lt64.false, le-leb 4096 _ c.if-accesses-lt4096.false, le-leb 4032 _ c.if-edges-lt4032.false)
