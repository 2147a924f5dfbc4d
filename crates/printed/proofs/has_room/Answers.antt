-- `has_room` meets its contract: each early return is one test of the definition that fails.
use borrow.Author.Tests.{le-leb, lt-leb}
use Rattle.printed.proofs.has_room.Goals as goal

pub returns-then-res-lt320 : goal.returns-then-res-lt320
returns-then-res-lt320 c = rw (lt-leb 320 _ c.if-res-lt320.true)

pub returns-then-work-lt25920 : goal.returns-then-work-lt25920
returns-then-work-lt25920 c = rw (le-leb 320 _ c.if-res-lt320.false, lt-leb 25920 _ c.if-work-lt25920.true)

pub returns-then-counts-lt4097 : goal.returns-then-counts-lt4097
returns-then-counts-lt4097 c = rw (le-leb 320 _ c.if-res-lt320.false, le-leb 25920 _ c.if-work-lt25920.false, lt-leb 4097 _ c.if-counts-lt4097.true)

pub returns : goal.returns
returns c = rw (le-leb 320 _ c.if-res-lt320.false, le-leb 25920 _ c.if-work-lt25920.false, le-leb 4097 _ c.if-counts-lt4097.false, c.bytes_for.ensures)
