-- `has_bytes` meets its contract: 21 bytes for each number are left behind the first 63.
use Rattle.traces.proofs.Saying.{bytes_short, bytes_by_number}
use Rattle.traces.proofs.has_bytes.Goals as goal

pub returns-then-bytes-lt63 : goal.returns-then-bytes-lt63
returns-then-bytes-lt63 c = bytes_short _ _ c.if-bytes-lt63.true

pub returns : goal.returns
returns c = bytes_by_number _ _ c.if-bytes-lt63.false
