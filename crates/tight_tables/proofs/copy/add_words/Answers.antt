-- `add_words` adds word by word.
use Rattle.std.proofs.Common.{arith}
use Rattle.tight_tables.proofs.Copying.{word_more}
use Rattle.tight_tables.proofs.copy.add_words.Goals as goal

pub loop-j-preserved : goal.loop-j-preserved
loop-j-preserved c =
    let l = c.loop-j in
    let a = c.args in
    word_more a.from a.to a.width a.work.now l.work c.requires l.j (omega arith) l.invariant
