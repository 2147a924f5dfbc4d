-- `add_words` adds word by word. The invariant of its loop: the words before the next one are sums of what stood there, and the others are as they were.
use Rattle.tight_tables.specs.Copying.{words_more}
use Rattle.tight_rows.proofs.Writing.{Written}
use Rattle.tight_tables.proofs.copy.add_words.Given as goal

abbrev pub invariant-loop-j : goal.invariant-loop-j
invariant-loop-j l = Written l.to (words_more l.from l.to) l.j l.initial.work l.work
