-- `evenly` makes both words.
use Rattle.states.proofs.Numbers.{evenly_words}
use Rattle.states.proofs.filled.evenly.Goals as goal

pub returns : goal.returns
returns c = evenly_words c.args.sets c.args.n c.requires.0 _ _ c.word_of.ensures c.word_of-2.ensures
