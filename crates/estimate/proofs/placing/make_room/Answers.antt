-- `make_room` moves the words of the states from the place on up by those of one, and stores the new one there.
use Rattle.estimate.proofs.Moving.{put_in}
use Rattle.estimate.proofs.placing.make_room.Goals as goal

pub returns : goal.returns
returns c =
    put_in c.args.words.now _ _ c.args.n c.args.at c.args.s c.requires.0 c.requires.1 c.copy_within.ensures.after c.store.ensures
