use Rattle.pass_readers.proofs.LookLemmas.{joined_nothing}
use Rattle.pass_readers.proofs.looks.join_nothing.Goals as goal

pub returns : goal.returns
returns c = joined_nothing _ c.args.seat.now c.join.new.seat c.args.nothing c.requires.nothing c.join.ensures.both
