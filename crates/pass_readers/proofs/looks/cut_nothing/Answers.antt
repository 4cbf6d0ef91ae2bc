use Rattle.pass_readers.proofs.LookLemmas.{cuts_nothing}
use Rattle.pass_readers.proofs.looks.cut_nothing.Goals as goal

pub cut_as-requires-clause-cut : goal.cut_as-requires-clause-cut
cut_as-requires-clause-cut c = cuts_nothing c.args.seat.now.me.0
