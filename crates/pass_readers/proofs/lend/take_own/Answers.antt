use Rattle.pass_steps.proofs.CutLemmas.{cuts_all}
use Rattle.pass_readers.proofs.lend.take_own.Goals as goal

pub cut_as-requires-clause-cut : goal.cut_as-requires-clause-cut
cut_as-requires-clause-cut c = cuts_all c.args.seat.now.me.0
