use Rattle.pass_readers.proofs.LendLemmas.{may_join}
use Rattle.pass_readers.proofs.lend.take_in.Goals as goal

pub join_as-requires-clause-may : goal.join_as-requires-clause-may
join_as-requires-clause-may c =
    may_join c.args.accounts.now.config c.args.seat.now.me.0 c.args.number c.args.reader.me.0 c.requires.pass
    c.requires.reader
