use Rattle.pass_readers.proofs.LendLemmas.{may_split}
use Rattle.pass_readers.proofs.lend.split_off.Goals as goal

pub split_as-requires-clause-may : goal.split_as-requires-clause-may
split_as-requires-clause-may c =
    may_split c.args.accounts.now.config c.args.seat.now.me.0 c.args.number c.requires.opened.0 c.requires.opened.1
