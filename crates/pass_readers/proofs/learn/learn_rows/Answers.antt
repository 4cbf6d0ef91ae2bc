use Rattle.pass_steps.specs.RuleModel.Places.{lines}
use Rattle.pass_steps.proofs.RuleModel.NoteStepLemmas.{reader_learns}
use Rattle.pass_readers.specs.Readers.{read_in}
use Rattle.pass_readers.proofs.learn.learn_rows.Goals as goal

pub change-requires-clause-may : goal.change-requires-clause-may
change-requires-clause-may c heap =
    let z = c.args.store.now.accounts.config in
    let seat = c.args.reader.now.account in
    reader_learns z (lines z.passes) heap seat.table_id.slots seat.id seat.me (read_in seat.me.0) c.requires.reads
