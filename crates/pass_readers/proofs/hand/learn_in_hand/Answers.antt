use Rattle.pass_readers.proofs.HandLemmas.{stays_in_hand, step_keeps_reader}
use Rattle.pass_readers.proofs.hand.learn_in_hand.Goals as goal

pub returns-clause-hand : goal.returns-clause-hand
returns-clause-hand c =
    stays_in_hand c.args.store.now c.args.reader.now c.learn_rows.new.reader c.learn_rows.ensures.same _ c.requires.hand

pub returns-clause-kept : goal.returns-clause-kept
returns-clause-kept c =
    step_keeps_reader c.args.store.now c.args.reader.now c.learn_rows.new.reader c.learn_rows.ensures.same
