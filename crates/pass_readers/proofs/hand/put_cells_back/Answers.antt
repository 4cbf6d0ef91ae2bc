use Rattle.pass_readers.proofs.HandLemmas.{pass_keeps_reader, puts_back}
use Rattle.pass_readers.proofs.hand.put_cells_back.Goals as goal

pub returns-clause-none : goal.returns-clause-none
returns-clause-none c =
    puts_back c.args.store.now c.args.reader.now c.put_back.new.pass c.put_back.ensures.kept _ _ c.requires.hand
    c.put_back.ensures.none.0 c.put_back.ensures.none.1

pub returns-clause-kept : goal.returns-clause-kept
returns-clause-kept c =
    pass_keeps_reader c.args.store.now c.args.reader.now c.put_back.new.pass c.put_back.ensures.kept
