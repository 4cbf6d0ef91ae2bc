use Rattle.pass_readers.proofs.HandLemmas.{cells_none, pass_keeps_reader, takes}
use Rattle.pass_readers.specs.Readers.{read_by}
use Rattle.pass_readers.proofs.hand.take_cells.Goals as goal

pub take-requires-clause-none : goal.take-requires-clause-none
take-requires-clause-none g c =
    let none = c.requires.none in
    (cells_none c.args.store.now (read_by c.args.reader.now) c.args.reader.now none.of none.none, none.cells)

pub returns-clause-hand : goal.returns-clause-hand
returns-clause-hand g c =
    let none = c.requires.none in
    takes c.args.store.now c.args.reader.now c.take.new.pass c.take.ensures.kept _ none.of none.none c.take.ensures.holds

pub returns-clause-kept : goal.returns-clause-kept
returns-clause-kept g c =
    pass_keeps_reader c.args.store.now c.args.reader.now c.take.new.pass c.take.ensures.kept
