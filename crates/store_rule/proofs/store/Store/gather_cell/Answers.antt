use Rattle.std.proofs.Common.{refl}
use Rattle.store_rule.proofs.store.Store.gather_cell.Goals as goal

pub returns-clause-gathered : goal.returns-clause-gathered
returns-clause-gathered c =
    let taken = c.take_in_cell-value.ensures c.args.held.cell c.requires.slot in
    (taken.0, record { number = refl; latch = refl; buffers = refl; account = taken.1 }, taken.2, taken.3)
