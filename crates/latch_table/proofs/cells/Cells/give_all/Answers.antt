use Rattle.std.proofs.Common.{ap}
use Rattle.latch_table.specs.declared.sight.LatchSight.{LatchSight}
use Rattle.latch_table.proofs.SeveralLemmas.{given_back}
use Rattle.latch_table.proofs.cells.Cells.give_all.Goals as goal

pub returns-clause-stored : goal.returns-clause-stored
returns-clause-stored g c =
    let put = c.put_back_all.ensures in
    given_back _ c.args.held.now.items _ c.args.pass.now.me.0.stored _ put.words
    (ap (λ (v : LatchSight _). v.stored) put.view) c.release_all.ensures.stored
