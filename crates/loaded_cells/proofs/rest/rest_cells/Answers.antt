use Rattle.std.proofs.Common.{◌<◌, arith, length}
use Rattle.loaded_cells.proofs.CountLemmas.{few_at}
use Rattle.loaded_cells.proofs.WordLemmas.{rest_more}
use Rattle.loaded_cells.proofs.rest.rest_cells.Goals as goal

pub settled-requires : goal.settled-requires
settled-requires c =
    let counts = c.args.counts.now in
    let less : c.cells.cell < length counts =
    let test = c.cells-test.true in let end = c.cells.auto.cell-end in omega arith in
    few_at counts c.cells.cell _ c.requires.few less

pub cells-preserved : goal.cells-preserved
cells-preserved c =
    let counts = c.args.counts.now in
    let less : c.cells.cell < length counts =
    let test = c.cells-test.true in let end = c.cells.auto.cell-end in omega arith in
    rest_more counts c.cells.cell _ c.cells.resting.items c.push.new.self.items c.settled.result less
    c.cells.invariant c.in_ok-push.ensures.items c.settled.ensures
