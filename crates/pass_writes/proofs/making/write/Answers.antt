use Rattle.std.proofs.Common.{◌∙◌}
use Rattle.pass_prunes.specs.RowWrites.Written.{rows_of}
use Rattle.pass_prunes.specs.PassCells.Taken.{rows_in}
use Rattle.pass_writes.proofs.ShortLemmas.{short_room}
use Rattle.pass_writes.proofs.making.write.Goals as goal

pub returns-clause-room : goal.returns-clause-room
returns-clause-room g c =
    let store = c.args.store.now in
    short_room store.accounts.config.kind c.args.write (rows_in c.take_cells.new.cells.taken) c.of-rows.result
    (c.of-rows.ensures ∙ (λ i. rows_of (c.config.ensures i).kind c.args.write)) c.write_in_hand-written.result
    c.write_in_hand-written.ensures.short
