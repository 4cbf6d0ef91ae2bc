use Rattle.std.proofs.Common.{◌∙◌, sym, subst}
use Rattle.latch_table.specs.Latched.{IsPassSeat}
use Rattle.latch_table.proofs.HeldLemmas.{seat_looked}
use Rattle.latch_table.proofs.LatchLaws.{looks}
use Rattle.latch_table.proofs.cells.Cells.version.Goals as goal

pub load-requires : goal.load-requires
load-requires g c =
    let key = c.args.self.now.table.now.key in
    let slots = c.args.self.now.table.now.table_id.slots in (
      c.requires.pass.table,
      c.requires.cell,
      looks g.V.Slot.fits (g.V.Slot.passes key) key slots c.args.pass.now.id c.args.pass.now.me c.args.cell,
    )

pub returns-clause-pass : goal.returns-clause-pass
returns-clause-pass g c =
    let key = c.args.self.now.table.now.key in
    let me = c.args.pass.now.me in
    let seat = seat_looked (g.V.Slot.passes key) key me.0 me.1 c.requires.pass.seat c.args.cell c.load.result in
    record {
      table = c.load.ensures.0 ∙ c.requires.pass.table;
      seat = subst (IsPassSeat (g.V.Slot.passes key) key) (sym c.load.ensures.2) seat;
    }
