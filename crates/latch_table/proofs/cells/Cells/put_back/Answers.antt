use Rattle.std.proofs.Common.{◌∙◌, sym, ap, subst}
use Rattle.atomic_table.specs.Table.{rest, turned}
use Rattle.latch_table.specs.Latched.{IsPassSeat}
use Rattle.latch_table.proofs.HeldLemmas.{seat_put}
use Rattle.latch_table.proofs.cells.Cells.put_back.Goals as goal

pub returns-clause-pass : goal.returns-clause-pass
returns-clause-pass g c =
    let key = c.args.self.now.table.now.key in
    let me = c.args.pass.now.me in
    let seat = seat_put (g.V.Slot.passes key) key me.0 me.1 c.requires.pass.seat c.args.held.cell
    g.V.Slot.vacant c.args.held.value (rest me.1) c.requires.holds in
    record {
      table = c.turn.ensures.0 ∙ (c.exchange-vacant.ensures.0 ∙ c.requires.pass.table);
      seat = subst (IsPassSeat (g.V.Slot.passes key) key)
          (sym (c.turn.ensures.2 ∙ ap (λ m. (m.0, turned m.1)) c.exchange-vacant.ensures.3)) seat;
    }
