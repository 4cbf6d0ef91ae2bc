use Rattle.std.proofs.Common.{◌∙◌, ◌∷◌, ◌<◌, sym, ap, subst, arith}
use Rattle.atomic_table.specs.Table.{rest}
use Rattle.latch_table.specs.Latched.{IsPassSeat}
use Rattle.latch_table.proofs.HeldLemmas.{seat_looked}
use Rattle.latch_table.proofs.LatchLaws.{looks, takes_cell}
use Rattle.latch_table.proofs.cells.Cells.try_take.Goals as goal

pub load-found-requires : goal.load-found-requires
load-found-requires g c =
    let key = c.args.self.now.table.now.key in
    let slots = c.args.self.now.table.now.table_id.slots in (
      c.requires.pass.table,
      c.requires.cell,
      looks g.V.Slot.fits (g.V.Slot.passes key) key slots c.args.pass.now.id c.args.pass.now.me c.args.cell,
    )

pub compare_exchange-seen-requires : goal.compare_exchange-seen-requires
compare_exchange-seen-requires g c =
    let key = c.args.self.now.table.now.key in
    let slots = c.args.self.now.table.now.table_id.slots in
    let me = c.args.pass.now.me in
    let e = c.load-found.ensures in
    let inside = c.requires.cell in
    let odd = c.if-found-eq1.false in
    let seat = seat_looked (g.V.Slot.passes key) key me.0 me.1 c.requires.pass.seat c.args.cell
    c.load-found.result in (
      e.0 ∙ c.requires.pass.table,
      c.requires.cell,
      takes_cell g.V.Slot.fits (g.V.Slot.passes key) key slots c.load-found.new.seat.id c.load-found.new.seat.me
          c.args.cell c.load-found.result
          (subst (λ n. c.args.cell < n) c.args.self.now.square inside) (omega arith)
          (subst (IsPassSeat (g.V.Slot.passes key) key) (sym e.2) seat),
    )

pub exchange-value-requires : goal.exchange-value-requires
exchange-value-requires g c =
    let e = c.compare_exchange-seen.ensures in
    let h = e.2.hit c.if-seen-found.false in
    let same = ap (λ m. m.1) h.1 in (
      e.0 ∙ (c.load-found.ensures.0 ∙ c.requires.pass.table),
      (h.0, same ∙ ap (λ l. (c.args.cell, h.0) ∷ rest l) (sym same)),
    )
