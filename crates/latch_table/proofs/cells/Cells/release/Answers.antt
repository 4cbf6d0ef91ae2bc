use Rattle.std.proofs.Common.{◌∙◌, ◌≡◌, ◌<◌, ◌%◌, sym, subst, arith}
use Rattle.atomic_table.specs.Table.{rest}
use Rattle.latch_table.specs.Latched.{IsPassSeat}
use Rattle.latch_table.proofs.HeldLemmas.{seat_gave}
use Rattle.latch_table.proofs.LatchLaws.{gives_cell}
use Rattle.latch_table.proofs.cells.Cells.release.Goals as goal
use Rattle.latch_table.proofs.cells.Cells.release.Goals.{then-laid, else-laid}

pub store-requires : goal.store-requires
store-requires g c =
    let key = c.args.self.now.table.now.key in
    let slots = c.args.self.now.table.now.table_id.slots in
    let lies = c.requires.lies in
    let inside = c.requires.cell in
    let even = c.args.laid.even in (
      c.requires.pass.table,
      c.requires.cell,
      gives_cell g.V.Slot.fits (g.V.Slot.passes key) key slots c.args.pass.now.id c.args.pass.now.me
          c.args.laid.cell c.if-laid.word lies.0
          (subst (λ n. c.args.laid.cell < n) c.args.self.now.square inside)
          (elim c.if-laid.branch as (λ _. c.if-laid.word % 2 ≡ 0) [
            | then-laid w ↦ omega (
              arith,
              even,
              w,
            )
            | else-laid w ↦ omega (arith, even, w)
          ])
          c.requires.pass.seat lies.1 lies.2,
    )

pub returns-clause-pass : goal.returns-clause-pass
returns-clause-pass g c =
    let key = c.args.self.now.table.now.key in
    let me = c.args.pass.now.me in
    let lies = c.requires.lies in
    let seat = seat_gave (g.V.Slot.passes key) key me.0 me.1 c.requires.pass.seat c.args.laid.cell
    c.if-laid.word lies.0 (rest me.1) lies.1 in
    record {
      table = c.store.ensures.0 ∙ c.requires.pass.table;
      seat = subst (IsPassSeat (g.V.Slot.passes key) key) (sym c.store.ensures.2) seat;
    }
