use Rattle.std.proofs.Common.{[], sym, subst}
use Rattle.seat_views.proofs.NumberLemmas.{kept-append}
use Rattle.latch_table.specs.Latched.{IsPassSeat, number_of}
use Rattle.latch_table.specs.Opening.{IsBack}
use Rattle.latch_table.proofs.HeldLemmas.{seat_idle}
use Rattle.latch_table.proofs.EndLaws.{joins, others_back}
use Rattle.latch_table.proofs.cells.Cells.merge.Goals as goal

pub join_seat-requires : goal.join_seat-requires
join_seat-requires g c =
    let key = c.args.self.now.table.now.key in (
      c.requires.table.0,
      c.requires.pass.table,
      c.requires.idle,
      c.requires.table.1,
      joins g.V.Slot.fits (g.V.Slot.passes key) key c.args.all.now.id c.args.pass.id c.args.all.now.me.0
          c.args.pass.me.0,
    )

pub returns-clause-back : goal.returns-clause-back
returns-clause-back g c =
    let key = c.args.self.now.table.now.key in
    let pass = c.args.pass.me in
    let back = seat_idle (g.V.Slot.passes key) key pass.0 pass.1 c.requires.pass.seat c.requires.idle in
    subst (λ m. IsBack m.0 (number_of pass.0)) (sym c.join_seat.ensures.2)
    ((kept-append pass.0.passes c.args.all.now.me.0.passes (number_of pass.0)).1 [] back)

pub returns-clause-others : goal.returns-clause-others
returns-clause-others g c p before =
    let key = c.args.self.now.table.now.key in
    let pass = c.args.pass.me in
    let back = seat_idle (g.V.Slot.passes key) key pass.0 pass.1 c.requires.pass.seat c.requires.idle in
    let seat = subst (λ l. IsPassSeat (g.V.Slot.passes key) key (
      pass.0,
      l,
    )) c.requires.idle c.requires.pass.seat in
    subst (λ m. IsBack m.0 p) (sym c.join_seat.ensures.2)
    (others_back g.V.Slot.fits (g.V.Slot.passes key) key c.args.all.now.me.0 pass.0 seat back p before)
