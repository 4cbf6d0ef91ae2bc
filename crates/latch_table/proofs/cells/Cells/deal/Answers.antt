use Rattle.std.proofs.Common.{◌≡◌, ◌∙◌, ◌+◌, suc, sym, ap, subst, arith}
use Rattle.latch_table.specs.Latched.{IsPassSeat, number_of}
use Rattle.latch_table.specs.Opening.{HasPasses, idle_below}
use Rattle.latch_table.proofs.EndLaws.{deals, dealt, left_over}
use Rattle.latch_table.proofs.cells.Cells.deal.Goals as goal

pub split_seat-requires : goal.split_seat-requires
split_seat-requires g c =
    let key = c.args.self.now.table.now.key in
    let number = c.args.number in
    let last : number + 1 ≡ suc number = omega arith in (
      c.requires.table.0,
      c.requires.table.1,
      deals g.V.Slot.fits (g.V.Slot.passes key) key c.args.all.now.id number c.args.all.now.me.0
          (c.requires.passes.0.passes ∙ ap idle_below last),
    )

pub returns-clause-pass : goal.returns-clause-pass
returns-clause-pass g c =
    let key = c.args.self.now.table.now.key in
    let number = c.args.number in
    let last : number + 1 ≡ suc number = omega arith in
    let has = subst (λ n. HasPasses key n c.args.all.now.me.0) last c.requires.passes.0 in
    let seat = dealt g.V.Slot.fits (g.V.Slot.passes key) key number c.args.all.now.me.0 has c.requires.passes.1
    in
    record {
      table = c.split_seat.ensures.3 ∙ c.requires.table.0;
      seat = subst (IsPassSeat (g.V.Slot.passes key) key) (sym c.split_seat.ensures.4) seat;
    }

pub returns-clause-dealt : goal.returns-clause-dealt
returns-clause-dealt g c =
    let key = c.args.self.now.table.now.key in
    let number = c.args.number in
    let last : number + 1 ≡ suc number = omega arith in
    let has = subst (λ n. HasPasses key n c.args.all.now.me.0) last c.requires.passes.0 in
    let left = left_over g.V.Slot.fits (g.V.Slot.passes key) key number c.args.all.now.me.0 has in
    (ap (λ m. m.1) c.split_seat.ensures.4, ap (λ m. number_of m.0) c.split_seat.ensures.4 ∙ left.0)

pub returns-clause-passes : goal.returns-clause-passes
returns-clause-passes g c =
    let key = c.args.self.now.table.now.key in
    let number = c.args.number in
    let last : number + 1 ≡ suc number = omega arith in
    let has = subst (λ n. HasPasses key n c.args.all.now.me.0) last c.requires.passes.0 in
    let left = left_over g.V.Slot.fits (g.V.Slot.passes key) key number c.args.all.now.me.0 has in
    subst (λ m. HasPasses key number m.0) (sym c.split_seat.ensures.2) left.1
