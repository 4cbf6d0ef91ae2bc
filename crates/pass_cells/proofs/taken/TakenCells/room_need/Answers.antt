use Rattle.std.proofs.Common.{subst, sym}
use Rattle.row_writes.specs.Held.{HaveRoom}
use Rattle.row_writes.specs.Written.{with_back}
use Rattle.pass_cells.specs.Taken.{held_rows}
use Rattle.pass_cells.proofs.RoomLemmas.{room_one, room_swapped, room_two}
use Rattle.pass_cells.proofs.taken.TakenCells.room_need.Goals as goal

pub returns-in-None-clause-none : goal.returns-in-None-clause-none
returns-in-None-clause-none c = λ e.
    let ts = c.args.self.now.list.items in
    let row = c.args.found.now.rows.row in
    subst (λ b. HaveRoom (held_rows ts) (with_back b row)) (sym c.in-None.is)
    (room_one ts c.requires.rising row (c.need_at.ensures.none e))

pub returns-in-None-need_at-clause-none : goal.returns-in-None-need_at-clause-none
returns-in-None-need_at-clause-none c = λ e.
    let ts = c.args.self.now.list.items in
    let row = c.args.found.now.rows.row in
    let back = c.in-Some.back in
    let first = room_swapped ts c.requires.rising row back back (c.need_at-in-None-need_at.ensures.none e) in
    subst (λ b. HaveRoom (held_rows ts) (with_back b row)) (sym c.in-Some.is)
    (room_two ts c.requires.rising back row first (c.need_at-in-Some.ensures.none c.in-None-need_at.is))
