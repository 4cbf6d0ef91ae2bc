use Rattle.std.proofs.Common.{◌≡◌, ◌+◌, ◌≤◌, sym, ◌∙◌, arith}
use Rattle.leaf_rows.specs.Steps.{wanted_in, keys_with}
use Rattle.leaf_rows.proofs.RoomLemmas.{need_alone, need_with}
use Rattle.leaf_rows.proofs.room.need_at.Goals as goal
use Rattle.leaf_rows.proofs.room.need_at.Goals.{in-Some, in-None}

pub overflow_add-need : goal.overflow_add-need
overflow_add-need c =
    let none = sym c.has_row_near.ensures ∙ c.if-has_row_near.false in
    elim c.match-other.branch [
      | in-Some w ↦ let h = (need_with c.args.cell.now c.args.at.key none c.requires w.in-Some.other c.match-other.need (w.need-is ∙ w.missing_in.ensures)).1 in omega (arith, h)
      | in-None w ↦ let h = w.need-is in omega (arith, h)
    ]

pub returns-clause-need : goal.returns-clause-need
returns-clause-need c =
    let none = sym c.has_row_near.ensures ∙ c.if-has_row_near.false in
    let need : (1 + c.match-other.need ≡ wanted_in c.args.cell.now (keys_with c.args.at.key c.args.other)) × (1 + c.match-other.need ≤ 2) =
    elim c.match-other.branch [
      | in-Some w ↦ rw w.in-Some.is (need_with c.args.cell.now c.args.at.key none c.requires w.in-Some.other c.match-other.need (w.need-is ∙ w.missing_in.ensures))
      | in-None w ↦ rw w.in-None.is (need_alone c.args.cell.now c.args.at.key none c.requires c.match-other.need w.need-is)
    ] in
    record { missing = none; is = need.0; short = omega arith; some = omega arith; few = need.1 }
