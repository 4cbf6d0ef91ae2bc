use Rattle.std.proofs.Common.{◌∙◌, ◌<◌, ap, arith, length, refl, sym}
use Rattle.std.specs.Prelude.{slice_get, slice_set}
use Rattle.std.proofs.lemmas.Option.{slice_get_read}
use Rattle.seat_views.proofs.NumberLemmas.{some_is}
use Rattle.pass_cells.specs.declared.taken.TakenCell.{TakenCell}
use Rattle.pass_cells.proofs.DoneLemmas.{count_more, length_mixed}
use Rattle.pass_cells.proofs.taken.TakenCells.count_rows.Goals as goal

pub cells-preserved : goal.cells-preserved
cells-preserved c =
    let all = c.args.self.now.list.items in
    let now = c.cells.self.list.items in
    let i = c.cells.place in
    let t = c.index_mut.result.now in
    let many = ap length c.cells.invariant.0 ∙ length_mixed all i in
    let test = c.cells-test.true in
    let end = c.len-place-end.ensures in
    let within : i < length now = omega (arith, many, test, end) in
    let there = slice_get_read now (length now) i t refl within c.index_mut.ensures.value in
    let read = slice_get_read now (length now) i c.index.result.now refl within c.index.ensures in
    let same = some_is c.index.result.now t (sym read ∙ there) in (
      ap (λ l. slice_set l i (record { held = t.held; rows = c.len-rows.result; words_changed = t.words_changed })) c.cells.invariant.0
          ∙ count_more all i _ t c.len-rows.result refl (sym (ap (λ l. slice_get l i) c.cells.invariant.0) ∙ there)
          (c.len-rows.ensures.len ∙ ap (λ (x : TakenCell). length x.held.value.rows) same),
      c.cells.invariant.1,
    )
