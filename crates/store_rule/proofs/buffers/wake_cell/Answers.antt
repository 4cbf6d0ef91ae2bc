use Rattle.std.proofs.Common.{◌∙◌, ap, subst, sym}
use Rattle.seat_views.proofs.NumberLemmas.{some_is}
use Rattle.loaded_cells.specs.VersionSegment.Resting.{CanWake, woken}
use Rattle.loaded_cells.specs.CellsModel.Cells.{CellState, unpacked}
use Rattle.store_words.proofs.SpellLemmas.{has_now}
use Rattle.store_rule.specs.Slots.{RestsAs}
use Rattle.store_rule.proofs.PackLemmas.{untouched_now, wakes_same, wakes_with}
use Rattle.store_rule.proofs.buffers.wake_cell.Goals as goal

pub load_rows-requires-clause-held : goal.load_rows-requires-clause-held
load_rows-requires-clause-held c =
    let held = c.requires.packed in
    let d : CellState = held.0 in
    let knows = c.raise.ensures.unpacked d held.1 in (
      unpacked d,
      has_now c.args.account.now.me.0 c.raise.new.seat.me.0 c.args.cell (unpacked d) (ap (λ m. m.0) knows.me),
      (untouched_now d (c.raise.ensures.told d held.1)).spells,
    )

pub wake-requires-clause-agree : goal.wake-requires-clause-agree
wake-requires-clause-agree c =
    let held = c.requires.packed in
    let d : CellState = held.0 in
    let knows = c.raise.ensures.unpacked d held.1 in
    let has = has_now c.args.account.now.me.0 c.raise.new.seat.me.0 c.args.cell (unpacked d) (ap (λ m. m.0) knows.me) in
    let loaded = c.load_rows.ensures.loaded (unpacked d) has in
    let keys = c.load_rows.result in
    subst (λ rows. CanWake c.args.resting keys.0 keys.1 rows) (sym c.as_slice.ensures)
    (wakes_with d.segment c.args.resting keys.0 keys.1 c.load_rows.new.rows loaded held.3)

pub returns-clause-unpacked : goal.returns-clause-unpacked
returns-clause-unpacked c d has =
    let knows = c.raise.ensures.unpacked d has in
    let same = c.load_rows.ensures.same in
    record { table = same.table ∙ knows.table; me = same.me ∙ knows.me }

pub returns-clause-untouched : goal.returns-clause-untouched
returns-clause-untouched c d has = untouched_now d (c.raise.ensures.told d has)

pub returns-clause-segment : goal.returns-clause-segment
returns-clause-segment c d has =
    let held = c.requires.packed in
    let rests : RestsAs d.segment c.args.resting =
    subst (λ (x : CellState). RestsAs x.segment c.args.resting) (some_is held.0 d (sym held.1 ∙ has)) held.3 in
    let knows = c.raise.ensures.unpacked d has in
    let now = has_now c.args.account.now.me.0 c.raise.new.seat.me.0 c.args.cell (unpacked d) (ap (λ m. m.0) knows.me) in
    let loaded = c.load_rows.ensures.loaded (unpacked d) now in
    let keys = c.load_rows.result in
    wakes_same d.segment c.args.resting keys.0 keys.1 c.load_rows.new.rows c.wake.result loaded rests
    (c.wake.ensures.woken ∙ ap (woken c.args.resting keys.0 keys.1) c.as_slice.ensures)

pub load_rows-requires-clause-table : goal.load_rows-requires-clause-table
load_rows-requires-clause-table c =
    let held = c.requires.packed in (c.raise.ensures.unpacked held.0 held.1).table ∙ c.requires.table
