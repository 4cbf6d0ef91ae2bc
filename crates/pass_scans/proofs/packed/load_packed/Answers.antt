use Rattle.std.proofs.Common.{◌≡◌, ◌∙◌, ap, refl, sym}
use Rattle.seat_views.proofs.NumberLemmas.{some_is}
use Rattle.pass_sweeps.specs.CellsModel.Cells.{CellState, packed, unpacked}
use Rattle.pass_sweeps.specs.PassSteps.Passes.{pin_of, state_of}
use Rattle.pass_sweeps.proofs.CellLemmas.{account_found, after_learning}
use Rattle.pass_sweeps.proofs.HandLemmas.{finds_then}
use Rattle.pass_settles.proofs.StepLemmas.{cell_now}
use Rattle.pass_scans.proofs.PackedLemmas.{spells_raised}
use Rattle.pass_scans.proofs.packed.load_packed.Goals as goal

pub load_words-fences-requires-clause-table : goal.load_words-fences-requires-clause-table
load_words-fences-requires-clause-table c =
    let p0 = c.args.pass.now in
    let c0 = c.requires.0 in
    let is = c.requires.1 in
    (cell_now c.args.store.now p0 c.raise_cell-is_last.new.pass (state_of p0) (pin_of p0) c.args.cell c0 (unpacked c0) is.only
    (c.raise_cell-is_last.ensures.raised c0 is.only.cell)).of.table

pub load_words-fences-requires-clause-held : goal.load_words-fences-requires-clause-held
load_words-fences-requires-clause-held c =
    let p0 = c.args.pass.now in
    let c0 = c.requires.0 in
    let is = c.requires.1 in
    let has = cell_now c.args.store.now p0 c.raise_cell-is_last.new.pass (state_of p0) (pin_of p0) c.args.cell c0 (unpacked c0) is.only
    (c.raise_cell-is_last.ensures.raised c0 is.only.cell) in
    (unpacked c0, has.cell, spells_raised c0 (c.raise_cell-is_last.ensures.told c0 is.only.cell))

pub lower_cell-requires-clause-table : goal.lower_cell-requires-clause-table
lower_cell-requires-clause-table c =
    let p0 = c.args.pass.now in
    let c0 = c.requires.0 in
    let is = c.requires.1 in
    let p1 = c.raise_cell-is_last.new.pass in
    let has = cell_now c.args.store.now p0 p1 (state_of p0) (pin_of p0) c.args.cell c0 (unpacked c0) is.only
    (c.raise_cell-is_last.ensures.raised c0 is.only.cell) in
    (after_learning c.args.store.now p1 c.load_words-fences.new.pass (state_of p0) (pin_of p0) c.args.cell (unpacked c0) 0 has
    c.load_words-fences.ensures.same).of.table

pub lower_cell-requires-clause-held : goal.lower_cell-requires-clause-held
lower_cell-requires-clause-held c =
    let p0 = c.args.pass.now in
    let c0 = c.requires.0 in
    let is = c.requires.1 in
    let p1 = c.raise_cell-is_last.new.pass in
    let has = cell_now c.args.store.now p0 p1 (state_of p0) (pin_of p0) c.args.cell c0 (unpacked c0) is.only
    (c.raise_cell-is_last.ensures.raised c0 is.only.cell) in
    let has2 = after_learning c.args.store.now p1 c.load_words-fences.new.pass (state_of p0) (pin_of p0) c.args.cell (unpacked c0) 0 has
    c.load_words-fences.ensures.same in (
      unpacked c0,
      has2.cell,
      refl,
      sym (c.raise_cell-is_last.ensures.last c0 is.only.cell),
      spells_raised c0 (c.raise_cell-is_last.ensures.told c0 is.only.cell),
    )

pub returns-clause-loaded : goal.returns-clause-loaded
returns-clause-loaded c d there =
    let store = c.args.store.now in
    let p0 = c.args.pass.now in
    let st = state_of p0 in
    let x = pin_of p0 in
    let k = c.args.cell in
    let c0 = c.requires.0 in
    let is = c.requires.1 in
    let p1 = c.raise_cell-is_last.new.pass in
    let p2 = c.load_words-fences.new.pass in
    let p3 = c.lower_cell.new.pass in
    let has = cell_now store p0 p1 st x k c0 (unpacked c0) is.only (c.raise_cell-is_last.ensures.raised c0 is.only.cell) in
    let has2 = after_learning store p1 p2 st x k (unpacked c0) 0 has c.load_words-fences.ensures.same in
    let has3 = cell_now store p2 p3 st x k (unpacked c0) (packed (unpacked c0)) has2 (c.lower_cell.ensures (unpacked c0) has2.cell) in
    let same : c0 ≡ d = some_is c0 d (sym is.only.cell ∙ there) in (
      packed (unpacked c0),
      record { only = has3; packed = refl },
      ap (λ (e : CellState). e.segment) same,
      c.load_words-fences.ensures.loaded (unpacked c0) has.cell,
    )

pub returns-clause-found : goal.returns-clause-found
returns-clause-found c =
    let store = c.args.store.now in
    let p0 = c.args.pass.now in
    let st = state_of p0 in
    let x = pin_of p0 in
    let k = c.args.cell in
    let c0 = c.requires.0 in
    let is = c.requires.1 in
    let p1 = c.raise_cell-is_last.new.pass in
    let p2 = c.load_words-fences.new.pass in
    let p3 = c.lower_cell.new.pass in
    let one = c.raise_cell-is_last.ensures.raised c0 is.only.cell in
    let has = cell_now store p0 p1 st x k c0 (unpacked c0) is.only one in
    let two = c.load_words-fences.ensures.same in
    let has2 = after_learning store p1 p2 st x k (unpacked c0) 0 has two in
    let three = c.lower_cell.ensures (unpacked c0) has2.cell in
    finds_then p0 p2 p3
    (finds_then p0 p1 p2 (account_found store p0 p1 _ is.only.of one refl refl refl refl refl)
    (account_found store p1 p2 _ has.of two refl refl refl refl refl))
    (account_found store p2 p3 _ has2.of three refl refl refl refl refl)
