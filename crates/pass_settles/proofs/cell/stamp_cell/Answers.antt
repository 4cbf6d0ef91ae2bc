use Rattle.std.proofs.Common.{◌≡◌, ◌∙◌, sym, subst}
use Rattle.seat_views.proofs.NumberLemmas.{some_is}
use Rattle.pass_sweeps.specs.CellsModel.Cells.{CellState, packed}
use Rattle.pass_sweeps.specs.CellsModel.Words.{Spells}
use Rattle.pass_sweeps.specs.PassSteps.Passes.{pin_of, state_of}
use Rattle.pass_settles.specs.Settled.{IsPackedWith, stamped_between}
use Rattle.pass_settles.proofs.RaisedLemmas.{cell_stamped, has_raised, has_stamped, may_know_stamped, packed_stamped, same_stamped, stamped_loose, stamped_quiet, stamped_spells}
use Rattle.pass_settles.proofs.cell.stamp_cell.Goals as goal

pub know_stamped-requires-clause-table : goal.know_stamped-requires-clause-table
know_stamped-requires-clause-table c =
    let store = c.args.store.now in
    let p0 = c.args.pass.now in
    let k = c.args.held.cell in
    let by = c.args.by in
    let n = c.args.stamp in
    let c0 = c.requires.taken.0 in
    let is = c.requires.taken.1 in
    let spells = c.raise_cell-is_last.ensures.told c0 is.only.cell in
    let one = c.raise_cell-is_last.ensures.raised c0 is.only.cell in
    let p1 = c.raise_cell-is_last.new.pass in
    (has_raised store p0 p1 k c0 by n is.only c.requires.stamping spells one).of.table

pub know_stamped-requires-clause-may : goal.know_stamped-requires-clause-may
know_stamped-requires-clause-may c =
    let store = c.args.store.now in
    let p0 = c.args.pass.now in
    let k = c.args.held.cell in
    let by = c.args.by in
    let n = c.args.stamp in
    let c0 = c.requires.taken.0 in
    let is = c.requires.taken.1 in
    let spells = c.raise_cell-is_last.ensures.told c0 is.only.cell in
    let one = c.raise_cell-is_last.ensures.raised c0 is.only.cell in
    let p1 = c.raise_cell-is_last.new.pass in
    let key = c.requires.taken.2 spells in
    may_know_stamped store p0 p1 k c0 by n is.only c.requires.stamping spells one key.0 key.1

pub lower_cell-requires-clause-table : goal.lower_cell-requires-clause-table
lower_cell-requires-clause-table c =
    let store = c.args.store.now in
    let p0 = c.args.pass.now in
    let k = c.args.held.cell in
    let by = c.args.by in
    let n = c.args.stamp in
    let c0 = c.requires.taken.0 in
    let is = c.requires.taken.1 in
    let spells = c.raise_cell-is_last.ensures.told c0 is.only.cell in
    let one = c.raise_cell-is_last.ensures.raised c0 is.only.cell in
    let p1 = c.raise_cell-is_last.new.pass in
    let p2 = c.know_stamped.new.pass in
    let two = c.know_stamped.ensures in
    (has_stamped store p0 p1 k c0 by n is.only c.requires.stamping spells one p2 two).of.table

pub lower_cell-requires-clause-held : goal.lower_cell-requires-clause-held
lower_cell-requires-clause-held c =
    let store = c.args.store.now in
    let p0 = c.args.pass.now in
    let k = c.args.held.cell in
    let by = c.args.by in
    let n = c.args.stamp in
    let c0 = c.requires.taken.0 in
    let is = c.requires.taken.1 in
    let spells = c.raise_cell-is_last.ensures.told c0 is.only.cell in
    let one = c.raise_cell-is_last.ensures.raised c0 is.only.cell in
    let p1 = c.raise_cell-is_last.new.pass in
    let p2 = c.know_stamped.new.pass in
    let two = c.know_stamped.ensures in
    let last = c.raise_cell-is_last.ensures.last c0 is.only.cell in (
      cell_stamped store p0 p1 k c0 by n is.only c.requires.stamping spells one,
      (has_stamped store p0 p1 k c0 by n is.only c.requires.stamping spells one p2 two).cell,
      stamped_loose store p0 p1 k c0 by n is.only c.requires.stamping spells one,
      stamped_quiet store p0 p1 k c0 by n is.only c.requires.stamping spells one c.raise_cell-is_last.result last,
      stamped_spells store p0 p1 k c0 by n is.only c.requires.stamping spells one,
    )

pub returns-clause-stamped : goal.returns-clause-stamped
returns-clause-stamped c d has =
    let store = c.args.store.now in
    let p0 = c.args.pass.now in
    let k = c.args.held.cell in
    let by = c.args.by in
    let n = c.args.stamp in
    let c0 = c.requires.taken.0 in
    let is = c.requires.taken.1 in
    let spells = c.raise_cell-is_last.ensures.told c0 is.only.cell in
    let one = c.raise_cell-is_last.ensures.raised c0 is.only.cell in
    let p1 = c.raise_cell-is_last.new.pass in
    let p2 = c.know_stamped.new.pass in
    let two = c.know_stamped.ensures in
    let cell = cell_stamped store p0 p1 k c0 by n is.only c.requires.stamping spells one in
    let three = c.lower_cell.ensures cell (has_stamped store p0 p1 k c0 by n is.only c.requires.stamping spells one p2 two).cell in
    let p3 = c.lower_cell.new.pass in
    let value = c.stamp.new.self in
    let same : c0 ≡ d = some_is c0 d (sym is.only.cell ∙ has) in (
      subst (λ (x : CellState). Spells x.block x.segment) same spells,
      packed cell,
      subst (λ (x : CellState). IsPackedWith store p3 (stamped_between x.segment.low x.segment.high (state_of p0)) (pin_of p0) k value (packed cell)) same
          (packed_stamped store p0 p1 k c0 by n is.only c.requires.stamping spells one p2 two p3 c.args.held.value value is.rests three c.stamp.ensures),
    )

pub returns-clause-same : goal.returns-clause-same
returns-clause-same c =
    let store = c.args.store.now in
    let p0 = c.args.pass.now in
    let k = c.args.held.cell in
    let by = c.args.by in
    let n = c.args.stamp in
    let c0 = c.requires.taken.0 in
    let is = c.requires.taken.1 in
    let spells = c.raise_cell-is_last.ensures.told c0 is.only.cell in
    let one = c.raise_cell-is_last.ensures.raised c0 is.only.cell in
    let p1 = c.raise_cell-is_last.new.pass in
    let p2 = c.know_stamped.new.pass in
    let two = c.know_stamped.ensures in
    let cell = cell_stamped store p0 p1 k c0 by n is.only c.requires.stamping spells one in
    let three = c.lower_cell.ensures cell (has_stamped store p0 p1 k c0 by n is.only c.requires.stamping spells one p2 two).cell in
    same_stamped store p0 p1 k c0 by n is.only c.requires.stamping spells one p2 two c.lower_cell.new.pass c.args.held.value c.stamp.new.self is.rests three c.stamp.ensures
