use Rattle.std.proofs.Common.{◌∙◌, length, refl, sym, subst}
use Rattle.std.proofs.lemmas.Option.{slice_get_read}
use Rattle.pass_cells.specs.Taken.{IsPlace}
use Rattle.pass_cells.proofs.DoneLemmas.{found_there, seeks_on, sought_within}
use Rattle.pass_cells.proofs.taken.TakenCells.place_of.Goals as goal

pub cells-preserved : goal.cells-preserved
cells-preserved c =
    let cells = c.as_slice-cells.result.now in
    let within = sought_within cells c.args.key c.cells.place c.cells.invariant.1 in
    let there = slice_get_read cells
    (length cells) c.cells.place c.index-cells-place.result refl within c.index-cells-place.is in
    seeks_on cells c.args.key c.cells.place c.index-cells-place.result there
    (sym c.covers.ensures ∙ c.cells-test.true) c.cells.invariant

pub returns-clause-place : goal.returns-clause-place
returns-clause-place c =
    let cells = c.as_slice-cells.result.now in
    let within = sought_within cells c.args.key c.cells.place c.cells.invariant.1 in
    let there = slice_get_read cells
    (length cells) c.cells.place c.index-cells-place.result refl within c.index-cells-place.is in
    subst (λ l. IsPlace l c.args.key c.cells.place) c.as_slice-cells.ensures.value
    (found_there cells c.args.key c.cells.place c.index-cells-place.result there
    (sym c.covers.ensures ∙ c.cells-test.false) c.cells.invariant)
