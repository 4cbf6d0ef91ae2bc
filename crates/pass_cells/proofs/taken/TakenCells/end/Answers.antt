use Rattle.std.proofs.Common.{◌≡◌, ◌∙◌, ◌-◌, ap, arith, length, sym, Some}
use Rattle.std.specs.Option.{option_copied}
use Rattle.std.specs.Prelude.{slice_get}
use Rattle.std.proofs.lemmas.Option.{slice_get_within}
use Rattle.graph_model.specs.Rows.{first_key}
use Rattle.pass_cells.specs.Taken.{end_of}
use Rattle.pass_cells.proofs.DoneLemmas.{end_is}
use Rattle.pass_cells.proofs.taken.TakenCells.end.Goals as goal

pub returns-in-Some : goal.returns-in-Some
returns-in-Some c =
    let cells = c.deref.result.now in
    let there : slice_get cells (length cells - 1) ≡ Some c.in-Some.last.now =
    sym c.last.ensures.value ∙ ap option_copied c.in-Some.is in
    let within = slice_get_within cells (length cells - 1) c.in-Some.last.now there in
    c.high.ensures ∙ sym (end_is first_key cells (length cells - 1) c.in-Some.last.now (omega (arith, within)) there)
    ∙ ap end_of c.deref.ensures.value
