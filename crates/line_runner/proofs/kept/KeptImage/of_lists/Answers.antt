use Rattle.std.proofs.Common.{◌≡◌, ℕ, ◌<◌, ◌≤◌, ◌^◌, length, arith, sym, ◌∙◌, ap, subst}
use Rattle.std.specs.Prelude.{min}
use Rattle.graph_model.specs.Rows.{AreRowsOf}
use Rattle.part_scan.specs.Parts.{rows_in}
use Rattle.graph_image.proofs.GivenLemmas.{rows_ended, rows_light, rows_storable}
use Rattle.line_runner.proofs.kept.KeptImage.of_lists.Goals as goal

few : (rows count : ℕ) → count ≡ min rows 18446744073709551615 → count ≤ 4294967295 → rows < 2 ^ 32
few rows count is le = omega (arith, is, le)

pub of_lists-requires : goal.of_lists-requires
of_lists-requires g c =
    let given = c.requires.graph in
    let rows = rows_in c.args.lists in
    let count = c.count_rows-rows.ensures ∙ ap (λ ls. min (length (rows_in ls)) 18446744073709551615) c.as_slice.ensures in
    rows_storable rows given.0 given.1 (rows_light rows given.0 given.1 given.2) (few (length rows) c.count_rows-rows.result count c.if-rows.false)

pub finish-requires-clause-ended : goal.finish-requires-clause-ended
finish-requires-clause-ended g c κs within =
    let given = c.requires.graph in
    rows_ended c.of_lists.result given.0 (subst (λ rows. AreRowsOf rows given.0) (sym c.of_lists.ensures) given.1)

pub finish-requires-clause-symmetric : goal.finish-requires-clause-symmetric
finish-requires-clause-symmetric g c κs within = λ undirected.
    let given = c.requires.graph in
    (given.0, subst (λ rows. AreRowsOf rows given.0) (sym c.of_lists.ensures) given.1, given.3 undirected)
