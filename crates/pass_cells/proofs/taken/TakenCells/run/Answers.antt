use Rattle.std.proofs.Common.{◌∙◌, ◌≤◌, List, ap, length, refl, subst, sym}
use Rattle.std.proofs.lemmas.Option.{slice_get_read}
use Rattle.graph_model.specs.declared.limits.TheConstants.{SEGMENT_ROWS}
use Rattle.graph_model.specs.declared.row.Row.{Row}
use Rattle.graph_model.specs.Rows.{rows}
use Rattle.store_model.specs.Stamped.{read_stamped}
use Rattle.row_writes.specs.VersionSegment.Checks.{AreNamedRows}
use Rattle.row_writes.specs.VersionSegment.Rows.{VersionedRows, rows_at}
use Rattle.pass_cells.specs.Reading.{lesser}
use Rattle.pass_cells.proofs.CellLemmas.{among_place, at_place, covers_own}
use Rattle.pass_cells.proofs.RunLemmas.{few_read, run_is}
use Rattle.pass_cells.proofs.taken.TakenCells.run.Goals as goal

pub run_at-rows-requires-clause-named : goal.run_at-rows-requires-clause-named
run_at-rows-requires-clause-named g c =
    let cells = c.args.self.now.list.items in
    let there = slice_get_read cells
    (length cells) c.place_of.result c.index.result.now refl c.place_of.ensures.within c.index.ensures in
    let at = at_place cells c.args.from c.place_of.result c.index.result.now c.place_of.ensures.place there in
    subst (λ (s : VersionedRows). AreNamedRows (g.S.States.knowledge c.args.states.now).names s.rows)
    (sym at.0) c.requires.named

pub returns-clause-rows : goal.returns-clause-rows
returns-clause-rows g c = λ graph shows.
    let cells = c.args.self.now.list.items in
    let there = slice_get_read cells
    (length cells) c.place_of.result c.index.result.now refl c.place_of.ensures.within c.index.ensures in
    let at = at_place cells c.args.from c.place_of.result c.index.result.now c.place_of.ensures.place there in
    let t = c.index.result.now in
    let stamps = (g.S.States.knowledge c.args.states.now).stamps in
    let end = c.lesser-end.ensures ∙ ap (λ k. lesser k c.args.until) c.high.ensures in
    c.run_at-rows.ensures.rows ∙ ap (λ k. rows_at stamps c.args.snapshot.now c.args.from k t.held.value) end
    ∙ run_is stamps c.args.snapshot.now cells graph t c.args.from c.args.until c.requires.rising
    (among_place cells c.place_of.result t there) c.is_segment.ensures at.1 shows
    ∙ ap (rows graph c.args.from) (sym end)

pub returns-clause-end : goal.returns-clause-end
returns-clause-end g c =
    let cells = c.args.self.now.list.items in
    let there = slice_get_read cells
    (length cells) c.place_of.result c.index.result.now refl c.place_of.ensures.within c.index.ensures in
    let at = at_place cells c.args.from c.place_of.result c.index.result.now c.place_of.ensures.place there in
    c.lesser-end.ensures ∙ ap (λ k. lesser k c.args.until) (c.high.ensures ∙ ap (λ (s : VersionedRows). s.high) at.0)

pub returns-clause-holds : goal.returns-clause-holds
returns-clause-holds g c = covers_own c.args.self.now.list.items c.args.from c.requires.held

pub returns-clause-few : goal.returns-clause-few
returns-clause-few g c =
    let few = few_read (read_stamped
    (g.S.States.knowledge c.args.states.now).stamps c.args.snapshot.now.start c.args.snapshot.now.own)
    c.index.result.now.held.value c.args.from c.lesser-end.result c.is_segment.ensures in
    subst (λ (l : List Row). length l ≤ SEGMENT_ROWS) (sym c.run_at-rows.ensures.rows) few
