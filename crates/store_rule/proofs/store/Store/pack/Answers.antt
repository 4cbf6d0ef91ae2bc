use Rattle.std.proofs.Common.{◌≤◌, ◌∙◌, List, ap, length, refl, subst, sym}
use Rattle.graph_model.specs.declared.row.Row.{Row}
use Rattle.gap_segment.specs.Fenced.{FencedRows}
use Rattle.seat_views.proofs.NumberLemmas.{some_is}
use Rattle.loaded_cells.specs.VersionSegment.Rows.{IsSameSegment}
use Rattle.loaded_cells.specs.CellsModel.Cells.{CellState}
use Rattle.loaded_cells.proofs.CellsModel.WordLemmas.{few_words, newest_weights}
use Rattle.store_rule.proofs.PackLemmas.{can_spell, rests_as}
use Rattle.store_rule.proofs.store.Store.pack.Goals as goal

pub rest-value-requires : goal.rest-value-requires
rest-value-requires c = record { weights = newest_weights c.args.held.value c.requires.weights }

pub returns-clause-packed : goal.returns-clause-packed
returns-clause-packed c d has =
    let held = c.requires.unpacked in
    let same : IsSameSegment d.segment c.args.held.value =
    subst (λ (x : CellState). IsSameSegment x.segment c.args.held.value) (some_is held.0 d (sym held.1 ∙ has)) held.4 in
    record {
      number = refl;
      latch = refl;
      account = c.pack_words.ensures.stays;
      again = c.pack_words.ensures.packed d has;
      rests = rests_as d.segment c.args.held.value c.rest-value.result.0 same c.rest-value.ensures.resting;
    }

pub pack_words-requires-clause-rows : goal.pack_words-requires-clause-rows
pack_words-requires-clause-rows c =
    let rows = c.rows-rows.ensures.rows ∙ ap (λ (x : FencedRows). x.rows) c.rest-value.ensures.words in
    subst (λ (l : List Row). length l ≤ 32) (sym rows) (few_words c.args.held.value c.is_segment.ensures)

pub pack_words-requires-clause-words : goal.pack_words-requires-clause-words
pack_words-requires-clause-words c d has =
    let held = c.requires.unpacked in
    let same : IsSameSegment d.segment c.args.held.value =
    subst (λ (x : CellState). IsSameSegment x.segment c.args.held.value) (some_is held.0 d (sym held.1 ∙ has)) held.4 in
    let words = c.rest-value.ensures.words in
    can_spell d.segment c.args.held.value c.low-low.result c.high-high.result c.rows-rows.result.now same
    c.is_segment.ensures c.requires.weights
    (c.low-low.ensures ∙ ap (λ (x : FencedRows). x.low) words)
    (c.high-high.ensures ∙ ap (λ (x : FencedRows). x.high) words)
    (c.rows-rows.ensures.rows ∙ ap (λ (x : FencedRows). x.rows) words)
