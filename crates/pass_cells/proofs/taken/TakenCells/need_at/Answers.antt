use Rattle.std.proofs.Common.{◌≡◌, ◌∙◌, ◌+◌, ℕ, ap, arith, length, refl, subst, sym}
use Rattle.std.proofs.lemmas.Option.{slice_get_read}
use Rattle.graph_model.specs.declared.limits.TheConstants.{SEGMENT_ROWS}
use Rattle.graph_model.specs.declared.row.Key.{Key}
use Rattle.graph_model.proofs.TestLemmas.{never}
use Rattle.row_writes.specs.Written.{with_back}
use Rattle.row_writes.specs.VersionSegment.Rows.{VersionedRows, has_row}
use Rattle.pass_cells.specs.Room.{IsShort, also_missing}
use Rattle.pass_cells.specs.Taken.{cell_at, held_rows}
use Rattle.pass_cells.proofs.CellLemmas.{at_place}
use Rattle.pass_cells.proofs.RoomLemmas.{among_own, wanted_is}
use Rattle.pass_cells.proofs.taken.TakenCells.need_at.Goals as goal

pub returns-then-has_row_near-clause-none : goal.returns-then-has_row_near-clause-none
returns-then-has_row_near-clause-none c =
    let cells = c.args.self.now.list.items in
    let there = slice_get_read cells
    (length cells) c.place_of.result c.index.result.now refl c.place_of.ensures.within c.index.ensures in
    let own = (at_place cells c.args.key c.place_of.result c.index.result.now c.place_of.ensures.place there).0 in
    λ _ none. never (has_row (cell_at cells c.args.key) c.args.key)
    (ap (λ (s : VersionedRows). has_row s c.args.key) (sym own) ∙ sym c.has_row_near.ensures ∙ c.if-has_row_near.true) none

pub returns-then-from-room-clause-none : goal.returns-then-from-room-clause-none
returns-then-from-room-clause-none c =
    let cells = c.args.self.now.list.items in
    let there = slice_get_read cells
    (length cells) c.place_of.result c.index.result.now refl c.place_of.ensures.within c.index.ensures in
    let own = (at_place cells c.args.key c.place_of.result c.index.result.now c.place_of.ensures.place there).0 in
    λ _ none.
    let wants = wanted_is cells c.requires.rising c.args.key c.args.other c.requires.held none in
    let need = c.places_for-need.ensures ∙ ap (λ (s : VersionedRows). 1 + also_missing s c.args.other) own in
    let room : c.room.result + length (cell_at cells c.args.key).rows ≡ SEGMENT_ROWS =
    ap (λ (s : VersionedRows). c.room.result + length s.rows) (sym own) ∙ c.room.ensures in
    let from = c.from.ensures in
    let few = c.if-from-room.true in
    omega (arith, wants, need, room, from, few)

pub at-requires : goal.at-requires
at-requires c =
    let cells = c.args.self.now.list.items in
    let there = slice_get_read cells
    (length cells) c.place_of.result c.index.result.now refl c.place_of.ensures.within c.index.ensures in
    let own = (at_place cells c.args.key c.place_of.result c.index.result.now c.place_of.ensures.place there).0 in
    let none = ap (λ (s : VersionedRows). has_row s c.args.key) (sym own) ∙ sym c.has_row_near.ensures
    ∙ c.if-has_row_near.false in
    let wants = wanted_is cells c.requires.rising c.args.key c.args.other c.requires.held none in
    let need = c.places_for-need.ensures ∙ ap (λ (s : VersionedRows). 1 + also_missing s c.args.other) own in
    let room : c.room.result + length (cell_at cells c.args.key).rows ≡ SEGMENT_ROWS =
    ap (λ (s : VersionedRows). c.room.result + length s.rows) (sym own) ∙ c.room.ensures in
    let from = c.from.ensures in
    let many = c.if-from-room.false in
    record {
      among = among_own c.args.other c.args.key;
      held = c.requires.held;
      missing = none;
      need_is = need ∙ sym wants;
      short = omega (arith, room, from, many);
    }

pub returns-clause-short : goal.returns-clause-short
returns-clause-short c =
    let made = at-requires c.before in (
      c.at.ensures.0,
      subst (λ (x : Key × ℕ). IsShort (held_rows c.args.self.now.list.items) (with_back c.args.other c.args.key) x.0 x.1)
          (λ i. (sym c.at.ensures.0 i, sym c.at.ensures.1 i)) made,
    )
