use Rattle.std.proofs.Common.{◌≡◌, ◌<◌, ◌∙◌, ap, arith, refl, subst, sym}
use Rattle.std.proofs.lemmas.Bool.{true≢false}
use Rattle.store_rule.specs.RuleModel.Sight.{HasCell, cells_of}
use Rattle.store_rule.specs.VersionSegment.Rows.{VersionedRows}
use Rattle.store_rule.specs.CellsModel.Cells.{CellState, unpacked}
use Rattle.store_rule.specs.Slots.{RestsAs}
use Rattle.cases_store.proofs.VisitLemmas.{known_now, small_same}
use Rattle.cases_store.proofs.cell.pack_again.Goals as goal

pub pack-requires-clause-table : goal.pack-requires-clause-table
pack-requires-clause-table c =
    (c.unpack-held.ensures.unpacked c.requires.packed.0 c.requires.packed.1).account.table ∙ c.requires.table

pub pack-requires-clause-cell : goal.pack-requires-clause-cell
pack-requires-clause-cell c =
    subst (λ k. k < cells_of c.args.store.now.accounts.config) (sym c.unpack-held.ensures.held.0) c.requires.cell

pub pack-requires-clause-unpacked : goal.pack-requires-clause-unpacked
pack-requires-clause-unpacked c =
    let state : CellState = c.requires.packed.0 in
    let has = c.requires.packed.1 in
    let lends = c.unpack-held.ensures.unpacked state has in (
      unpacked state,
      known_now c.args.pass.now.account.me.0 c.unpack-held.new.pass.account.me.0 c.args.held.cell
          c.unpack-held.result.cell (unpacked state) c.unpack-held.ensures.held.0 (ap (λ m. m.0) lends.account.me),
      refl,
      (c.unpack-held.ensures.untouched state has).spells.wide,
      c.unpack-held.ensures.segment state has,
    )

pub pack-requires-clause-weights : goal.pack-requires-clause-weights
pack-requires-clause-weights c =
    let state : CellState = c.requires.packed.0 in
    let has = c.requires.packed.1 in
    small_same state.segment c.unpack-held.result.value (c.unpack-held.ensures.segment state has)
    (c.unpack-held.ensures.untouched state has).spells.small

pub pack-requires-clause-untouched : goal.pack-requires-clause-untouched
pack-requires-clause-untouched c = λ same. absurd (true≢false same)

pub returns-clause-held : goal.returns-clause-held
returns-clause-held c = c.pack.ensures.held.0 ∙ c.unpack-held.ensures.held.0

pub returns-clause-packed : goal.returns-clause-packed
returns-clause-packed c =
    let state : CellState = c.requires.packed.0 in
    let lends = c.unpack-held.ensures.unpacked state c.requires.packed.1 in
    let has2 = known_now c.args.pass.now.account.me.0 c.unpack-held.new.pass.account.me.0 c.args.held.cell
    c.unpack-held.result.cell (unpacked state) c.unpack-held.ensures.held.0 (ap (λ m. m.0) lends.account.me) in
    let packs = c.pack.ensures.packed (unpacked state) has2 in
    let again = packs.again in (
      again.cell,
      subst (λ k. HasCell c.pack.new.pass.account.me.0 k again.cell) (sym c.pack.ensures.held.0) again.has,
      again.packed,
      subst (λ (s : VersionedRows). RestsAs s c.pack.result.value) (sym again.segment) packs.rests,
    )

pub returns-clause-latch : goal.returns-clause-latch
returns-clause-latch c =
    let state : CellState = c.requires.packed.0 in
    let lends = c.unpack-held.ensures.unpacked state c.requires.packed.1 in
    let has2 = known_now c.args.pass.now.account.me.0 c.unpack-held.new.pass.account.me.0 c.args.held.cell
    c.unpack-held.result.cell (unpacked state) c.unpack-held.ensures.held.0 (ap (λ m. m.0) lends.account.me) in
    (c.pack.ensures.packed (unpacked state) has2).latch ∙ lends.latch

pub returns-clause-kept : goal.returns-clause-kept
returns-clause-kept c =
    let state : CellState = c.requires.packed.0 in
    let lends = c.unpack-held.ensures.unpacked state c.requires.packed.1 in
    let has2 = known_now c.args.pass.now.account.me.0 c.unpack-held.new.pass.account.me.0 c.args.held.cell
    c.unpack-held.result.cell (unpacked state) c.unpack-held.ensures.held.0 (ap (λ m. m.0) lends.account.me) in
    let packs = c.pack.ensures.packed (unpacked state) has2 in
    let lent = c.unpack-held.ensures.buffers in
    record {
      buffers = λ full.
          let back = c.pack.ensures.buffers (omega (arith, lent, full)) in omega (arith, lent, back, full);
      table = packs.account.table ∙ lends.account.table;
      slots = packs.account.slots ∙ ap (λ m. m.1) lends.account.me;
      passes = packs.again.others.passes ∙ (λ i. ((lends.account.me i).0).passes);
      readers = packs.again.others.readers ∙ (λ i. ((lends.account.me i).0).readers);
    }
