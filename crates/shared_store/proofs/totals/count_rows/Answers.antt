use Rattle.std.proofs.Common.{◌≡◌, ◌∙◌, ◌<◌, Some, ap, arith, length, refl, subst, sym}
use Rattle.std.specs.Prelude.{count_by, slice_get}
use Rattle.graph_model.specs.Rows.{end_key, first_key, rows, vertex_key}
use Rattle.graph_model.proofs.KeyLemmas.{below_flip, below_self, tied_keys, upto_chain}
use Rattle.leaf_rows.specs.VersionSegment.Rows.{VersionedRows}
use Rattle.pass_writes.specs.StoreWords.Spelling.{CanSpell}
use Rattle.leaf_rows.specs.Counted.{is_vertex_row}
use Rattle.leaf_rows.proofs.CountLemmas.{count_on, length_on}
use Rattle.leaf_rows.proofs.RunLemmas.{none_between}
use Rattle.shared_store.specs.Totals.{is_seen, is_seen_vertex}
use Rattle.shared_store.proofs.TotalsLemmas.{all_arcs, all_vertices, cell_inside, ends, few_cells, few_here, fewer, rows_here, vertices_here, within}
use Rattle.shared_store.proofs.totals.count_rows.Goals as goal

pub cells-init : goal.cells-init
cells-init c =
    let held = c.requires.1 in
    let few = few_cells (vertex_key 0) c.args.cells.now c.args.index.now.leaves held.count c.is_index.ensures.few in
    let none = λ (g : _). none_between g first_key first_key (below_self first_key) in
    rw c.of_vertex-next.ensures (record {
      behind = below_self first_key;
      within = refl;
      kept = refl;
      room = omega (arith, few);
      few = omega arith;
      vertices = λ g holds. sym (ap (count_by is_vertex_row) (none g));
      all = λ g holds. sym (ap length (none g));
    })

pub load_rows-requires : goal.load_rows-requires
load_rows-requires c =
    let before = c.cells.invariant in
    let below = rw c.end.ensures at (sym c.is_below.ensures ∙ c.cells-test.true) in
    subst (λ l. c.route-cell.result.cell < length l) (sym before.kept)
    (cell_inside c.args.cells.now c.args.index.now c.requires.0 c.requires.1 c.cells.next c.route-cell.result below c.route-cell.ensures)

pub cells-preserved : goal.cells-preserved
cells-preserved c =
    let old = c.args.cells.now in
    let index = c.args.index.now in
    let before = c.cells.invariant in
    let next = c.cells.next in
    let high = c.load_rows.result.1 in
    let low = c.load_rows.result.0 in
    let run = c.load_rows.new.rows in
    let below = rw c.end.ensures at (sym c.is_below.ensures ∙ c.cells-test.true) in
    let can : (s : VersionedRows) → slice_get c.args.cells.now c.route-cell.result.cell ≡ Some s
    → CanSpell c.load_rows.result.0 c.load_rows.result.1 c.load_rows.new.rows s =
    λ s at. c.load_rows.ensures.loaded s
    (subst (λ l. slice_get l c.route-cell.result.cell ≡ Some s) (sym before.kept) at) in
    let onward = below_flip next high (ends old index c.requires.0 c.requires.1 next c.route-cell.result below c.route-cell.ensures low high run can) in
    let less = fewer old index c.requires.0 c.requires.1 next c.route-cell.result below c.route-cell.ensures low high run can in
    let short = few_here old index c.requires.0 c.requires.1 next c.route-cell.result below c.route-cell.ensures low high run can in
    let found = c.count_from-found.ensures in
    record {
      behind = upto_chain first_key next high before.behind onward;
      within = within old index c.requires.0 c.requires.1 next c.route-cell.result below c.route-cell.ensures low high run can;
      kept = c.load_rows.ensures.kept ∙ before.kept;
      room =
          let a = before.room in
          let d = found.few.1 in
          let same = ap length c.as_slice.ensures in
          omega (arith, a, d, less, short, same);
      few = let a = before.few in let d = found.few.0 in omega (arith, a, d);
      vertices = λ g holds.
          let here = before.vertices g holds in
          let there = found.vertices ∙ ap (count_by (is_seen_vertex next)) c.as_slice.ensures
          ∙ vertices_here old index g holds next c.route-cell.result below c.route-cell.ensures low high run can in
          let on = count_on is_vertex_row g first_key next high before.behind onward in
          omega (arith, here, there, on);
      all = λ g holds.
          let here = before.all g holds in
          let there = found.rows ∙ ap (count_by (is_seen next)) c.as_slice.ensures
          ∙ rows_here old index g holds next c.route-cell.result below c.route-cell.ensures low high run can in
          let on = length_on g first_key next high before.behind onward in
          omega (arith, here, there, on);
    }

pub cells-smaller : goal.cells-smaller
cells-smaller c =
    let before = c.cells.invariant in
    let below = rw c.end.ensures at (sym c.is_below.ensures ∙ c.cells-test.true) in
    let can : (s : VersionedRows) → slice_get c.args.cells.now c.route-cell.result.cell ≡ Some s
    → CanSpell c.load_rows.result.0 c.load_rows.result.1 c.load_rows.new.rows s =
    λ s at. c.load_rows.ensures.loaded s
    (subst (λ l. slice_get l c.route-cell.result.cell ≡ Some s) (sym before.kept) at) in
    fewer c.args.cells.now c.args.index.now c.requires.0 c.requires.1 c.cells.next c.route-cell.result below c.route-cell.ensures
    c.load_rows.result.0 c.load_rows.result.1 c.load_rows.new.rows can

pub returns-clause-vertices : goal.returns-clause-vertices
returns-clause-vertices c = λ g holds.
    let at_end = tied_keys c.cells.next end_key (rw c.end.ensures at (sym c.is_below.ensures ∙ c.cells-test.false)) c.cells.invariant.within in
    c.cells.invariant.vertices g holds ∙ ap (λ k. count_by is_vertex_row (rows g first_key k)) at_end
    ∙ all_vertices c.args.cells.now c.args.index.now g holds

pub returns-clause-arcs : goal.returns-clause-arcs
returns-clause-arcs c = λ g holds arcs sum.
    let at_end = tied_keys c.cells.next end_key (rw c.end.ensures at (sym c.is_below.ensures ∙ c.cells-test.false)) c.cells.invariant.within in
    all_arcs c.args.cells.now c.args.index.now g holds c.cells.counts.vertices arcs
    (c.cells.invariant.vertices g holds ∙ ap (λ k. count_by is_vertex_row (rows g first_key k)) at_end)
    (sum ∙ c.cells.invariant.all g holds ∙ ap (λ k. length (rows g first_key k)) at_end)
