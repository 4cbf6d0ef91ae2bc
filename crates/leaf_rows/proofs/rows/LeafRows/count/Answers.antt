use Rattle.std.proofs.Common.{◌<◌, length, sym, ◌∙◌, ap, refl, arith}
use Rattle.std.specs.Prelude.{count_by}
use Rattle.graph_model.specs.Rows.{rows, first_key, end_key}
use Rattle.graph_model.specs.Transactions.{stamp_in}
use Rattle.graph_model.proofs.KeyLemmas.{below_self, upto_chain, tied_keys}
use Rattle.leaf_store.specs.Leaves.{cell_at}
use Rattle.leaf_rows.specs.Counted.{is_vertex_row}
use Rattle.leaf_rows.specs.Runs.{runs_left}
use Rattle.leaf_rows.proofs.RunLemmas.{runs_fall, none_between}
use Rattle.leaf_rows.proofs.EdgeLemmas.{lesser_within, run_goes_on}
use Rattle.leaf_rows.proofs.CountLemmas.{few_runs, count_on, length_on, vertices_counted, others_counted}
use Rattle.leaf_rows.proofs.rows.LeafRows.count.Goals as goal

pub cells-init : goal.cells-init
cells-init c =
    let few = few_runs c.self.inside.store first_key end_key c.is_sound.ensures.sound c.is_sound.ensures.few (let most = c.is_sound.ensures.limit in omega (arith, most)) in
    let none = λ (g : _). none_between g first_key first_key (below_self first_key) in
    rw c.of_vertex-next.ensures (record {
      behind = below_self first_key;
      within = refl;
      room = rw (← c.self.view_is) (omega (arith, few));
      vertices = λ g shows. sym (ap (count_by is_vertex_row) (none g));
      all = λ g shows. sym (ap length (none g));
    })

pub cells-preserved : goal.cells-preserved
cells-preserved c =
    let s = c.args.self.now in
    let run = c.run_for-run.ensures in
    let end = c.run_for-run.result.end in
    let before = c.cells.invariant in
    let below = rw c.end.ensures at (sym c.is_below.ensures ∙ c.cells-test.true) in
    let is = rw c.end-in-cells.ensures at run.end in
    let onward = run_goes_on s c.cells.next end_key end below run.holds is in
    let fewer : runs_left s end end_key < runs_left s c.cells.next end_key = rw is (runs_fall s c.cells.next end_key below run.holds) in
    let count = c.vertices_in-vertices.ensures in
    record {
      behind = upto_chain first_key c.cells.next end before.behind onward;
      within = rw is (lesser_within (cell_at s c.cells.next).high end_key);
      room = let a = before.room in let b = run.few in let d = count.few in omega (arith, a, b, d, fewer);
      vertices = λ g shows.
          let here = before.vertices g shows in
          let there = count.count ∙ ap (count_by is_vertex_row) (run.rows g shows) in
          let on = count_on is_vertex_row g first_key c.cells.next end before.behind onward in
          omega (arith, here, there, on);
      all = λ g shows.
          let here = before.all g shows in
          let there = ap length (run.rows g shows) in
          let on = length_on g first_key c.cells.next end before.behind onward in
          let d = count.few in
          omega (arith, here, there, on, d);
    }

pub cells-smaller : goal.cells-smaller
cells-smaller c =
    let run = c.run_for-run.ensures in
    let below = rw c.end.ensures at (sym c.is_below.ensures ∙ c.cells-test.true) in
    rw (rw c.end-in-cells.ensures at run.end) (runs_fall c.args.self.now c.cells.next end_key below run.holds)

pub returns-clause-vertices : goal.returns-clause-vertices
returns-clause-vertices c = λ g shows.
    let r = c.args.reader.now in
    let at_end = tied_keys c.cells.next end_key (rw c.end.ensures at (sym c.is_below.ensures ∙ c.cells-test.false)) c.cells.invariant.within in
    c.cells.invariant.vertices g shows ∙ ap (λ k. count_by is_vertex_row (rows g first_key k)) at_end
    ∙ vertices_counted (stamp_in r.manager.now.journal) (record { start = r.start; own = r.by }) c.args.self.now (rw c.self.view_is at c.is_sound.ensures.sound) g shows

pub returns-clause-arcs : goal.returns-clause-arcs
returns-clause-arcs c = λ g shows.
    let r = c.args.reader.now in
    let at_end = tied_keys c.cells.next end_key (rw c.end.ensures at (sym c.is_below.ensures ∙ c.cells-test.false)) c.cells.invariant.within in
    others_counted (stamp_in r.manager.now.journal) (record { start = r.start; own = r.by }) c.args.self.now (rw c.self.view_is at c.is_sound.ensures.sound) g shows c.cells.counts.vertices c.cells.counts.arcs
    (c.cells.invariant.vertices g shows ∙ ap (λ k. count_by is_vertex_row (rows g first_key k)) at_end)
    (c.cells.invariant.all g shows ∙ ap (λ k. length (rows g first_key k)) at_end)
