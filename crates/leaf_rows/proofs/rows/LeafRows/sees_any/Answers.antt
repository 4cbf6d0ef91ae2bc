use Rattle.std.proofs.Common.{◌∙◌, sym, ap}
use Rattle.std.specs.List.{list_any}
use Rattle.graph_model.specs.Rows.{rows}
use Rattle.graph_model.proofs.KeyLemmas.{below_self, upto_chain, tied_keys}
use Rattle.leaf_store.specs.Leaves.{cell_at}
use Rattle.leaf_rows.specs.Runs.{has_second}
use Rattle.leaf_rows.proofs.RunLemmas.{runs_fall, none_between}
use Rattle.leaf_rows.proofs.EdgeLemmas.{lesser_within, any_on, any_in, run_goes_on}
use Rattle.leaf_rows.proofs.rows.LeafRows.sees_any.Goals as goal

pub cells-init : goal.cells-init
cells-init c = record {
  behind = below_self c.args.from;
  within = c.requires.from;
  none = λ g shows. ap (list_any (has_second c.args.second)) (none_between g c.args.from c.args.from (below_self c.args.from));
}

pub cells-preserved : goal.cells-preserved
cells-preserved c =
    let run = c.run_for-run.ensures in
    let p = has_second c.args.second in
    let onward = run_goes_on c.args.self.now c.cells.next c.args.until c.run_for-run.result.end (sym c.is_below.ensures ∙ c.cells-test.true) run.holds run.end in
    record {
      behind = upto_chain c.args.from c.cells.next c.run_for-run.result.end c.cells.invariant.behind onward;
      within = rw run.end (lesser_within (cell_at c.args.self.now c.cells.next).high c.args.until);
      none = λ g shows.
          any_on p g c.args.from c.cells.next c.run_for-run.result.end c.cells.invariant.behind onward (c.cells.invariant.none g shows)
          ∙ ap (list_any p) (sym (run.rows g shows)) ∙ sym c.any_with.ensures ∙ c.if-any_with.false;
    }

pub cells-smaller : goal.cells-smaller
cells-smaller c =
    rw c.run_for-run.ensures.end (runs_fall c.args.self.now c.cells.next c.args.until (sym c.is_below.ensures ∙ c.cells-test.true) c.run_for-run.ensures.holds)

pub returns-then-any_with : goal.returns-then-any_with
returns-then-any_with c = λ g shows.
    let run = c.run_for-run.ensures in
    let p = has_second c.args.second in
    let onward = run_goes_on c.args.self.now c.cells.next c.args.until c.run_for-run.result.end (sym c.is_below.ensures ∙ c.cells-test.true) run.holds run.end in
    sym (any_in p g c.args.from c.run_for-run.result.end c.args.until
    (upto_chain c.args.from c.cells.next c.run_for-run.result.end c.cells.invariant.behind onward)
    (rw run.end (lesser_within (cell_at c.args.self.now c.cells.next).high c.args.until))
    (any_on p g c.args.from c.cells.next c.run_for-run.result.end c.cells.invariant.behind onward (c.cells.invariant.none g shows)
    ∙ ap (list_any p) (sym (run.rows g shows)) ∙ sym c.any_with.ensures ∙ c.if-any_with.true))

pub returns : goal.returns
returns c = λ g shows.
    let at_end = tied_keys c.cells.next c.args.until (sym c.is_below.ensures ∙ c.cells-test.false) c.cells.invariant.within in
    sym (ap (λ k. list_any (has_second c.args.second) (rows g c.args.from k)) (sym at_end) ∙ c.cells.invariant.none g shows)
