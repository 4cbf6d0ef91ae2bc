use Rattle.std.proofs.Common.{◌∙◌, ap, refl, subst, sym}
use Rattle.std.specs.List.{list_any}
use Rattle.graph_model.specs.Rows.{rows}
use Rattle.graph_model.specs.Scans.{ScansBy}
use Rattle.leaf_rows.specs.Runs.{has_second}
use Rattle.shared_store.specs.Passes.{view_in}
use Rattle.shared_store.proofs.EdgeLemmas.{has_found, less_left, looks_on}
use Rattle.shared_store.proofs.PassLemmas.{keeps_itself, keeps_twice, same_view}
use Rattle.shared_store.proofs.edges.sees_any.Goals as goal

pub turns-init : goal.turns-init
turns-init g c = record {
  kept = keeps_itself c.args.store.now c.args.pass.now c.requires.opened;
  looking = record { left = λ going. refl; none = λ done. cc };
}

pub turns-preserved : goal.turns-preserved
turns-preserved g c =
    let store = c.args.store.now in
    let old = c.args.pass.now in
    let mid = c.turns.pass in
    let scans = subst (λ view. ScansBy view c.turns.cursor c.scan_step.new.cursor c.scan_step.new.rows)
    (same_view store old mid c.turns.invariant.kept) c.scan_step.ensures.answer in
    record {
      kept = keeps_twice store old mid c.scan_step.new.pass c.turns.invariant.kept c.scan_step.ensures.kept;
      looking = looks_on (view_in store old) (has_second c.args.second)
          (rows (view_in store old) c.args.from c.args.until) c.turns.cursor c.scan_step.new.cursor
          c.scan_step.new.rows scans c.turns.invariant.looking c.turns-test.true
          (ap (list_any (has_second c.args.second)) (sym c.as_slice.ensures) ∙ sym c.any_with.ensures
          ∙ c.if-any_with.false);
    }

pub turns-smaller : goal.turns-smaller
turns-smaller g c =
    let store = c.args.store.now in
    let old = c.args.pass.now in
    let scans = subst (λ view. ScansBy view c.turns.cursor c.scan_step.new.cursor c.scan_step.new.rows)
    (same_view store old c.turns.pass c.turns.invariant.kept) c.scan_step.ensures.answer in
    less_left (view_in store old) c.turns.cursor c.scan_step.new.cursor c.scan_step.new.rows scans c.turns-test.true

pub returns-then-any_with-clause-kept : goal.returns-then-any_with-clause-kept
returns-then-any_with-clause-kept g c =
    keeps_twice c.args.store.now c.args.pass.now c.turns.pass c.scan_step.new.pass c.turns.invariant.kept
    c.scan_step.ensures.kept

pub returns-then-any_with-clause-answer : goal.returns-then-any_with-clause-answer
returns-then-any_with-clause-answer g c =
    let store = c.args.store.now in
    let old = c.args.pass.now in
    let scans = subst (λ view. ScansBy view c.turns.cursor c.scan_step.new.cursor c.scan_step.new.rows)
    (same_view store old c.turns.pass c.turns.invariant.kept) c.scan_step.ensures.answer in
    sym (has_found (view_in store old) (has_second c.args.second) (rows (view_in store old) c.args.from c.args.until)
    c.turns.cursor c.scan_step.new.cursor c.scan_step.new.rows scans c.turns.invariant.looking c.turns-test.true
    (ap (list_any (has_second c.args.second)) (sym c.as_slice.ensures) ∙ sym c.any_with.ensures
    ∙ c.if-any_with.true))

pub returns-clause-answer : goal.returns-clause-answer
returns-clause-answer g c = sym (c.turns.invariant.looking.none c.turns-test.false)
