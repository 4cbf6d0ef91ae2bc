use Rattle.std.proofs.Common.{sym, ◌∙◌, ap, cond, subst, not, is_some, Some, None}
use Rattle.graph_model.specs.declared.refusal.Refusal.TheVariants.{NoEdge}
use Rattle.graph_model.specs.Rows.{arc_key}
use Rattle.store_model.specs.Stamped.{StampedVersions, read_stamped}
use Rattle.undo_chain.proofs.ListLemmas.{grows_chain}
use Rattle.version_segment.specs.Checks.{IsChecked, newest_of}
use Rattle.row_writes.specs.Checks.{answer_of}
use Rattle.row_writes.proofs.CheckLemmas.{seen_arc, ends_pass, checked_on}
use Rattle.row_writes.proofs.checks.check_old_edge.Goals as goal

pub returns-clause-answer : goal.returns-clause-answer
returns-clause-answer g c = λ graph shows.
    let snapshot = c.args.snapshot.now in
    let ends = c.in_ok-check_ends.ensures in
    let row = c.row-arc.ensures ∙ ap (g.C.HeldCells.rows c.args.cells.now).versions c.of_arc.ensures in
    let value = c.value.ensures.value
    ∙ (λ i. read_stamped (ends.grows.stamps i) snapshot.start snapshot.own (row i))
    ∙ shows (arc_key c.args.u c.args.v) c.requires.held.0 in
    let there = sym (seen_arc graph c.args.u c.args.v) ∙ ap is_some (sym value) ∙ c.is_none.ensures ∙ ap not c.if-is_none.false in
    record {
      cause = c.cause.result;
      checked = λ _. subst (λ (vs : StampedVersions). IsChecked (g.S.States.knowledge c.args.states.now) (g.S.States.knowledge c.cause.new.states) snapshot (newest_of vs) c.cause.result) row
          (checked_on _ _ _ snapshot _ c.cause.result (grows_chain _ _ _ ends.grows c.value.ensures.grows) c.cause.ensures.grows c.cause.ensures.checked);
      is = c.unless_met.ensures
          ∙ (λ i. answer_of (cond (sym there i) None (Some NoEdge)) c.cause.result)
          ∙ sym (ap (λ view. answer_of view c.cause.result) (ends_pass graph c.args.u c.args.v _ (ends.sees graph shows)));
    }
