use Rattle.std.proofs.Common.{sym, ◌∙◌, ap, cond, subst, not, is_some, Some, None}
use Rattle.graph_model.specs.declared.refusal.Refusal.TheVariants.{NoVertex, HasEdges}
use Rattle.graph_model.specs.Rows.{vertex_key}
use Rattle.store_model.specs.Stamped.{StampedVersions, read_stamped}
use Rattle.version_segment.specs.Checks.{IsChecked, newest_and_touches}
use Rattle.row_writes.specs.Checks.{answer_of}
use Rattle.row_writes.proofs.CheckLemmas.{seen_vertex, checked_on}
use Rattle.row_writes.proofs.checks.check_old_vertex.Goals as goal

pub returns-clause-answer : goal.returns-clause-answer
returns-clause-answer g c = λ graph shows tells.
    let snapshot = c.args.snapshot.now in
    let row = c.row-row.ensures ∙ ap (g.C.HeldCells.rows c.args.cells.now).versions c.of_vertex.ensures in
    let value = c.value.ensures.value ∙ ap (read_stamped (g.S.States.knowledge c.args.states.now).stamps snapshot.start snapshot.own) row ∙ shows (vertex_key c.args.v) c.requires.held.0 in
    let there = sym (seen_vertex graph c.args.v) ∙ ap is_some (sym value) ∙ c.is_none.ensures ∙ ap not c.if-is_none.false in
    let none = sym (tells c.has_edges.result c.has_edges.ensures) ∙ c.if-has_edges.false in
    record {
      cause = c.removal_cause.result;
      checked = λ _. subst (λ (vs : StampedVersions). IsChecked (g.S.States.knowledge c.args.states.now) (g.S.States.knowledge c.removal_cause.new.states) snapshot (newest_and_touches vs) c.removal_cause.result) row
          (checked_on _ _ _ snapshot _ c.removal_cause.result c.value.ensures.grows c.removal_cause.ensures.grows c.removal_cause.ensures.checked);
      is = c.unless_met.ensures ∙ (λ i. answer_of (cond (sym there i) (cond (sym none i) (Some HasEdges) None) (Some (NoVertex c.args.v))) c.removal_cause.result);
    }
