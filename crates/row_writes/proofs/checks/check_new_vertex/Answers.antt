use Rattle.std.proofs.Common.{sym, ◌∙◌, ap, cond, subst, is_some, Some, None}
use Rattle.graph_model.specs.declared.refusal.Refusal.TheVariants.{VertexExists}
use Rattle.graph_model.specs.Rows.{vertex_key}
use Rattle.store_model.specs.Stamped.{StampedVersions, read_stamped}
use Rattle.version_segment.specs.Checks.{IsChecked, newest_of}
use Rattle.row_writes.specs.Checks.{answer_of}
use Rattle.row_writes.proofs.CheckLemmas.{seen_vertex, checked_on}
use Rattle.row_writes.proofs.checks.check_new_vertex.Goals as goal

pub returns-clause-answer : goal.returns-clause-answer
returns-clause-answer g c = λ graph shows.
    let snapshot = c.args.snapshot.now in
    let row = c.row-row.ensures ∙ ap (g.C.HeldCells.rows c.args.cells.now).versions c.of_vertex.ensures in
    let value = c.value.ensures.value ∙ ap (read_stamped (g.S.States.knowledge c.args.states.now).stamps snapshot.start snapshot.own) row ∙ shows (vertex_key c.args.v) c.requires.held.0 in
    let gone = sym (seen_vertex graph c.args.v) ∙ ap is_some (sym value) ∙ sym c.is_some.ensures ∙ c.if-is_some.false in
    record {
      cause = c.cause.result;
      checked = λ _. subst (λ (vs : StampedVersions). IsChecked (g.S.States.knowledge c.args.states.now) (g.S.States.knowledge c.cause.new.states) snapshot (newest_of vs) c.cause.result) row
          (checked_on _ _ _ snapshot _ c.cause.result c.value.ensures.grows c.cause.ensures.grows c.cause.ensures.checked);
      is = c.unless_met.ensures ∙ (λ i. answer_of (cond (sym gone i) (Some VertexExists) None) c.cause.result);
    }
