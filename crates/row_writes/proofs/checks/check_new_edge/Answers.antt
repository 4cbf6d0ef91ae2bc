use Rattle.std.proofs.Common.{sym, ◌∙◌, ap, cond, is_some, Some, None}
use Rattle.graph_model.specs.declared.refusal.Refusal.TheVariants.{EdgeExists}
use Rattle.graph_model.specs.Rows.{arc_key}
use Rattle.store_model.specs.Check.{combine}
use Rattle.store_model.specs.Stamped.{read_stamped}
use Rattle.undo_chain.proofs.ListLemmas.{grows_chain}
use Rattle.row_writes.specs.Checks.{answer_of}
use Rattle.row_writes.proofs.CheckLemmas.{seen_arc, ends_pass, checked_three}
use Rattle.row_writes.proofs.checks.check_new_edge.Goals as goal

pub returns-clause-answer : goal.returns-clause-answer
returns-clause-answer g c = λ graph weight shows.
    let snapshot = c.args.snapshot.now in
    let ends = c.in_ok-ends.ensures in
    let row = c.row-arc.ensures ∙ ap (g.C.HeldCells.rows c.args.cells.now).versions c.of_arc.ensures in
    let value = c.value.ensures.value
    ∙ (λ i. read_stamped (ends.grows.stamps i) snapshot.start snapshot.own (row i))
    ∙ shows (arc_key c.args.u c.args.v) c.requires.held.0 in
    let gone = sym (seen_arc graph c.args.u c.args.v) ∙ ap is_some (sym value) ∙ sym c.is_some.ensures ∙ c.if-is_some.false in
    let newest = c.cause-newest in
    let source = c.drop_cause-source in
    let target = c.drop_cause-target in
    let cause = combine newest.result (combine source.result target.result) in
    let is = c.combined-2.ensures ∙ ap (combine newest.result) c.combined.ensures in
    record {
      cause = cause;
      checked = λ _. rw (← row, ← ends.source, ← ends.target) (checked_three _ _ _ _ _ snapshot _ _ _ newest.result source.result target.result (grows_chain _ _ _ ends.grows c.value.ensures.grows) newest.ensures.grows source.ensures.grows target.ensures.grows newest.ensures.checked source.ensures.checked target.ensures.checked);
      is = c.unless_met.ensures ∙ ap (answer_of None) is
          ∙ (λ i. answer_of (cond (sym gone i) (Some EdgeExists) None) cause)
          ∙ sym (ap (λ view. answer_of view cause) (ends_pass graph c.args.u c.args.v _ (ends.sees graph shows)));
    }
