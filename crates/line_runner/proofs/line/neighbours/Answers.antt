use Rattle.std.proofs.Common.{◌≡◌, true, false, sym, subst, ap, ◌∙◌}
use Rattle.std.specs.Prelude.{IsSome}
use Rattle.graph_model.specs.Graph.{has_vertex}
use Rattle.run_model.specs.declared.answer.Answer.TheVariants as answers
use Rattle.run_model.specs.Answering.{query_answer}
use Rattle.run_model.specs.declared.command.Query.TheVariants.{NeighboursOf}
use Rattle.line_runner.specs.Turns.{view_now}
use Rattle.line_runner.proofs.CoreLemmas.{not_true, not_false, view_is}
use Rattle.line_runner.proofs.ViewLemmas.{neighbours_are, same_targets, sees_still}
use Rattle.line_runner.proofs.TurnLemmas.{on_err, one_read, two_reads}
use Rattle.line_runner.proofs.line.neighbours.Goals as goal
use Rattle.line_runner.proofs.line.neighbours.Goals.{then-has_vertex, else-has_vertex}

pub advance-requires-clause-scans : goal.advance-requires-clause-scans
advance-requires-clause-scans g c = (NeighboursOf c.args.v, c.requires.reads, c.of_arcs.ensures.scan (view_now (g.E.Engine.account c.args.engine.now)))

pub returns-then-not-scan-clause-takes : goal.returns-then-not-scan-clause-takes
returns-then-not-scan-clause-takes g c =
    let view = view_now (g.E.Engine.account c.args.engine.now) in (
      (c.in_ok-scan.ensures.advances (NeighboursOf c.args.v) c.requires.reads (c.of_arcs.ensures.scan view)).portion (not_true _ c.if-not-scan.true),
      one_read _ _ _ c.in_ok-scan.ensures.did,
    )

pub into_targets-requires : goal.into_targets-requires
into_targets-requires g c =
    let view = view_now (g.E.Engine.account c.args.engine.now) in
    (_, ((c.in_ok-scan.ensures.advances (NeighboursOf c.args.v) c.requires.reads (c.of_arcs.ensures.scan view)).rest (not_false _ c.if-not-scan.false)).0.result)

pub has_vertex-requires-clause-current : goal.has_vertex-requires-clause-current
has_vertex-requires-clause-current g c = subst IsSome (sym (ap (λ a. a.start) (g.met.E.Engine.reads _ _ c.in_ok-scan.ensures.did).0.others)) c.requires.phase_is

pub returns-clause-takes : goal.returns-clause-takes
returns-clause-takes g c =
    let account = g.E.Engine.account c.args.engine.now in
    let mid = g.E.Engine.account c.advance.new.engine in
    let view = view_now account in
    let v = c.args.v in
    let read = (g.met.E.Engine.reads _ _ c.in_ok-scan.ensures.did).0 in
    let ends = (c.in_ok-scan.ensures.advances (NeighboursOf v) c.requires.reads (c.of_arcs.ensures.scan view)).rest (not_false _ c.if-not-scan.false) in
    let opened : IsSome mid.start = subst IsSome (sym (ap (λ a. a.start) read.others)) c.requires.phase_is in
    let has : c.has_vertex.result ≡ has_vertex view v =
    view_is (λ x. c.has_vertex.result ≡ has_vertex x v) mid opened c.has_vertex.ensures.answer
    ∙ ap (λ x. has_vertex x v) (sees_still account mid c.requires.valid c.requires.phase_is read) in
    let answer : c.if-has_vertex.answer ≡ query_answer account.kind view (NeighboursOf v) = elim c.if-has_vertex.branch [
      | then-has_vertex w ↦ neighbours_are account.kind view v c.has_vertex.result has c.if-has_vertex.answer
          (λ _. w.answer-is ∙ ap answers.Neighbours (same_targets _ _ (sym w.into_targets.ensures ∙ ends.0.result)))
          (λ e. absurd (let other : true ≡ false = sym w.if-has_vertex.true ∙ e in cc))
      | else-has_vertex w ↦ neighbours_are account.kind view v c.has_vertex.result has c.if-has_vertex.answer
          (λ e. absurd (let other : true ≡ false = sym e ∙ w.if-has_vertex.false in cc))
          (λ _. w.answer-is)
    ] in
    record {
      last = ends.1;
      does = record {
        answer = c.if-has_vertex.answer;
        given_is = c.plain.ensures;
        right = answer;
        reads_on = two_reads _ _ _ _ c.in_ok-scan.ensures.did c.has_vertex.ensures.did;
      };
    }

pub returns-in_err-scan-clause-err : goal.returns-in_err-scan-clause-err
returns-in_err-scan-clause-err g c = on_err _ _ (one_read _ _ _ c.in_err-scan.ensures.did)
