use Rattle.std.proofs.Common.{◌≡◌, sym, ap, ◌∙◌}
use Rattle.graph_model.specs.Graph.{weight_of}
use Rattle.run_model.specs.Answering.{weight_answer}
use Rattle.line_runner.specs.Turns.{view_now}
use Rattle.line_runner.proofs.CoreLemmas.{view_is}
use Rattle.line_runner.proofs.TurnLemmas.{one_read}
use Rattle.line_runner.proofs.line.weight.Goals as goal
use Rattle.line_runner.proofs.line.weight.Goals.{in-Some, in-None}

pub returns : goal.returns
returns g c =
    let account = g.E.Engine.account c.args.engine.now in
    let read : c.weight.result ≡ weight_of (view_now account) c.args.u c.args.v =
    view_is (λ x. c.weight.result ≡ weight_of x c.args.u c.args.v) account c.requires.current c.weight.ensures.answer in
    let answer : c.match-weight.answer ≡ weight_answer c.weight.result = elim c.match-weight.branch [
      | in-Some w ↦ w.answer-is ∙ ap weight_answer (sym w.in-Some.is)
      | in-None w ↦ w.answer-is ∙ ap weight_answer (sym w.in-None.is)
    ] in
    record {
      answer = c.match-weight.answer;
      given_is = c.plain.ensures;
      right = answer ∙ ap weight_answer read;
      reads_on = one_read _ _ _ c.weight.ensures.did;
    }
