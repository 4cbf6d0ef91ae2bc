use Rattle.std.proofs.Common.{◌≡◌, ◌-◌, ap, ◌∙◌}
use Rattle.std.specs.Prelude.{count_by}
use Rattle.graph_model.specs.Rows.{all_rows}
use Rattle.run_model.specs.declared.command.Query.TheVariants.{Counts}
use Rattle.line_runner.specs.Scanning.{is_vertex, counted}
use Rattle.line_runner.specs.Turns.{view_now}
use Rattle.line_runner.proofs.CoreLemmas.{not_true, not_false}
use Rattle.line_runner.proofs.ViewLemmas.{seen_now, counts_are}
use Rattle.line_runner.proofs.TurnLemmas.{on_err, one_read}
use Rattle.line_runner.proofs.line.count.Goals as goal

pub returns-then-not-scan-clause-takes : goal.returns-then-not-scan-clause-takes
returns-then-not-scan-clause-takes g c =
    let view = view_now (g.E.Engine.account c.args.engine.now) in (
      (c.in_ok-scan.ensures.advances Counts c.requires.reads (c.of_counts.ensures.scan view)).portion (not_true _ c.if-not-scan.true),
      one_read _ _ _ c.in_ok-scan.ensures.did,
    )

pub into_counts-answer-requires-clause-counts : goal.into_counts-answer-requires-clause-counts
into_counts-answer-requires-clause-counts g c =
    let view = view_now (g.E.Engine.account c.args.engine.now) in
    (count_by is_vertex (all_rows view), ((c.in_ok-scan.ensures.advances Counts c.requires.reads (c.of_counts.ensures.scan view)).rest (not_false _ c.if-not-scan.false)).0.result)

pub into_counts-answer-requires-clause-bounded : goal.into_counts-answer-requires-clause-bounded
into_counts-answer-requires-clause-bounded g c =
    let view = view_now (g.E.Engine.account c.args.engine.now) in
    ((c.in_ok-scan.ensures.advances Counts c.requires.reads (c.of_counts.ensures.scan view)).rest (not_false _ c.if-not-scan.false)).0.bounded

pub returns-clause-takes : goal.returns-clause-takes
returns-clause-takes g c =
    let account = g.E.Engine.account c.args.engine.now in
    let view = view_now account in
    let ends = (c.in_ok-scan.ensures.advances Counts c.requires.reads (c.of_counts.ensures.scan view)).rest (not_false _ c.if-not-scan.false) in
    let n = count_by is_vertex (all_rows view) in
    let kind : c.kind.result ≡ account.kind = c.kind.ensures ∙ ap (λ a. a.kind) (g.met.E.Engine.reads _ _ c.in_ok-scan.ensures.did).0.others in
    record {
      last = ends.1;
      does = record {
        answer = c.into_counts-answer.result;
        given_is = c.plain.ensures;
        right =
            c.into_counts-answer.ensures n ends.0.result ∙ (λ i. counted (kind i) n (ends.0.counted i - n))
            ∙ counts_are account.kind view (seen_now account c.requires.valid c.requires.phase_is).rows;
        reads_on = one_read _ _ _ c.in_ok-scan.ensures.did;
      };
    }

pub returns-in_err-scan-clause-err : goal.returns-in_err-scan-clause-err
returns-in_err-scan-clause-err g c = on_err _ _ (one_read _ _ _ c.in_err-scan.ensures.did)
