use Rattle.std.proofs.Common.{sym, ◌∙◌}
use Rattle.std.proofs.lemmas.Result.{IfOk-weaker}
use Rattle.part_scan.specs.Parts.{rows_in}
use Rattle.line_runner.specs.Turns.{view_now}
use Rattle.line_runner.proofs.TurnLemmas.{one_read}
use Rattle.line_runner.proofs.ViewLemmas.{seen_now, seen_rows}
use Rattle.line_runner.proofs.kernel_line.image_at_once.Goals as goal

pub of_lists-requires-clause-graph : goal.of_lists-requires-clause-graph
of_lists-requires-clause-graph g c κs within =
    let account = g.E.Engine.account c.args.engine.now in
    let seen = seen_now account c.requires.valid c.requires.current in (
      view_now account,
      seen_rows account c.requires.valid c.requires.current (rows_in c.in_ok-lists.lists) c.in_ok-lists.ensures.rows,
      seen.bounded,
      λ undirected. seen.symmetric (sym c.kind-kind.ensures ∙ undirected),
    )

pub returns-clause-is : goal.returns-clause-is
returns-clause-is g c =
    let account = g.E.Engine.account c.args.engine.now in
    let are = seen_rows account c.requires.valid c.requires.current (rows_in c.in_ok-lists.lists) c.in_ok-lists.ensures.rows in
    IfOk-weaker c.of_lists.result _ _ (λ kept is. is (view_now account) are) c.of_lists.ensures

pub returns-clause-did : goal.returns-clause-did
returns-clause-did g c = one_read _ c.args.engine.now c.scan_parts.new.self c.in_ok-lists.ensures.did
