use Rattle.std.proofs.Common.{◌∙◌, ap, sym}
use Rattle.graph_model.specs.Rows.{is_below, rows}
use Rattle.worker_calls.proofs.ScanLemmas.{step_end}
use Rattle.worker_calls.proofs.scans.take_run.Goals as goal

pub step-requires-clause-ahead : goal.step-requires-clause-ahead
step-requires-clause-ahead c =
    ap (is_below c.args.cursor.now.next) (step_end c.args.end c.args.cursor.now c.requires.ends.inside)
    ∙ c.requires.ends.ahead

pub returns : goal.returns
returns c = record {
  under_way = λ g first is.
      c.step.ensures.under_way g first (is
      ∙ ap (rows g c.args.cursor.now.next) (sym (step_end c.args.end c.args.cursor.now c.requires.ends.inside)));
}
