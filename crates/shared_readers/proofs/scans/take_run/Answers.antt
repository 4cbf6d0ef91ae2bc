use Rattle.std.proofs.Common.{◌∙◌, ap, sym}
use Rattle.graph_model.specs.Rows.{is_below, rows}
use Rattle.shared_readers.proofs.ScanLemmas.{step_end}
use Rattle.shared_readers.proofs.scans.take_run.Goals as goal

pub step-requires-clause-ahead : goal.step-requires-clause-ahead
step-requires-clause-ahead c =
    ap (is_below c.args.cursor.now.next) (step_end c.args.end c.args.cursor.now c.requires.inside)
    ∙ c.requires.ahead

pub returns-then-cursor-clause-under_way : goal.returns-then-cursor-clause-under_way
returns-then-cursor-clause-under_way c = λ g first is.
    c.step.ensures.under_way g first (c.as_slice.ensures ∙ is
    ∙ ap (rows g c.args.cursor.now.next) (sym (step_end c.args.end c.args.cursor.now c.requires.inside)))
