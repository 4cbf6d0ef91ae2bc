use Rattle.std.proofs.Common.{◌∙◌, sym}
use Rattle.graph_model.specs.Rows.{is_below}
use Rattle.shared_readers.proofs.ScanLemmas.{none_left_behind, none_left_beyond}
use Rattle.shared_readers.proofs.scans.has_more.Goals as goal

pub returns-then-is_below-clause-none : goal.returns-then-is_below-clause-none
returns-then-is_below-clause-none c = λ no g ends.
    none_left_beyond g ends c.args.cursor.now.next c.args.cursor.now.until
    ((λ i. is_below c.args.cursor.now.next (sym c.end.ensures i)) ∙ sym c.is_below-then-is_below.ensures ∙ no)

pub returns-else-is_below-clause-none : goal.returns-else-is_below-clause-none
returns-else-is_below-clause-none c = λ no g ends.
    none_left_behind g c.args.cursor.now.next c.args.cursor.now.until (sym c.is_below.ensures ∙ c.if-is_below.false)
