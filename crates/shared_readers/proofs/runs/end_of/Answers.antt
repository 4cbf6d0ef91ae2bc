use Rattle.shared_readers.proofs.ReadLemmas.{if_some, reads_chained, reads_rows}
use Rattle.shared_readers.proofs.runs.end_of.Goals as goal

pub returns-in-Rows : goal.returns-in-Rows
returns-in-Rows c =
    if_some c.behind.result (λ end there. reads_rows c.args.tried.now c.in-Rows.end c.args.from end c.in-Rows.is there)
    c.behind.ensures

pub returns-in-Chained : goal.returns-in-Chained
returns-in-Chained c =
    if_some c.behind-in-Chained.result (λ end there.
    reads_chained c.args.tried.now c.in-Chained.key c.in-Chained.end c.args.from end c.in-Chained.is there)
    c.behind-in-Chained.ensures
