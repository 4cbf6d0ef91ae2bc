use Rattle.row_table.proofs.WalkLemmas.{named_pairs}
use Rattle.row_table.proofs.view.RowView.cause.Goals as goal

pub newest_cause-requires-clause-named : goal.newest_cause-requires-clause-named
newest_cause-requires-clause-named g c =
    let named = rw (← c.self.view_is, c.in-Some.is) at c.requires in
    named_pairs _ c.in-Some.row.value _ named.pairs
