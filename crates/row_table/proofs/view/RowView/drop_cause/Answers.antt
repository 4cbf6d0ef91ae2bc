use Rattle.row_table.proofs.WalkLemmas.{named_pairs}
use Rattle.row_table.proofs.view.RowView.drop_cause.Goals as goal

pub drop_cause-requires-clause-named : goal.drop_cause-requires-clause-named
drop_cause-requires-clause-named g c =
    let named = rw (← c.self.view_is, c.in-Some.is) at c.requires in
    named_pairs _ c.in-Some.row.value _ named.pairs
