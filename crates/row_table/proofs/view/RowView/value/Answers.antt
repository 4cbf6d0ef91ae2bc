use Rattle.row_table.proofs.WalkLemmas.{named_pairs}
use Rattle.row_table.proofs.view.RowView.value.Goals as goal

pub value_at-requires-clause-named : goal.value_at-requires-clause-named
value_at-requires-clause-named g c =
    let named = rw (← c.self.view_is, c.in-Some.is) at c.requires.named in
    named_pairs _ c.in-Some.row.value _ named.pairs
