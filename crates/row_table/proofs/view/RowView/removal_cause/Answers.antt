use Rattle.std.proofs.Common.{Bool, sym, subst}
use Rattle.graph_model.specs.declared.journal.TxnName.{TxnName}
use Rattle.head_map.specs.UndoChain.Chains.{list_at}
use Rattle.row_table.specs.Checks.{AreNamedIn}
use Rattle.row_table.specs.Parts.{touches_of}
use Rattle.row_table.proofs.WalkLemmas.{named_pairs, named_touches, checked_both}
use Rattle.row_table.proofs.view.RowView.removal_cause.Goals as goal

pub newest_cause-newest-requires-clause-named : goal.newest_cause-newest-requires-clause-named
newest_cause-newest-requires-clause-named g c =
    let named = rw (← c.self.view_is, c.in-Some.is) at c.requires in
    named_pairs _ c.in-Some.row.value _ named.pairs

pub touch_cause-touches-requires-clause-named : goal.touch_cause-touches-requires-clause-named
touch_cause-touches-requires-clause-named g c =
    let named = rw (← c.self.view_is, c.in-Some.is) at c.requires in
    let touches = list_at c.self.inside.chains.now c.in-Some.row.touches in
    named_touches _ touches (subst (λ (names : TxnName → Bool). AreNamedIn names (touches_of touches)) (sym c.newest_cause-newest.ensures.grows.names) named.touches)

pub returns-in-Some-clause-checked : goal.returns-in-Some-clause-checked
returns-in-Some-clause-checked g c =
    rw (← c.self.view_is, c.in-Some.is, c.combined.ensures)
    (checked_both _ _ _ _ _ _ _ _ c.newest_cause-newest.ensures.grows c.touch_cause-touches.ensures.grows (c.newest_cause-newest.ensures.checked c.in-Some.row.value) c.touch_cause-touches.ensures.checked)
