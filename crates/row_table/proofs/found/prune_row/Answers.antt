use Rattle.std.proofs.Common.{◌≡◌, ℕ, sym, subst, inr, List, arith, Bool}
use Rattle.graph_model.specs.declared.journal.TxnName.{TxnName}
use Rattle.std.specs.Prelude.{Option}
use Rattle.head_map.specs.UndoChain.States.{AreNamed}
use Rattle.head_map.specs.UndoChain.Records.{UndoRecord, open_touches}
use Rattle.head_map.specs.UndoChain.Chains.{list_at}
use Rattle.row_table.proofs.ListLemmas.{undos_leave_touches}
use Rattle.row_table.proofs.WalkLemmas.{named_pairs, named_touches}
use Rattle.row_table.proofs.ChangeLemmas.{row_begin}
use Rattle.row_table.proofs.PruneLemmas.{row_named, prune_settled, prune_done, none_of, pruned_already}
use Rattle.row_table.proofs.found.prune_row.Goals as goal

pub prune-undos-requires-clause-named : goal.prune-undos-requires-clause-named
prune-undos-requires-clause-named g c =
    named_pairs _ c.row_at-row.result.value _ (row_named c.args.rows.now.fenced c.args.rows.now.heads c.args.chains.now _ c.requires.parts _ c.row_at-row.ensures.row _ c.row_at-row.ensures.place _ c.requires.named).pairs

pub prune_touches-touches-requires-clause-named : goal.prune_touches-touches-requires-clause-named
prune_touches-touches-requires-clause-named g c =
    let named = named_touches _ (list_at c.args.chains.now c.row_at-row.result.touches) (row_named c.args.rows.now.fenced c.args.rows.now.heads c.args.chains.now _ c.requires.parts _ c.row_at-row.ensures.row _ c.row_at-row.ensures.place _ c.requires.named).touches in
    let stay = undos_leave_touches _ _ _ _ _ _ _ (row_begin _ c.args.rows.now.heads _ _ c.requires.parts _ c.row_at-row.ensures.row) _ c.prune-undos.ensures.others in
    subst (λ (us : List UndoRecord). AreNamed (g.S.States.knowledge c.prune-undos.new.states).names us) (sym stay)
    (subst (λ (names : TxnName → Bool). AreNamed names (list_at c.args.chains.now c.row_at-row.result.touches)) (sym c.prune-undos.ensures.grows.names) named)

pub set_lists-requires-clause-room : goal.set_lists-requires-clause-room
set_lists-requires-clause-room g c =
    let second = subst (λ (stamps : TxnName → Option ℕ). list_at c.prune_touches-touches.new.self c.prune_touches-touches.result ≡ open_touches stamps c.args.horizon (list_at c.prune-undos.new.self c.row_at-row.result.touches)) c.prune-undos.ensures.grows.stamps c.prune_touches-touches.ensures.list in
    inr (prune_settled c.args.rows.now.fenced c.args.rows.now.heads c.args.chains.now _ c.requires.parts _ c.row_at-row.ensures.row _ c.row_at-row.ensures.place _ _ _ _ (g.S.States.knowledge c.args.states.now).stamps c.args.horizon
    c.prune-undos.ensures.list c.prune-undos.ensures.others second c.prune_touches-touches.ensures.others)

pub returns-clause-pruned : goal.returns-clause-pruned
returns-clause-pruned g c =
    let second = subst (λ (stamps : TxnName → Option ℕ). list_at c.prune_touches-touches.new.self c.prune_touches-touches.result ≡ open_touches stamps c.args.horizon (list_at c.prune-undos.new.self c.row_at-row.result.touches)) c.prune-undos.ensures.grows.stamps c.prune_touches-touches.ensures.list in
    let settled = prune_settled c.args.rows.now.fenced c.args.rows.now.heads c.args.chains.now _ c.requires.parts _ c.row_at-row.ensures.row _ c.row_at-row.ensures.place _ _ _ _ (g.S.States.knowledge c.args.states.now).stamps c.args.horizon
    c.prune-undos.ensures.list c.prune-undos.ensures.others second c.prune_touches-touches.ensures.others in
    prune_done c.args.rows.now.fenced c.args.rows.now.heads c.args.chains.now _ c.requires.parts _ c.row_at-row.ensures.row _ c.row_at-row.ensures.place _ _ _ _ (g.S.States.knowledge c.args.states.now).stamps c.args.horizon
    c.prune-undos.ensures.list c.prune-undos.ensures.others second c.prune_touches-touches.ensures.others
    c.set_lists.new.rows.fenced c.set_lists.new.rows.heads c.set_lists.ensures.rows c.set_lists.ensures.heads (c.set_lists.ensures.kept settled) (omega (arith, c.prune-undos.ensures.spare, c.prune_touches-touches.ensures.spare)) c.prune-undos.ensures.freed c.prune_touches-touches.ensures.freed

pub returns-then-is_none-2-clause-pruned : goal.returns-then-is_none-2-clause-pruned
returns-then-is_none-2-clause-pruned g c =
    pruned_already c.args.rows.now.fenced c.args.rows.now.heads c.args.chains.now _ c.requires.parts c.row_at-row.result c.row_at-row.ensures.row c.args.place c.row_at-row.ensures.place (none_of _ c.if-is_none.ensures) (none_of _ c.if-is_none-2.ensures) (g.S.States.knowledge c.args.states.now).stamps c.args.horizon
