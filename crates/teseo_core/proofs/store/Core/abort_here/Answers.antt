use Rattle.std.proofs.Common.{sym, ◌∙◌, ap, subst, IsSome}
use Rattle.std.specs.Prelude.{slice_set}
use Rattle.graph_model.specs.declared.journal.TxnName.{TxnName}
use Rattle.graph_model.specs.OwnerCalls.{current}
use Rattle.store_model.specs.Layers.{undone}
use Rattle.txn_manager.specs.Manager.{ended, open_start}
use Rattle.leaf_rows.specs.LeafStore.Leaves.{contents_of}
use Rattle.teseo_core.specs.Passes.{with_end}
use Rattle.teseo_core.specs.Keeping.{core_of}
use Rattle.teseo_core.proofs.FieldLemmas.{lent_state, put_core, is_open_here, start_of}
use Rattle.teseo_core.proofs.KeepLemmas.{kept_within, kept_aborted}
use Rattle.teseo_core.proofs.store.Core.abort_here.Goals as goal

pub undo_all-requires : goal.undo_all-requires
undo_all-requires c =
    let f = c.self.inside in
    let core = core_of f.kind f.leaves f.manager f.passes.items f.selected f.served in
    let start = start_of (current core).start (rw (← c.self.view_is) at c.requires) in
    let last = lent_state f.passes.items f.selected c.index_mut.result.now c.self.invariant.chosen c.index_mut.ensures.value in
    let own = c.as_slice.ensures ∙ c.end-writes.ensures.writes ∙ ap (λ s. s.own) (sym last) in
    rw own (kept_within core f.manager f.rows c.self.invariant start.0 start.1)

pub end_txn-requires : goal.end_txn-requires
end_txn-requires c =
    let f = c.self.inside in
    let here = lent_state f.passes.items f.selected c.index.result.now c.self.invariant.chosen c.index.ensures in
    let name = c.name_of-by.ensures ∙ (λ i. record { job = f.selected; number = (sym here i).begun }) in
    subst (λ (n : TxnName). IsSome (open_start f.manager n)) (sym name) (is_open_here f.kind f.leaves f.manager f.passes.items f.selected f.served f.rows c.self.invariant (rw (← c.self.view_is) at c.requires))

pub invariant_of-self : goal.invariant_of-self
invariant_of-self c =
    let f = c.self.inside in
    let core = core_of f.kind f.leaves f.manager f.passes.items f.selected f.served in
    let start = start_of (current core).start (rw (← c.self.view_is) at c.requires) in
    let here = lent_state f.passes.items f.selected c.index.result.now c.self.invariant.chosen c.index.ensures in
    let last = lent_state f.passes.items f.selected c.index_mut.result.now c.self.invariant.chosen c.index_mut.ensures.value in
    let name = c.name_of-by.ensures ∙ (λ i. record { job = f.selected; number = (sym here i).begun }) in
    let own = c.as_slice.ensures ∙ c.end-writes.ensures.writes ∙ ap (λ s. s.own) (sym last) in
    let ends = c.end_txn.ensures ∙ ap (ended f.manager) name in
    rw (put_core f.kind f.leaves f.manager f.passes.items f.selected f.served f.rows c.self.invariant c.end-writes.new.self c.end_txn.new.self (ap (λ m. m.journal) ends))
    (kept_aborted core f.manager f.rows c.self.invariant start.0 start.1 c.end-writes.new.self.state c.end_txn.new.self c.undo_all.new.self
    (c.end-writes.ensures.ended ∙ ap with_end (sym last)) ends
    (λ q. c.undo_all.ensures.contents q ∙ (λ i. undone f.kind (name i) (own i) q (contents_of f.rows q))) c.undo_all.ensures.weight c.undo_all.ensures.limit)

pub returns-clause-did : goal.returns-clause-did
returns-clause-did c =
    let f = c.self.inside in
    let core = core_of f.kind f.leaves f.manager f.passes.items f.selected f.served in
    let last = lent_state f.passes.items f.selected c.index_mut.result.now c.self.invariant.chosen c.index_mut.ensures.value in
    let journal = ap (λ m. m.journal) c.end_txn.ensures in
    rw (← c.self.view_is) (record {
      chosen = c.self.invariant.chosen;
      here = put_core f.kind f.leaves f.manager f.passes.items f.selected f.served f.rows c.self.invariant c.end-writes.new.self c.end_txn.new.self journal
          ∙ ap (λ s. record core { passes = slice_set core.passes f.selected s }) (c.end-writes.ensures.ended ∙ ap with_end (sym last));
      legal = rw journal c.self.invariant.store.transactions.legal;
    })
