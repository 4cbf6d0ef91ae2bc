use Rattle.std.proofs.Common.{arith, refl, ◌<◌, ◌++◌, ◌∷◌, [], sym, ◌∙◌, ap, subst, IsSome, length}
use Rattle.std.specs.Prelude.{slice_set}
use Rattle.graph_model.specs.declared.journal.TxnName.{TxnName}
use Rattle.graph_model.specs.OwnerCalls.{Core, current, name_here}
use Rattle.graph_model.specs.Transactions.{commit_of}
use Rattle.graph_model.specs.Legal.{IsLegal}
use Rattle.store_model.specs.Layers.{undone}
use Rattle.txn_manager.specs.Manager.{ended, committed, open_start}
use Rattle.leaf_rows.specs.LeafStore.Leaves.{contents_of}
use Rattle.teseo_core.specs.Passes.{with_end}
use Rattle.teseo_core.specs.Keeping.{core_of}
use Rattle.teseo_core.proofs.FieldLemmas.{lent_state, put_core, commit_core, is_open_here, start_of, empty_of, full_of, commits_none, commits_some}
use Rattle.teseo_core.proofs.KeepLemmas.{kept_aborted, kept_committed}
use Rattle.teseo_core.proofs.store.Core.commit_here.Goals as goal

pub end_txn-requires : goal.end_txn-requires
end_txn-requires c =
    let f = c.self.inside in
    let here = lent_state f.passes.items f.selected c.index.result.now c.self.invariant.chosen c.index.ensures in
    let name = c.name_of-by.ensures ∙ (λ i. record { job = f.selected; number = (sym here i).begun }) in
    subst (λ (n : TxnName). IsSome (open_start f.manager n)) (sym name) (is_open_here f.kind f.leaves f.manager f.passes.items f.selected f.served f.rows c.self.invariant (rw (← c.self.view_is) at c.requires))

pub invariant_of-self : goal.invariant_of-self
invariant_of-self c =
    let f = c.self.inside in
    let core = core_of f.kind f.leaves f.manager f.passes.items f.selected f.served in
    let start = start_of (current core).start (rw (← c.self.view_is) at c.requires) in
    let here = lent_state f.passes.items f.selected c.index.result.now c.self.invariant.chosen c.index.ensures in
    let last = lent_state f.passes.items f.selected c.index_mut.result.now c.self.invariant.chosen c.index_mut.ensures.value in
    let name = c.name_of-by.ensures ∙ (λ i. record { job = f.selected; number = (sym here i).begun }) in
    let own = ap (λ s. s.own) last ∙ sym c.end-writes.ensures.writes ∙ empty_of c.end-writes.result (sym c.is_empty.ensures ∙ c.if-is_empty.true) in
    let ends = c.end_txn.ensures ∙ ap (ended f.manager) name in
    rw (put_core f.kind f.leaves f.manager f.passes.items f.selected f.served f.rows c.self.invariant c.end-writes.new.self c.end_txn.new.self (ap (λ m. m.journal) ends))
    (kept_aborted core f.manager f.rows c.self.invariant start.0 start.1 c.end-writes.new.self.state c.end_txn.new.self f.rows
    (c.end-writes.ensures.ended ∙ ap with_end (sym last)) ends
    (λ q. ap (λ ws. undone f.kind (name_here core) ws q (contents_of f.rows q)) (sym own)) (omega arith) refl)

pub returns-then-is_empty-clause-did : goal.returns-then-is_empty-clause-did
returns-then-is_empty-clause-did c =
    let f = c.self.inside in
    let core = core_of f.kind f.leaves f.manager f.passes.items f.selected f.served in
    let start = start_of (current core).start (rw (← c.self.view_is) at c.requires) in
    let last = lent_state f.passes.items f.selected c.index_mut.result.now c.self.invariant.chosen c.index_mut.ensures.value in
    let own = ap (λ s. s.own) last ∙ sym c.end-writes.ensures.writes ∙ empty_of c.end-writes.result (sym c.is_empty.ensures ∙ c.if-is_empty.true) in
    let journal = ap (λ m. m.journal) c.end_txn.ensures in
    rw (← c.self.view_is) (record {
      chosen = c.self.invariant.chosen;
      here = (
        start.0,
        start.1,
        commits_none core _ start.0 own
            (put_core f.kind f.leaves f.manager f.passes.items f.selected f.served f.rows c.self.invariant c.end-writes.new.self c.end_txn.new.self journal
            ∙ ap (λ s. record core { passes = slice_set core.passes f.selected s }) (c.end-writes.ensures.ended ∙ ap with_end (sym last))),
      );
      legal = rw journal c.self.invariant.store.transactions.legal;
    })

pub push_commit-requires-clause-is_open : goal.push_commit-requires-clause-is_open
push_commit-requires-clause-is_open c =
    let f = c.self.inside in
    let here = lent_state f.passes.items f.selected c.index.result.now c.self.invariant.chosen c.index.ensures in
    let name = c.name_of-by.ensures ∙ (λ i. record { job = f.selected; number = (sym here i).begun }) in
    subst (λ (n : TxnName). IsSome (open_start f.manager n)) (sym name) (is_open_here f.kind f.leaves f.manager f.passes.items f.selected f.served f.rows c.self.invariant (rw (← c.self.view_is) at c.requires))

pub invariant_of-self-2 : goal.invariant_of-self-2
invariant_of-self-2 c =
    let f = c.self.inside in
    let core = core_of f.kind f.leaves f.manager f.passes.items f.selected f.served in
    let start = start_of (current core).start (rw (← c.self.view_is) at c.requires) in
    let here = lent_state f.passes.items f.selected c.index.result.now c.self.invariant.chosen c.index.ensures in
    let last = lent_state f.passes.items f.selected c.index_mut.result.now c.self.invariant.chosen c.index_mut.ensures.value in
    let name = c.name_of-by.ensures ∙ (λ i. record { job = f.selected; number = (sym here i).begun }) in
    let own = c.end-writes.ensures.writes ∙ ap (λ s. s.own) (sym last) in
    let wrote : 0 < length (current core).own = rw (← own) (full_of c.end-writes.result (sym c.is_empty.ensures ∙ c.if-is_empty.false)) in
    let commits = c.push_commit.ensures.committed ∙ (λ i. record (committed f.manager (name i) (own i)) { spare = c.push_commit.new.self.spare }) in
    rw (commit_core f.kind f.leaves f.manager f.passes.items f.selected f.served f.rows c.self.invariant c.end-writes.new.self c.push_commit.new.self c.push_commit.new.self.spare start.0 start.1 commits)
    (kept_committed core f.manager f.rows c.self.invariant start.0 start.1 c.end-writes.new.self.state c.push_commit.new.self c.push_commit.new.self.spare wrote
    (c.end-writes.ensures.ended ∙ ap with_end (sym last)) commits)

pub returns-clause-did : goal.returns-clause-did
returns-clause-did c =
    let f = c.self.inside in
    let core = core_of f.kind f.leaves f.manager f.passes.items f.selected f.served in
    let start = start_of (current core).start (rw (← c.self.view_is) at c.requires) in
    let here = lent_state f.passes.items f.selected c.index.result.now c.self.invariant.chosen c.index.ensures in
    let last = lent_state f.passes.items f.selected c.index_mut.result.now c.self.invariant.chosen c.index_mut.ensures.value in
    let name = c.name_of-by.ensures ∙ (λ i. record { job = f.selected; number = (sym here i).begun }) in
    let own = c.end-writes.ensures.writes ∙ ap (λ s. s.own) (sym last) in
    let wrote : 0 < length (current core).own = rw (← own) (full_of c.end-writes.result (sym c.is_empty.ensures ∙ c.if-is_empty.false)) in
    let commits = c.push_commit.ensures.committed ∙ (λ i. record (committed f.manager (name i) (own i)) { spare = c.push_commit.new.self.spare }) in
    let state = c.end-writes.ensures.ended ∙ ap with_end (sym last) in
    let is = commit_core f.kind f.leaves f.manager f.passes.items f.selected f.served f.rows c.self.invariant c.end-writes.new.self c.push_commit.new.self c.push_commit.new.self.spare start.0 start.1 commits
    ∙ ap (λ s. record core { passes = slice_set core.passes f.selected s; journal = core.journal ++ commit_of core.journal (name_here core) (record { start = start.0; writes = (current core).own }) ∷ [] }) state in
    let after = kept_committed core f.manager f.rows c.self.invariant start.0 start.1 c.end-writes.new.self.state c.push_commit.new.self c.push_commit.new.self.spare wrote state commits in
    let journal = ap (λ m. m.journal) commits in
    rw (← c.self.view_is) (record {
      chosen = c.self.invariant.chosen;
      here = (start.0, start.1, commits_some core _ start.0 c.push_commit.result (current core).own wrote c.push_commit.ensures.stamp is);
      legal = subst (λ (d : Core). IsLegal d.kind d.journal) (sym is) after.store.transactions.legal;
    })
