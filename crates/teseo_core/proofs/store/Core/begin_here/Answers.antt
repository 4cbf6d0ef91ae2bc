use Rattle.std.proofs.Common.{ℕ, ◌+◌, sym, ◌∙◌, ap, subst, length}
use Rattle.std.specs.Prelude.{slice_set}
use Rattle.graph_model.specs.OwnerCalls.{current}
use Rattle.graph_model.specs.Transactions.{HasNotCommitted}
use Rattle.teseo_core.specs.Passes.{with_begin}
use Rattle.teseo_core.specs.Keeping.{core_of}
use Rattle.teseo_core.proofs.FieldLemmas.{lent_state, kept_roomy, roomy_core, put_core, begins_refused, begin_room}
use Rattle.teseo_core.proofs.KeepLemmas.{kept_begun}
use Rattle.teseo_core.proofs.store.Core.begin_here.Goals as goal

pub invariant_of-self : goal.invariant_of-self
invariant_of-self c =
    let f = c.self.inside in
    kept_roomy f.kind f.leaves f.manager f.passes.items f.selected f.served f.rows c.self.invariant c.open_txn.new.self c.in_err-begun.ensures.err

pub returns-in_err-begun-clause-did : goal.returns-in_err-begun-clause-did
returns-in_err-begun-clause-did c =
    let f = c.self.inside in
    let journal = ap (λ m. m.journal) c.in_err-begun.ensures.err in
    let same = roomy_core f.kind f.leaves f.manager f.passes.items f.selected f.served f.rows c.self.invariant c.open_txn.new.self journal in
    rw (← c.self.view_is) (record {
      chosen = c.self.invariant.chosen;
      here = begins_refused f.kind f.leaves f.manager f.passes.items f.selected f.served f.rows c.self.invariant c.open_txn.result c.from_residual.result c.in_err-begun.field-0.0 c.open_txn.ensures.used c.in_err-begun.was c.from_residual.ensures.1 _ same;
      legal = rw journal c.self.invariant.store.transactions.legal;
    })

pub begin-requires : goal.begin-requires
begin-requires c =
    let f = c.self.inside in
    let here = lent_state f.passes.items f.selected c.index_mut.result.now c.self.invariant.chosen c.index_mut.ensures.value in
    ap (λ s. s.start) (sym here) ∙ (rw (← c.self.view_is) at c.requires)

pub invariant_of-self-2 : goal.invariant_of-self-2
invariant_of-self-2 c =
    let f = c.self.inside in
    let core = core_of f.kind f.leaves f.manager f.passes.items f.selected f.served in
    let here = lent_state f.passes.items f.selected c.index_mut.result.now c.self.invariant.chosen c.index_mut.ensures.value in
    let counts = ap (λ t. t.begun) (c.self.invariant.tied.each f.selected) in
    let by = c.in_ok-begun.ensures.begun in
    let state = c.begin.ensures ∙ (λ i. with_begin (sym here i) (by i).start (by i).by.number) ∙ (λ i. with_begin (current core) (length f.manager.journal) (counts i + 1)) in
    rw (put_core f.kind f.leaves f.manager f.passes.items f.selected f.served f.rows c.self.invariant c.begin.new.self c.open_txn.new.self (ap (λ m. m.journal) c.in_ok-begun.ensures.opened))
    (kept_begun core f.manager f.rows c.self.invariant c.begin.new.self.state c.open_txn.new.self c.open_txn.new.self.spare (rw (← c.self.view_is) at c.requires)
    (begin_room f.kind f.leaves f.manager f.passes.items f.selected f.served f.rows c.self.invariant c.in_ok-begun.begun c.open_txn.result c.open_txn.ensures.used c.in_ok-begun.was)
    (subst (λ (n : ℕ). HasNotCommitted f.manager.journal (record { job = f.selected; number = n + 1 })) counts c.in_ok-begun.ensures.new_name)
    state c.in_ok-begun.ensures.opened)

pub returns-clause-did : goal.returns-clause-did
returns-clause-did c =
    let f = c.self.inside in
    let core = core_of f.kind f.leaves f.manager f.passes.items f.selected f.served in
    let here = lent_state f.passes.items f.selected c.index_mut.result.now c.self.invariant.chosen c.index_mut.ensures.value in
    let counts = ap (λ t. t.begun) (c.self.invariant.tied.each f.selected) in
    let by = c.in_ok-begun.ensures.begun in
    let journal = ap (λ m. m.journal) c.in_ok-begun.ensures.opened in
    let state = c.begin.ensures ∙ (λ i. with_begin (sym here i) (by i).start (by i).by.number) ∙ (λ i. with_begin (current core) (length f.manager.journal) (counts i + 1)) in
    let room = begin_room f.kind f.leaves f.manager f.passes.items f.selected f.served f.rows c.self.invariant c.in_ok-begun.begun c.open_txn.result c.open_txn.ensures.used c.in_ok-begun.was in
    rw (← c.self.view_is) (record {
      chosen = c.self.invariant.chosen;
      here = (
        room,
        by ∙ (λ i. record { by = record { job = f.selected; number = counts i + 1 }; start = length f.manager.journal }),
        put_core f.kind f.leaves f.manager f.passes.items f.selected f.served f.rows c.self.invariant c.begin.new.self c.open_txn.new.self journal
            ∙ ap (λ s. record core { passes = slice_set core.passes f.selected s }) state,
      );
      legal = rw journal c.self.invariant.store.transactions.legal;
    })
