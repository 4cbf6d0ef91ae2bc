use Rattle.std.proofs.Common.{sym, ◌∙◌, ap, subst, IsSome}
use Rattle.graph_model.specs.declared.journal.TxnName.{TxnName}
use Rattle.graph_model.specs.OwnerCalls.{Core, with_current}
use Rattle.txn_manager.specs.Manager.{ended, open_start}
use Rattle.teseo_core.specs.Passes.{with_load, with_end}
use Rattle.teseo_core.specs.Keeping.{core_of, IsKept}
use Rattle.teseo_core.specs.Loads.{journal_behind}
use Rattle.teseo_core.proofs.FieldLemmas.{lent_state, journal_core}
use Rattle.teseo_core.proofs.LoadLemmas.{is_open, kept_loaded, core_loaded, journal_loaded}
use Rattle.teseo_core.proofs.store.Core.take_load.Goals as goal

pub end_load-requires : goal.end_load-requires
end_load-requires c =
    let f = c.self.inside in
    let core = core_of f.kind f.leaves f.manager f.passes.items f.selected f.served in
    let begun = rw (← c.self.view_is) at c.requires.begun in
    let here = lent_state f.passes.items f.selected c.index.result.now c.self.invariant.chosen c.index.ensures in
    let name = c.name_of-by.ensures ∙ (λ i. record { job = f.selected; number = (sym here i).begun }) in
    subst (λ (n : TxnName). IsSome (open_start f.manager n)) (sym name) (is_open begun.0 begun.1 c.args.load core begun.3 f.manager f.rows c.self.invariant)

pub invariant_of-self : goal.invariant_of-self
invariant_of-self c =
    let f = c.self.inside in
    let core = core_of f.kind f.leaves f.manager f.passes.items f.selected f.served in
    let begun = rw (← c.self.view_is) at c.requires.begun in
    let here = lent_state f.passes.items f.selected c.index.result.now c.self.invariant.chosen c.index.ensures in
    let last = lent_state f.passes.items f.selected c.index_mut.result.now c.self.invariant.chosen c.index_mut.ensures.value in
    let name = c.name_of-by.ensures ∙ (λ i. record { job = f.selected; number = (sym here i).begun }) in
    let state = c.note_load.ensures ∙ (λ i. with_end (with_load (sym last i) c.args.load)) in
    let journal = c.end_load.ensures.journal ∙ ap (λ (n : TxnName). journal_behind f.manager n c.args.load) name
    ∙ journal_loaded begun.0 begun.1 c.args.load core begun.3 f.manager f.rows c.self.invariant in
    let is = journal_core f.kind f.leaves f.manager f.passes.items f.selected f.served f.rows c.self.invariant c.note_load.new.self c.end_load.new.manager
    ∙ (λ i. record (with_current core (state i)) { journal = journal i }) in
    let ends = c.end_load.ensures.passes ∙ ap (λ (n : TxnName). (ended f.manager n).passes) name in
    subst (λ (core : Core). IsKept core c.end_load.new.manager c.args.rows) (sym is)
    (kept_loaded begun.0 begun.1 c.args.load core begun.3 f.manager f.rows c.self.invariant begun.2 c.end_load.new.manager c.args.rows ends c.end_load.ensures.allowed journal (rw (← c.self.view_is) at c.requires.rows))

pub returns : goal.returns
returns c = rw (← c.self.view_is) (λ new is_new at.
    let f = c.self.inside in
    let core = core_of f.kind f.leaves f.manager f.passes.items f.selected f.served in
    let begun = rw (← c.self.view_is) at c.requires.begun in
    let here = lent_state f.passes.items f.selected c.index.result.now c.self.invariant.chosen c.index.ensures in
    let last = lent_state f.passes.items f.selected c.index_mut.result.now c.self.invariant.chosen c.index_mut.ensures.value in
    let name = c.name_of-by.ensures ∙ (λ i. record { job = f.selected; number = (sym here i).begun }) in
    let state = c.note_load.ensures ∙ (λ i. with_end (with_load (sym last i) c.args.load)) in
    let journal = c.end_load.ensures.journal ∙ ap (λ (n : TxnName). journal_behind f.manager n c.args.load) name
    ∙ journal_loaded begun.0 begun.1 c.args.load core begun.3 f.manager f.rows c.self.invariant in
    let is = journal_core f.kind f.leaves f.manager f.passes.items f.selected f.served f.rows c.self.invariant c.note_load.new.self c.end_load.new.manager
    ∙ (λ i. record (with_current core (state i)) { journal = journal i }) in
    is ∙ core_loaded new is_new c.args.load core at)
