use Rattle.std.proofs.Common.{sym, ◌∙◌, ap}
use Rattle.graph_model.specs.AccountSteps.{view_of}
use Rattle.graph_model.specs.OwnerCalls.{current, account_here}
use Rattle.graph_model.specs.Rows.{arc_key}
use Rattle.leaf_rows.specs.Readers.{value_for}
use Rattle.leaf_rows.specs.LeafStore.Leaves.{contents_of}
use Rattle.teseo_core.proofs.ValueLemmas.{weight_is_value}
use Rattle.teseo_core.proofs.FieldLemmas.{lent_state, some_nat, start_of}
use Rattle.teseo_core.proofs.KeepLemmas.{reader_shows, reader_started}
use Rattle.teseo_core.specs.Keeping.{core_of}
use Rattle.teseo_core.proofs.store.Core.sees_weight.Goals as goal

pub returns-clause-answer : goal.returns-clause-answer
returns-clause-answer c = rw (← c.self.view_is) (λ start opened.
    let f = c.self.inside in
    let here = lent_state c.self.inside.passes.items c.self.inside.selected c.index.result.now c.self.invariant.chosen c.index.ensures in
    let r = c.reader_of-reader in
    let shows = reader_shows _ c.self.inside.manager c.self.inside.rows c.self.invariant r.result start opened (record {
      manager = r.ensures.manager;
      start_is = some_nat r.result.start start (sym r.ensures.start ∙ ap (λ s. s.start) (sym here) ∙ opened);
      by = r.ensures.by ∙ (λ i. record { job = c.self.inside.selected; number = (sym here i).begun });
    }) in
    c.value.ensures ∙ ap (λ k. value_for r.result (contents_of c.self.inside.rows k)) c.of_arc.ensures ∙ shows (arc_key c.args.u c.args.v) ∙ weight_is_value (view_of (account_here (core_of f.kind f.leaves f.manager f.passes.items f.selected f.served)) start) c.args.u c.args.v)

pub value-requires-clause-started : goal.value-requires-clause-started
value-requires-clause-started c =
    let f = c.self.inside in
    let core = core_of f.kind f.leaves f.manager f.passes.items f.selected f.served in
    let start = start_of (current core).start (rw (← c.self.view_is) at c.requires.current) in
    let here = lent_state f.passes.items f.selected c.index.result.now c.self.invariant.chosen c.index.ensures in
    let r = c.reader_of-reader in
    reader_started core f.manager f.rows c.self.invariant r.result start.0 start.1 (record {
      manager = r.ensures.manager;
      start_is = some_nat r.result.start start.0 (sym r.ensures.start ∙ ap (λ s. s.start) (sym here) ∙ start.1);
      by = r.ensures.by ∙ (λ i. record { job = f.selected; number = (sym here i).begun });
    })
