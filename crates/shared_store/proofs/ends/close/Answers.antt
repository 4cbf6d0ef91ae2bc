use Rattle.std.proofs.Common.{rules, ◌≡◌, length, refl, sym, subst}
use Rattle.graph_model.specs.Graph.{Graph}
use Rattle.graph_model.specs.History.{graph_at}
use Rattle.txn_manager.specs.declared.config.Config.{Config}
use Rattle.leaf_index.specs.Index.{Index}
use Rattle.pass_writes.specs.StoreRule.Closing.{AreBack}
use Rattle.pass_writes.specs.StoreRule.Whole.{IsWholeContent}
use Rattle.shared_store.specs.Totals.{AreTotals, HoldsGraph}
use Rattle.shared_store.proofs.SeatLemmas.{all_back, at_number, has_closed, no_cells}
use Rattle.shared_store.proofs.TotalsLemmas.{holds_graph}
use Rattle.shared_store.proofs.ends.close.Goals as goal

pub take_back-requires-clause-cells : goal.take_back-requires-clause-cells
take_back-requires-clause-cells c = no_cells c.args.store c.args.passes.list.items c.requires.passes

pub take_apart-content-requires-clause-passes : goal.take_apart-content-requires-clause-passes
take_apart-content-requires-clause-passes c =
    subst (AreBack c.args.store) (sym c.take_back.ensures)
    (all_back c.args.store c.args.passes.list.items c.requires.passes)

pub totals_of-totals-requires : goal.totals_of-totals-requires
totals_of-totals-requires c =
    let content = c.take_apart-content.result in
    let kind = c.args.store.accounts.config.kind in
    let same : content.index.value ≡ c.deref.result.now = search rules in (
      graph_at kind content.journal.items (length content.journal.items),
      subst (λ (x : Index). HoldsGraph content.cells x (graph_at kind content.journal.items (length content.journal.items)))
          same
          (holds_graph c.args.store.accounts.config c.take_back.new.seats.items content content.journal.items
          c.take_apart-content.ensures refl),
    )

pub returns-clause-journal : goal.returns-clause-journal
returns-clause-journal c =
    let z = c.args.store.accounts.config in
    let list = c.args.passes.list.items in
    has_closed z list c.take_apart-content.result _
    (subst (λ seats. IsWholeContent z seats c.take_apart-content.result) c.take_back.ensures
    c.take_apart-content.ensures).content_is c.into_items.ensures (at_number c.args.store list c.requires.passes)

pub returns-clause-totals : goal.returns-clause-totals
returns-clause-totals c =
    let z = c.args.store.accounts.config in
    let content = c.take_apart-content.result in
    let same : content.index.value ≡ c.deref.result.now = search rules in
    let graph : Graph = graph_at z.kind c.into_items.result (length c.into_items.result) in
    subst (λ (x : Config). AreTotals x.kind graph c.totals_of-totals.result) c.config-kind.ensures
    (c.totals_of-totals.ensures graph (subst (λ (x : Index). HoldsGraph content.cells x graph) same
    (holds_graph z c.take_back.new.seats.items content c.into_items.result c.take_apart-content.ensures
    c.into_items.ensures)))
