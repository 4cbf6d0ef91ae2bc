use Rattle.std.proofs.Common.{List, ◌∙◌, subst, sym}
use Rattle.graph_model.specs.declared.write.Kind.{Kind}
use Rattle.graph_model.specs.declared.write.Kind.TheVariants.{Undirected}
use Rattle.graph_model.specs.declared.write.Write.{Write}
use Rattle.graph_model.specs.Graph.{empty_graph}
use Rattle.graph_model.specs.Refused.{AllAllowed}
use Rattle.load_order.specs.Placings.{AreSortedRows}
use Rattle.shared_store.proofs.LoadLemmas.{rows_of_load, some_of}
use Rattle.bench_rule.proofs.source.Source.make.Goals as goal

pub returns : goal.returns
returns c =
    let z = c.config_for-config.result in
    let load = c.in_ok-load.load in
    let rows = c.in_ok-rows.rows.items in
    let kind = sym c.config_for-config.ensures in
    let some = some_of load (sym c.is_empty.ensures ∙ c.if-is_empty.false) in
    let allowed = subst (λ (k : Kind). AllAllowed k empty_graph load) kind c.in_ok-load.ensures.allowed in
    let sorted = subst (λ (k : Kind). AreSortedRows k load rows) kind
    (subst (λ (ws : List Write). AreSortedRows Undirected ws rows) c.as_slice.ensures c.in_ok-rows.ensures) in
    record {
      sized = sym c.is_too_large.ensures ∙ c.if-is_too_large.false;
      rows = rows_of_load z load rows some c.in_ok-load.ensures.adds c.in_ok-load.ensures.within allowed sorted;
    }
