use Rattle.std.proofs.Common.{◌∙◌, ◌+◌, ap, sym, Some}
use Rattle.std.specs.List.{list_any}
use Rattle.graph_model.specs.Rows.{end_key, first_key, rows}
use Rattle.leaf_rows.specs.Runs.{has_second}
use Rattle.shared_store.specs.Passes.{view_in}
use Rattle.leaf_rows.proofs.EdgeLemmas.{both_ways, in_edge, none_directed, none_undirected, out_edge}
use Rattle.shared_store.proofs.PassLemmas.{keeps_twice, same_view, view_both_ways, view_has_end}
use Rattle.shared_store.proofs.edges.has_edges.Goals as goal

pub returns-then-sees_any-clause-answer : goal.returns-then-sees_any-clause-answer
returns-then-sees_any-clause-answer g c =
    let out = rw c.of_vertex.ensures at c.sees_any.ensures.answer in
    sym (out_edge (view_in c.args.store.now c.args.pass.now) c.args.v (sym out ∙ c.if-sees_any.true))

pub returns-in-Directed-clause-kept : goal.returns-in-Directed-clause-kept
returns-in-Directed-clause-kept g c =
    keeps_twice c.args.store.now c.args.pass.now c.sees_any.new.pass c.sees_any-in-Directed.new.pass
    c.sees_any.ensures.kept c.sees_any-in-Directed.ensures.kept

pub returns-in-Directed-clause-answer : goal.returns-in-Directed-clause-answer
returns-in-Directed-clause-answer g c =
    let store = c.args.store.now in
    let old = c.args.pass.now in
    let view = view_in store old in
    let out = rw c.of_vertex.ensures at c.sees_any.ensures.answer in
    let there = rw (c.of_vertex-in-Directed.ensures, c.end.ensures) at c.sees_any-in-Directed.ensures.answer in
    let into = there ∙ ap (λ graph. list_any (has_second (Some (c.args.v + 1))) (rows graph first_key end_key))
    (same_view store old c.sees_any.new.pass c.sees_any.ensures.kept) in
    both_ways _ _ (λ yes. in_edge view c.args.v (sym into ∙ yes))
    (λ no. none_directed view c.args.v (view_has_end store old c.requires.opened) (sym out ∙ c.if-sees_any.false)
    (sym into ∙ no))

pub returns-in-Undirected-clause-answer : goal.returns-in-Undirected-clause-answer
returns-in-Undirected-clause-answer g c =
    let store = c.args.store.now in
    let old = c.args.pass.now in
    let out = rw c.of_vertex.ensures at c.sees_any.ensures.answer in
    sym (none_undirected (view_in store old) c.args.v
    (view_both_ways store old ((λ i. (sym c.config.ensures i).kind) ∙ c.in-Undirected.is))
    (sym out ∙ c.if-sees_any.false))
