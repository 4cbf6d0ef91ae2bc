use Rattle.std.proofs.Common.{sym, ◌∙◌, ap}
use Rattle.std.specs.Prelude.{◌||◌}
use Rattle.std.specs.List.{list_any}
use Rattle.graph_model.specs.Rows.{vertex_key, arc_key}
use Rattle.graph_model.specs.Effects.{same_key, arc_keys}
use Rattle.serial_check.specs.Ranges.{covers}
use Rattle.serial_check.proofs.PutLemmas.{three_more, four_more}
use Rattle.serial_check.proofs.footprint.Footprint.put_edge.Goals as goal

pub returns-in-Directed : goal.returns-in-Directed
returns-in-Directed c = λ q.
    let x = covers c.args.self.now.items q in
    let u = c.args.u in
    let v = c.args.v in
    c.put-in-Directed.ensures.covers q
    ∙ (λ i. c.put-2.ensures.covers q i || c.of_arc.ensures.holds q i)
    ∙ (λ i. (c.put.ensures.covers q i || c.of_vertex-2.ensures.holds q i) || same_key q (arc_key u v))
    ∙ (λ i. ((x || c.of_vertex.ensures.holds q i) || same_key q (vertex_key v)) || same_key q (arc_key u v))
    ∙ three_more x (same_key q (vertex_key u)) (same_key q (vertex_key v)) (same_key q (arc_key u v))
    ∙ ap (λ kind. x || ((same_key q (vertex_key u) || same_key q (vertex_key v)) || list_any (same_key q) (arc_keys kind u v))) (sym c.in-Directed.is)

pub returns-in-Undirected : goal.returns-in-Undirected
returns-in-Undirected c = λ q.
    let x = covers c.args.self.now.items q in
    let u = c.args.u in
    let v = c.args.v in
    c.put-in-Undirected-2.ensures.covers q
    ∙ (λ i. c.put-in-Undirected.ensures.covers q i || c.of_arc-in-Undirected-2.ensures.holds q i)
    ∙ (λ i. (c.put-2.ensures.covers q i || c.of_arc-in-Undirected.ensures.holds q i) || same_key q (arc_key u v))
    ∙ (λ i. ((c.put.ensures.covers q i || c.of_vertex-2.ensures.holds q i) || same_key q (arc_key v u)) || same_key q (arc_key u v))
    ∙ (λ i. (((x || c.of_vertex.ensures.holds q i) || same_key q (vertex_key v)) || same_key q (arc_key v u)) || same_key q (arc_key u v))
    ∙ four_more x (same_key q (vertex_key u)) (same_key q (vertex_key v)) (same_key q (arc_key v u)) (same_key q (arc_key u v))
    ∙ ap (λ kind. x || ((same_key q (vertex_key u) || same_key q (vertex_key v)) || list_any (same_key q) (arc_keys kind u v))) (sym c.in-Undirected.is)
