use Rattle.std.proofs.Common.{◌+◌, sym, ap, ◌∙◌, arith}
use Rattle.graph_image.proofs.PartLemmas.{vertices_vertex, arcs_vertex, vertices_arc, arcs_arc}
use Rattle.graph_image.proofs.part.share_of.Goals as goal
use Rattle.graph_image.proofs.part.share_of.Goals.{then-rows-i-eq0, else-rows-i-eq0}

pub rows-preserved : goal.rows-preserved
rows-preserved c = elim c.if-rows-i-eq0.branch [
  | then-rows-i-eq0 w ↦ (
    ap (λ s. s.vertices) w.share-is ∙ ap (λ n. n + 1) c.rows.invariant.0 ∙ sym (vertices_vertex c.args.rows.now c.rows.i _ c.rows-test.true w.if-rows-i-eq0.true),
    ap (λ s. s.arcs) w.share-is ∙ c.rows.invariant.1 ∙ sym (arcs_vertex c.args.rows.now c.rows.i _ c.rows-test.true w.if-rows-i-eq0.true),
    (let vertices = ap (λ s. s.vertices) w.share-is in let arcs = ap (λ s. s.arcs) w.share-is in omega (arith, vertices, arcs, c.rows.invariant.2)),
  )
  | else-rows-i-eq0 w ↦ (
    ap (λ s. s.vertices) w.share-is ∙ c.rows.invariant.0 ∙ sym (vertices_arc c.args.rows.now c.rows.i _ c.rows-test.true w.if-rows-i-eq0.false),
    ap (λ s. s.arcs) w.share-is ∙ ap (λ n. n + 1) c.rows.invariant.1 ∙ sym (arcs_arc c.args.rows.now c.rows.i _ c.rows-test.true w.if-rows-i-eq0.false),
    (let vertices = ap (λ s. s.vertices) w.share-is in let arcs = ap (λ s. s.arcs) w.share-is in omega (arith, vertices, arcs, c.rows.invariant.2)),
  )
]
