use Rattle.std.proofs.Common.{◌+◌, refl, sym, subst, arith}
use Rattle.graph_image.proofs.PartLemmas.{ArePlaced, arc_room, vertex_placed, arc_placed, placed_arcs}
use Rattle.graph_image.proofs.part.lay_arcs_of.Goals as goal
use Rattle.graph_image.proofs.part.lay_arcs_of.Goals.{then-row-ne0+in-Some, else-row-ne0}

pub offset_bounds-arcs-at : goal.offset_bounds-arcs-at
offset_bounds-arcs-at c =
    let room = arc_room c.args.vertices.now c.args.rows.now c.rows.i _ c.rows-test.true c.rows.at c.rows.arcs c.rows.invariant c.if-row-ne0.true in
    omega (arith, room, c.rows.invariant.count, c.rows.auto.arcs)

pub bounds-arcs-at : goal.bounds-arcs-at
bounds-arcs-at c =
    let room = arc_room c.args.vertices.now c.args.rows.now c.rows.i _ c.rows-test.true c.rows.at c.rows.arcs c.rows.invariant c.if-row-ne0.true in
    omega (arith, room, c.rows.invariant.count)

pub overflow_add-at : goal.overflow_add-at
overflow_add-at c =
    let room = arc_room c.args.vertices.now c.args.rows.now c.rows.i _ c.rows-test.true c.rows.at c.rows.arcs c.rows.invariant c.if-row-ne0.true in
    omega (arith, room, c.rows.invariant.count, c.rows.auto.arcs)

pub rows-preserved : goal.rows-preserved
rows-preserved c = elim c.if-row-ne0.branch [
  | then-row-ne0+in-Some w ↦ subst (λ at. ArePlaced c.args.vertices.now c.args.rows.now (c.rows.i + 1) at c.if-row-ne0.arcs) (sym w.at-is)
      (subst (λ arcs. ArePlaced c.args.vertices.now c.args.rows.now (c.rows.i + 1) (c.rows.at + 1) arcs) (sym w.arcs-is)
      (arc_placed c.args.vertices.now c.args.rows.now c.rows.i _ c.rows-test.true c.rows.at c.rows.arcs c.rows.invariant w.if-row-ne0.true _ (record { to = w.in-Some.ensures.found; weight = refl })))
  | else-row-ne0 w ↦ subst (λ at. ArePlaced c.args.vertices.now c.args.rows.now (c.rows.i + 1) at c.if-row-ne0.arcs) (sym w.at-is)
      (subst (λ arcs. ArePlaced c.args.vertices.now c.args.rows.now (c.rows.i + 1) c.rows.at arcs) (sym w.arcs-is)
      (vertex_placed c.args.vertices.now c.args.rows.now c.rows.i _ c.rows-test.true c.rows.at c.rows.arcs c.rows.invariant w.if-row-ne0.false))
]

pub returns : goal.returns
returns c = placed_arcs c.args.vertices.now c.args.rows.now c.rows.i c.rows.at c.rows.arcs c.rows.invariant c.rows-test.false
