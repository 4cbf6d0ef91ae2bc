use Rattle.std.proofs.Common.{◌+◌, arith}
use Rattle.graph_image.proofs.PartLemmas.{laid_as, vertex_room, before_few, arc_few, vertex_laid, arc_laid, laid_vertices, laid_starts}
use Rattle.graph_image.proofs.part.lay_vertices_of.Goals as goal
use Rattle.graph_image.proofs.part.lay_vertices_of.Goals.{then-key-eq0, else-key-eq0}

pub offset_bounds-vertices-place : goal.offset_bounds-vertices-place
offset_bounds-vertices-place c =
    let room = vertex_room c.args.rows.now c.args.before c.rows.i _ c.rows-test.true c.rows.place c.rows.arcs c.rows.vertices c.rows.starts c.rows.invariant c.if-key-eq0.true in
    omega (arith, room, c.rows.invariant.vertices_count, c.rows.auto.vertices)

pub bounds-vertices-place : goal.bounds-vertices-place
bounds-vertices-place c =
    let room = vertex_room c.args.rows.now c.args.before c.rows.i _ c.rows-test.true c.rows.place c.rows.arcs c.rows.vertices c.rows.starts c.rows.invariant c.if-key-eq0.true in
    omega (arith, room, c.rows.invariant.vertices_count)

pub overflow_cast-starts : goal.overflow_cast-starts
overflow_cast-starts c =
    let few = before_few c.args.rows.now c.args.before c.rows.i _ c.rows-test.true c.rows.place c.rows.arcs c.rows.vertices c.rows.starts c.rows.invariant c.if-key-eq0.true in
    omega (arith, few, c.requires.few)

pub offset_bounds-starts-place : goal.offset_bounds-starts-place
offset_bounds-starts-place c =
    let room = vertex_room c.args.rows.now c.args.before c.rows.i _ c.rows-test.true c.rows.place c.rows.arcs c.rows.vertices c.rows.starts c.rows.invariant c.if-key-eq0.true in
    omega (arith, room, c.rows.invariant.starts_count, c.rows.auto.starts)

pub bounds-starts-place : goal.bounds-starts-place
bounds-starts-place c =
    let room = vertex_room c.args.rows.now c.args.before c.rows.i _ c.rows-test.true c.rows.place c.rows.arcs c.rows.vertices c.rows.starts c.rows.invariant c.if-key-eq0.true in
    omega (arith, room, c.rows.invariant.starts_count)

pub overflow_add-place : goal.overflow_add-place
overflow_add-place c =
    let room = vertex_room c.args.rows.now c.args.before c.rows.i _ c.rows-test.true c.rows.place c.rows.arcs c.rows.vertices c.rows.starts c.rows.invariant c.if-key-eq0.true in
    omega (arith, room, c.rows.invariant.vertices_count, c.rows.auto.vertices)

pub overflow_add-arcs : goal.overflow_add-arcs
overflow_add-arcs c =
    let few = arc_few c.args.rows.now c.args.before c.rows.i _ c.rows-test.true c.rows.place c.rows.arcs c.rows.vertices c.rows.starts c.rows.invariant c.if-key-eq0.false in
    omega (arith, few, c.requires.few)

pub rows-preserved : goal.rows-preserved
rows-preserved c = elim c.if-key-eq0.branch [
  | then-key-eq0 w ↦ laid_as c.args.rows.now c.args.before (c.rows.i + 1) _ _ _ _ _ _ _ _ w.place-is w.arcs-is w.vertices-is w.starts-is
      (vertex_laid c.args.rows.now c.args.before c.rows.i _ c.rows-test.true c.rows.place c.rows.arcs c.rows.vertices c.rows.starts c.rows.invariant w.if-key-eq0.true)
  | else-key-eq0 w ↦ laid_as c.args.rows.now c.args.before (c.rows.i + 1) _ _ _ _ _ _ _ _ w.place-is w.arcs-is w.vertices-is w.starts-is
      (arc_laid c.args.rows.now c.args.before c.rows.i _ c.rows-test.true c.rows.place c.rows.arcs c.rows.vertices c.rows.starts c.rows.invariant w.if-key-eq0.false)
]

pub returns-clause-vertices : goal.returns-clause-vertices
returns-clause-vertices c = laid_vertices c.args.rows.now c.args.before c.rows.i c.rows.place c.rows.arcs c.rows.vertices c.rows.starts c.rows.invariant c.rows-test.false

pub returns-clause-starts : goal.returns-clause-starts
returns-clause-starts c = laid_starts c.args.rows.now c.args.before c.rows.i c.rows.place c.rows.arcs c.rows.vertices c.rows.starts c.rows.invariant c.rows-test.false
