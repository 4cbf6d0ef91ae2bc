use Rattle.std.proofs.Common.{◌+◌, slice_index_or, sym, ap, ◌∙◌, arith}
use Rattle.graph_image.proofs.PartLemmas.{shared_vertices, shared_arcs, shared_few, shared_all}
use Rattle.graph_image.proofs.parts.total_of.Goals as goal

pub overflow_add-total : goal.overflow_add-total
overflow_add-total c =
    let more = shared_vertices c.args.lists.now c.args.shares.now c.requires.shares c.shares.i (record { vertices = 0; arcs = 0 }) c.shares-test.true in
    let few = shared_few c.args.lists.now c.args.shares.now c.requires.shares c.shares.i (record { vertices = 0; arcs = 0 }) c.shares-test.true in
    omega (arith, more, few, c.requires.few, c.shares.invariant.0)

pub overflow_add-total-in-shares : goal.overflow_add-total-in-shares
overflow_add-total-in-shares c =
    let more = shared_arcs c.args.lists.now c.args.shares.now c.requires.shares c.shares.i (record { vertices = 0; arcs = 0 }) c.shares-test.true in
    let few = shared_few c.args.lists.now c.args.shares.now c.requires.shares c.shares.i (record { vertices = 0; arcs = 0 }) c.shares-test.true in
    omega (arith, more, few, c.requires.few, c.shares.invariant.1)

pub shares-preserved : goal.shares-preserved
shares-preserved c = (
  ap (λ n. n + (slice_index_or c.args.shares.now c.shares.i (record { vertices = 0; arcs = 0 })).vertices) c.shares.invariant.0 ∙ sym (shared_vertices c.args.lists.now c.args.shares.now c.requires.shares c.shares.i (record { vertices = 0; arcs = 0 }) c.shares-test.true),
  ap (λ n. n + (slice_index_or c.args.shares.now c.shares.i (record { vertices = 0; arcs = 0 })).arcs) c.shares.invariant.1 ∙ sym (shared_arcs c.args.lists.now c.args.shares.now c.requires.shares c.shares.i (record { vertices = 0; arcs = 0 }) c.shares-test.true),
)

pub returns : goal.returns
returns c = shared_all c.args.lists.now c.args.shares.now c.requires.shares c.shares.i c.shares-test.false _ c.shares.invariant.0 c.shares.invariant.1
