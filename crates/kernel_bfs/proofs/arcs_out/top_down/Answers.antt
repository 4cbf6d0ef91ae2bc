use Rattle.std.proofs.Common.{◌+◌, ◌<◌, length, refl, arith}
use Rattle.std.proofs.lemmas.Option.{slice_get_read}
use Rattle.kernel_bfs.proofs.SpreadLemmas.{listed_more}
use Rattle.kernel_bfs.proofs.arcs_out.top_down.Goals as goal

pub frontier-preserved : goal.frontier-preserved
frontier-preserved c =
    let below : c.frontier.i < length c.args.frontier.now.items = omega (arith, c.frontier-test.true, c.len-i-end.ensures, c.args.frontier.now.ok) in
    listed_more c.args.image.now c.args.frontier.now.items (c.args.level + 1) (λ same. absurd (omega (arith, same, c.requires.level))) c.args.distances.now.items c.args.next.now.items c.frontier.distances.items c.frontier.next.items c.frontier.i
    c.frontier.invariant c.index.result.now (slice_get_read c.args.frontier.now.items (length c.args.frontier.now.items) c.frontier.i c.index.result.now refl below c.index.ensures) c.out-arcs.result.now c.out-arcs.ensures.arcs _ _ c.in_ok-follow.ensures
