use Rattle.std.proofs.Common.{◌≡◌, ◌+◌, ◌<◌, get_or, length, Some, ap, ◌∙◌, refl, sym, arith}
use Rattle.std.proofs.lemmas.Option.{same_Some, slice_get-get_or, slice_get_read}
use Rattle.graph_image.specs.declared.edge.Arc.{Arc}
use Rattle.kernel_bfs.specs.declared.levels.TheConstants.{UNREACHED}
use Rattle.kernel_bfs.specs.Levels.{AtEnd}
use Rattle.kernel_bfs.proofs.SpreadLemmas.{spread_at, ends_reach, ends_again}
use Rattle.kernel_bfs.proofs.arcs_out.follow.Goals as goal
use Rattle.kernel_bfs.proofs.arcs_out.follow.Goals.{then-index+in_ok-push, else-index}

pub arcs-preserved : goal.arcs-preserved
arcs-preserved c =
    let a : Arc = get_or c.args.arcs.now c.arcs.i (record { other = 0; weight = 0 }) in
    let at = slice_get-get_or c.args.arcs.now c.arcs.i (record { other = 0; weight = 0 }) c.arcs-test.true in
    let inside : a.other < length c.arcs.distances.items = omega (arith, c.requires.within c.arcs.i a at, c.arcs.invariant.count) in
    let read = slice_get_read c.arcs.distances.items (length c.arcs.distances.items) a.other c.index.result.now refl inside c.index.ensures in
    let walked = λ (same : c.args.distance ≡ UNREACHED). absurd (omega (arith, same, c.requires.distance)) in
    elim c.if-index.branch [
      | then-index+in_ok-push w ↦ spread_at (AtEnd c.args.arcs.now (c.arcs.i + 1)) c.args.distance c.args.distances.now.items c.args.next.now.items _ _ _ _
          (ap (λ v. v.items) w.distances-is) (ap (λ v. v.items) w.next-is ∙ w.in_ok-push.ensures.items)
          (ends_reach c.args.arcs.now c.args.distance walked c.args.distances.now.items c.args.next.now.items c.arcs.distances.items c.arcs.next.items c.arcs.i c.arcs.invariant a at (read ∙ ap Some w.if-index.true))
      | else-index w ↦ spread_at (AtEnd c.args.arcs.now (c.arcs.i + 1)) c.args.distance c.args.distances.now.items c.args.next.now.items _ _ _ _
          (ap (λ v. v.items) w.distances-is) (ap (λ v. v.items) w.next-is)
          (ends_again c.args.arcs.now c.args.distance walked c.args.distances.now.items c.args.next.now.items c.arcs.distances.items c.arcs.next.items c.arcs.i c.arcs.invariant a at (λ none. w.if-index.false (same_Some _ _ (sym read ∙ none))))
    ]
