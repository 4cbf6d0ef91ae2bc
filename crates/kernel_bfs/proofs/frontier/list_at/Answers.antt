use Rattle.std.proofs.Common.{◌+◌, ◌∙◌, Some, sym, ap, subst, arith}
use Rattle.std.proofs.lemmas.Option.{same_Some, slice_get-get_or}
use Rattle.kernel_bfs.proofs.SpreadLemmas.{IsCollected, collected_more, collected_same}
use Rattle.kernel_bfs.proofs.FrontierLemmas.{collected_front}
use Rattle.kernel_bfs.proofs.frontier.list_at.Goals as goal
use Rattle.kernel_bfs.proofs.frontier.list_at.Goals.{then-is_there+in_ok-push, else-is_there}

pub each-preserved : goal.each-preserved
each-preserved c =
    let read = slice_get-get_or c.args.distances.now c.each.place 0 c.each-test.true in
    elim c.if-is_there.branch [
      | then-is_there+in_ok-push w ↦ subst (IsCollected c.args.level c.args.distances.now (c.each.place + 1)) (sym (ap (λ v. v.items) w.places-is ∙ w.in_ok-push.ensures.items))
          (collected_more c.args.level c.args.distances.now c.each.place c.each.places.items c.each.invariant (read ∙ ap Some w.if-is_there.true))
      | else-is_there w ↦ subst (IsCollected c.args.level c.args.distances.now (c.each.place + 1)) (sym (ap (λ v. v.items) w.places-is))
          (collected_same c.args.level c.args.distances.now c.each.place c.each.places.items c.each.invariant (λ at. w.if-is_there.false (same_Some _ _ (sym read ∙ at))))
    ]

pub returns : goal.returns
returns c = collected_front c.args.level c.args.distances.now c.each.places.items c.each.place (omega (arith, c.each-test.false)) c.each.invariant
