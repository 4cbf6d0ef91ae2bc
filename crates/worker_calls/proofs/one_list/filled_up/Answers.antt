use Rattle.std.proofs.Common.{◌≡◌, ◌+◌, ◌<◌, ◌≤◌, length, ◌∙◌, arith}
use Rattle.worker_calls.proofs.PartLemmas.{one_more}
use Rattle.worker_calls.proofs.one_list.filled_up.Goals as goal

pub lists-preserved : goal.lists-preserved
lists-preserved c =
    let more = one_more c.lists.lists c.push.new.self _ c.in_ok-push.ensures.ok c.new.ensures in
    let known = c.lists.invariant.1 in
    let count = more.1 in (more.0 ∙ c.lists.invariant.0, omega (arith, count, known))
