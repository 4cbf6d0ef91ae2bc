use Rattle.std.proofs.Common.{◌+◌}
use Rattle.kernel_wcc.proofs.LabelLemmas.{IsJoining}
use Rattle.kernel_wcc.proofs.labels.join.Given as goal

-- the two places at hand are left to be joined
abbrev pub invariant-steps : goal.invariant-steps
invariant-steps l = IsJoining l.fn.labels.items l.fn.a l.fn.b l.left l.right l.labels.items

abbrev pub decreases-steps : goal.decreases-steps
decreases-steps l = l.left + l.right
