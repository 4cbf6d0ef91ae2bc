-- the ends of the arcs so far are awake
use Rattle.kernel_cdlp.specs.Rounds.{IsWoken}
use Rattle.kernel_cdlp.proofs.awake.wake_ends.Given as goal

abbrev pub invariant-arcs : goal.invariant-arcs
invariant-arcs l = IsWoken l.fn.awake.items l.arcs l.i l.awake.items
