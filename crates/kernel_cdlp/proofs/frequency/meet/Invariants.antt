-- the labels of the arcs so far stand behind what was met before
use Rattle.std.proofs.Common.{◌≡◌, ◌+◌, ◌++◌, take}
use Rattle.kernel_cdlp.specs.Rounds.{labels_met}
use Rattle.kernel_cdlp.proofs.frequency.meet.Given as goal

abbrev pub invariant-arcs : goal.invariant-arcs
invariant-arcs l = take (l.count + l.i) l.met ≡ take l.count l.fn.met ++ labels_met l.labels (take l.i l.arcs)
