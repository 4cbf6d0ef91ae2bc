use Rattle.std.proofs.Common.{length}
use Rattle.kernel_wcc.specs.Labels.{AreSound}
use Rattle.kernel_wcc.proofs.labels.join_roots.Given as goal

-- nothing is joined that no trail joins
abbrev pub invariant-places : goal.invariant-places
invariant-places l = AreSound l.image (length l.image.vertices) l.labels.items
