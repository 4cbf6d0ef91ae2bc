-- the parts so far hold the places before the first of the next
use Rattle.std.proofs.Common.{◌-◌, ◌≤◌, length}
use Rattle.kernel_cdlp.specs.Parts.{AreParts}
use Rattle.kernel_cdlp.proofs.part.parts_of.Given as goal

abbrev pub invariant-parts : goal.invariant-parts
invariant-parts l = AreParts l.image l.first l.parts.items × (l.first ≤ length l.image.vertices)

abbrev pub decreases-parts : goal.decreases-parts
decreases-parts l = length l.image.vertices - l.first
