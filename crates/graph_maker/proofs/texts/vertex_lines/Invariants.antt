use Rattle.std.proofs.Common.{◌≡◌, ◌≤◌, ◌-◌}
use Rattle.graph_maker.specs.Texts.{vertex_text}
use Rattle.graph_maker.proofs.texts.vertex_lines.Given as goal

abbrev pub invariant-ids : goal.invariant-ids
invariant-ids l = (l.written ≤ l.vertices) × (l.text ≡ vertex_text l.written)

abbrev pub decreases-ids : goal.decreases-ids
decreases-ids l = l.vertices - l.written
