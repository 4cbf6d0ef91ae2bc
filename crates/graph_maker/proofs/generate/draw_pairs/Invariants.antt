use Rattle.std.proofs.Common.{◌≡◌}
use Rattle.graph_maker.specs.Draws.{drawn, pairs_of}
use Rattle.graph_maker.proofs.generate.draw_pairs.Given as goal

abbrev pub invariant-draws : goal.invariant-draws
invariant-draws l = drawn l.vertices l.edges l.draws l.generator l.kept ≡ pairs_of l.seed l.vertices l.edges

abbrev pub decreases-draws : goal.decreases-draws
decreases-draws l = l.draws
