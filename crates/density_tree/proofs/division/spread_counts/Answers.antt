use Rattle.std.proofs.Common.{◌≡◌, ℕ, ◌<◌, ◌≤◌, sum, arith, ap, ◌∙◌}
use Rattle.density_tree.proofs.DivisionLemmas.{filled_evenly, shares_are_all}
use Rattle.density_tree.proofs.division.spread_counts.Goals as goal

pub returns-clause-even : goal.returns-clause-even
returns-clause-even c =
    filled_evenly c.args.rows c.args.segs c.segments.counts (omega arith) (λ k lt. c.segments.invariant.filled k (omega (arith, lt, c.segments-test.false)))

pub returns-clause-all : goal.returns-clause-all
returns-clause-all c = ap sum (returns-clause-even c) ∙ shares_are_all c.args.rows c.args.segs c.requires.some
