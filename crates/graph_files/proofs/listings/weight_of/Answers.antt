use Rattle.std.proofs.Common.{sym, ◌∙◌}
use Rattle.graph_files.proofs.EdgeLemmas.{unlisted_more, listed_at, listed_nowhere}
use Rattle.graph_files.proofs.listings.weight_of.Goals as goal

pub returns-then-has_ends : goal.returns-then-has_ends
returns-then-has_ends c =
    listed_at c.args.listings.now c.listings.i c.args.u c.args.v (record { u = 0; v = 0; weight = 0 }) c.listings-test.true c.listings.invariant (sym c.has_ends.ensures ∙ c.if-has_ends.true)

pub listings-preserved : goal.listings-preserved
listings-preserved c =
    unlisted_more c.args.listings.now c.listings.i c.args.u c.args.v (record { u = 0; v = 0; weight = 0 }) c.listings-test.true c.listings.invariant (sym c.has_ends.ensures ∙ c.if-has_ends.false)

pub returns : goal.returns
returns c = listed_nowhere c.args.listings.now c.listings.i c.args.u c.args.v c.listings-test.false c.listings.invariant
