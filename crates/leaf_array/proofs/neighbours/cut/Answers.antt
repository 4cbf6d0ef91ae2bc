use Rattle.leaf_array.proofs.DivideLemmas.{is-cut, cut-uses-none}
use Rattle.leaf_array.proofs.neighbours.cut.Goals as goal

pub returns-in-Some-clause-cut : goal.returns-in-Some-clause-cut
returns-in-Some-clause-cut c = is-cut c.args.segment.now _ _ _ _ _ c.in-Some.ensures.cases.0 c.requires.chained c.move_left.ensures.moved

pub returns-in-Some-clause-used : goal.returns-in-Some-clause-used
returns-in-Some-clause-used c = cut-uses-none c.args.segment.now _ c.move_left.new.self c.move_left.new.right _ _ c.in-Some.ensures.cases.0 c.move_left.ensures.used c.move_left.ensures.spare
