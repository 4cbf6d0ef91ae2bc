use Rattle.leaf_store.proofs.WorkLemmas.{before_ahead, first_ahead, if_some_on, pair_ahead}
use Rattle.leaf_store.proofs.work.pair_before.Goals as goal

pub returns-in_default-clause-none : goal.returns-in_default-clause-none
returns-in_default-clause-none c = λ none. first_ahead c.args.index.now c.args.leaves.now.items c.requires.kept c.args.range c.in_default.ensures

pub returns-clause-none : goal.returns-clause-none
returns-clause-none c = λ none. before_ahead c.args.index.now c.args.leaves.now.items c.requires.kept c.args.range c.in-Some.before c.in-Some.ensures (c.pair_at.ensures.none none)

pub returns-clause-some : goal.returns-clause-some
returns-clause-some c = if_some_on _ _ c.pair_at.result c.pair_at.ensures.some (λ pair found. pair_ahead c.args.index.now c.args.leaves.now.items c.args.range.low c.in-Some.before pair c.in-Some.ensures found)
