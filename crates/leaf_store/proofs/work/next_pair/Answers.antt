use Rattle.std.proofs.Common.{refl, inl}
use Rattle.leaf_store.proofs.WorkLemmas.{if_some_on, pair_behind}
use Rattle.leaf_store.proofs.work.next_pair.Goals as goal

pub returns-in-Some-clause-some : goal.returns-in-Some-clause-some
returns-in-Some-clause-some c = record { found = c.in-Some.ensures.some.found; left = inl c.in-Some.ensures.some.below }

pub returns-in-None-clause-some : goal.returns-in-None-clause-some
returns-in-None-clause-some c = if_some_on _ _ c.pair_at.result c.pair_at.ensures.some (λ pair found. pair_behind c.args.index.now c.args.leaves.now.items c.args.range pair (c.in-None.ensures.none refl) found)
