use Rattle.std.proofs.Common.{refl}
use Rattle.leaf_index.proofs.ChainLemmas.{puts_last}
use Rattle.leaf_index.proofs.chain.Chain.with_last.Goals as goal

pub returns : goal.returns
returns c = puts_last c.args.links.now.items c.args.leaf c.args.self _ c.requires.lacks c.requires.exists refl
