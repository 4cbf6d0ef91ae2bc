use Rattle.std.proofs.Common.{length, sym, ◌∙◌}
use Rattle.std.proofs.lemmas.Bool.{ne_eqb}
use Rattle.leaf_trie.proofs.RemovalLemmas.{many_starts}
use Rattle.leaf_trie.proofs.branch.is_single_of.Goals as goal

pub returns-else-branches-eq1 : goal.returns-else-branches-eq1
returns-else-branches-eq1 c =
    ne_eqb (length c.args.branches.now) 1 c.if-branches-eq1.false ∙ sym (many_starts c.requires.0 c.args.branches.now c.requires.1 c.if-branches-eq1.false)
