use Rattle.std.proofs.Common.{arith}
use Rattle.leaf_trie.proofs.PathLemmas.{low_digit, high_digit}
use Rattle.leaf_trie.proofs.path.byte_among.Goals as goal

pub returns-then-level-lt8 : goal.returns-then-level-lt8
returns-then-level-lt8 c = low_digit c.args.level (record { src = c.args.src; second = c.args.second }) c.if-level-lt8.true

pub returns-else-level-lt8 : goal.returns-else-level-lt8
returns-else-level-lt8 c = high_digit c.args.level (record { src = c.args.src; second = c.args.second }) c.if-level-lt8.false c.ranges.second.fits
