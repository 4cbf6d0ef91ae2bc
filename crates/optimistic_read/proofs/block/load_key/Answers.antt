use Rattle.optimistic_read.proofs.LoadLemmas.{reads_on}
use Rattle.optimistic_read.proofs.block.load_key.Goals as goal

pub block_load-second-requires-clause-reading : goal.block_load-second-requires-clause-reading
block_load-second-requires-clause-reading c =
    reads_on c.args.read.block.cell c.args.word c.block_load-src.result c.args.seat.now.me.0 c.block_load-src.new.seat.me.0
    (λ i. (c.block_load-src.ensures.loaded.me i).0) c.requires.reading
