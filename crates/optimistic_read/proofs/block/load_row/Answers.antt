use Rattle.std.proofs.Common.{◌+◌, ◌*◌}
use Rattle.optimistic_read.proofs.LoadLemmas.{reads_after_key}
use Rattle.optimistic_read.proofs.block.load_row.Goals as goal

pub block_load-weight-requires-clause-reading : goal.block_load-weight-requires-clause-reading
block_load-weight-requires-clause-reading c =
    reads_after_key c.args.read.block.cell (6 + 3 * c.args.place) c.load_key-key.result c.args.seat.now.me.0
    c.load_key-key.new.seat.me.0 (λ i. (c.load_key-key.ensures.loaded.me i).0) c.requires.reading
