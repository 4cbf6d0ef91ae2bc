use Rattle.std.specs.Prelude.{◌+◌}
use Rattle.thread_runner.proofs.BlockLemmas.{front_blocks, back_blocks}
use Rattle.thread_runner.proofs.laws.parts_are_cut_alike.Goals as goal

pub returns : goal.returns
returns c jobs first others k some_first some_others = (front_blocks jobs (first + others) first k some_first, back_blocks jobs first others k some_others)
