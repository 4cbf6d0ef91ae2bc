use Rattle.std.proofs.Common.{length, arith}
use Rattle.kernel_bfs.proofs.FrontierLemmas.{counted_level}
use Rattle.kernel_bfs.proofs.levels.take_level.Goals as goal

pub returns-then-is_large : goal.returns-then-is_large
returns-then-is_large c = counted_level (length c.args.distances.now) c.args.level c.args.distances.now _ c.count_at-frontier.ensures
    (λ few. absurd (let large = c.is_large.ensures.large c.if-is_large.true in omega arith))
