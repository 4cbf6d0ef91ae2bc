use Rattle.std.proofs.Common.{◌+◌, length, arith}
use Rattle.kernel_bfs.proofs.SpreadLemmas.{round_spreads}
use Rattle.kernel_bfs.specs.Frontiers.{places_at}
use Rattle.kernel_bfs.proofs.FrontierLemmas.{front_collected}
use Rattle.kernel_bfs.proofs.PlaceSetLemmas.{swept_round}
use Rattle.kernel_bfs.proofs.arcs_into.bottom_up.Goals as goal

pub returns : goal.returns
returns g c =
    let within = c.requires.image.into.within in
    let new = c.sweep.new.distances.items in
    let round = swept_round c.args.image.now within c.args.frontier.now c.args.level c.args.distances.now.items new c.requires.count c.requires.frontier c.sweep.ensures in
    round_spreads c.args.image.now within c.args.level c.requires.level.0 c.args.distances.now.items new c.requires.count c.requires.level.1 round
    (places_at (c.args.level + 1) new) (length new) (omega (arith, c.sweep.ensures.count)) (front_collected (c.args.level + 1) new)
