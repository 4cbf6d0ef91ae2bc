use Rattle.std.proofs.Common.{◌+◌, ◌∙◌, length, subst}
use Rattle.std.proofs.lemmas.Option.{slice_get_within}
use Rattle.kernel_bfs.specs.Levels.{Spreads, FromListed}
use Rattle.kernel_bfs.proofs.SpreadLemmas.{by_frontier, advances_of}
use Rattle.kernel_bfs.specs.Frontiers.{places_at}
use Rattle.kernel_bfs.proofs.FrontierLemmas.{spread_front, spread_rising, listed_level}
use Rattle.kernel_bfs.proofs.levels.round_out.Goals as goal

pub top_down-requires-clause-within : goal.top_down-requires-clause-within
top_down-requires-clause-within c = λ k p at. slice_get_within c.args.distances.now.items p c.args.level (c.requires.frontier.sound k p at)

pub returns : goal.returns
returns c =
    let listed = c.args.frontier.now.places.items in
    let target = FromListed c.args.image.now listed (length listed) in
    let old = c.args.distances.now.items in
    let new = c.top_down.new.distances.items in
    let level = c.args.level in
    let low = c.requires.level in
    let spread = subst (λ ls. Spreads target (level + 1) old ls new c.top_down.new.next.items) c.clear.ensures.items
    c.in_ok-top_down.ensures in
    let rising = spread_rising target level low.0 old new c.top_down.new.next.items low.1 spread in
    record {
      next = listed_level (length c.args.image.now.vertices) (level + 1) new _ (c.len-next.ensures ∙ c.top_down.new.next.ok.0)
          (spread_front target level low.0 old new c.top_down.new.next.items low.1 spread);
      advances = advances_of target (level + 1) old new (places_at (level + 1) new) rising;
      spreads = λ graph is. by_frontier c.args.image.now graph is level old new (places_at (level + 1) new) c.requires.count
          listed c.requires.frontier rising;
    }
