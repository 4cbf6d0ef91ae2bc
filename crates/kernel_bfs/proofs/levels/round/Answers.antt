use Rattle.std.proofs.Common.{ℕ, ◌+◌, ◌*◌, ◌/◌, ◌<◌, ◌≤◌, ◌∙◌, length, subst, arith}
use Rattle.std.specs.Prelude.{slice_index}
use Rattle.kernel_bfs.specs.Levels.{FromLevel}
use Rattle.kernel_bfs.proofs.SpreadLemmas.{on_ok, by_level, advances_of}
use Rattle.kernel_bfs.specs.PlaceSets.{IsWordOf}
use Rattle.kernel_bfs.specs.Frontiers.{places_at, IsAtLevel}
use Rattle.kernel_bfs.proofs.PlaceSetLemmas.{of_level}
use Rattle.kernel_bfs.proofs.levels.round.Goals as goal

pub bottom_up-requires-clause-room : goal.bottom_up-requires-clause-room
bottom_up-requires-clause-room g c κs within = (let room = c.requires.room in let same = c.set_to_level.ensures.room in omega arith)

pub bottom_up-requires-clause-frontier : goal.bottom_up-requires-clause-frontier
bottom_up-requires-clause-frontier g c κs within =
    of_level c.args.level c.args.distances.now.items c.set_to_level.new.self (let room = c.requires.room in let same = c.set_to_level.ensures.room in let count = c.requires.count in omega arith)
    (subst (λ xs. (i : ℕ) → i < length c.set_to_level.new.self → IsWordOf c.args.level xs (i * 64) (slice_index c.set_to_level.new.self i)) c.as_slice-before.ensures.value c.set_to_level.ensures.level)

pub round_out-requires-clause-frontier : goal.round_out-requires-clause-frontier
round_out-requires-clause-frontier g c = c.requires.frontier.listed (subst (λ n. c.args.frontier.now.count ≤ n / 20) c.len.ensures.len (c.is_large.ensures.small c.if-is_large.false))

pub returns-then-is_large-clause-room : goal.returns-then-is_large-clause-room
returns-then-is_large-clause-room g c = (let room = c.requires.room in let same = c.set_to_level.ensures.room in omega arith)

pub returns-then-is_large-clause-round : goal.returns-then-is_large-clause-round
returns-then-is_large-clause-round g c =
    let old = c.args.distances.now.items in
    let new = c.bottom_up.new.distances.items in
    let level = c.args.level in
    on_ok c.take_level.result _ _ (λ at. record {
      next = subst (λ n. IsAtLevel n (level + 1) new c.take_level.new.frontier) (c.bottom_up.ensures.count ∙ c.requires.count)
          (subst (λ xs. IsAtLevel (length xs) (level + 1) xs c.take_level.new.frontier) c.as_slice-after.ensures.value at);
      advances = advances_of (FromLevel c.args.image.now old level) (level + 1) old new (places_at (level + 1) new)
          c.bottom_up.ensures;
      spreads = λ graph is. by_level c.args.image.now graph is level old new (places_at (level + 1) new) c.requires.count
          c.bottom_up.ensures;
    }) c.take_level.ensures
