use Rattle.std.proofs.Common.{◌+◌, ◌<◌, [], ◌∷◌, length, slice_set, replicate, ap, sym, ◌∙◌, subst, arith}
use Rattle.graph_image.specs.Images.{Leads}
use Rattle.kernel_bfs.specs.declared.levels.TheConstants.{UNREACHED}
use Rattle.kernel_bfs.specs.Levels.{IsFrontier}
use Rattle.kernel_bfs.proofs.LevelLemmas.{IsOnLevel, IsRight, begun_on, begun_right, next_on, next_right, all_done, all_reached, leads_within}
use Rattle.kernel_bfs.specs.Frontiers.{places_at, IsAtLevel}
use Rattle.kernel_bfs.proofs.FrontierLemmas.{listed_level, level_rising, told_none, told_some}
use Rattle.kernel_bfs.proofs.levels.search.Goals as goal

pub levels-init : goal.levels-init
levels-init g c =
    let n = length c.args.image.now.vertices in
    let filled = c.in_ok-distances.ensures.items_if_clones_equal (λ y same. same) in
    let distances = ap (λ xs. slice_set xs c.args.root 0) (filled ∙ ap (λ n. replicate n UNREACHED) c.len-count.ensures.len) in
    let first = c.in_ok-frontier.ensures.places in
    let begun = begun_on n c.args.root c.requires in (
      subst (λ ds. IsOnLevel n 0 ds (places_at 0 ds)) (sym distances) (level_rising n 0 (slice_set (replicate n UNREACHED) c.args.root 0) (c.args.root ∷ []) begun),
      λ graph is. subst (λ ds. IsRight (Leads graph c.args.image.now.vertices) c.args.root 0 ds) (sym distances) (begun_right n c.args.root c.requires (Leads graph c.args.image.now.vertices)),
      (let room = c.in_ok-set.ensures in let count = c.len-count.ensures.len in omega arith),
      listed_level n 0 _ _ (c.in_ok-frontier.ensures.count ∙ sym (ap length first))
          (subst (λ ds. IsFrontier 0 ds c.in_ok-frontier.frontier.places.items) (sym distances)
          (subst (λ fs. IsFrontier 0 (slice_set (replicate n UNREACHED) c.args.root 0) fs) (sym first) begun.front)),
    )

pub levels-preserved : goal.levels-preserved
levels-preserved g c =
    let n = length c.args.image.now.vertices in
    let small : c.levels.level + 1 < UNREACHED = omega (arith, c.levels-test.true, c.len-count.ensures.few) in
    let old = c.levels.distances.items in
    let new = c.round.new.distances.items in
    let some = told_some n (c.levels.level + 1) new c.round.new.next c.in_ok-round.ensures.round.next (sym c.is_empty.ensures ∙ c.if-is_empty.false) in (
      next_on n c.levels.level small old (places_at c.levels.level old) c.levels.invariant.0 new (places_at (c.levels.level + 1) new) c.in_ok-round.ensures.round.advances some,
      λ graph is. next_right (Leads graph c.args.image.now.vertices) c.args.root n c.levels.level small old (places_at c.levels.level old) c.levels.invariant.0 (c.levels.invariant.1 graph is)
          new (places_at (c.levels.level + 1) new) (c.in_ok-round.ensures.round.spreads graph is) (leads_within graph c.args.image.now.vertices),
      c.round.ensures.room,
      subst (IsAtLevel n (c.levels.level + 1) new) (sym c.swap.ensures.x_after) c.in_ok-round.ensures.round.next,
    )

pub returns-then-is_empty-clause-searched : goal.returns-then-is_empty-clause-searched
returns-then-is_empty-clause-searched g c = λ graph is.
    let n = length c.args.image.now.vertices in
    let small : c.levels.level + 1 < UNREACHED = omega (arith, c.levels-test.true, c.len-count.ensures.few) in
    let old = c.levels.distances.items in
    let new = c.round.new.distances.items in
    let none = told_none n (c.levels.level + 1) new c.round.new.next c.in_ok-round.ensures.round.next (sym c.is_empty.ensures ∙ c.if-is_empty.true) in
    all_done (Leads graph c.args.image.now.vertices) c.args.root n c.levels.level small old (places_at c.levels.level old) c.levels.invariant.0 (c.levels.invariant.1 graph is)
    new (places_at (c.levels.level + 1) new) (c.in_ok-round.ensures.round.spreads graph is) (leads_within graph c.args.image.now.vertices) none

pub returns-clause-searched : goal.returns-clause-searched
returns-clause-searched g c = λ graph is.
    all_reached (Leads graph c.args.image.now.vertices) c.args.root (length c.args.image.now.vertices) c.levels.level c.levels.distances.items (places_at c.levels.level c.levels.distances.items) c.levels.invariant.0 (c.levels.invariant.1 graph is) c.requires
    (leads_within graph c.args.image.now.vertices) (omega (arith, c.levels-test.false, c.len-count.ensures.len))
