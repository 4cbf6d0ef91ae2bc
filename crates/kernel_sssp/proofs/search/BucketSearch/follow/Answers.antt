use Rattle.std.proofs.Common.{◌≡◌, ◌+◌, ◌<◌, ◌≤◌, length, get_or, slice_get, Some, sym, ap, ◌∙◌, subst, arith}
use Rattle.std.proofs.lemmas.List.{get_or_read}
use Rattle.std.proofs.lemmas.Option.{slice_get-get_or}
use Rattle.graph_model.specs.declared.limits.TheConstants.{MAX_WEIGHT}
use Rattle.graph_image.specs.declared.edge.Arc.{Arc}
use Rattle.graph_image.specs.Images.{arcs_at}
use Rattle.kernel_sssp.proofs.SearchLemmas.{IsFollowing, following_kept, following_lowered, followed}
use Rattle.kernel_sssp.proofs.search.BucketSearch.follow.Goals as goal
use Rattle.kernel_sssp.proofs.search.BucketSearch.follow.Goals.{then-distance-index+in_ok-lower, else-distance-index}

pub index-requires : goal.index-requires
index-requires c =
    let at = slice_get-get_or c.out-arcs.result.now c.arcs.i (record { other = 0; weight = 0 }) c.arcs-test.true in
    let within = c.out-arcs.ensures.within c.arcs.i _ at in
    omega (arith, within, c.arcs.invariant.search.weights.count, c.arcs.self.distances.ok)

pub lower-requires-clause-place : goal.lower-requires-clause-place
lower-requires-clause-place c =
    let at = slice_get-get_or c.out-arcs.result.now c.arcs.i (record { other = 0; weight = 0 }) c.arcs-test.true in
    let within = c.out-arcs.ensures.within c.arcs.i _ at in
    omega (arith, within, c.arcs.invariant.search.weights.count)

pub arcs-preserved : goal.arcs-preserved
arcs-preserved c =
    let image = c.args.image.now in
    let visit = c.args.visit in
    let a : Arc = get_or c.out-arcs.result.now c.arcs.i (record { other = 0; weight = 0 }) in
    let at_out = slice_get-get_or c.out-arcs.result.now c.arcs.i (record { other = 0; weight = 0 }) c.arcs-test.true in
    let at : slice_get (arcs_at image.out visit.place) c.arcs.i ≡ Some a = ap (λ l. slice_get l c.arcs.i) (sym c.out-arcs.ensures.arcs) ∙ at_out in
    let within = c.out-arcs.ensures.within c.arcs.i a at_out in
    let light : a.weight ≤ MAX_WEIGHT = omega (arith, c.arcs-test.element_fits2) in
    let inside : a.other < length c.arcs.self.distances.items = omega (arith, within, c.arcs.invariant.search.weights.count) in
    elim c.if-distance-index.branch [
      | then-distance-index+in_ok-lower w ↦
          let there = get_or_read c.arcs.self.distances.items a.other c.index.result.now inside c.index.ensures 0 in
          subst (IsFollowing image visit (c.arcs.i + 1) c.args.self.now) (sym w.self-is)
          (following_lowered image visit c.arcs.i c.args.self.now c.arcs.self c.arcs.invariant c.requires.visit a at within light
          w.lower.new.self (subst (λ d. visit.distance + a.weight < d) there w.if-distance-index.true) w.in_ok-lower.ensures)
      | else-distance-index w ↦
          let there = get_or_read c.arcs.self.distances.items a.other c.index.result.now inside c.index.ensures 0 in
          subst (IsFollowing image visit (c.arcs.i + 1) c.args.self.now) (sym w.self-is)
          (following_kept image visit c.arcs.i c.args.self.now c.arcs.self c.arcs.invariant c.requires.visit a at within light
          (subst (λ d. d ≤ visit.distance + a.weight) there w.if-distance-index.false))
    ]

pub returns : goal.returns
returns c = followed c.args.image.now c.args.visit c.arcs.i c.args.self.now c.arcs.self c.arcs.invariant (omega (arith, c.arcs-test.false, ap length c.out-arcs.ensures.arcs))
