use Rattle.std.proofs.Common.{◌+◌, ◌/◌, ◌<◌, ◌∙◌, ap, sym, arith}
use Rattle.graph_model.specs.Rows.{is_below}
use Rattle.head_map.specs.Heads.{place_key, placed_key}
use Rattle.head_map.proofs.KeyedLemmas.{halved_start, halved_up, halved_down, halved_end}
use Rattle.head_map.proofs.PlaceLemmas.{is_lower_place, not_lower_place}
use Rattle.head_map.proofs.list.index_in.Goals as goal

pub halves-init : goal.halves-init
halves-init c = halved_start placed_key _ _

pub halves-preserved-then-place : goal.halves-preserved-then-place
halves-preserved-then-place c =
    let inside : c.halves.index + c.halves.count / 2 < c.halves.index + c.halves.count = omega arith in
    halved_up placed_key _ _ c.halves.index c.halves.count (c.halves.index + c.halves.count / 2) _ c.requires c.halves.invariant inside
    (ap (λ r. is_below (placed_key r) (place_key c.args.place)) (sym c.index-rows-index.is) ∙ is_lower_place _ c.args.place (omega (arith, c.place.ensures))) _ _ (omega arith) (omega arith)

pub halves-preserved : goal.halves-preserved
halves-preserved c =
    let inside : c.halves.index + c.halves.count / 2 < c.halves.index + c.halves.count = omega arith in
    halved_down placed_key _ _ c.halves.index c.halves.count (c.halves.index + c.halves.count / 2) _ c.requires c.halves.invariant inside
    (ap (λ r. is_below (placed_key r) (place_key c.args.place)) (sym c.index-rows-index.is) ∙ not_lower_place _ c.args.place (omega (arith, c.place.ensures))) (c.halves.count / 2) (omega arith) (omega arith)

pub returns : goal.returns
returns c = halved_end placed_key _ _ _ _ c.halves.invariant (omega arith)
