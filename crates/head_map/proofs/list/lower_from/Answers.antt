use Rattle.std.proofs.Common.{◌≡◌, ◌-◌, ◌<◌, ◌≤◌, ◌∙◌, length, refl, ap, suc, arith}
use Rattle.head_map.specs.Heads.{lowered_row}
use Rattle.head_map.proofs.PlaceLemmas.{changed_start, changed_more, changed_holds, length-changed_from}
use Rattle.head_map.proofs.list.lower_from.Goals as goal

pub lower-init : goal.lower-init
lower-init c = (omega arith, omega arith, changed_start (lowered_row c.args.by) c.args.rows.now.items c.args.rows.now.items c.len-at.result refl (omega arith), refl)

pub index_mut-requires : goal.index_mut-requires
index_mut-requires c =
    let same : length c.lower.rows.items ≡ length c.args.rows.now.items = ap length c.lower.invariant.2 ∙ length-changed_from (lowered_row c.args.by) c.args.rows.now.items c.lower.at in
    let inside : c.lower.at - 1 < length c.lower.rows.items = omega (arith, same, c.lower.invariant.0, c.lower.invariant.1) in
    omega (arith, inside)

pub lower-requires : goal.lower-requires
lower-requires c =
    let one : c.lower.at ≡ suc (c.lower.at - 1) = omega arith in
    let inside : c.lower.at - 1 < length c.args.rows.now.items = omega (arith, c.lower.invariant.0, c.lower.invariant.1) in
    changed_holds (lowered_row c.args.by) c.args.rows.now.items c.lower.rows.items c.lower.at (c.lower.at - 1) c.index_mut.result.now c.index_mut.result.now c.lower.invariant.2 one inside c.index_mut.ensures.value
    (λ e. c.args.by ≤ e.place) c.args.index (omega arith) c.requires.high

pub lower-preserved : goal.lower-preserved
lower-preserved c =
    let one : c.lower.at ≡ suc (c.lower.at - 1) = omega arith in
    let inside : c.lower.at - 1 < length c.args.rows.now.items = omega (arith, c.lower.invariant.0, c.lower.invariant.1) in (
      omega (arith, c.lower.invariant.0),
      omega arith,
      changed_more (lowered_row c.args.by) c.args.rows.now.items c.lower.rows.items c.lower.at (c.lower.at - 1) c.index_mut.result.now c.lower-in-lower.new.self c.lower.invariant.2 one inside c.index_mut.ensures.value c.lower-in-lower.ensures,
      c.lower.invariant.3,
    )
