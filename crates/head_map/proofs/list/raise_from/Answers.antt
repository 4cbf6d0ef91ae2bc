use Rattle.std.proofs.Common.{◌≡◌, ◌+◌, ◌-◌, ◌<◌, ◌∙◌, length, refl, ap, suc, arith}
use Rattle.head_map.specs.Heads.{raised_row}
use Rattle.head_map.proofs.PlaceLemmas.{changed_start, changed_more, changed_holds, length-changed_from}
use Rattle.head_map.proofs.list.raise_from.Goals as goal

pub raise-init : goal.raise-init
raise-init c = (omega arith, omega arith, changed_start (raised_row c.args.by) c.args.rows.now.items c.args.rows.now.items c.len-at.result refl (omega arith), refl)

pub index_mut-requires : goal.index_mut-requires
index_mut-requires c =
    let same : length c.raise.rows.items ≡ length c.args.rows.now.items = ap length c.raise.invariant.2 ∙ length-changed_from (raised_row c.args.by) c.args.rows.now.items c.raise.at in
    let inside : c.raise.at - 1 < length c.raise.rows.items = omega (arith, same, c.raise.invariant.0, c.raise.invariant.1) in
    omega (arith, inside)

pub raise-requires : goal.raise-requires
raise-requires c =
    let one : c.raise.at ≡ suc (c.raise.at - 1) = omega arith in
    let inside : c.raise.at - 1 < length c.args.rows.now.items = omega (arith, c.raise.invariant.0, c.raise.invariant.1) in
    changed_holds (raised_row c.args.by) c.args.rows.now.items c.raise.rows.items c.raise.at (c.raise.at - 1) c.index_mut.result.now c.index_mut.result.now c.raise.invariant.2 one inside c.index_mut.ensures.value
    (λ e. e.place + c.args.by < 256) 0 (omega arith) c.requires.byte

pub raise-preserved : goal.raise-preserved
raise-preserved c =
    let one : c.raise.at ≡ suc (c.raise.at - 1) = omega arith in
    let inside : c.raise.at - 1 < length c.args.rows.now.items = omega (arith, c.raise.invariant.0, c.raise.invariant.1) in (
      omega (arith, c.raise.invariant.0),
      omega arith,
      changed_more (raised_row c.args.by) c.args.rows.now.items c.raise.rows.items c.raise.at (c.raise.at - 1) c.index_mut.result.now c.raise-in-raise.new.self c.raise.invariant.2 one inside c.index_mut.ensures.value c.raise-in-raise.ensures,
      c.raise.invariant.3,
    )
