use Rattle.std.proofs.Common.{◌∙◌, arith, refl}
use Rattle.pass_cells.specs.Taken.{keeps_itself, keeps_on}
use Rattle.pass_cells.proofs.StampLemmas.{key_held, stamps_more}
use Rattle.pass_cells.proofs.StepLemmas.{covers_kept}
use Rattle.pass_cells.proofs.change.stamp_rows.Goals as goal

pub keys-init : goal.keys-init
keys-init c = (λ q. refl, keeps_itself c.args.taken.now, omega arith)

pub stamp-requires : goal.stamp-requires
stamp-requires c =
    let keys = c.args.keys.now in
    covers_kept c.args.taken.now.list.items c.keys.taken.list.items c.keys.invariant.1.each _
    ∙ key_held c.args.taken.now.list.items keys c.keys.place _ c.requires.held c.keys-test.true

pub keys-preserved : goal.keys-preserved
keys-preserved c =
    let more = c.stamp.ensures.count in
    let before = c.keys.invariant.2 in (
      stamps_more c.args.by c.args.number c.args.keys.now c.keys.place _ c.args.taken.now.list.items
          c.keys.taken.list.items c.stamp.new.self.list.items c.keys-test.true c.keys.invariant.0
          c.stamp.ensures.stamped,
      keeps_on c.args.taken.now c.keys.taken c.stamp.new.self c.keys.invariant.1 c.stamp.ensures.keeps,
      omega (arith, more, before),
    )
