use Rattle.std.proofs.Common.{◌≡◌, ◌∙◌, ap, length, replicate, arith}
use Rattle.latch_table.proofs.EndLaws.{opens}
use Rattle.latch_table.proofs.table.LatchTable.open.Goals as goal

pub new-requires : goal.new-requires
new-requires g c =
    let count : c.len.result ≡ length c.args.values.items = omega (arith, c.len.ensures) in
    let zeros = c.as_slice.ensures.value ∙ c.in-Ok.ensures ∙ ap (λ n. replicate n 0) count in
    opens g.V.Slot.fits (g.V.Slot.passes c.args.about.now) c.args.about.now c.as_slice.result.now
    c.args.values.items zeros c.requires.fits
