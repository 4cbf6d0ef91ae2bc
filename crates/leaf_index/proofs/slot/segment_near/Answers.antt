use Rattle.std.proofs.Common.{◌<◌, ◌+◌, length, sym, arith}
use Rattle.leaf_index.proofs.CutLemmas.{holds_between}
use Rattle.leaf_index.proofs.SlotLemmas.{read_there}
use Rattle.leaf_index.proofs.slot.segment_near.Goals as goal

pub returns-then-is_below : goal.returns-then-is_below
returns-then-is_below c =
    let cuts = c.args.cuts.now in
    let near : c.args.near < length cuts = omega (arith, c.told-cuts, c.if-near.true) in
    let next : c.args.near + 1 < length cuts = omega (arith, c.told-cuts, c.if-near.true) in
    holds_between cuts c.requires.sorted.0 c.args.key c.args.near _ _ c.requires.sorted.1 (omega (arith, c.if-near.true)) (read_there cuts c.args.near _ near) (read_there cuts (c.args.near + 1) _ next)
    (sym c.if-not-is_below.ensures) (sym c.if-is_below.ensures)
