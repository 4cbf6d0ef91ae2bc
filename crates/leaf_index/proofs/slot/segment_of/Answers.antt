use Rattle.std.proofs.Common.{◌<◌, length, sym, arith}
use Rattle.leaf_index.proofs.SlotLemmas.{read_there, later_more}
use Rattle.leaf_index.proofs.slot.segment_of.Goals as goal

pub down-preserved : goal.down-preserved
down-preserved c =
    let lt : c.down.segment < length c.args.cuts.now = omega (arith, c.told-cuts, c.down.invariant.within) in
    record {
      within = omega (arith, c.down.invariant.within);
      later = later_more c.args.cuts.now c.args.key c.down.segment _ (read_there c.args.cuts.now c.down.segment _ lt) (sym c.if-is_below.ensures) c.down.invariant.later;
    }

pub returns-else-is_below : goal.returns-else-is_below
returns-else-is_below c =
    let lt : c.down.segment < length c.args.cuts.now = omega (arith, c.told-cuts, c.down.invariant.within) in
    record {
      within = c.down.invariant.within;
      cut = _;
      there = read_there c.args.cuts.now c.down.segment _ lt;
      from = sym c.if-is_below.ensures;
      later = c.down.invariant.later;
    }
