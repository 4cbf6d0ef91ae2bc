use Rattle.std.proofs.Common.{sym, ◌∙◌, arith}
use Rattle.leaf_store.proofs.RecordLemmas.{none_counted, one_counted, all_counted}
use Rattle.leaf_store.proofs.RoomLemmas.{stands_leaf}
use Rattle.leaf_store.proofs.count.count_records.Goals as goal

pub leaves-init : goal.leaves-init
leaves-init c = record { counted = none_counted c.args.index.now c.args.leaves.now.items c.requires.index_is.first; fits = omega arith }

pub records_at-requires : goal.records_at-requires
records_at-requires c =
    let at = c.leaf_at-range.ensures in
    stands_leaf c.args.index.now c.args.leaves.now.items c.leaf_at-range.result.leaf c.requires
    (record { front = at.floor.front; entry = at.entry; back = at.floor.back; is = at.floor.is; number = at.range_is.leaf })

pub leaves-preserved : goal.leaves-preserved
leaves-preserved c = record {
  counted = one_counted c.args.index.now c.args.leaves.now.items c.leaves.key c.leaves.records c.records_at.result c.leaf_at-range.result c.requires c.leaves.invariant.counted
      (sym c.is_below.ensures ∙ c.leaves-test.true) c.leaf_at-range.ensures c.records_at.ensures c.saturating_add-records.result c.saturating_add-records.ensures;
  fits = omega arith;
}

pub returns : goal.returns
returns c = all_counted c.args.index.now c.args.leaves.now.items c.leaves.key c.leaves.records c.requires c.leaves.invariant.counted (sym c.is_below.ensures ∙ c.leaves-test.false)
