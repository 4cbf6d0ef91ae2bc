use Rattle.std.proofs.Common.{◌-◌, sym, ◌∙◌, ap}
use Rattle.std.specs.Prelude.{min, ◌^◌}
use Rattle.leaf_table.specs.LeafArray.Segments.{records_of}
use Rattle.leaf_store.proofs.RoomLemmas.{memory_segments}
use Rattle.leaf_store.proofs.count.records_at.Goals as goal

pub returns : goal.returns
returns c =
    c.records.ensures
    ∙ sym (ap (λ ss. min (records_of ss) (2 ^ 64 - 1)) (memory_segments c.args.leaves.now.items c.args.leaf c.requires.segments c.index.result.now c.in-Some.leaf c.deref.result.now c.index.ensures c.in-Some.is c.deref.ensures))
