use Rattle.std.proofs.Common.{sym, ◌∙◌, ap, length}
use Rattle.std.specs.Prelude.{sum}
use Rattle.leaf_table.specs.LeafArray.Segments.{rows_of}
use Rattle.leaf_store.proofs.RoomLemmas.{count_rows, memory_segments}
use Rattle.leaf_store.proofs.pair.rows_at.Goals as goal

pub returns-clause-rows : goal.returns-clause-rows
returns-clause-rows c =
    c.total.ensures.total ∙ ap sum c.counts_of.ensures.counts ∙ count_rows c.deref.result.now.segments
    ∙ sym (ap (λ ss. length (rows_of ss)) (memory_segments c.args.leaves.now.items c.args.leaf c.requires.segments c.index.result.now c.in-Some.leaf c.deref.result.now c.index.ensures c.in-Some.is c.deref.ensures))
