use Rattle.std.specs.Prelude.{◌≡◌}
use Rattle.leaf_store.specs.Leaves.{record_count}
use Rattle.leaf_rows.specs.Laying.{KeepsContents}
use Rattle.leaf_rows.proofs.MergeLemmas.{steps_left}
use Rattle.leaf_rows.proofs.rows.LeafRows.merge_all.Given as goal

-- all rows are there, with as many records
abbrev pub invariant-steps : goal.invariant-steps
invariant-steps l = record {
  keeps : KeepsContents l.initial.self l.self;
  records : record_count l.self ≡ record_count l.initial.self;
}

abbrev pub decreases-steps : goal.decreases-steps
decreases-steps l = steps_left l.self.parts
