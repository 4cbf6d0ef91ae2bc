use Rattle.std.proofs.Common.{◌≡◌, take}
use Rattle.version_segment.specs.Rows.{all_records}
use Rattle.leaf_array.proofs.counting.records_of.Given as goal

-- the records of the rows so far are counted
abbrev pub invariant-places : goal.invariant-places
invariant-places l = l.records ≡ all_records (take l.place l.segment.rows)
