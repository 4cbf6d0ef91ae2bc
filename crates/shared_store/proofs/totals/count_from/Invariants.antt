use Rattle.std.proofs.Common.{◌≡◌, ◌≤◌, take}
use Rattle.std.specs.Prelude.{count_by}
use Rattle.shared_store.specs.Totals.{is_seen, is_seen_vertex}
use Rattle.shared_store.proofs.totals.count_from.Given as goal

-- those of the rows so far
abbrev pub invariant-rows : goal.invariant-rows
invariant-rows l = record {
  rows : l.counts.rows ≡ count_by (is_seen l.from) (take l.row-index l.run);
  vertices : l.counts.vertices ≡ count_by (is_seen_vertex l.from) (take l.row-index l.run);
  few : l.counts.vertices ≤ l.counts.rows;
  most : l.counts.rows ≤ l.row-index;
}
