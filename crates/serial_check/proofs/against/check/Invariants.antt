use Rattle.std.proofs.Common.{◌≡◌, ℕ, ◌-◌, ◌≤◌, length}
use Rattle.std.specs.Prelude.{false, slice_get, Some}
use Rattle.graph_model.specs.declared.journal.Commit.{Commit}
use Rattle.serial_model.specs.Footprints.{writes_in}
use Rattle.serial_check.specs.Ranges.{covers}
use Rattle.serial_check.proofs.against.check.Given as goal

abbrev pub invariant-commits : goal.invariant-commits
invariant-commits l = record {
  within : l.place ≤ length l.journal;
  clear : (i : ℕ) (c : Commit) → l.place ≤ i → slice_get l.journal i ≡ Some c → writes_in l.kind (covers l.footprint.items) c.writes ≡ false;
}

abbrev pub decreases-commits : goal.decreases-commits
decreases-commits l = l.place - l.start
