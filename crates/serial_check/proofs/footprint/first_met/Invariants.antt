use Rattle.std.proofs.Common.{◌≡◌, ℕ, ◌-◌, ◌<◌, ◌≤◌, length}
use Rattle.std.specs.Prelude.{true, false, slice_get, Some}
use Rattle.graph_model.specs.Rows.{is_below}
use Rattle.serial_check.specs.declared.range.FootprintRange.{FootprintRange}
use Rattle.serial_check.proofs.footprint.first_met.Given as goal

abbrev pub invariant-halves : goal.invariant-halves
invariant-halves l = record {
  ordered : l.low ≤ l.high;
  within : l.high ≤ length l.ranges;
  before : (i : ℕ) (r : FootprintRange) → i < l.low → slice_get l.ranges i ≡ Some r → is_below r.until l.key ≡ true;
  behind : (i : ℕ) (r : FootprintRange) → l.high ≤ i → slice_get l.ranges i ≡ Some r → is_below r.until l.key ≡ false;
}

abbrev pub decreases-halves : goal.decreases-halves
decreases-halves l = l.high - l.low
