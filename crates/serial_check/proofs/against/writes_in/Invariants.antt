use Rattle.std.proofs.Common.{◌≡◌, ℕ, ◌<◌}
use Rattle.std.specs.Prelude.{false, slice_get, Some}
use Rattle.std.specs.List.{list_any}
use Rattle.graph_model.specs.declared.write.Write.{Write}
use Rattle.graph_model.specs.Effects.{keys_of}
use Rattle.serial_check.specs.Ranges.{covers}
use Rattle.serial_check.proofs.against.writes_in.Given as goal

abbrev pub invariant-writes : goal.invariant-writes
invariant-writes l = (i : ℕ) (w : Write) → i < l.write-index → slice_get l.writes i ≡ Some w → list_any (covers l.footprint.items) (keys_of l.kind w) ≡ false
