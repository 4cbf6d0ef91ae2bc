-- as many as were counted, and nothing was checked of them
use Rattle.std.proofs.Common.{◌≡◌, length}
use Rattle.serial_runner.specs.SerialRuns.{AreFresh}
use Rattle.serial_runner.proofs.run.new_checks.Given as goal

abbrev pub invariant-checks : goal.invariant-checks
invariant-checks l = (length l.checks.items ≡ l._place) × AreFresh l.checks.items
