-- each place so far is its own label
use Rattle.std.proofs.Common.{◌≡◌}
use Rattle.std.specs.List.{range_with_len}
use Rattle.kernel_cdlp.proofs.rounds.first_labels.Given as goal

abbrev pub invariant-places : goal.invariant-places
invariant-places l = l.labels.items ≡ range_with_len 0 l.place
