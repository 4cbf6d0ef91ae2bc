use Rattle.std.proofs.Common.{◌≡◌}
use Rattle.std.specs.List.{concat}
use Rattle.graphalytics_io.proofs.pieces.Pieces.joined.Given as goal

-- the texts so far have been copied
abbrev pub invariant-texts : goal.invariant-texts
invariant-texts l = l.joined ≡ concat l.yielded
