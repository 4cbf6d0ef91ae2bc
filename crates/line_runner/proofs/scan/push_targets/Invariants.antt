use Rattle.std.proofs.Common.{◌≡◌, ◌++◌, map, take}
use Rattle.line_runner.specs.Scanning.{target_of}
use Rattle.line_runner.proofs.scan.push_targets.Given as goal

abbrev pub invariant-arcs : goal.invariant-arcs
invariant-arcs l = l.ids ≡ l.initial.ids ++ map target_of (take l.row-index l.given)
