-- no line with fields has been passed over
use Rattle.std.proofs.Common.{◌≡◌, ◌+◌, ◌<◌, ◌^◌, length}
use Rattle.graphalytics_io.specs.Fields.{lines_of}
use Rattle.graphalytics_io.specs.FieldLines.{numbered}
use Rattle.graphalytics_io.proofs.lines.FieldLines.next.Given as goal

abbrev pub invariant-lines : goal.invariant-lines
invariant-lines l = record {
  same : numbered l.self-inside.number (lines_of l.self-inside.rest.now) ≡ l.fn.self;
  fits : l.self-inside.number + length l.self-inside.rest.now < 2 ^ 64;
}

abbrev pub decreases-lines : goal.decreases-lines
decreases-lines l = length l.self-inside.rest.now
