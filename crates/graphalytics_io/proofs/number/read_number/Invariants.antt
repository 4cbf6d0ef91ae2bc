-- the bytes before this place are digits, and stand for the value
use Rattle.std.proofs.Common.{take}
use Rattle.std.specs.Str.Parse.{AllDigits}
use Rattle.graphalytics_io.specs.Numbers.{HasValue}
use Rattle.graphalytics_io.proofs.number.read_number.Given as goal

abbrev pub invariant-digits : goal.invariant-digits
invariant-digits l = record {
  each : AllDigits 10 (take l.i l.field);
  value : HasValue (take l.i l.field) l.value;
}
