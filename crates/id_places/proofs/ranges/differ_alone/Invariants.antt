-- the numbers of the range so far
use Rattle.std.proofs.Common.{◌≡◌, take}
use Rattle.id_places.specs.Within.{numbers_within}
use Rattle.id_places.proofs.ranges.differ_alone.Given as goal

abbrev pub invariant-numbers : goal.invariant-numbers
invariant-numbers l = l.part.items ≡ numbers_within l.low l.last (take l.number-index l.numbers)
