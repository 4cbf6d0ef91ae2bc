-- the first names are left, and the map has the places of those that are left
use Rattle.std.proofs.Common.{◌≡◌, take, length}
use Rattle.script_lang.specs.Places.{AreFirstPlaces}
use Rattle.script_lang.proofs.names.Names.truncate.Given as goal

abbrev pub invariant-names : goal.invariant-names
invariant-names l = record {
  first : AreFirstPlaces l.self-inside.places l.self-inside.names.items;
  kept : take l.len l.self-inside.names.items ≡ take l.len l.fn.self;
}

abbrev pub decreases-names : goal.decreases-names
decreases-names l = length l.self-inside.names.items
