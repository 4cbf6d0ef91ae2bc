-- the items so far have been written
use Rattle.std.proofs.Common.{◌≡◌, ◌++◌, take}
use Rattle.std.specs.List.{flat_map}
use Rattle.graphalytics_io.proofs.spelling.write_each.Given as goal

abbrev pub invariant-items : goal.invariant-items
invariant-items g l = l.text ≡ l.initial.text ++ flat_map g.S.Spelling.text_of (take l.item-index l.items)
