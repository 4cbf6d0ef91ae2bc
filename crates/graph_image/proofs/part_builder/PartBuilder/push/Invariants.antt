use Rattle.std.proofs.Common.{◌≡◌, ◌+◌, ◌≤◌, ◌++◌, length, take}
use Rattle.part_scan.specs.Parts.{rows_in}
use Rattle.graph_image.proofs.part_builder.PartBuilder.push.Given as goal

-- the rows before the one at hand are there, with room for the others
abbrev pub invariant-rows : goal.invariant-rows
invariant-rows l = (rows_in l.self-inside.full.items ++ l.self-inside.last.items ≡ l.fn.self ++ take l.row-index l.rows)
    × (length l.rows ≤ l.self-inside.last.spare + l.row-index)
