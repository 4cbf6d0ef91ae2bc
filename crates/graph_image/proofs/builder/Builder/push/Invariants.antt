use Rattle.std.proofs.Common.{◌≡◌, ◌+◌, ◌≤◌, ◌++◌, map, length, take}
use Rattle.graph_image.specs.Building.{shown, IsBuilt}
use Rattle.graph_image.proofs.builder.Builder.push.Given as goal

-- the rows before the one at hand are there, with room for the others
abbrev pub invariant-rows : goal.invariant-rows
invariant-rows l = IsBuilt l.self-inside.sources.items l.self-inside.rows.items
    × (map (shown l.self-inside.sources.items) l.self-inside.rows.items ≡ l.fn.self ++ take l.i l.rows)
    × (length l.rows ≤ l.self-inside.sources.spare + l.i) × (length l.rows ≤ l.self-inside.rows.spare + l.i)
