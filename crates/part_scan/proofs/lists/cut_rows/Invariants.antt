use Rattle.std.proofs.Common.{◌≡◌, ◌+◌, ◌≤◌, take, length}
use Rattle.part_scan.specs.Parts.{rows_in}
use Rattle.part_scan.proofs.lists.cut_rows.Given as goal

-- the rows before the start are in the lists
abbrev pub invariant-parts : goal.invariant-parts
invariant-parts l = (rows_in l.lists ≡ take l.start l.rows) × (l.start ≤ length l.rows) × (length l.lists + 1 ≡ l._part)
