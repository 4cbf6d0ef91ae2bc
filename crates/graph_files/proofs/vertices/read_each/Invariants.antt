-- the ids so far, and what the lines that are left stand for behind them, are what the text stands for
use Rattle.std.proofs.Common.{◌≡◌, length}
use Rattle.graph_files.specs.VertexFiles.{vertices_of, ids_behind}
use Rattle.graph_files.proofs.vertices.read_each.Given as goal

abbrev pub invariant-lines : goal.invariant-lines
invariant-lines l = ids_behind l.limit l.reading.ids l.lines ≡ vertices_of l.limit l.text

abbrev pub decreases-lines : goal.decreases-lines
decreases-lines l = length l.lines
