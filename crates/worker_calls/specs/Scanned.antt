-- What a try in a cell has read for a scan.
use Rattle.std.specs.Prelude.{◌≡◌, List}
use Rattle.graph_model.specs.declared.row.Key.{Key}
use Rattle.graph_model.specs.declared.row.Row.{Row}
use Rattle.graph_model.specs.Graph.{Graph}
use Rattle.reader_parts.specs.OptimisticReadDeclared.tried.TriedRun.{TriedRun}
use Rattle.reader_parts.specs.OptimisticRead.Runs.{IsRun}

-- nothing: the buffer is as it was
abbrev pub ReadsNone : TriedRun → Type 0
ReadsNone tried =
    (g : Graph) (from until : Key) (before after : List Row) → IsRun tried g from until before after → after ≡ before
