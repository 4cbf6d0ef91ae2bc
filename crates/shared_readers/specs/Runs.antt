-- Runs that a reader reads without a latch.
use Rattle.std.specs.Prelude.{◌≡◌, List, []}
use Rattle.graph_model.specs.declared.row.Key.{Key}
use Rattle.graph_model.specs.declared.row.Row.{Row}
use Rattle.graph_model.specs.Graph.{Graph}
use Rattle.optimistic_read.specs.declared.tried.TriedRun.{TriedRun}
use Rattle.optimistic_read.specs.Runs.{IsRun}
use Rattle.pass_readers.specs.Runs.{IsRunTo}

-- nothing: the buffer is as it was
abbrev pub ReadsNone : TriedRun → Type 0
ReadsNone tried =
    (g : Graph) (from until : Key) (before after : List Row) → IsRun tried g from until before after → after ≡ before

-- a run that goes to this end, in a buffer that was empty
abbrev pub ReadsTo : TriedRun → Key → Key → Type 0
ReadsTo tried from end =
    (g : Graph) (until : Key) (before after : List Row) → before ≡ [] → IsRun tried g from until before after
    → IsRunTo end g from until after
