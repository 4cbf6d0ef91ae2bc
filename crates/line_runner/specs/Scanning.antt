-- Scans under way: the rows that a line has scanned, and what is kept of them.
use Rattle.std.specs.Prelude.{◌≡◌, ℕ, ◌+◌, ◌-◌, ◌*◌, ◌/◌, ◌^◌, ◌<◌, ◌≤◌, ◌==◌, Bool, true, false, nat_lt, List, [], ◌++◌, length, map, count_by, Option, Some, None}
use Rattle.graph_model.specs.declared.limits.TheConstants.{SCAN_ROWS}
use Rattle.graph_model.specs.declared.row.Key.{Key}
use Rattle.graph_model.specs.declared.row.Row.{Row}
use Rattle.graph_model.specs.declared.write.Kind.{Kind}
use Rattle.graph_model.specs.declared.write.Kind.TheVariants.{Directed, Undirected}
use Rattle.run_model.specs.declared.answer.Answer.{Answer}
use Rattle.run_model.specs.declared.answer.Answer.TheVariants as answers
use Rattle.graph_model.specs.Graph.{Graph}
use Rattle.graph_model.specs.Rows.{rows, all_rows, AreRowsOf}
use Rattle.graph_model.specs.Scans.{rows_left}
use Rattle.graph_image.specs.Building.{AreStorable}
use Rattle.run_model.specs.declared.command.Command.{Command}
use Rattle.run_model.specs.declared.command.Command.TheVariants as commands
use Rattle.run_model.specs.declared.command.Query.{Query}
use Rattle.run_model.specs.declared.command.Query.TheVariants.{WeightOf, NeighboursOf, Counts}
use Rattle.line_runner.specs.declared.reading.LineReading.{LineReading}
use Rattle.line_runner.specs.declared.reading.LineReading.TheVariants as readings
use Rattle.line_runner.specs.declared.scan.Scan.{Scan}
use Rattle.line_runner.specs.declared.scan.ScanResult.{ScanResult}
use Rattle.line_runner.specs.declared.scan.ScanResult.TheVariants.{Targets, Vertices, Rows}
use Rattle.line_runner.specs.Kernels.{IsKeptImage}

-- ---- what is kept of rows

-- the row is a vertex's
abbrev pub is_vertex : Row → Bool
is_vertex r = r.key.second == 0

-- where an arc's row leads
abbrev pub target_of : Row → ℕ
target_of r = r.key.second - 1

-- what is kept, with these rows more
abbrev pub with_rows : ScanResult → List Row → ScanResult
with_rows (Targets ids) more = Targets (ids ++ map target_of more)
with_rows (Vertices count) more = Vertices (count + count_by is_vertex more)
with_rows (Rows kept) more = Rows (kept ++ more)

-- how many vertices were counted
abbrev pub vertices_in : ScanResult → ℕ
vertices_in (Targets ids) = 0
vertices_in (Vertices count) = count
vertices_in (Rows kept) = 0

-- so many rows with these: those for an image may be pushed, where there are places for so many
abbrev pub FitIn : ScanResult → List Row → ℕ → Type 0
FitIn (Targets ids) more count = Unit {0}
FitIn (Vertices n) more count = Unit {0}
FitIn (Rows kept) more count = count < 2 ^ 32 → AreStorable (kept ++ more)

-- `neighbours` keeps the targets, `count` the number of vertices
abbrev pub IsQueryResult : Query → List Row → ScanResult → Type 0
IsQueryResult (WeightOf u v) given result = ⊥
IsQueryResult (NeighboursOf v) given result = result ≡ Targets (map target_of given)
IsQueryResult Counts given result = result ≡ Vertices (count_by is_vertex given)

-- what a line keeps of the rows that it has scanned: a kernel keeps the rows. No other line scans
abbrev pub IsResult : Command → List Row → ScanResult → Type 0
IsResult commands.Begin given result = ⊥
IsResult commands.Commit given result = ⊥
IsResult commands.Abort given result = ⊥
IsResult (commands.Write w) given result = ⊥
IsResult (commands.Read query) given result = IsQueryResult query given result
IsResult (commands.Run kernel file) given result = result ≡ Rows given

-- the answer to `count`: an undirected edge is two arcs
abbrev pub counted : Kind → ℕ → ℕ → Answer
counted Directed vertices arcs = answers.Counted vertices arcs
counted Undirected vertices arcs = answers.Counted vertices (arcs / 2)

-- ---- scans

-- the rows that a read scans
abbrev pub rows_of_query : Graph → Query → List Row
rows_of_query g (WeightOf u v) = []
rows_of_query g (NeighboursOf v) = rows g (record { src = v; second = 1 }) (record { src = v + 1; second = 0 })
rows_of_query g Counts = all_rows g

-- the rows that a line scans
abbrev pub rows_of_line : Graph → Command → List Row
rows_of_line g commands.Begin = []
rows_of_line g commands.Commit = []
rows_of_line g commands.Abort = []
rows_of_line g (commands.Write w) = []
rows_of_line g (commands.Read query) = rows_of_query g query
rows_of_line g (commands.Run kernel file) = all_rows g

-- so many portions have as many rows as 64 bits count, and no scan gives as many
abbrev pub too_many_turns : ℕ
too_many_turns = 288230376151711744

-- a scan of a range that was given no row yet
abbrev pub fresh_scan : Key → Key → ScanResult → Scan
fresh_scan next until kept = record {
  cursor = record { next = next; until = until; done = false };
  rows = 0;
  result = kept;
}

-- A scan under way. The rows that it was given and those that are left are the line's, and what it has kept
-- is that of the rows that it was given
pub record IsScan (g : Graph) (r : Command) (scan : Scan) : Type 0 where
  pub given : List Row
  pub counted : scan.rows ≡ length given
  pub whole : given ++ rows_left g scan.cursor ≡ rows_of_line g r
  pub result : IsResult r given scan.result
  pub bounded : vertices_in scan.result ≤ scan.rows
  pub going : scan.cursor.done ≡ false
  pub portions : ℕ
  pub full : scan.rows ≡ SCAN_ROWS * portions

-- a scan with nothing left: it was given all rows of the line
pub record IsWhole (g : Graph) (r : Command) (scan : Scan) : Type 0 where
  pub counted : scan.rows ≡ length (rows_of_line g r)
  pub result : IsResult r (rows_of_line g r) scan.result
  pub bounded : vertices_in scan.result ≤ scan.rows

-- a turn of a scan gives a full portion, or else the rest
pub record ScansOn (g : Graph) (r : Command) (old new : Scan) : Type 0 where
  pub small : new.rows < 2 ^ 64
  pub portion : new.cursor.done ≡ false → IsScan g r new × (new.rows ≡ old.rows + SCAN_ROWS)
  pub rest : new.cursor.done ≡ true → IsWhole g r new × (new.rows < old.rows + SCAN_ROWS)

-- the scan was given all rows of the graph, and has kept them
pub record HasAllRows (g : Graph) (scan : Scan) : Type 0 where
  pub are : AreRowsOf (all_rows g) g
  pub counted : scan.rows ≡ length (all_rows g)
  pub kept : scan.result ≡ Rows (all_rows g)

-- ---- lines that take more than one turn

-- the line runs a kernel
abbrev pub RunsKernel : Command → Type 0
RunsKernel commands.Begin = ⊥
RunsKernel commands.Commit = ⊥
RunsKernel commands.Abort = ⊥
RunsKernel (commands.Write w) = ⊥
RunsKernel (commands.Read query) = ⊥
RunsKernel (commands.Run kernel file) = Unit {0}

-- a line scans its rows, or it runs a kernel on the image that is kept of them
abbrev pub IsReading : Graph → Command → LineReading → Type 0
IsReading g r (readings.Scan scan) = IsScan g r scan
IsReading g r (readings.Replay kept turns) = IsKeptImage g kept × RunsKernel r

-- turns on the image that is kept are left, beside the last one
abbrev pub replays_on : LineReading → Bool
replays_on (readings.Scan scan) = false
replays_on (readings.Replay kept turns) = nat_lt turns (kept.rows / SCAN_ROWS)

-- the turns that a line has taken: each turn of a scan gave a full portion, and those of a replay are counted
abbrev pub taken_by : LineReading → ℕ
taken_by (readings.Scan scan) = scan.rows / SCAN_ROWS
taken_by (readings.Replay kept turns) = turns

-- the turns that the line at hand has taken
abbrev pub taken_of : Option LineReading → ℕ
taken_of None = 0
taken_of (Some reading) = taken_by reading
