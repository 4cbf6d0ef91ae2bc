-- What a line of a script may be, and what scripts are.
use Rattle.std.specs.Prelude.{◌≡◌, ℕ, ◌+◌, ◌≤◌, Bool, true, false, List, [], ◌∷◌, Option, Some, None}
use Rattle.graph_model.specs.declared.limits.TheConstants.{MAX_ID, MAX_ROUNDS}
use Rattle.graph_model.specs.declared.write.Write.{Write}
use Rattle.graph_model.specs.Refused.{IsWithinLimits}
use Rattle.run_model.specs.declared.command.Command.{Command}
use Rattle.run_model.specs.declared.command.Command.TheVariants as commands
use Rattle.run_model.specs.declared.command.Kernel.{Kernel}
use Rattle.run_model.specs.declared.command.Kernel.TheVariants.{Bfs, Wcc, Cdlp, Sssp, FastBfs, FastSssp}
use Rattle.run_model.specs.declared.command.Query.{Query}
use Rattle.run_model.specs.declared.command.Query.TheVariants.{WeightOf, NeighboursOf, Counts}

-- the write that a line asks for, if it asks for one
abbrev pub write_of : Command → Option Write
write_of commands.Begin = None
write_of commands.Commit = None
write_of commands.Abort = None
write_of (commands.Write w) = Some w
write_of (commands.Read query) = None
write_of (commands.Run kernel file) = None

-- the number of a script's latest transaction after a line: `begin` opens the next one
abbrev pub next_txn : ℕ → Command → ℕ
next_txn txn commands.Begin = txn + 1
next_txn txn commands.Commit = txn
next_txn txn commands.Abort = txn
next_txn txn (commands.Write w) = txn
next_txn txn (commands.Read query) = txn
next_txn txn (commands.Run kernel file) = txn

-- how many transactions there are after these lines
abbrev pub begun_by : ℕ → List Command → ℕ
begun_by txn [] = txn
begun_by txn (c ∷ cs) = begun_by (next_txn txn c) cs

-- whether a transaction is open after a line, where the line may stand
abbrev pub open_behind : Bool → Command → Option Bool
open_behind false commands.Begin = Some true
open_behind false commands.Commit = None
open_behind false commands.Abort = None
open_behind false (commands.Write w) = None
open_behind false (commands.Read query) = None
open_behind false (commands.Run kernel file) = None
open_behind true commands.Begin = None
open_behind true commands.Commit = Some false
open_behind true commands.Abort = Some false
open_behind true (commands.Write w) = Some true
open_behind true (commands.Read query) = Some true
open_behind true (commands.Run kernel file) = Some true

-- the ids of a read are within their limit
abbrev pub IsQuery : Query → Type 0
IsQuery (WeightOf u v) = (u ≤ MAX_ID) × (v ≤ MAX_ID)
IsQuery (NeighboursOf v) = v ≤ MAX_ID
IsQuery Counts = Unit {0}

-- the vertex that a kernel begins at, if it needs one
abbrev pub root_of : Kernel → Option ℕ
root_of (Bfs root) = Some root
root_of Wcc = None
root_of (Cdlp rounds) = None
root_of (Sssp root) = Some root
root_of (FastBfs root) = Some root
root_of (FastSssp root width) = Some root

-- the root or the number of rounds is within its limit
abbrev pub IsKernel : Kernel → Type 0
IsKernel (Bfs root) = root ≤ MAX_ID
IsKernel Wcc = Unit {0}
IsKernel (Cdlp rounds) = rounds ≤ MAX_ROUNDS
IsKernel (Sssp root) = root ≤ MAX_ID
IsKernel (FastBfs root) = root ≤ MAX_ID
IsKernel (FastSssp root width) = root ≤ MAX_ID

-- each number is within its limit
abbrev pub IsCommand : Command → Type 0
IsCommand commands.Begin = Unit {0}
IsCommand commands.Commit = Unit {0}
IsCommand commands.Abort = Unit {0}
IsCommand (commands.Write w) = IsWithinLimits w
IsCommand (commands.Read query) = IsQuery query
IsCommand (commands.Run kernel file) = IsKernel kernel

-- transactions one after the other, each `begin`, lines, and `commit` or `abort`; the first
-- argument says whether one is open
abbrev pub IsScript : Option Bool → List Command → Type 0
IsScript None cs = ⊥
IsScript (Some within) [] = within ≡ false
IsScript (Some within) (c ∷ cs) = IsCommand c × IsScript (open_behind within c) cs
