-- Phases of a job, what a line is answered, and the image that stays behind it.
use Rattle.std.specs.Prelude.{◌≡◌, ℕ, ◌&&◌, Bool, true, false, not, cond, List, Option, Some, None, IsSome}
use Rattle.graph_model.specs.declared.write.Kind.{Kind}
use Rattle.graph_model.specs.declared.table.Entry.{Entry}
use Rattle.graph_model.specs.Graph.{Graph}
use Rattle.run_model.specs.declared.answer.Answer.{Answer}
use Rattle.run_model.specs.AnsweredLines.{effect}
use Rattle.run_model.specs.Answering.{kernel_answer, IsKernelTable}
use Rattle.run_model.specs.Inputs.{File}
use Rattle.run_model.specs.declared.command.Command.TheVariants as commands
use Rattle.run_model.specs.declared.command.Kernel.{Kernel}
use Rattle.run_model.specs.Run.{Filing, filing_of}
use Rattle.run_model.specs.Jobs.{LineResult}
use Rattle.line_runner.specs.declared.answering.LineAnswer.{LineAnswer}
use Rattle.line_runner.specs.declared.kept.KeptImage.{KeptImage}
use Rattle.line_runner.specs.declared.phase.Phase.{Phase}
use Rattle.line_runner.specs.declared.phase.Phase.TheVariants.{Between, Open, Skipping, GivenUp}
use Rattle.line_runner.specs.declared.table.NamedTable.{NamedTable}

-- ---- phases

-- the lines of the transaction are skipped
abbrev pub is_skipping : Phase → Bool
is_skipping Between = false
is_skipping Open = false
is_skipping Skipping = true
is_skipping GivenUp = false

-- the line at hand is one of a transaction
abbrev pub is_inside : Phase → Bool
is_inside Between = false
is_inside Open = true
is_inside Skipping = true
is_inside GivenUp = false

-- the pass has an open transaction exactly where the job has one. A job that has given up takes no turn
abbrev pub IsPhase : Phase → Option ℕ → Type 0
IsPhase Between start = start ≡ None
IsPhase Open start = IsSome start
IsPhase Skipping start = start ≡ None
IsPhase GivenUp start = ⊥

-- where a transaction is open or not
abbrev pub phase_at : Option ℕ → Phase
phase_at None = Between
phase_at (Some start) = Open

-- the phase behind a line
abbrev pub phase_behind : LineResult → Phase
phase_behind result = cond result.skipping Skipping (phase_at result.start)

-- ---- answers

-- an answer that gives no table
abbrev pub plain : Answer → Phase → LineAnswer
plain answer phase = record { answer = answer; phase = phase; table = None }

-- a table in its file
abbrev pub file_of : NamedTable → File
file_of named = record { name = named.name; table = named.table }

-- the file of a line, if it has one, holds the kernel's table on the graph
abbrev pub IsFileOn : Kind → Graph → Option Filing → Option NamedTable → Type 0
IsFileOn kind g None named = named ≡ None
IsFileOn kind g (Some filing) named = (table : List Entry)
    × (named ≡ Some (record { name = filing.name; table = table })) × IsKernelTable kind g filing.kernel table

-- a kernel's line was answered, on the graph
pub record AnswersKernel (kind : Kind) (g : Graph) (kernel : Kernel) (file : List ℕ) (given : LineAnswer) : Type 0 where
  pub answer : given.answer ≡ kernel_answer g kernel
  pub phase : given.phase ≡ Open
  pub table : IsFileOn kind g (cond (effect given.answer).files (filing_of (commands.Run kernel file)) None) given.table

-- ---- the image that is kept

-- a transaction is open
abbrev pub is_open : Phase → Bool
is_open Between = false
is_open Open = true
is_open Skipping = false
is_open GivenUp = false

-- the transaction that was open before the line sees behind it what it saw
abbrev pub sees_same : Phase → LineAnswer → Bool
sees_same before given = is_open before && is_open given.phase && not (effect given.answer).writes

-- so an image of that is kept, and else none
abbrev pub image_behind : Phase → LineAnswer → Option KeptImage → Option KeptImage
image_behind before given image = cond (sees_same before given) image None
