-- What is made before the first output is created, and why nothing is.
use Rattle.std.specs.Prelude.{◌≡◌, ◌*◌, ◌≤◌, ℕ, false, List, [], ◌∷◌, length}
use Rattle.graph_model.specs.declared.limits.TheConstants.{SPLIT_ROWS}
use Rattle.graph_model.specs.declared.write.Kind.{Kind}
use Rattle.graph_model.specs.declared.journal.Commit.{Commit}
use Rattle.graph_model.specs.Inserted.{inserted}
use Rattle.graphalytics_io.specs.Load.{load_of}
use Rattle.desk_io.specs.Files.{Files}
use Rattle.journal_disk.specs.Disk.{DiskState, FaultsStand, FaultsRise}
use Rattle.journal_recovery.specs.declared.texts.RecoveredTexts.{RecoveredTexts}
use Rattle.journal_recovery.specs.Texts.{AreTextsOf}
use Rattle.kept_run.specs.declared.refusal.KeptRefusal.{KeptRefusal}
use Rattle.kept_run.specs.declared.refusal.KeptRefusal.TheVariants.{Full, NoMemory, DiskFault}
use Rattle.command_words.specs.Words.{RunRequest, RecoverRequest}
use Rattle.kept_run.specs.SourceRun.Requests.{kind_of}
use Rattle.kept_run.specs.SourceRun.Input.{Meaning}
use Rattle.kept_run.specs.SourceRun.Leaves.{leaves_of}
use Rattle.kept_run.specs.TeseoProgramDeclared.prepare.Prepared.{Prepared}
use Rattle.kept_run.specs.TeseoProgram.Prepared.{IsUnprepared, AreAccepted, IsMadeOf, IsPreparedOf}
use Rattle.kept_program.specs.declared.outcome.KeptOutcome.{KeptOutcome}
use Rattle.kept_program.specs.declared.outcome.KeptOutcome.TheVariants.{Of, NotMade, NotKept, NotAJournal, NotRecovered}
use Rattle.kept_program.specs.Outcomes.{KeepsSome, HasStopped}

-- ---- of a run

-- what was made is of a run of what the sources stand for, all of whose commits are acknowledged
pub record IsKeptMade (acknowledged : Kind → List Commit → ℕ → Type 0) (request : RunRequest) (m : Meaning) (p : Prepared)
    : Type 0 where
  pub made : IsMadeOf request m p
  pub all_kept : acknowledged (kind_of request) made.outputs.journal (length made.outputs.journal)

-- and of a run of these files
pub record IsKeptPrepared (acknowledged : Kind → List Commit → ℕ → Type 0) (request : RunRequest) (files : Files)
    (p : Prepared) : Type 0 where
  pub prepared : IsPreparedOf request files p
  pub all_kept : acknowledged (kind_of request) prepared.run.journal (length prepared.run.journal)

-- why nothing was made of what the sources stand for: the rows of the graph may fill the leaves, or memory is wanted,
-- and no call of the disk failed; or one did
abbrev pub IsKeptStop : RunRequest → Meaning → DiskState → DiskState → KeptRefusal → Type 0
IsKeptStop request m disk disk' (Full full) =
    (SPLIT_ROWS * leaves_of request m ≤ inserted (kind_of request) (load_of m.ids m.edges)) × FaultsStand disk disk'
IsKeptStop request m disk disk' NoMemory = FaultsStand disk disk'
IsKeptStop request m disk disk' DiskFault = FaultsRise disk disk'

-- why nothing was prepared, and what that leaves
abbrev pub IsUnkept : (Kind → List Commit → ℕ → Type 0) → RunRequest → Files → Files → DiskState → DiskState
    → KeptOutcome → Type 0
IsUnkept acknowledged request old new disk disk' (Of outcome) =
    IsUnprepared request old new outcome × FaultsStand disk disk' × HasStopped acknowledged request old disk disk'
IsUnkept acknowledged request old new disk disk' NotMade =
    (m : Meaning) × AreAccepted request old m × (new ≡ old) × FaultsRise disk disk'
IsUnkept acknowledged request old new disk disk' NotKept =
    (m : Meaning) × AreAccepted request old m × (new ≡ old) × FaultsRise disk disk'
    × KeepsSome acknowledged request m
IsUnkept acknowledged request old new disk disk' NotAJournal = ⊥
IsUnkept acknowledged request old new disk disk' NotRecovered = ⊥

-- ---- of a journal file

-- the text of the commits for which the file stands, and what is said of them
pub record IsRecovered (disk : DiskState) (request : RecoverRequest) (p : Prepared) : Type 0 where
  pub texts : RecoveredTexts
  pub told : AreTextsOf disk request.keep texts
  pub outputs_are : p.outputs ≡ record { name = request.journal; text = texts.journal } ∷ []
  pub summary_is : p.summary ≡ texts.summary
  pub never_full : p.is_full ≡ false
