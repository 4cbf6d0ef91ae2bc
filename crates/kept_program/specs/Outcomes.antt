-- How a call may end that keeps the commits of a run, or reads them back: for each outcome its cause, what it leaves,
-- and what is said.
use Rattle.std.specs.Prelude.{◌≡◌, ◌≢◌, ◌⊎◌, ℕ, false, List, [], ◌∷◌, length, codes, Option, None, Some}
use Rattle.graph_model.specs.declared.write.Kind.{Kind}
use Rattle.graph_model.specs.declared.journal.Commit.{Commit}
use Rattle.desk_io.specs.Files.{Files, Rose}
use Rattle.journal_disk.specs.Disk.{DiskState, FaultsStand, FaultsRise}
use Rattle.journal_recovery.specs.JournalFileDeclared.refusal.RecoverRefusal.{RecoverRefusal}
use Rattle.journal_recovery.specs.JournalFileDeclared.refusal.RecoverRefusal.TheVariants as recoveries
use Rattle.journal_recovery.specs.JournalFile.Recovering.{IsRefused}
use Rattle.journal_recovery.specs.declared.texts.RecoveredTexts.{RecoveredTexts}
use Rattle.journal_recovery.specs.Texts.{AreTextsOf}
use Rattle.kept_run.specs.RunKeeper.Keeping.{KeepsSoFar}
use Rattle.kept_run.specs.declared.refusal.KeptRefusal.{KeptRefusal}
use Rattle.kept_run.specs.declared.refusal.KeptRefusal.TheVariants as stops
use Rattle.command_words.specs.declared.refusal.WordsRefusal.{WordsRefusal}
use Rattle.command_words.specs.Words.{RunRequest, MakeRequest, RecoverRequest, Request, run, make, recover, IsTaken}
use Rattle.command_words.specs.Views.{RefusesWords}
use Rattle.kept_run.specs.SourceRun.Requests.{kind_of}
use Rattle.kept_run.specs.SourceRun.Input.{Meaning, inputs_of}
use Rattle.kept_run.specs.SourceRun.Leaves.{leaves_of}
use Rattle.kept_run.specs.TeseoProgramDeclared.left.Left.{Left}
use Rattle.kept_run.specs.TeseoProgramDeclared.outcome.Outcome.{Outcome}
use Rattle.kept_run.specs.TeseoProgramDeclared.outcome.Outcome.TheVariants as ends
use Rattle.kept_run.specs.TeseoProgram.Outcomes.{status_of, outcome_of_words, said_text, text_line, blamed, OnlySays, IsRunOutcome, IsMakeOutcome}
use Rattle.kept_run.specs.TeseoProgram.Prepared.{AreAccepted, Writes}
use Rattle.kept_program.specs.declared.outcome.KeptOutcome.{KeptOutcome}
use Rattle.kept_program.specs.declared.outcome.KeptOutcome.TheVariants.{Of, NotMade, NotKept, NotAJournal, NotRecovered}

-- ---- the status, and what is said

-- the exit status of each outcome
abbrev pub kept_status : KeptOutcome → ℕ
kept_status (Of outcome) = status_of outcome
kept_status NotMade = 5
kept_status NotKept = 5
kept_status NotAJournal = 1
kept_status NotRecovered = 4

-- what is said where no output was written: by the name of the source that is blamed, and that of the journal file
abbrev pub stop_text : List ℕ → List ℕ → KeptOutcome → List ℕ
stop_text source file (Of outcome) = said_text source [] outcome
stop_text source file NotMade = text_line (codes "write failed ") file
stop_text source file NotKept = text_line (codes "write failed ") file
stop_text source file NotAJournal = text_line file (codes ": not a journal file")
stop_text source file NotRecovered = text_line (codes "read failed ") file

-- the source that is blamed, if one is
abbrev pub blamed_by : List (List ℕ) → KeptOutcome → List ℕ
blamed_by sources (Of outcome) = blamed sources [] outcome
blamed_by sources NotMade = []
blamed_by sources NotKept = []
blamed_by sources NotAJournal = []
blamed_by sources NotRecovered = []

-- why a run whose commits are kept came to no end is how the call ends
abbrev pub outcome_of_stop : KeptRefusal → KeptOutcome
outcome_of_stop (stops.Full leaves) = Of ends.LoadFull
outcome_of_stop stops.NoMemory = Of ends.NoMemory
outcome_of_stop stops.DiskFault = NotKept

-- why a journal file wasn't read back is how the call ends
abbrev pub outcome_of_recovery : RecoverRefusal → KeptOutcome
outcome_of_recovery recoveries.NotAJournal = NotAJournal
outcome_of_recovery recoveries.DiskFault = NotRecovered
outcome_of_recovery recoveries.NoMemory = Of ends.NoMemory

-- ---- what a run keeps
--
-- `acknowledged kind journal count` says that so many first commits of a journal are acknowledged on a disk: `opened` of
-- what a crash leaves at any moment since the file was made is a front of the journal, with all that were acknowledged
-- by then

-- Of a run of what its sources stand for, by its turns: all commits of its journal so far are acknowledged but the last
-- at most, and no crash leaves any but those of this journal
abbrev pub KeepsSome : (Kind → List Commit → ℕ → Type 0) → RunRequest → Meaning → Type 0
KeepsSome acknowledged request m = (count : ℕ)
    × KeepsSoFar acknowledged (inputs_of (kind_of request) m) (leaves_of request m) m.schedule count

-- the disk is as it was, or the sources were accepted, the file was made, and some commits are kept
abbrev pub HasStopped : (Kind → List Commit → ℕ → Type 0) → RunRequest → Files → DiskState → DiskState → Type 0
HasStopped acknowledged request old disk disk' =
    (disk' ≡ disk) ⊎ ((m : Meaning) × AreAccepted request old m × KeepsSome acknowledged request m)

-- of a run whose outputs were to be written, all commits are acknowledged
abbrev pub Keeps : (Kind → List Commit → ℕ → Type 0) → RunRequest → Files → List Commit → DiskState → DiskState
    → Outcome → Type 0
Keeps acknowledged request old journal disk disk' ends.Done = acknowledged (kind_of request) journal (length journal)
Keeps acknowledged request old journal disk disk' ends.Full = acknowledged (kind_of request) journal (length journal)
Keeps acknowledged request old journal disk disk' (ends.NotWritten stop) =
    acknowledged (kind_of request) journal (length journal)
Keeps acknowledged request old journal disk disk' ends.LoadFull = HasStopped acknowledged request old disk disk'
Keeps acknowledged request old journal disk disk' ends.BadWords = HasStopped acknowledged request old disk disk'
Keeps acknowledged request old journal disk disk' (ends.NotRead stop) = HasStopped acknowledged request old disk disk'
Keeps acknowledged request old journal disk disk' (ends.NotAccepted place fault) =
    HasStopped acknowledged request old disk disk'
Keeps acknowledged request old journal disk disk' ends.NoMemory = HasStopped acknowledged request old disk disk'

-- the run ends as one whose commits aren't kept, no call of the disk failed, and its commits are kept
pub record IsKeptRun (acknowledged : Kind → List Commit → ℕ → Type 0) (outcome : Outcome) (request : RunRequest)
    (old new : Files) (left left' : Left) (disk disk' : DiskState) : Type 0 where
  pub run_ends : IsRunOutcome outcome request old new left left'
  pub stand : FaultsStand disk disk'
  pub keeps : Keeps acknowledged request old run_ends.made.run.journal disk disk' outcome

-- all sources were read and accepted, and then a call of the disk failed. Nothing is created, and the name of the
-- journal file is said
pub record IsFileFault (name : List ℕ) (request : RunRequest) (old new : Files) (disk disk' : DiskState)
    : Type 0 where
  pub m : Meaning
  pub accepted : AreAccepted request old m
  pub rose : FaultsRise disk disk'
  pub says : OnlySays (text_line (codes "write failed ") name) old new

-- how a run ends whose commits are kept in the file of this name
abbrev pub KeptRunEnds : (Kind → List Commit → ℕ → Type 0) → List ℕ → KeptOutcome → RunRequest → Files → Files
    → Left → Left → DiskState → DiskState → Type 0
KeptRunEnds acknowledged name (Of outcome) request old new left left' disk disk' =
    IsKeptRun acknowledged outcome request old new left left' disk disk'
KeptRunEnds acknowledged name NotMade request old new left left' disk disk' =
    IsFileFault name request old new disk disk' × (left' ≡ left)
KeptRunEnds acknowledged name NotKept request old new left left' disk disk' =
    (fault : IsFileFault name request old new disk disk') × (left' ≡ left) × KeepsSome acknowledged request fault.m
KeptRunEnds acknowledged name NotAJournal request old new left left' disk disk' = ⊥
KeptRunEnds acknowledged name NotRecovered request old new left left' disk disk' = ⊥

-- the call ends as one that uses no disk
abbrev pub IsPlain : (Outcome → Type 0) → KeptOutcome → Type 0
IsPlain P (Of outcome) = P outcome
IsPlain P NotMade = ⊥
IsPlain P NotKept = ⊥
IsPlain P NotAJournal = ⊥
IsPlain P NotRecovered = ⊥

-- how a run ends whose commits are kept in the file of a name, or aren't kept
abbrev pub RunEnds : (Kind → List Commit → ℕ → Type 0) → Option (List ℕ) → KeptOutcome → RunRequest → Files → Files
    → Left → Left → DiskState → DiskState → Type 0
RunEnds acknowledged None outcome request old new left left' disk disk' =
    IsPlain (λ o. IsRunOutcome o request old new left left') outcome × (disk' ≡ disk)
RunEnds acknowledged (Some name) outcome request old new left left' disk disk' =
    KeptRunEnds acknowledged name outcome request old new left left' disk disk'

-- ---- the end of `recover`

-- the file was read, and the text of the commits for which it stands is written, or was to be
pub record IsRecovery (outcome : Outcome) (request : RecoverRequest) (old new : Files) (disk : DiskState)
    : Type 0 where
  pub texts : RecoveredTexts
  pub told : AreTextsOf disk request.keep texts
  -- the files before the outcome was said
  pub before : Files
  pub writes : Writes false (record { name = request.journal; text = texts.journal } ∷ []) outcome old before
  pub says : OnlySays (said_text (blamed [] (request.journal ∷ []) outcome) texts.summary outcome) before new

-- nothing was written for want of memory
abbrev pub WantsMemory : Outcome → Files → Files → Type 0
WantsMemory outcome old new = (outcome ≡ ends.NoMemory) × OnlySays (said_text [] [] ends.NoMemory) old new

-- how `recover` ends
abbrev pub RecoverEnds : KeptOutcome → RecoverRequest → Files → Files → DiskState → DiskState → Type 0
RecoverEnds (Of outcome) request old new disk disk' =
    (IsRecovery outcome request old new disk ⊎ WantsMemory outcome old new) × FaultsStand disk disk'
RecoverEnds NotAJournal request old new disk disk' =
    IsRefused disk request.keep disk' recoveries.NotAJournal
    × OnlySays (stop_text [] request.keep NotAJournal) old new
RecoverEnds NotRecovered request old new disk disk' =
    IsRefused disk request.keep disk' recoveries.DiskFault
    × OnlySays (stop_text [] request.keep NotRecovered) old new
RecoverEnds NotMade request old new disk disk' = ⊥
RecoverEnds NotKept request old new disk disk' = ⊥

-- ---- the end of a call

-- how a call ends that asks for this
abbrev pub Ends : (Kind → List Commit → ℕ → Type 0) → KeptOutcome → Request → Files → Files → Left → Left
    → DiskState → DiskState → Type 0
Ends acknowledged outcome (run request) old new left left' disk disk' =
    RunEnds acknowledged request.keep outcome request old new left left' disk disk'
Ends acknowledged outcome (make request) old new left left' disk disk' =
    IsPlain (λ o. IsMakeOutcome o request old new) outcome × (left' ≡ left) × (disk' ≡ disk)
Ends acknowledged outcome (recover request) old new left left' disk disk' =
    RecoverEnds outcome request old new disk disk' × (left' ≡ left)

-- the words are taken, and the call ends as what they ask for
abbrev pub TakenEnds : (Kind → List Commit → ℕ → Type 0) → KeptOutcome → List (List ℕ) → Files → Files → Left → Left
    → DiskState → DiskState → Type 0
TakenEnds acknowledged outcome words old new left left' disk disk' =
    (request : Request) × IsTaken words request × Ends acknowledged outcome request old new left left' disk disk'

-- the words are taken as no request, or memory for them is wanted, and that is said alone
pub record IsUntaken (outcome : KeptOutcome) (words : List (List ℕ)) (old new : Files) (left left' : Left)
    (disk disk' : DiskState) : Type 0 where
  pub refusal : WordsRefusal
  pub outcome_is : outcome ≡ Of (outcome_of_words refusal)
  pub refused : RefusesWords words refusal
  pub says : OnlySays (said_text [] [] (outcome_of_words refusal)) old new
  pub same_left : left' ≡ left
  pub same_disk : disk' ≡ disk

-- how a call ends: by its words first
abbrev pub IsEnd : (Kind → List Commit → ℕ → Type 0) → KeptOutcome → List (List ℕ) → Files → Files → Left → Left
    → DiskState → DiskState → Type 0
IsEnd acknowledged outcome words old new left left' disk disk' =
    IsUntaken outcome words old new left left' disk disk'
    ⊎ TakenEnds acknowledged outcome words old new left left' disk disk'

-- ---- what a status tells

-- A status tells what failed in the call: with 4 a read did, of the desk or of the disk; with 5 a create or a write did,
-- or a call of the disk; and with each other status nothing did.
pub record TellsFaults (status : ℕ) (old new : Files) (disk disk' : DiskState) : Type 0 where
  pub read_failed : status ≡ 4 → Rose old.read_faults new.read_faults ⊎ FaultsRise disk disk'
  pub write_failed : status ≡ 5 → Rose old.write_faults new.write_faults ⊎ FaultsRise disk disk'
  pub reads_stand : status ≢ 4 → new.read_faults ≡ old.read_faults
  pub writes_stand : status ≢ 5 → new.write_faults ≡ old.write_faults
  pub disk_stands : status ≢ 4 → status ≢ 5 → FaultsStand disk disk'

-- what is known of all files is as it was
pub record CreatesNothing (old new : Files) : Type 0 where
  pub holds : new.holds ≡ old.holds
  pub written : new.written ≡ old.written
