-- What a disk keeps of a run's commits: at each moment a front of them, with all that were acknowledged by then.
use Rattle.std.specs.Prelude.{◌≡◌, ◌⊎◌, ℕ, ◌+◌, ◌≤◌, Bool, List, [], ◌++◌, length, take, slice_get, Some}
use Rattle.graph_model.specs.declared.write.Kind.{Kind}
use Rattle.graph_model.specs.declared.journal.Commit.{Commit}
use Rattle.graph_model.specs.Legal.{IsLegal}
use Rattle.graph_model.specs.OwnerCalls.{Core}
use Rattle.run_model.specs.Inputs.{Inputs}
use Rattle.run_model.specs.Run.{load_commit}
use Rattle.run_model.specs.Jobs.{RunState, first_state}
use Rattle.run_model.specs.Stepped.{setting_of, IsReached}
use Rattle.job_runner.specs.Progress.{Progress}
use Rattle.job_runner.specs.Runs.{Turns}
use Rattle.journal_disk.specs.Disk.{DiskState}
use Rattle.journal_disk.specs.Crashes.{Only}
use Rattle.journal_file.specs.declared.file.JournalFile.{JournalFile}
use Rattle.journal_file.specs.Format.{file_of}
use Rattle.journal_file.specs.Keeping.{StandsFor, IsSettled}

-- these bytes stand for the first commits of a journal, so many of them at least
abbrev pub HasFront : Kind → List Commit → ℕ → List ℕ → Type 0
HasFront kind journal least bytes =
    (count : ℕ) × (least ≤ count) × (count ≤ length journal) × StandsFor kind (take count journal) bytes

-- The first so many commits are acknowledged. There was a moment at which a crash left the file with just these, and at
-- each moment since then it leaves a front of the journal with these
pub record IsAcknowledged {D : Type 0} (moment : D → ℕ) (may_leave : D → List ℕ → Type 0)
    (left_since : D → ℕ → List ℕ → Type 0) (kind : Kind) (journal : List Commit) (count : ℕ) (now : D) : Type 0 where
  pub then_disk : D
  pub durable : Only (file_of kind (take count journal)) (may_leave then_disk)
  pub past : moment then_disk ≤ moment now
  pub since : (image : List ℕ) → left_since now (moment then_disk) image → HasFront kind journal count image

-- each of so many commits was acknowledged in its turn, after the file was made
abbrev pub AreAcknowledged : {D : Type 0} → (D → ℕ) → (D → List ℕ → Type 0) → (D → ℕ → List ℕ → Type 0)
    → Kind → List Commit → ℕ → D → Type 0
AreAcknowledged moment may_leave left_since kind journal count now =
    (i : ℕ) → i ≤ count → IsAcknowledged moment may_leave left_since kind journal i now

-- the file has just these commits, all of it is on the disk, and each of them is acknowledged
pub record IsKept {D : Type 0} (moment : D → ℕ) (may_leave : D → List ℕ → Type 0)
    (left_since : D → ℕ → List ℕ → Type 0) (state : D → DiskState) (kind : Kind) (commits : List Commit)
    (file : JournalFile) (now : D) : Type 0 where
  pub settled : IsSettled kind commits file (state now) (may_leave now)
  pub acknowledged : AreAcknowledged moment may_leave left_since kind commits (length commits) now

-- where the first commits were kept, the second are kept now
abbrev pub KeepsOn : {D : Type 0} → (D → ℕ) → (D → List ℕ → Type 0) → (D → ℕ → List ℕ → Type 0) → (D → DiskState)
    → Kind → List Commit → List Commit → JournalFile → JournalFile → D → D → Type 0
KeepsOn moment may_leave left_since state kind before after file file' old now =
    IsKept moment may_leave left_since state kind before file old
    → IsKept moment may_leave left_since state kind after file' now

-- so many commits are acknowledged on this disk
abbrev pub acknowledged_on : {D : Type 0} → (D → ℕ) → (D → List ℕ → Type 0) → (D → ℕ → List ℕ → Type 0) → D
    → Kind → List Commit → ℕ → Type 0
acknowledged_on moment may_leave left_since now kind journal count =
    AreAcknowledged moment may_leave left_since kind journal count now

-- ---- what is kept of a run that stops

-- A turn was taken behind which not all commits were kept, or memory was wanted in it. Those before it were all kept
abbrev pub TurnStops : (List Commit → ℕ → Type 0) → Core → List Progress → ℕ → Core → List Progress → ℕ → Type 0
TurnStops acknowledged old jobs number new next count =
    ((ended : Bool) × Turns old jobs number ended new next × (length old.journal ≤ count)
    × acknowledged new.journal count)
    ⊎ ((rest : List Commit) × (new.journal ≡ old.journal ++ rest) × (count ≡ length old.journal)
    × acknowledged old.journal count)

-- The journal of a run by these turns, as it stands behind some of them. It is legal, and its first commit is the load,
-- unless that writes nothing
pub record IsJournalSoFar (inputs : Inputs) (leaves : ℕ) (schedule : List ℕ) (journal : List Commit) : Type 0 where
  pub turns : ℕ
  pub state : RunState
  pub reached : IsReached (setting_of inputs leaves schedule) (first_state inputs) turns state
  pub shown : state.journal ≡ journal
  pub legal : IsLegal inputs.kind journal
  pub loaded : (inputs.load ≡ []) ⊎ (slice_get journal 0 ≡ Some (load_commit inputs.load))

-- so many commits of the journal of such a run so far are acknowledged, and it has one more at most
pub record KeepsSoFar (acknowledged : Kind → List Commit → ℕ → Type 0) (inputs : Inputs) (leaves : ℕ)
    (schedule : List ℕ) (count : ℕ) : Type 0 where
  pub journal : List Commit
  pub so_far : IsJournalSoFar inputs leaves schedule journal
  pub one_more : length journal ≤ count + 1
  pub kept : acknowledged inputs.kind journal count

-- and the engine's journal begins with it
abbrev pub StopsSoFar : (Kind → List Commit → ℕ → Type 0) → Inputs → ℕ → List ℕ → ℕ → List Commit → Type 0
StopsSoFar acknowledged inputs leaves schedule count engine_journal =
    (keeps : KeepsSoFar acknowledged inputs leaves schedule count)
    × (rest : List Commit) × (engine_journal ≡ keeps.journal ++ rest)

-- where these commits of the first journal were kept, the run of this engine has stopped so
abbrev pub StopsFrom : {D : Type 0} → (D → ℕ) → (D → List ℕ → Type 0) → (D → ℕ → List ℕ → Type 0) → (D → DiskState)
    → Inputs → List ℕ → List Commit → Core → Core → JournalFile → JournalFile → D → D → Type 0
StopsFrom moment may_leave left_since state inputs schedule before core core' file file' old now =
    IsKept moment may_leave left_since state core.kind before file old
    → StopsSoFar (acknowledged_on moment may_leave left_since now) inputs core.leaves schedule file'.count core'.journal
