-- What a journal file has on its disk, and what a call that adds a commit does to it.
use Rattle.std.specs.Prelude.{◌≡◌, ◌⊎◌, ℕ, ◌+◌, ◌≤◌, List, [], ◌∷◌, ◌++◌, length, take, unwrap_or, option_map, Some, IfSome}
use Rattle.std.specs.List.{flat_map}
use Rattle.graph_model.specs.declared.write.Kind.{Kind}
use Rattle.graph_model.specs.declared.journal.Commit.{Commit}
use Rattle.journal_disk.specs.Disk.{DiskState, content}
use Rattle.journal_disk.specs.Crashes.{Only, overwritten}
use Rattle.journal_file.specs.declared.file.JournalFile.{JournalFile}
use Rattle.journal_file.specs.Format.{header, entry, file_of, AreEntries}
use Rattle.journal_file.specs.Reading.{opened}

-- these bytes stand for these commits on a graph of this kind
abbrev pub StandsFor : Kind → List Commit → List ℕ → Type 0
StandsFor kind commits bytes = opened bytes ≡ Some (record { kind = kind; commits = commits })

-- or for one commit more
abbrev pub IsBeforeOrAfter : Kind → List Commit → Commit → List ℕ → Type 0
IsBeforeOrAfter kind commits c bytes = StandsFor kind commits bytes ⊎ StandsFor kind (commits ++ c ∷ []) bytes

-- the chosen file has these bytes, where they are told
abbrev pub IsRead : DiskState → List ℕ → Type 0
IsRead state file = IfSome (content state) (λ bytes. bytes ≡ file)

-- the file has these commits, and all of it is on the disk
pub record IsSettled (kind : Kind) (commits : List Commit) (file : JournalFile) (state : DiskState)
    (may_leave : List ℕ → Type 0) : Type 0 where
  pub entries : AreEntries 1 commits
  pub count : file.count ≡ length commits
  -- the last gate, which is closed
  pub gate : file.gate ≡ length (header kind ++ flat_map entry commits)
  pub reads : IsRead state (file_of kind commits)
  pub durable : Only (file_of kind commits) may_leave

-- the bytes were written over the file, and a crash leaves what was read then
pub record Lays (at : ℕ) (bytes : List ℕ) (old new : DiskState) (may_leave : List ℕ → Type 0) : Type 0 where
  pub written : content new ≡ option_map (λ file. overwritten file at bytes) (content old)
  pub durable : (image : List ℕ) → may_leave image → content new ≡ Some image

-- the bytes of the file of this name, where the disk tells them: none where there is no such file
abbrev pub file_under : DiskState → List ℕ → List ℕ
file_under state name = unwrap_or (state.holds name) []
