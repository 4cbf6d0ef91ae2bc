-- What a journal file that is read gives, and why it gives nothing.
use Rattle.std.specs.Prelude.{◌≡◌, ℕ, ◌-◌, ◌*◌, ◌==◌, ◌&&◌, cond, nat_le, List, length, get_or, take, drop, Option, Some, None, IsTrue, option_map}
use Rattle.journal_disk.specs.Disk.{DiskState, content, FaultsStand, FaultsRise}
use Rattle.journal_file.specs.declared.reading.CommitHead.{CommitHead}
use Rattle.journal_file.specs.declared.recovery.Recovered.{Recovered}
use Rattle.journal_file.specs.declared.refusal.RecoverRefusal.{RecoverRefusal}
use Rattle.journal_file.specs.declared.refusal.RecoverRefusal.TheVariants.{NotAJournal, DiskFault, NoMemory}
use Rattle.journal_file.specs.Reading.{Opened, opened, head_of, is_next}
use Rattle.journal_file.specs.Keeping.{file_under}

-- what was read
abbrev pub opened_of : Recovered → Opened
opened_of r = record { kind = r.kind; commits = r.journal }

-- it is what the bytes of the chosen file stand for, where these are told
abbrev pub Reads : DiskState → Option Recovered → Type 0
Reads state r = (file : List ℕ) → content state ≡ Some file → opened file ≡ option_map opened_of r

-- a disk that tells has a file of this name that stands for it
abbrev pub IsRecovered : DiskState → List ℕ → Recovered → Type 0
IsRecovered state name r = IsTrue state.tells → opened (file_under state name) ≡ Some (opened_of r)

-- why the chosen file gave no journal: it is none, or a call of the disk failed, or memory is wanted
abbrev pub IsRefusedRead : DiskState → DiskState → RecoverRefusal → Type 0
IsRefusedRead old new NotAJournal = Reads old None × (new ≡ old)
IsRefusedRead old new DiskFault = FaultsRise old new
IsRefusedRead old new NoMemory = new ≡ old

-- why the file of this name gave none
abbrev pub IsRefused : DiskState → List ℕ → DiskState → RecoverRefusal → Type 0
IsRefused old name new NotAJournal = (IsTrue old.tells → opened (file_under old name) ≡ None) × FaultsStand old new
IsRefused old name new DiskFault = FaultsRise old new
IsRefused old name new NoMemory = FaultsStand old new

-- a part of the file was not read: a call of the disk failed, or memory is wanted
abbrev pub ReadsOnly : DiskState → DiskState → RecoverRefusal → Type 0
ReadsOnly old new NotAJournal = ⊥
ReadsOnly old new DiskFault = FaultsRise old new
ReadsOnly old new NoMemory = new ≡ old

-- the head in a front of 33 bytes, where its gate is open, it keeps the rules, and so many bytes come behind it
abbrev pub open_head : List ℕ → ℕ → ℕ → Option CommitHead
open_head front behind stamp =
    cond ((get_or front 0 0 == 1)
    && (is_next stamp (head_of (drop 1 front)) && nat_le (25 * (head_of (drop 1 front)).count) behind))
    (Some (head_of (drop 1 front))) None

-- the head behind a gate
abbrev pub gated_head : ℕ → List ℕ → Option CommitHead
gated_head stamp bytes = cond (nat_le 33 (length bytes)) (open_head (take 33 bytes) (length bytes - 33) stamp) None
