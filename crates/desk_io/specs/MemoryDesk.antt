-- What a desk in memory tells, and which of its calls are to fail
use Rattle.std.specs.Prelude.{◌≡◌, ◌==◌, ◌+◌, ◌-◌, ◌^◌, ℕ, min, Bool, true, List, [], length, Some, None, option_map}
use Rattle.std.specs.List.{list_any}
use Rattle.std.specs.BTreeMap.{BTreeMap, get_by_text}
use Rattle.std.specs.declared.vec.Vec.{Vec}
use Rattle.std.specs.declared.string.String.{String}
use Rattle.std.specs.declared.alloc.Global.{Global}
use Rattle.desk_io.specs.Faults.{last_name}
use Rattle.desk_io.specs.Files.{Told, Files}
use Rattle.desk_io.specs.declared.memory_desk.MemoryDesk.{MemoryDesk}

-- the bytes of each file
abbrev pub texts_of : BTreeMap (String Global) (Vec ℕ Global) → Told
texts_of files name = option_map (λ text. text.items) (get_by_text files name)

-- what is known of a desk in memory: all
abbrev pub files_of : MemoryDesk → Files
files_of desk = record {
  holds = texts_of desk.files;
  written = texts_of desk.files;
  said = option_map (λ text. text.items) desk.said;
  tells = true;
  read_faults = desk.reads.count;
  failed_read = last_name desk.reads;
  write_faults = desk.writes.count;
  failed_write = last_name desk.writes;
}

-- the numbers of the calls that are to fail
abbrev pub failing_calls : MemoryDesk → List ℕ
failing_calls desk = desk.failing.items

-- the number of the next call, up to the last number
abbrev pub next_call : MemoryDesk → ℕ
next_call desk = min (desk.calls + 1) (2 ^ 64 - 1)

-- whether the next call is to fail
abbrev pub fails_now : MemoryDesk → Bool
fails_now desk = list_any (λ call. call == next_call desk) desk.failing.items

-- one call of the desk was counted, and the calls that are to fail are the same
pub record Counts (old new : MemoryDesk) : Type 0 where
  pub next : next_call new ≡ min (next_call old + 1) (2 ^ 64 - 1)
  pub failing : failing_calls new ≡ failing_calls old

-- how many files there are
abbrev pub file_count : MemoryDesk → ℕ
file_count desk = length desk.files.entries

-- a desk with no file, on which nothing was said and no call was made, where these calls are to fail
pub record IsNew (calls : List ℕ) (desk : MemoryDesk) : Type 0 where
  pub nothing : (name : List ℕ) → (files_of desk).holds name ≡ None
  pub empty : file_count desk ≡ 0
  pub silent : (files_of desk).said ≡ Some []
  pub read_faults : (files_of desk).read_faults ≡ 0
  pub failed_read : (files_of desk).failed_read ≡ None
  pub write_faults : (files_of desk).write_faults ≡ 0
  pub failed_write : (files_of desk).failed_write ≡ None
  pub first : next_call desk ≡ 1
  pub failing : failing_calls desk ≡ calls
