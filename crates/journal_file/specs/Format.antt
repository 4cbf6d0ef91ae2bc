-- The bytes of a journal file: what is written.
use Rattle.std.specs.Prelude.{◌≡◌, ℕ, ◌+◌, ◌*◌, ◌^◌, ◌<◌, List, [], ◌∷◌, ◌++◌, length, codes}
use Rattle.std.specs.List.{AllByRecursion, flat_map}
use Rattle.std.specs.Int.{w32, w64, to_le_bytes}
use Rattle.graph_model.specs.declared.write.Kind.{Kind}
use Rattle.graph_model.specs.declared.write.Kind.TheVariants.{Directed, Undirected}
use Rattle.graph_model.specs.declared.write.Write.{Write}
use Rattle.graph_model.specs.declared.write.Write.TheVariants.{AddVertex, DropVertex, AddEdge, SetEdge, DropEdge}
use Rattle.graph_model.specs.declared.journal.Commit.{Commit}
use Rattle.graph_model.specs.Refused.{IsWithinLimits}

-- numbers of eight bytes and of four, the lowest byte first
abbrev pub word : ℕ → List ℕ
word n = to_le_bytes w64 n

abbrev pub half : ℕ → List ℕ
half n = to_le_bytes w32 n

-- the 25 bytes of a write: what kind of write it is, two ids and a weight
abbrev pub tagged : ℕ → ℕ → ℕ → ℕ → List ℕ
tagged tag u v weight = tag ∷ (word u ++ word v ++ word weight)

-- what a write doesn't have is 0
abbrev pub write_bytes : Write → List ℕ
write_bytes (AddVertex v) = tagged 0 v 0 0
write_bytes (AddEdge u v weight) = tagged 1 u v weight
write_bytes (SetEdge u v weight) = tagged 2 u v weight
write_bytes (DropEdge u v) = tagged 3 u v 0
write_bytes (DropVertex v) = tagged 4 v 0 0

-- the 32 bytes before the writes of a commit
abbrev pub head_bytes : Commit → List ℕ
head_bytes c = word c.stamp ++ word c.start ++ half c.by.job ++ half c.by.number ++ word (length c.writes)

abbrev pub body : Commit → List ℕ
body c = head_bytes c ++ flat_map write_bytes c.writes

-- a gate that is open, and the body after it
abbrev pub entry : Commit → List ℕ
entry c = 1 ∷ body c

-- how many bytes these are
abbrev pub entry_len : Commit → ℕ
entry_len c = 33 + 25 * length c.writes

abbrev pub kind_byte : Kind → ℕ
kind_byte Undirected = 0
kind_byte Directed = 1

abbrev pub header : Kind → List ℕ
header kind = codes "TESEOJ1\n" ++ kind_byte kind ∷ []

-- the file of these commits: a gate that is closed stands last
abbrev pub file_of : Kind → List Commit → List ℕ
file_of kind commits = header kind ++ flat_map entry commits ++ 0 ∷ []

-- the numbers of a commit fit their bytes
pub record Fits (c : Commit) : Type 0 where
  pub stamp : c.stamp < 2 ^ 64
  pub count : length c.writes < 2 ^ 64
  pub job : c.by.job < 2 ^ 32
  pub number : c.by.number < 2 ^ 32

-- a commit of this stamp may stand in a file
pub record IsEntry (stamp : ℕ) (c : Commit) : Type 0 where
  pub stamped : c.stamp ≡ stamp
  pub started : c.start < stamp
  pub wrote : 0 < length c.writes
  pub within : AllByRecursion IsWithinLimits c.writes
  pub fits : Fits c

-- commits whose stamps count up from this one
abbrev pub AreEntries : ℕ → List Commit → Type 0
AreEntries stamp [] = Unit {0}
AreEntries stamp (c ∷ commits) = IsEntry stamp c × AreEntries (stamp + 1) commits
