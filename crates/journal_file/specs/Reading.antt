-- What the bytes of a journal file stand for.
use Rattle.std.specs.Prelude.{◌≡◌, ℕ, zero, suc, ◌+◌, ◌*◌, Bool, ◌==◌, ◌&&◌, not, cond, nat_le, nat_lt, List, [], ◌∷◌, ◌++◌, length, take, drop, get_or, Option, Some, None, option_map}
use Rattle.std.specs.Int.{w32, w64, from_le_bytes}
use Rattle.std.specs.Str.{bytes_eq}
use Rattle.graph_model.specs.declared.limits.TheConstants.{MAX_ID, MAX_WEIGHT}
use Rattle.graph_model.specs.declared.write.Kind.{Kind}
use Rattle.graph_model.specs.declared.write.Kind.TheVariants.{Directed, Undirected}
use Rattle.graph_model.specs.declared.write.Write.{Write}
use Rattle.graph_model.specs.declared.write.Write.TheVariants.{AddVertex, DropVertex, AddEdge, SetEdge, DropEdge}
use Rattle.graph_model.specs.declared.journal.Commit.{Commit}
use Rattle.journal_file.specs.declared.reading.CommitHead.{CommitHead}
use Rattle.journal_file.specs.Format.{header, entry_len}

-- the numbers of eight bytes and of four that stand at a place
abbrev pub word_at : List ℕ → ℕ → ℕ
word_at bytes at = from_le_bytes w64 (take 8 (drop at bytes))

abbrev pub half_at : List ℕ → ℕ → ℕ
half_at bytes at = from_le_bytes w32 (take 4 (drop at bytes))

-- ---- writes

-- a write by its ids and its weight, where these are within their limits and what it doesn't have is 0
abbrev pub on_vertex : Write → ℕ → ℕ → ℕ → Option Write
on_vertex w u v weight = cond (nat_le u MAX_ID && ((v == 0) && (weight == 0))) (Some w) None

abbrev pub on_edge : Write → ℕ → ℕ → ℕ → Option Write
on_edge w u v weight = cond (nat_le u MAX_ID && (nat_le v MAX_ID && nat_le weight MAX_WEIGHT)) (Some w) None

abbrev pub on_ends : Write → ℕ → ℕ → ℕ → Option Write
on_ends w u v weight = cond (nat_le u MAX_ID && (nat_le v MAX_ID && (weight == 0))) (Some w) None

abbrev pub of_tag : ℕ → ℕ → ℕ → ℕ → Option Write
of_tag tag u v weight =
    cond (tag == 0) (on_vertex (AddVertex u) u v weight)
    (cond (tag == 1) (on_edge (AddEdge u v weight) u v weight)
    (cond (tag == 2) (on_edge (SetEdge u v weight) u v weight)
    (cond (tag == 3) (on_ends (DropEdge u v) u v weight)
    (cond (tag == 4) (on_vertex (DropVertex u) u v weight) None))))

-- the write of 25 bytes
abbrev pub write_of : List ℕ → Option Write
write_of bytes = of_tag (get_or bytes 0 0) (word_at bytes 1) (word_at bytes 9) (word_at bytes 17)

abbrev pub put_first : Option Write → Option (List Write) → Option (List Write)
put_first None ws = None
put_first (Some w) None = None
put_first (Some w) (Some ws) = Some (w ∷ ws)

-- so many writes, or none where one of them breaks a rule
abbrev pub writes_of : ℕ → List ℕ → Option (List Write)
writes_of zero bytes = Some []
writes_of (suc count) bytes = put_first (write_of (take 25 bytes)) (writes_of count (drop 25 bytes))

-- ---- commits

abbrev pub head_of : List ℕ → CommitHead
head_of bytes = record {
  stamp = word_at bytes 0;
  start = word_at bytes 8;
  job = half_at bytes 16;
  number = half_at bytes 20;
  count = word_at bytes 24;
}

-- the stamp is the next one, the start is below it, and something was written
abbrev pub is_next : ℕ → CommitHead → Bool
is_next stamp head = (head.stamp == stamp) && (nat_lt head.start stamp && not (head.count == 0))

abbrev pub with_writes : CommitHead → List Write → Commit
with_writes head writes = record {
  stamp = head.stamp;
  start = head.start;
  by = record { job = head.job; number = head.number };
  writes = writes;
}

-- a head is there, it keeps the rules, and as many bytes as its writes have come behind it
abbrev pub is_whole : ℕ → List ℕ → Bool
is_whole stamp bytes =
    nat_le 32 (length bytes)
    && (is_next stamp (head_of bytes) && nat_le (32 + 25 * (head_of bytes).count) (length bytes))

-- the commit of this stamp whose body stands here, if it is whole and keeps the rules
abbrev pub commit_of : ℕ → List ℕ → Option Commit
commit_of stamp bytes =
    cond (is_whole stamp bytes)
    (option_map (with_writes (head_of bytes)) (writes_of (head_of bytes).count (drop 32 bytes))) None

-- the commit behind a gate, if that is open
abbrev pub gated : ℕ → List ℕ → Option Commit
gated stamp [] = None
gated stamp (gate ∷ bytes) = cond (gate == 1) (commit_of stamp bytes) None

abbrev pub then_more : (Commit → List Commit) → Option Commit → List Commit
then_more behind None = []
then_more behind (Some c) = c ∷ behind c

-- the commits from a gate on, the first of this stamp, and so many of them at most
abbrev pub commits_up_to : ℕ → ℕ → List ℕ → List Commit
commits_up_to zero stamp bytes = []
commits_up_to (suc most) stamp bytes =
    then_more (λ c. commits_up_to most (stamp + 1) (drop (entry_len c) bytes)) (gated stamp bytes)

-- all of them: there are no more than bytes
abbrev pub commits_from : ℕ → List ℕ → List Commit
commits_from stamp bytes = commits_up_to (length bytes) stamp bytes

-- ---- the file

pub record Opened : Type 0 where
  pub kind : Kind
  pub commits : List Commit

-- the kind of a graph by the header of its file
abbrev pub kind_of_header : List ℕ → Option Kind
kind_of_header bytes =
    cond (bytes_eq bytes (header Undirected)) (Some Undirected) (cond (bytes_eq bytes (header Directed)) (Some Directed) None)

-- that of a file, whose first nine bytes may be a header
abbrev pub kind_in : List ℕ → Option Kind
kind_in bytes = kind_of_header (take 9 bytes)

-- the kind and the commits, up to the first gate that is missing or closed, or the first body that is cut short or
-- breaks a rule; or nothing, where there is no header
abbrev pub opened : List ℕ → Option Opened
opened bytes = option_map (λ kind. record { kind = kind; commits = commits_from 1 (drop 9 bytes) }) (kind_in bytes)
