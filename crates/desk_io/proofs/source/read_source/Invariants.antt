use Rattle.std.proofs.Common.{List, length, ◌-◌, ◌≡◌, ℕ, ◌≤◌, ◌<◌, vec_len}
use Rattle.desk_io.specs.Files.{Files, IsFront}
use Rattle.desk_io.proofs.source.read_source.Given as goal

-- what was read so far is a front of the source and within the limit, and the desk is as it was
pub record Reading (name bytes : List ℕ) (limit : ℕ) (old now : Files) : Type 0 where
  pub short : length bytes ≤ limit
  pub front : IsFront now name bytes
  pub same : now ≡ old

abbrev pub invariant-pieces : goal.invariant-pieces
invariant-pieces g l = (0 < vec_len l.buffer) × Reading l.name l.bytes.items l.limit (g.D.Desk.files l.fn.desk) (g.D.Desk.files l.desk)

abbrev pub decreases-pieces : goal.decreases-pieces
decreases-pieces g l = l.limit - length l.bytes.items
