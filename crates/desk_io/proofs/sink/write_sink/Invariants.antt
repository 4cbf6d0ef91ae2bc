use Rattle.std.proofs.Common.{List, length, take, ◌-◌, ℕ, ◌≤◌}
use Rattle.desk_io.specs.Files.{Files, NoWriteFails, ChangesOnly, IsWritten}
use Rattle.desk_io.proofs.sink.write_sink.Given as goal

-- the first bytes are written, and nothing else is changed
pub record Writing (name bytes : List ℕ) (taken : ℕ) (old now : Files) : Type 0 where
  pub bound : taken ≤ length bytes
  pub written : IsWritten now name (take taken bytes)
  pub faults : NoWriteFails old now
  pub others : ChangesOnly name old now

abbrev pub invariant-pieces : goal.invariant-pieces
invariant-pieces g l = Writing l.name l.bytes l.taken (g.D.Desk.files l.fn.desk) (g.D.Desk.files l.desk)

abbrev pub decreases-pieces : goal.decreases-pieces
decreases-pieces g l = length l.bytes - l.taken
