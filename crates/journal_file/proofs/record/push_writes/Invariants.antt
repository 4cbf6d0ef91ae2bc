-- the bytes of the writes so far
use Rattle.std.proofs.Common.{◌≡◌, ◌++◌, take}
use Rattle.std.specs.List.{flat_map}
use Rattle.journal_file.specs.Format.{write_bytes}
use Rattle.journal_file.proofs.record.push_writes.Given as goal

abbrev pub invariant-writes : goal.invariant-writes
invariant-writes l = l.bytes.items ≡ l.fn.bytes.items ++ flat_map write_bytes (take l.write-index l.writes)
