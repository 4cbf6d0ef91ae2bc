-- the writes so far, and then those that are left
use Rattle.std.proofs.Common.{◌≡◌, ◌-◌, ◌*◌, drop}
use Rattle.journal_file.specs.Reading.{writes_of}
use Rattle.journal_file.proofs.ReadLemmas.{put_all}
use Rattle.journal_file.proofs.reading.writes_of.Given as goal

abbrev pub invariant-writes : goal.invariant-writes
invariant-writes l = writes_of l.count l.bytes ≡ put_all l.writes.items (writes_of (l.count - l.place) (drop (25 * l.place) l.bytes))
