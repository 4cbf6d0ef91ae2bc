-- the commits so far, and then those from the next gate on; the disk is as it was
use Rattle.std.proofs.Common.{◌≡◌, ◌+◌, ◌-◌, ◌≤◌, ◌++◌, ℕ, List, length, drop}
use Rattle.std.specs.Prelude.{Some}
use Rattle.journal_disk.specs.Disk.{content}
use Rattle.journal_file.specs.Reading.{commits_from}
use Rattle.journal_file.proofs.recovery.read_commits.Given as goal

abbrev pub invariant-commits : goal.invariant-commits
invariant-commits g l = record {
  within : l.at ≤ l.size;
  few : length l.journal + 9 ≤ l.at;
  same : g.K.Disk.state l.disk ≡ g.K.Disk.state l.fn.disk;
  so_far : (file : List ℕ) → content (g.K.Disk.state l.fn.disk) ≡ Some file → l.size ≡ length file
      → commits_from 1 (drop 9 file) ≡ l.journal ++ commits_from (length l.journal + 1) (drop l.at file);
}

abbrev pub decreases-commits : goal.decreases-commits
decreases-commits g l = l.size - l.at
