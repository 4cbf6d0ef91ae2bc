-- what was read so far is a part of the file, and the disk is as it was
use Rattle.std.proofs.Common.{◌≡◌, ◌-◌, ◌≤◌, ℕ, List, length, take, drop}
use Rattle.std.specs.Prelude.{Some}
use Rattle.journal_disk.specs.Disk.{content}
use Rattle.journal_file.proofs.recovery.fill.Given as goal

abbrev pub invariant-pieces : goal.invariant-pieces
invariant-pieces g l = record {
  within : l.done ≤ length l.buffer;
  len : length l.buffer ≡ length l.fn.buffer;
  same : g.K.Disk.state l.disk ≡ g.K.Disk.state l.fn.disk;
  front : (file : List ℕ) → content (g.K.Disk.state l.fn.disk) ≡ Some file → take l.done l.buffer ≡ take l.done (drop l.at file);
}

abbrev pub decreases-pieces : goal.decreases-pieces
decreases-pieces g l = length l.buffer - l.done
