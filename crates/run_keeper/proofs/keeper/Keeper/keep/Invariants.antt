use Rattle.std.proofs.Common.{◌≡◌, List, ◌++◌, take}
use Rattle.graph_model.specs.declared.write.Kind.{Kind}
use Rattle.graph_model.specs.declared.journal.Commit.{Commit}
use Rattle.graph_model.specs.Legal.{IsLegal}
use Rattle.journal_disk.specs.Disk.{FaultsStand}
use Rattle.run_keeper.specs.Keeping.{IsKept}
use Rattle.run_keeper.proofs.keeper.Keeper.keep.Given as goal

-- the commits up to this place are kept
abbrev pub invariant-commits : goal.invariant-commits
invariant-commits g l = record {
  kept : (kind : Kind) (commits rest : List Commit) → l.journal ≡ commits ++ rest → IsLegal kind l.journal
      → IsKept g.K.Disk.moment g.K.Disk.may_leave g.K.Disk.left_since g.K.Disk.state kind commits l.fn.self.file l.fn.disk
      → IsKept g.K.Disk.moment g.K.Disk.may_leave g.K.Disk.left_since g.K.Disk.state kind (take l.place l.journal) l.self.file l.disk;
  faults : FaultsStand (g.K.Disk.state l.fn.disk) (g.K.Disk.state l.disk);
}
