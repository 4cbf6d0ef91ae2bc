use Rattle.std.proofs.Common.{sym, ◌∙◌, refl, length}
use Rattle.journal_disk.specs.Disk.{content}
use Rattle.journal_file.proofs.WriteLemmas.{after_write, after_failed_sync, after_sync, only_then}
use Rattle.journal_file.proofs.file.write_and_sync.Goals as goal

pub returns-in_err-write_at-clause-any_moment : goal.returns-in_err-write_at-clause-any_moment
returns-in_err-write_at-clause-any_moment g c = λ file reads le only.
    after_write g.K.Disk.moment g.K.Disk.may_leave g.K.Disk.left_since c.args.disk.now c.write_at.new.self c.write_at.new.self c.args.at (length c.args.bytes.now) file le only
    (g.met.K.Disk.only_now c.args.disk.now) c.write_at.ensures.crash c.write_at.ensures.time

pub returns-in_err-sync-clause-any_moment : goal.returns-in_err-sync-clause-any_moment
returns-in_err-sync-clause-any_moment g c = λ file reads le only.
    after_failed_sync g.K.Disk.moment g.K.Disk.may_leave g.K.Disk.left_since c.args.disk.now c.write_at.new.self c.sync.new.self c.args.at (length c.args.bytes.now) file le only
    (g.met.K.Disk.only_now c.args.disk.now) c.write_at.ensures.crash c.write_at.ensures.time c.sync.ensures.time c.in_err-sync.ensures.crash

pub returns-clause-lays : goal.returns-clause-lays
returns-clause-lays g c = record {
  written = (λ i. content (c.in_ok-sync.ensures.ok i)) ∙ c.in_ok-write_at.ensures.written;
  durable = λ image left. (λ i. content (c.in_ok-sync.ensures.ok i)) ∙ c.in_ok-sync.ensures.durable image left;
}

pub returns-clause-any_moment : goal.returns-clause-any_moment
returns-clause-any_moment g c = λ file reads le only.
    after_sync g.K.Disk.moment g.K.Disk.may_leave g.K.Disk.left_since c.args.disk.now c.write_at.new.self c.sync.new.self c.args.at (length c.args.bytes.now) file le only
    (g.met.K.Disk.only_now c.args.disk.now) c.write_at.ensures.crash c.write_at.ensures.time c.args.bytes.now refl c.sync.ensures.time
    (only_then c.args.at c.args.bytes.now (g.K.Disk.state c.args.disk.now) (g.K.Disk.state c.sync.new.self) (g.K.Disk.may_leave c.sync.new.self) (returns-clause-lays g c) file _ reads refl)
