use Rattle.std.proofs.Common.{◌≡◌, ◌+◌, ◌<◌, ◌^◌, ◌∷◌, [], length, sym, ◌∙◌, ap, subst, arith, refl}
use Rattle.journal_disk.specs.Crashes.{Torn, LeavesOnly}
use Rattle.journal_file.proofs.KeepLemmas.{both_parts}
use Rattle.journal_file.proofs.AppendLemmas.{at_end, at_gate, staged_read, staged_only, added, first_part, second_part, count_more}
use Rattle.journal_file.proofs.file.JournalFile.append.Goals as goal

pub returns-in_err-write_and_sync-clause-any_moment : goal.returns-in_err-write_and_sync-clause-any_moment
returns-in_err-write_and_sync-clause-any_moment g c = λ kind commits e settled is laid.
    let file = c.args.self.now in
    let bytes = c.as_slice-bytes.result.now in
    let laid' = c.as_slice-bytes.ensures ∙ laid in
    first_part kind commits e file _ _ settled is bytes laid' g.K.Disk.moment g.K.Disk.left_since c.args.disk.now c.write_and_sync.new.disk
    (c.write_and_sync.ensures.any_moment _ settled.reads (at_end kind commits e file _ _ settled is bytes laid') settled.durable)

pub returns-in_err-write_and_sync-2-clause-any_moment : goal.returns-in_err-write_and_sync-2-clause-any_moment
returns-in_err-write_and_sync-2-clause-any_moment g c = λ kind commits e settled is laid.
    let file = c.args.self.now in
    let bytes = c.as_slice-bytes.result.now in
    let laid' = c.as_slice-bytes.ensures ∙ laid in
    both_parts g.K.Disk.moment g.K.Disk.left_since c.args.disk.now c.write_and_sync.new.disk c.write_and_sync-2.new.disk _
    (first_part kind commits e file _ _ settled is bytes laid' g.K.Disk.moment g.K.Disk.left_since c.args.disk.now c.write_and_sync.new.disk
    (c.write_and_sync.ensures.any_moment _ settled.reads (at_end kind commits e file _ _ settled is bytes laid') settled.durable))
    (second_part kind commits e file _ _ settled is bytes laid' g.K.Disk.moment g.K.Disk.left_since c.write_and_sync.new.disk c.write_and_sync-2.new.disk
    (c.write_and_sync-2.ensures.any_moment _ (staged_read kind commits e file _ _ settled is bytes laid' _ _ c.in_ok-write_and_sync.ensures.lays)
    (at_gate kind commits e file _ _ settled is bytes laid') (staged_only kind commits e file _ _ settled is bytes laid' _ _ c.in_ok-write_and_sync.ensures.lays)))

pub returns-clause-any_moment : goal.returns-clause-any_moment
returns-clause-any_moment g c = λ kind commits e settled is laid.
    let file = c.args.self.now in
    let bytes = c.as_slice-bytes.result.now in
    let laid' = c.as_slice-bytes.ensures ∙ laid in
    both_parts g.K.Disk.moment g.K.Disk.left_since c.args.disk.now c.write_and_sync.new.disk c.write_and_sync-2.new.disk _
    (first_part kind commits e file _ _ settled is bytes laid' g.K.Disk.moment g.K.Disk.left_since c.args.disk.now c.write_and_sync.new.disk
    (c.write_and_sync.ensures.any_moment _ settled.reads (at_end kind commits e file _ _ settled is bytes laid') settled.durable))
    (second_part kind commits e file _ _ settled is bytes laid' g.K.Disk.moment g.K.Disk.left_since c.write_and_sync.new.disk c.write_and_sync-2.new.disk
    (c.write_and_sync-2.ensures.any_moment _ (staged_read kind commits e file _ _ settled is bytes laid' _ _ c.in_ok-write_and_sync.ensures.lays)
    (at_gate kind commits e file _ _ settled is bytes laid') (staged_only kind commits e file _ _ settled is bytes laid' _ _ c.in_ok-write_and_sync.ensures.lays)))

pub returns-clause-acknowledged : goal.returns-clause-acknowledged
returns-clause-acknowledged g c = λ kind commits e settled is laid.
    let file = c.args.self.now in
    let bytes = c.as_slice-bytes.result.now in
    let laid' = c.as_slice-bytes.ensures ∙ laid in
    added kind commits e file _ _ settled is bytes laid' _ _ _ (staged_read kind commits e file _ _ settled is bytes laid' _ _ c.in_ok-write_and_sync.ensures.lays)
    c.in_ok-write_and_sync-2.ensures.lays c.grown.result (ap (λ f. f.gate) c.grown.ensures)
    (ap (λ f. f.count) c.grown.ensures ∙ count_more kind commits file _ _ settled bytes (subst (λ n. file.gate + n < 2 ^ 63) (ap length (sym c.as_slice-bytes.ensures)) c.requires.room))
