use Rattle.std.proofs.Common.{◌≡◌, ◌<◌, ◌≤◌, ◌∙◌, length, take, refl, sym, subst, arith}
use Rattle.std.specs.Prelude.{slice_get, Some}
use Rattle.std.proofs.lemmas.List.{take_all}
use Rattle.std.proofs.lemmas.Option.{slice_get_read}
use Rattle.run_keeper.specs.Keeping.{IsKept}
use Rattle.run_keeper.proofs.KeptLemmas.{begins, legal_at, next_is, still_kept, on_err}
use Rattle.run_keeper.proofs.keeper.Keeper.keep.Goals as goal

pub commits-init : goal.commits-init
commits-init g c = record {
  kept = λ kind commits rest same legal kept.
      subst (λ cs. IsKept g.K.Disk.moment g.K.Disk.may_leave g.K.Disk.left_since g.K.Disk.state kind cs c.args.self.now.file c.args.disk.now)
      (sym (begins c.args.journal.now commits rest _ same (c.len-first.ensures ∙ kept.settled.count))) kept;
  faults = refl;
}

pub commits-preserved : goal.commits-preserved
commits-preserved g c =
    let journal = c.args.journal.now in
    let place = c.commits.place in
    let inside : place < length journal = omega arith in
    let at : slice_get journal place ≡ Some c.index-journal-place.result = slice_get_read journal (length journal) place c.index-journal-place.result refl inside c.index-journal-place.is in
    record {
      kept = λ kind commits rest same legal kept.
          let before = c.commits.invariant.kept kind commits rest same legal kept in
          subst (λ cs. IsKept g.K.Disk.moment g.K.Disk.may_leave g.K.Disk.left_since g.K.Disk.state kind cs c.keep_next.new.self.file c.keep_next.new.disk)
          (sym (next_is journal place c.index-journal-place.result at))
          (c.in_ok-keep_next.ensures.kept kind journal (take place journal) (legal_at kind journal place c.index-journal-place.result legal at) before);
      faults = c.in_ok-keep_next.ensures.ok ∙ c.commits.invariant.faults;
    }

pub returns-clause-kept : goal.returns-clause-kept
returns-clause-kept g c = λ kind commits rest same legal kept.
    let journal = c.args.journal.now in
    let past : length journal ≤ c.commits.place = omega arith in
    subst (λ cs. IsKept g.K.Disk.moment g.K.Disk.may_leave g.K.Disk.left_since g.K.Disk.state kind cs c.commits.self.file c.commits.disk) (take_all c.commits.place journal past)
    (c.commits.invariant.kept kind commits rest same legal kept)

pub returns-in_err-keep_next-clause-still : goal.returns-in_err-keep_next-clause-still
returns-in_err-keep_next-clause-still g c =
    let journal = c.args.journal.now in
    let place = c.commits.place in
    let inside : place < length journal = omega arith in
    let at : slice_get journal place ≡ Some c.index-journal-place.result = slice_get_read journal (length journal) place c.index-journal-place.result refl inside c.index-journal-place.is in
    let past : c.args.self.now.file.count ≤ place = omega (arith, c.len-first.ensures) in
    on_err _ (still_kept g.K.Disk.moment g.K.Disk.may_leave g.K.Disk.left_since g.K.Disk.state journal place c.index-journal-place.result c.args.self.now.file c.commits.self.file c.keep_next.new.self.file
    c.args.disk.now c.commits.disk c.keep_next.new.disk at past c.commits.invariant.kept c.in_err-keep_next.ensures.still)
