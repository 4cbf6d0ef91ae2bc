use Rattle.std.proofs.Common.{◌≡◌, ◌+◌, ◌*◌, ◌≤◌, ◌++◌, ◌∷◌, [], length, drop, sym, ◌∙◌, ap, subst, arith, length-append}
use Rattle.std.specs.Prelude.{Some, IfSome}
use Rattle.journal_disk.specs.Disk.{content}
use Rattle.journal_file.specs.Reading.{gated, commits_from}
use Rattle.journal_file.proofs.FileLemmas.{commits_next}
use Rattle.journal_file.proofs.recovery.read_commits.Goals as goal

pub commits-preserved : goal.commits-preserved
commits-preserved g c =
    let at = c.commits.at in
    let journal = c.commits.journal in
    let commit = c.in-Some.commit in
    let len : length commit.writes ≡ c.len-in-Some.result = sym c.len-in-Some.ensures in
    let within : at + (33 + 25 * length commit.writes) ≤ c.args.size =
    subst (λ o. IfSome o (λ e. at + (33 + 25 * length e.writes) ≤ c.args.size)) c.in-Some.is c.in_ok-commit.ensures.within in
    let longer = c.in_ok-push-in-Some.ensures.ok in
    record {
      within = omega (arith, within, len);
      few = omega (arith, c.commits.invariant.few, len, ap length longer, length-append journal (commit ∷ []));
      same = c.in_ok-commit.ensures.ok ∙ c.commits.invariant.same;
      so_far = λ file told size.
          commits_next file at journal (c.commits.invariant.so_far file told size) commit
          ((λ i. gated (sym c.len.ensures i + 1) (drop at file)) ∙ sym (c.in_ok-commit.ensures.commit file (ap content c.commits.invariant.same ∙ told) size) ∙ c.in-Some.is)
          ∙ (λ i. sym longer i ++ commits_from (length (sym longer i) + 1) (drop (at + (33 + 25 * len i)) file));
    }
