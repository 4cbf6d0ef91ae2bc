use Rattle.std.proofs.Common.{◌≡◌, ◌+◌, ◌*◌, ◌≤◌, ℕ, List, length, take, drop, sym, ◌∙◌, ap, subst, arith}
use Rattle.std.specs.Prelude.{Some, None, IfSome}
use Rattle.journal_disk.specs.Disk.{content}
use Rattle.journal_file.proofs.ReadLemmas.{writes_len}
use Rattle.journal_file.proofs.HeadLemmas.{none_by_head, by_head}
use Rattle.journal_file.proofs.recovery.read_commit.Goals as goal

pub returns-in-None-clause-commit : goal.returns-in-None-clause-commit
returns-in-None-clause-commit g c = λ file told size.
    none_by_head c.args.stamp (drop c.args.at file) (sym c.in-None.is ∙ c.in_ok-head.ensures.head file told size)

pub returns-in-Some-2-clause-commit : goal.returns-in-Some-2-clause-commit
returns-in-Some-2-clause-commit g c = λ file told size.
    let head = c.in-Some.head in
    let within = subst (λ o. IfSome o (λ h. c.args.at + (33 + 25 * h.count) ≤ c.args.size)) c.in-Some.is c.in_ok-head.ensures.within in
    let whole = c.in_ok-read_body.ensures.whole file (ap content c.in_ok-head.ensures.ok ∙ told) (omega (arith, within, size)) in
    ap Some c.commit_of.ensures
    ∙ by_head c.args.stamp c.args.at file c.as_slice.result.now head (Some c.in-Some-2.writes) (sym c.in-Some.is ∙ c.in_ok-head.ensures.head file told size)
    (c.as_slice.ensures.value ∙ whole.1) (sym c.in-Some-2.is ∙ c.in_ok-writes.ensures)

pub returns-in-Some-2-clause-within : goal.returns-in-Some-2-clause-within
returns-in-Some-2-clause-within g c =
    let within = subst (λ o. IfSome o (λ h. c.args.at + (33 + 25 * h.count) ≤ c.args.size)) c.in-Some.is c.in_ok-head.ensures.within in
    let len : length c.commit_of.result.writes ≡ c.in-Some.head.count =
    ap (λ e. length e.writes) c.commit_of.ensures ∙ writes_len c.in-Some.head.count c.as_slice.result.now c.in-Some-2.writes (sym c.in_ok-writes.ensures ∙ c.in-Some-2.is) in
    omega (arith, within, len)

pub returns-in-None-2-clause-commit : goal.returns-in-None-2-clause-commit
returns-in-None-2-clause-commit g c = λ file told size.
    let within = subst (λ o. IfSome o (λ h. c.args.at + (33 + 25 * h.count) ≤ c.args.size)) c.in-Some.is c.in_ok-head.ensures.within in
    let whole = c.in_ok-read_body.ensures.whole file (ap content c.in_ok-head.ensures.ok ∙ told) (omega (arith, within, size)) in
    by_head c.args.stamp c.args.at file c.as_slice.result.now c.in-Some.head None (sym c.in-Some.is ∙ c.in_ok-head.ensures.head file told size)
    (c.as_slice.ensures.value ∙ whole.1) (sym c.in-None-2.is ∙ c.in_ok-writes.ensures)
