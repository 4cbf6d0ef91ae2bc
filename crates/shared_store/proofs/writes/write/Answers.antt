use Rattle.std.proofs.Common.{◌≡◌, ◌∙◌, sym, subst}
use Rattle.leaf_rows.specs.RowWrites.Checks.{TellsEdges}
use Rattle.pass_writes.specs.PassSteps.Passes.{account_of_pass, state_of}
use Rattle.shared_store.specs.Passes.{account_of}
use Rattle.shared_store.proofs.AccountLemmas.{cause_noted}
use Rattle.shared_store.proofs.PassLemmas.{all_kept, keeps_twice, memory_refused, reserved_keeps, same_view, wrote_over}
use Rattle.shared_store.proofs.writes.write.Goals as goal

pub returns-in-Err-clause-opened : goal.returns-in-Err-clause-opened
returns-in-Err-clause-opened g c =
    all_kept c.args.store.now c.removes_edges-has_edges.new.pass c.reserve.new.pass
    c.removes_edges-has_edges.ensures.kept.opened c.reserve.ensures.kept

pub returns-in-Err-clause-writes : goal.returns-in-Err-clause-writes
returns-in-Err-clause-writes g c =
    let store = c.args.store.now in
    let asked = c.removes_edges-has_edges.ensures.kept in
    let more = c.reserve.ensures.kept in
    memory_refused (account_of store c.args.pass.now) (account_of store c.reserve.new.pass) c.args.write
    ((λ i. account_of_pass store (more.seats i)) ∙ asked.account)

pub make-written-requires-clause-opened : goal.make-written-requires-clause-opened
make-written-requires-clause-opened g c =
    all_kept c.args.store.now c.removes_edges-has_edges.new.pass c.reserve.new.pass
    c.removes_edges-has_edges.ensures.kept.opened c.reserve.ensures.kept

pub make-written-requires-clause-edges : goal.make-written-requires-clause-edges
make-written-requires-clause-edges g c =
    let store = c.args.store.now in
    let mid = c.removes_edges-has_edges.new.pass in
    let asked = c.removes_edges-has_edges.ensures.kept in
    let more = reserved_keeps store mid c.reserve.new.pass asked.opened c.reserve.ensures.kept in
    subst (λ graph. TellsEdges (λ v answer. answer ≡ c.removes_edges-has_edges.result) graph c.args.write)
    (sym (same_view store c.args.pass.now c.reserve.new.pass
    (keeps_twice store c.args.pass.now mid c.reserve.new.pass asked more)))
    c.removes_edges-has_edges.ensures.edges

pub see_cause-requires-clause-noted : goal.see_cause-requires-clause-noted
see_cause-requires-clause-noted g c =
    let store = c.args.store.now in
    let mid = c.reserve.new.pass in
    let asked = c.removes_edges-has_edges.ensures.kept in
    let more = reserved_keeps store c.removes_edges-has_edges.new.pass mid asked.opened c.reserve.ensures.kept in
    cause_noted store.accounts.config mid.seats.number (state_of mid.seats) c.args.write
    more.opened.opened.opened.stage c.make-written.result (state_of c.make-written.new.pass.seats)
    c.make-written.ensures.makes

pub returns-clause-writes : goal.returns-clause-writes
returns-clause-writes g c =
    let store = c.args.store.now in
    let old = c.args.pass.now in
    let asked = c.removes_edges-has_edges.ensures.kept in
    let mid = c.reserve.new.pass in
    let more = reserved_keeps store c.removes_edges-has_edges.new.pass mid asked.opened c.reserve.ensures.kept in
    wrote_over store old mid c.make-written.new.pass c.see_cause.new.pass c.args.write c.make-written.result
    (keeps_twice store old c.removes_edges-has_edges.new.pass mid asked more) c.make-written.ensures.makes
    c.see_cause.ensures.seen (c.see_cause.ensures.number ∙ c.make-written.ensures.number)
