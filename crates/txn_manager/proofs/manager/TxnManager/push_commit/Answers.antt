use Rattle.std.proofs.Common.{◌≡◌, ◌+◌, ◌∙◌, sym, ap, length, arith, refl}
use Rattle.std.specs.Prelude.{unwrap_or}
use Rattle.graph_model.proofs.PlaceLemmas.{some_eq}
use Rattle.txn_manager.specs.declared.history.PassHistory.{PassHistory}
use Rattle.txn_manager.specs.Histories.{with_stamp}
use Rattle.txn_manager.proofs.ViewLemmas.{open_of, open_start_is, history_at}
use Rattle.txn_manager.proofs.ManagerLemmas.{some_room, kept_committed, view_committed}
use Rattle.txn_manager.proofs.manager.TxnManager.push_commit.Goals as goal

pub commit-start-requires-clause-begun : goal.commit-start-requires-clause-begun
commit-start-requires-clause-begun c =
    let found = open_of _ _ _ _ c.args.by c.self.view_is c.requires.is_open in
    let here = history_at _ c.args.by.job _ (found.1).inside c.index_mut.ensures.value in
    let current = (c.self.invariant.recorded.each c.args.by.job).current found.0 (found.1).begun_at in
    let same = ap (λ (h : PassHistory). length h.stamps) here in
    omega (arith, current.latest)

pub push_within-requires : goal.push_within-requires
push_within-requires c =
    let found = open_of _ _ _ _ c.args.by c.self.view_is c.requires.is_open in
    some_room _ _ _ c.self.invariant c.args.by found.0 found.1

pub invariant_of-self : goal.invariant_of-self
invariant_of-self c =
    let found = open_of _ _ _ _ c.args.by c.self.view_is c.requires.is_open in
    let here = history_at _ c.args.by.job _ (found.1).inside c.index_mut.ensures.value in
    kept_committed _ _ _ c.self.invariant c.args.by found.0 found.1 _ _ _ c.push_within.ensures.put
    (c.commit-start.ensures.stamped ∙ ap (λ h. with_stamp h (c.len.result + 1)) (sym here)) refl c.push_within.ensures.spare

pub returns-clause-committed : goal.returns-clause-committed
returns-clause-committed c =
    let found = open_of _ _ _ _ c.args.by c.self.view_is c.requires.is_open in
    let here = history_at _ c.args.by.job _ (found.1).inside c.index_mut.ensures.value in
    let start : found.0 ≡ c.commit-start.result = some_eq _ _ (sym (found.1).begun_at ∙ ap (λ (h : PassHistory). h.start) here ∙ c.commit-start.ensures.start) in
    let is = open_start_is c.self.inside.journal c.self.inside.passes.items c.self.inside.allowed c.args.by found.0 found.1 in
    rw (← c.self.view_is) (view_committed _ _ _ c.self.invariant c.args.by found.0 found.1 _ _ _ c.push_within.ensures.put
    (c.commit-start.ensures.stamped ∙ ap (λ h. with_stamp h (c.len.result + 1)) (sym here)) c.args.writes
    (λ i. record { stamp = c.len.ensures.len i + 1; start = (sym start ∙ sym (ap (λ x. unwrap_or x 0) is)) i; by = c.args.by; writes = c.args.writes }))
