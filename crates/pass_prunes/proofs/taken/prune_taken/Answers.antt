use Rattle.std.proofs.Common.{◌≡◌, ◌++◌, ◌∙◌, List, ℕ, ap, arith, drop, length, refl, subst, sym, take}
use Rattle.std.proofs.Math.Seq.{take-append_seam}
use Rattle.epoch_reclaim.specs.Pinned.{horizon_of}
use Rattle.pass_cells.specs.StoreRelation.Passes.{PassState}
use Rattle.pass_cells.specs.RuleModel.Places.{lines}
use Rattle.pass_cells.specs.RuleModel.Sight.{with_cells}
use Rattle.pass_cells.specs.declared.taken.TakenCell.{TakenCell}
use Rattle.pass_cells.specs.Changes.{news_of}
use Rattle.pass_cells.specs.Holding.{Holds}
use Rattle.pass_cells.proofs.AfterLemmas.{holds_told, known_in}
use Rattle.pass_sweeps.specs.PassSteps.Passes.{pin_of, state_of}
use Rattle.pass_sweeps.specs.Pruning.{stamps_seen}
use Rattle.pass_sweeps.proofs.HandLemmas.{swept_still}
use Rattle.pass_sweeps.proofs.LawLemmas.{rows_are_pruned_as_seen}
use Rattle.pass_prunes.specs.Pruned.{ArePruned, PrunesVersions}
use Rattle.pass_prunes.proofs.PrunedLemmas.{can_prune_all, counted_versions, hand_kept, keep_pruned, small_pruned, versions_pruned}
use Rattle.pass_prunes.proofs.taken.prune_taken.Goals as goal

pub change-requires-clause-may : goal.change-requires-clause-may
change-requires-clause-may c =
    let store = c.args.store.now in
    let z = store.accounts.config in
    let sweep = c.args.sweep.now in
    let p0 = c.args.pass.now in
    let p1 = c.prune_each.new.pass in
    let v = p1.account.me.0 in
    let list = c.args.cells.now.taken.list in
    let ts = list.items in
    let us = c.prune_each.new.taken in
    let count : list.len ≡ length us = omega (arith, list.ok, c.prune_each.auto.taken, c.as_mut_slice.ensures) in
    let rest = drop (length us) ts in
    let now = take list.len (us ++ rest) in
    let same : now ≡ us = ap (λ n. take n (us ++ rest)) count ∙ take-append_seam us rest in
    let holds = c.requires.holds in
    let out = c.prune_each.ensures in
    let swept = swept_still store p0 p1 sweep c.requires.swept out.found in
    let known = known_in z p0.account.me.0 v out.hand.cells ts holds.taken.known in
    let are : ArePruned (stamps_seen (state_of p1)) (horizon_of sweep) ts now =
    subst (λ (u : PassState × ℕ × List TakenCell × List TakenCell). ArePruned (stamps_seen u.0) u.1 u.2 u.3)
    (λ i. (sym out.found.state i, c.horizon-horizon.ensures i, c.as_mut_slice.ensures.value i, sym same i)) out.pruned in
    λ heap. rows_are_pruned_as_seen z (lines z.passes) heap p1.account.table_id.slots p1.account.id p1.account.me
    p1.number (state_of p1) (pin_of p1) sweep (news_of v now)
    (can_prune_all z v p1.number (state_of p1) (pin_of p1) sweep ts now out.pass.sight.has out.pass.sight.pin
    swept.is swept.whole swept.seen known holds.taken.apart holds.rising are)

pub returns-clause-holds : goal.returns-clause-holds
returns-clause-holds c =
    let store = c.args.store.now in
    let z = store.accounts.config in
    let p0 = c.args.pass.now in
    let p1 = c.prune_each.new.pass in
    let v = p1.account.me.0 in
    let list = c.args.cells.now.taken.list in
    let ts = list.items in
    let us = c.prune_each.new.taken in
    let count : list.len ≡ length us = omega (arith, list.ok, c.prune_each.auto.taken, c.as_mut_slice.ensures) in
    let rest = drop (length us) ts in
    let now = take list.len (us ++ rest) in
    let same : now ≡ us = ap (λ n. take n (us ++ rest)) count ∙ take-append_seam us rest in
    let out = c.prune_each.ensures in
    let holds = hand_kept store p0 p1 ts c.requires.holds out.hand in
    let stamps = stamps_seen (state_of p0) in
    let horizon = c.horizon-horizon.result in
    let are : ArePruned stamps horizon ts now =
    subst (λ (u : List TakenCell × List TakenCell). ArePruned stamps horizon u.0 u.1)
    (λ i. (c.as_mut_slice.ensures.value i, sym same i)) out.pruned in
    subst (Holds store c.change.new.pass) (sym c.count_rows.ensures.counted)
    (holds_told store p1 c.change.new.pass ts now holds (keep_pruned stamps horizon ts now are)
    (small_pruned stamps horizon z v ts now holds.taken.known are) (with_cells v (news_of v now))
    c.change.ensures.changed refl refl)

pub returns-clause-pruned : goal.returns-clause-pruned
returns-clause-pruned c =
    let p0 = c.args.pass.now in
    let list = c.args.cells.now.taken.list in
    let ts = list.items in
    let us = c.prune_each.new.taken in
    let count : list.len ≡ length us = omega (arith, list.ok, c.prune_each.auto.taken, c.as_mut_slice.ensures) in
    let rest = drop (length us) ts in
    let now = take list.len (us ++ rest) in
    let same : now ≡ us = ap (λ n. take n (us ++ rest)) count ∙ take-append_seam us rest in
    let stamps = stamps_seen (state_of p0) in
    let horizon = horizon_of c.args.sweep.now in
    let are : ArePruned stamps horizon ts now =
    subst (λ (u : ℕ × List TakenCell × List TakenCell). ArePruned stamps u.0 u.1 u.2)
    (λ i. (c.horizon-horizon.ensures i, c.as_mut_slice.ensures.value i, sym same i)) c.prune_each.ensures.pruned in
    subst (PrunesVersions stamps horizon ts) (sym c.count_rows.ensures.counted)
    (counted_versions stamps horizon ts now
    (versions_pruned stamps horizon c.args.store.now.accounts.config p0.account.me.0 ts now
    c.requires.holds.taken.known are))
