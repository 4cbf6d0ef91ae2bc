use Rattle.std.proofs.Common.{arith, refl, subst, sym}
use Rattle.epoch_reclaim.specs.Pinned.{horizon_of}
use Rattle.pass_steps.specs.VersionSegment.Rows.{PrunesRows}
use Rattle.pass_steps.specs.StoreRelation.Passes.{PassState}
use Rattle.pass_steps.specs.Passes.{pin_of, state_of}
use Rattle.pass_sweeps.specs.Pruning.{stamps_seen}
use Rattle.pass_sweeps.proofs.CellLemmas.{account_found, after_learning, after_looks, after_prune, can_prune, looks_found, own_state, pruned_as, same_as}
use Rattle.pass_sweeps.proofs.HandLemmas.{finds_then, swept_still}
use Rattle.pass_sweeps.proofs.PruneLemmas.{same_unless_gone}
use Rattle.pass_sweeps.proofs.prune.prune_unpacked.Goals as goal

pub prune_rows-requires-clause-cell : goal.prune_rows-requires-clause-cell
prune_rows-requires-clause-cell c =
    let taken = c.requires.taken in
    let p0 = c.args.pass.now in
    let has = after_learning c.args.store.now p0 c.learn_writers-clock.new.pass (state_of p0) (pin_of p0) _ taken.0 1
    taken.1 c.learn_writers-clock.ensures.same in
    (c.args.held.now.cell, taken.0, has.cell, has.inside, taken.2.same)

pub returns-then-prune_rows-eq0-clause-taken : goal.returns-then-prune_rows-eq0-clause-taken
returns-then-prune_rows-eq0-clause-taken c =
    let store = c.args.store.now in
    let taken = c.requires.taken in
    let p0 = c.args.pass.now in
    let p1 = c.learn_writers-clock.new.pass in
    let p2 = c.prune_rows.new.pass in
    let has = after_learning store p0 p1 (state_of p0) (pin_of p0) _ taken.0 1 taken.1
    c.learn_writers-clock.ensures.same in
    let after = after_looks store p1 p2 (state_of p0) (pin_of p0) _ taken.0 1 has c.prune_rows.ensures.looked in
    let went = c.prune_rows.ensures.went in
    let none = c.if-prune_rows-eq0.true in
    let same = same_unless_gone (stamps_seen (state_of p1)) c.horizon-horizon.result c.args.held.now.value
    c.prune_rows.new.segment taken.2.sound c.prune_rows.ensures.pruned (omega (arith, went, none)) in (
      taken.0,
      after,
      same_as taken.0 c.args.held.now.value c.prune_rows.new.segment c.args.held.now.changed taken.2 same
          c.prune_rows.ensures.sound,
    )

pub know_pruned-requires-clause-may : goal.know_pruned-requires-clause-may
know_pruned-requires-clause-may c =
    let store = c.args.store.now in
    let taken = c.requires.taken in
    let p0 = c.args.pass.now in
    let p1 = c.learn_writers-clock.new.pass in
    let p2 = c.prune_rows.new.pass in
    let has = after_learning store p0 p1 (state_of p0) (pin_of p0) _ taken.0 1 taken.1
    c.learn_writers-clock.ensures.same in
    let after = after_looks store p1 p2 (state_of p0) (pin_of p0) _ taken.0 1 has c.prune_rows.ensures.looked in
    let found = looks_found store p1 p2 has.of c.prune_rows.ensures.looked in
    let finds = finds_then p0 p1 p2
    (account_found store p0 p1 _ taken.1.of c.learn_writers-clock.ensures.same refl refl refl refl refl) found in
    let swept = swept_still store p0 p2 c.args.sweep.now c.requires.swept finds in
    let went = c.prune_rows.ensures.went in
    let some = c.if-prune_rows-eq0.false in
    let pruned : PrunesRows (stamps_seen (state_of p2)) (horizon_of c.args.sweep.now) c.args.held.now.value
    c.prune_rows.new.segment =
    subst (λ h. PrunesRows (stamps_seen (state_of p2)) h c.args.held.now.value c.prune_rows.new.segment)
    c.horizon-horizon.ensures
    (subst (λ (st : PassState). PrunesRows (stamps_seen st) c.horizon-horizon.result c.args.held.now.value
    c.prune_rows.new.segment) (sym found.state) c.prune_rows.ensures.pruned) in (
      c.args.sweep.now,
      can_prune store.accounts.config p2.account.me.0 p2.number (state_of p2) (pin_of p2) c.args.sweep.now
          c.args.held.now.cell taken.0 c.args.held.now.value c.prune_rows.new.segment c.args.held.now.changed
          c.prune_rows.result after.of.sight.has after.of.sight.pin swept.is swept.whole swept.seen after.cell
          after.inside taken.2 pruned c.prune_rows.ensures.sound went (omega (arith, some)),
    )

pub returns-clause-taken : goal.returns-clause-taken
returns-clause-taken c =
    let store = c.args.store.now in
    let taken = c.requires.taken in
    let p0 = c.args.pass.now in
    let p1 = c.learn_writers-clock.new.pass in
    let p2 = c.prune_rows.new.pass in
    let p3 = c.know_pruned.new.pass in
    let has = after_learning store p0 p1 (state_of p0) (pin_of p0) _ taken.0 1 taken.1
    c.learn_writers-clock.ensures.same in
    let after = after_looks store p1 p2 (state_of p0) (pin_of p0) _ taken.0 1 has c.prune_rows.ensures.looked in
    let known = after_prune store p2 p3 (state_of p2) (pin_of p0) _ taken.0 c.prune_rows.new.segment 1 after
    c.know_pruned.ensures in (
      _,
      own_state store p3 (state_of p2) (pin_of p0) _ _ 1 known,
      pruned_as p2.account.me.0 c.args.held.now.cell taken.0 c.args.held.now.value c.prune_rows.new.segment
          (stamps_seen (state_of p1)) c.horizon-horizon.result c.args.held.now.changed after.cell taken.2
          c.prune_rows.ensures.pruned c.prune_rows.ensures.sound,
    )
