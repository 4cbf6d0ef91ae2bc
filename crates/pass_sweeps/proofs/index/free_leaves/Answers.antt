use Rattle.std.proofs.Common.{◌≡◌, ◌∙◌, ap, arith, subst, sym}
use Rattle.leaf_index.specs.Calls.{freed}
use Rattle.leaf_index.specs.Index.{Index, IsIndex}
use Rattle.pass_steps.specs.RuleModel.Places.{lines}
use Rattle.pass_steps.specs.RuleModel.Sight.{IndexState}
use Rattle.pass_steps.proofs.RuleModel.PinStepLemmas.{leaves_are_freed}
use Rattle.pass_steps.specs.Passes.{pin_in}
use Rattle.pass_sweeps.specs.Sweeping.{bound_of, index_in}
use Rattle.pass_sweeps.proofs.HandLemmas.{index_is, index_there}
use Rattle.pass_sweeps.proofs.index.free_leaves.Goals as goal

pub change-requires-clause-may : goal.change-requires-clause-may
change-requires-clause-may c heap =
    let z = c.args.store.now.accounts.config in
    let pass = c.args.pass.now in
    let seat = pass.account in
    let v = seat.me.0 in
    let y = c.requires.taken.2 in
    let taken = c.requires.taken.3 in
    let y_is = index_is v y taken.index in
    let whole = c.requires.whole in
    let same : (index_in v).index ≡ c.args.held.value.value = ap (λ (u : IndexState). u.index) y_is
    ∙ sym c.requires.taken.5 in
    let most = c.leaves-most.ensures in
    let view = ap (λ (i : Index). i.leaves) c.deref.ensures in
    let count = ap (λ (i : Index). i.leaves) same in
    leaves_are_freed z (lines z.passes) heap seat.table_id.slots seat.id seat.me pass.number (pin_in v pass.number)
    (index_in v) c.args.sweep.now c.bound-until.result c.leaves-most.result taken.of.sight.pin
    (index_there v y taken.index) (ap (λ (u : IndexState). u.sweeper) y_is ∙ c.requires.taken.4)
    c.requires.sweeps (omega (arith, whole))
    (λ l e. c.bound-until.ensures ∙ ap bound_of (c.least_pin.ensures ∙ e))
    (omega (arith, count, most, view))
    (subst IsIndex (c.free_below.ensures.freed
    ∙ ap (freed c.bound-until.result c.leaves-most.result) (c.deref_mut.ensures.value ∙ sym same))
    c.free_below.ensures.sound)
