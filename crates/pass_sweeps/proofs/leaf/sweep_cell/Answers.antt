use Rattle.std.proofs.Common.{◌∙◌, subst, sym}
use Rattle.pass_steps.specs.RuleModel.Sight.{HasCell}
use Rattle.pass_steps.specs.Passes.{pin_of, state_of}
use Rattle.pass_sweeps.specs.Pruning.{HasCellOnly}
use Rattle.pass_sweeps.proofs.HandLemmas.{swept_still}
use Rattle.pass_sweeps.proofs.SweptLemmas.{pruned_in_hand, settled_in_hand, taken_finds}
use Rattle.pass_sweeps.proofs.leaf.sweep_cell.Goals as goal

pub count-requires-clause-pruned : goal.count-requires-clause-pruned
count-requires-clause-pruned g c =
    let store = c.args.store.now in
    let t = c.take_cell-held.ensures.taken in
    settled_in_hand store c.args.pass.now c.take_cell-held.new.pass c.args.sweep.now _ t.0
    c.take_cell-held.result.value t.1
    c.take_cell-held.ensures.same c.requires.swept t.3 (c.is_settled.ensures c.if-is_settled.true)

pub count-requires-2-clause-pruned : goal.count-requires-2-clause-pruned
count-requires-2-clause-pruned g c =
    let store = c.args.store.now in
    let p1 = c.take_cell-held.new.pass in
    let p2 = c.prune_cell-held.new.pass in
    let t = c.take_cell-held.ensures.taken in
    let number = c.take_cell-held.ensures.held.0 in
    let out = c.prune_cell-held.ensures in
    let after = out.pruned t.0 (subst (λ k. HasCell p1.account.me.0 k t.0) (sym number) t.1.cell) in
    pruned_in_hand store p1 p2 c.args.sweep.now _ t.0 after.0 c.prune_cell-held.result.0.value
    c.prune_cell-held.result.1 c.is_settled-settled.result
    (subst (λ k. HasCellOnly store p2 (state_of p2) (pin_of p1) k after.0 0) number after.1)
    (swept_still store c.args.pass.now p1 c.args.sweep.now c.requires.swept
    (taken_finds store c.args.pass.now p1 _ t.0 t.1 c.take_cell-held.ensures.same))
    out.same after.3 after.4 c.is_settled-settled.ensures
