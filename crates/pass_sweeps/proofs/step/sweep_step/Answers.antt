use Rattle.pass_steps.proofs.PassLemmas.{state_is}
use Rattle.pass_sweeps.proofs.SweptLemmas.{turn_is}
use Rattle.pass_sweeps.proofs.step.sweep_step.Goals as goal

pub returns-clause-swept : goal.returns-clause-swept
returns-clause-swept g c =
    let store = c.args.store.now in
    let p1 = c.choose_leaf-leaf.new.pass in
    let p2 = c.sweep_leaf-swept.new.pass in
    let p3 = c.end_sweep.new.pass in
    let chosen = c.choose_leaf-leaf.ensures in
    let swept = c.sweep_leaf-swept.ensures in
    turn_is store c.args.pass.now p1 p2 p3 c.args.key.now.next c.choose_leaf-leaf.new.key.next c.choose_leaf-leaf.result.0
    c.choose_leaf-leaf.result.1 c.choose_leaf-leaf.result.2 c.sweep_leaf-swept.result chosen.chosen.0 chosen.chosen.1 swept.whole
    chosen.swept chosen.clock swept.same (state_is store p2 p3 _ c.end_sweep.ensures) swept.took
