use Rattle.worker_calls.proofs.CallLemmas.{legal_ready}
use Rattle.worker_calls.proofs.KeptLemmas.{ready_hinted}
use Rattle.worker_calls.proofs.PropLemmas.{is_ready}
use Rattle.std.proofs.Common.{refl}
use Rattle.rebalance_service.proofs.serve.sweep.Goals as goal

pub returns-in-Some-clause-legal : goal.returns-in-Some-clause-legal
returns-in-Some-clause-legal g c =
    legal_ready c.args.store.now c.args.pass.now (is_ready c.args.store.now c.args.pass.now c.requires.ready)

pub returns-in-Some-clause-ready : goal.returns-in-Some-clause-ready
returns-in-Some-clause-ready g c =
    ∣ ready_hinted c.args.store.now c.args.pass.now _ refl
    (is_ready c.args.store.now c.args.pass.now c.requires.ready) ∣₁

pub sweep_here-swept-requires : goal.sweep_here-swept-requires
sweep_here-swept-requires g c = record {
  ready = ∣ ready_hinted c.args.store.now c.args.pass.now _ refl
      (is_ready c.args.store.now c.args.pass.now c.requires.ready) ∣₁;
}
