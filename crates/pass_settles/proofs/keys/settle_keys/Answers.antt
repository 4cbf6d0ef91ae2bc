use Rattle.std.proofs.Common.{◌∙◌, ap, sym}
use Rattle.pass_sweeps.specs.StoreRelation.Keys.{has_key}
use Rattle.pass_sweeps.specs.StoreRelation.Passes.{PassState}
use Rattle.pass_sweeps.specs.PassSteps.Passes.{state_of}
use Rattle.pass_settles.specs.Settled.{keys_outside}
use Rattle.pass_settles.proofs.KeyLemmas.{outside_gone, settling_still, stamps_cell, stamps_skip}
use Rattle.pass_settles.proofs.keys.settle_keys.Goals as goal

pub keys-preserved-then-holds : goal.keys-preserved-then-holds
keys-preserved-then-holds g c =
    let inv = c.keys.invariant in
    record {
      pass = inv.pass;
      none = inv.none;
      settling = inv.settling;
      stamped = stamps_skip c.args.keys.now c.keys.place _ c.keys-test.true (state_of c.args.pass.now) (state_of c.keys.pass)
          inv.stamped (inv.between _ (sym c.holds.ensures ∙ c.if-holds.true));
      between = inv.between;
      pin = inv.pin;
      same = inv.same;
    }

pub keys-preserved : goal.keys-preserved
keys-preserved g c =
    let inv = c.keys.invariant in
    let old = state_of c.keys.pass in
    let out = c.settle_key.ensures in
    let low = c.in-Some.found.low in
    let high = c.in-Some.found.high in
    let settled = c.in-Some.ensures.settled in
    record {
      pass = out.back.of;
      none = out.back.none;
      settling = settling_still c.args.store.now c.keys.pass c.settle_key.new.pass c.args.sweep.now c.args.by c.args.stamp
          inv.settling out.back.same.number (keys_outside low high old.unstamped) settled.0 out.back.pin;
      stamped = stamps_cell c.args.keys.now c.keys.place _ c.keys-test.true (state_of c.args.pass.now) old
          (state_of c.settle_key.new.pass) low high inv.stamped settled.0 settled.1;
      between = λ q e. ap (λ (u : PassState). has_key u.unstamped q) settled.0 ∙ outside_gone low high old.unstamped q e;
      pin = out.back.pin ∙ inv.pin;
      same = record { number = out.back.same.number ∙ inv.same.number; reads = out.back.same.reads ∙ inv.same.reads };
    }
