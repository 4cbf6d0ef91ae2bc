use Rattle.std.specs.Prelude.{None}
use Rattle.pass_sweeps.proofs.HandLemmas.{finds_goes, goes_then, only_of, sweep_goes, sweep_none, sweep_of}
use Rattle.pass_scans.proofs.swept.settle_swept.Goals as goal

pub returns-clause-pass : goal.returns-clause-pass
returns-clause-pass g c =
    sweep_of c.args.store.now c.settle_at_horizon-took.new.pass c.end_sweep.new.pass None c.settle_at_horizon-took.ensures.pass
    (only_of c.settle_at_horizon-took.new.pass c.end_sweep.new.pass None c.end_sweep.ensures)

pub returns-clause-none : goal.returns-clause-none
returns-clause-none g c =
    sweep_none c.args.store.now c.settle_at_horizon-took.new.pass c.end_sweep.new.pass None c.settle_at_horizon-took.ensures.pass
    (only_of c.settle_at_horizon-took.new.pass c.end_sweep.new.pass None c.end_sweep.ensures) c.settle_at_horizon-took.ensures.none

pub returns-clause-same : goal.returns-clause-same
returns-clause-same g c =
    let p0 = c.args.pass.now in
    let p1 = c.sweep_pins-sweep.new.pass in
    let p2 = c.settle_at_horizon-took.new.pass in
    let p3 = c.end_sweep.new.pass in
    goes_then p0 p1 p3 c.sweep_pins-sweep.ensures.same
    (goes_then p1 p2 p3 (finds_goes p1 p2 c.settle_at_horizon-took.ensures.found)
    (sweep_goes c.args.store.now p2 p3 None c.settle_at_horizon-took.ensures.pass (only_of p2 p3 None c.end_sweep.ensures)))
