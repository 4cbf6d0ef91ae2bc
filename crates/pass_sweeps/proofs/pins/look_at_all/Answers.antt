use Rattle.std.proofs.Common.{◌∙◌, ap, arith, refl, subst, sym, Some}
use Rattle.epoch_reclaim.specs.declared.sweep.Sweep.{Sweep}
use Rattle.pass_steps.specs.RuleModel.Sight.{PinState}
use Rattle.pass_sweeps.specs.Sweeping.{OnlySweep}
use Rattle.pass_sweeps.proofs.HandLemmas.{only_first, only_of, only_then, sweep_of, sweep_pin}
use Rattle.pass_sweeps.proofs.pins.look_at_all.Goals as goal

pub pins-init : goal.pins-init
pins-init c = (
  c.requires.pass,
  only_first c.args.store.now c.args.pass.now c.args.sweep.now c.requires.pass c.requires.sweeps,
  refl,
  c.requires.few,
)

pub look_next-requires-clause-sweeps : goal.look_next-requires-clause-sweeps
look_next-requires-clause-sweeps c =
    ap (λ (x : PinState). x.sweep) (sweep_pin c.args.store.now c.args.pass.now c.pins.pass (Some c.pins.sweep)
    c.requires.pass c.pins.invariant.1)

pub pins-preserved : goal.pins-preserved
pins-preserved c =
    let store = c.args.store.now in
    let inv = c.pins.invariant in
    let look = c.look_next.ensures.looked in
    let only = only_of c.pins.pass c.look_next.new.pass _ look.2 in
    let then : OnlySweep c.args.pass.now c.look_next.new.pass (Some c.look_next.new.sweep) =
    subst (λ (w : Sweep). OnlySweep c.args.pass.now c.look_next.new.pass (Some w)) (sym look.1)
    (only_then store c.args.pass.now c.pins.pass c.look_next.new.pass (Some c.pins.sweep) _ c.requires.pass inv.1
    only) in
    let looked = ap (λ (w : Sweep). w.looked) look.1 in
    let clock = ap (λ (w : Sweep). w.clock) look.1 in
    let test = c.pins-test.true in (
      sweep_of store c.pins.pass c.look_next.new.pass _ inv.0 only,
      then,
      clock ∙ inv.2,
      omega (arith, looked, test),
    )
