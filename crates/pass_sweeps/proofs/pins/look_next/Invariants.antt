use Rattle.std.specs.Prelude.{Some}
use Rattle.epoch_reclaim.specs.Pinned.{looked_at}
use Rattle.pass_steps.specs.RuleModel.Sight.{with_pin}
use Rattle.pass_steps.specs.Passes.{pin_in}
use Rattle.pass_sweeps.specs.Sweeping.{with_sweep}
use Rattle.pass_sweeps.proofs.pins.look_next.Given as given

abbrev pub ghosts-look_as : given.ghosts-look_as
ghosts-look_as a = record {
  next = λ n v. with_pin v a.pass.now.number
      (with_sweep (pin_in v a.pass.now.number) (Some (looked_at a.sweep.now n)));
  told = λ n v. Unit {0};
}
