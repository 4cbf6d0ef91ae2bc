use Rattle.std.specs.Prelude.{false}
use Rattle.store_rule.specs.RuleModel.Sight.{with_pin}
use Rattle.pass_steps.specs.Passes.{pin_in}
use Rattle.pass_steps.proofs.pins.pin.Given as given

abbrev pub ghosts-pin_as : given.ghosts-pin_as
ghosts-pin_as a = record {
  next = λ n v. with_pin v a.pass.now.number (record (pin_in v a.pass.now.number) { announced = false });
  told = λ n v. Unit {0};
}
