use Rattle.std.specs.Prelude.{false, []}
use Rattle.store_rule.specs.RuleModel.Sight.{with_pin}
use Rattle.pass_steps.specs.Passes.{pin_in}
use Rattle.pass_steps.proofs.pins.unpin.Given as given

abbrev pub ghosts-unpin_as : given.ghosts-unpin_as
ghosts-unpin_as a = record {
  next = λ n v. with_pin v a.pass.now.number (record (pin_in v a.pass.now.number) { announced = false; noted = [] });
  told = λ n v. Unit {0};
}
