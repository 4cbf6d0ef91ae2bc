use Rattle.std.specs.Prelude.{true}
use Rattle.store_rule.specs.RuleModel.Sight.{with_pin}
use Rattle.pass_steps.specs.Passes.{pin_in}
use Rattle.pass_steps.proofs.pins.announce.Given as given

abbrev pub ghosts-announce_as : given.ghosts-announce_as
ghosts-announce_as a = record {
  next = λ n v. with_pin v a.pass.now.number (record (pin_in v a.pass.now.number) { announced = true });
  told = λ n v. Unit {0};
}
