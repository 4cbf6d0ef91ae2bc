use Rattle.std.specs.Prelude.{None}
use Rattle.store_rule.specs.RuleModel.Sight.{with_pass}
use Rattle.store_rule.specs.StoreRelation.Steps.{ended}
use Rattle.pass_steps.specs.Passes.{state_in}
use Rattle.pass_steps.proofs.ending.end.Given as given

abbrev pub ghosts-store_as : given.ghosts-store_as
ghosts-store_as a = record {
  next = λ n v. with_pass v a._about.now (ended (state_in v a._about.now) None);
  told = λ n v. Unit {0};
}
