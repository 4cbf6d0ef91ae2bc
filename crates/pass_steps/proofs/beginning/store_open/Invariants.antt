use Rattle.store_rule.specs.RuleModel.Sight.{with_pass}
use Rattle.store_rule.specs.StoreRelation.Steps.{begun}
use Rattle.pass_steps.specs.Passes.{journal_in, state_in}
use Rattle.pass_steps.proofs.beginning.store_open.Given as given

abbrev pub ghosts-store_as : given.ghosts-store_as
ghosts-store_as a = record {
  next = λ n v. with_pass v a._about.now (begun (state_in v a._about.now) (journal_in v));
  told = λ n v. Unit {0};
}
