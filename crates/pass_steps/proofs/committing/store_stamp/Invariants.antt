use Rattle.store_rule.specs.RuleModel.Sight.{with_commit}
use Rattle.store_rule.specs.StoreRelation.Steps.{committing, with_entry}
use Rattle.pass_steps.specs.Passes.{journal_in, state_in}
use Rattle.pass_steps.proofs.committing.store_stamp.Given as given

abbrev pub ghosts-store_as : given.ghosts-store_as
ghosts-store_as a = record {
  next = λ n v. with_commit v a._about.now (committing (state_in v a._about.now))
      (with_entry (journal_in v) a._about.now (state_in v a._about.now));
  told = λ n v. Unit {0};
}
