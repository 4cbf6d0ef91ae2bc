use Rattle.graph_model.specs.Legal.{IsLegal}
use Rattle.store_rule.specs.RuleModel.Sight.{with_commit}
use Rattle.store_rule.specs.StoreRelation.Keys.{changed_keys}
use Rattle.store_rule.specs.StoreRelation.Shared.{entries}
use Rattle.store_rule.specs.StoreRelation.Steps.{committed, published_now}
use Rattle.pass_steps.specs.Passes.{journal_in, state_in}
use Rattle.pass_steps.proofs.committing.publish.Given as given

abbrev pub ghosts-store_as : given.ghosts-store_as
ghosts-store_as a = record {
  next = λ n v. with_commit v a._about.now.0 (committed (state_in v a._about.now.0) (journal_in v)
      (changed_keys a._about.now.1.kind (state_in v a._about.now.0).own)) (published_now (journal_in v));
  told = λ n v. IsLegal a._about.now.1.kind (entries (journal_in v));
}
