use Rattle.rule_model.specs.StoreRelation.Shared.{JournalState}
use Rattle.rule_model.specs.EndSteps.{HasAll}
use Rattle.rule_model.specs.LastSteps.{IsLastStore}
use Rattle.store_words.proofs.accounts.Accounts.look_last.Given as given

abbrev pub ghosts-load_as : given.ghosts-load_as
ghosts-load_as a = record {
  next = λ n v. v;
  told = λ n v. (j : JournalState) → HasAll a._about.now v j → IsLastStore a._about.now v j;
}
