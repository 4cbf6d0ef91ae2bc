use Rattle.rule_model.specs.CellsModel.Reads.{first_loaded}
use Rattle.rule_model.specs.Sight.{with_found}
use Rattle.store_words.proofs.accounts.Accounts.first_load.Given as given

abbrev pub ghosts-load_as : given.ghosts-load_as
ghosts-load_as a = record {
  next = λ n v. with_found v (first_loaded a._about.now n) a._about.now n;
  told = λ n v. Unit {0};
}
