use Rattle.std.specs.Prelude.{◌≡◌, ◌⊎◌, ◌<◌}
use Rattle.pass_steps.specs.RuleModel.StoreRelation.ReadLaws.{Answers}
use Rattle.pass_readers.specs.Readers.{read_in}
use Rattle.pass_readers.proofs.looks.look.Given as given

abbrev pub ghosts-load_as : given.ghosts-load_as
ghosts-load_as a = record {
  next = λ n v. v;
  told = λ n v. Answers (read_in v).seen a._about.now n × ((n ≡ 1) ⊎ (2 < n));
}
