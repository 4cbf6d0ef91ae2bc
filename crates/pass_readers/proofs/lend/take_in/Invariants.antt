use Rattle.pass_steps.specs.RuleModel.Sight.{with_pass}
use Rattle.pass_steps.specs.StoreRelation.Steps.{without_reader}
use Rattle.pass_steps.specs.Passes.{state_in}
use Rattle.pass_readers.proofs.lend.take_in.Given as given

abbrev pub ghosts-join_as : given.ghosts-join_as
ghosts-join_as a = record {
  left = λ v. with_pass v a._number (without_reader (state_in v a._number));
  right = λ v. v;
}
