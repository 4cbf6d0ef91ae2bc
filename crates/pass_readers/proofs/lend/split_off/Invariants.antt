use Rattle.pass_steps.specs.RuleModel.Sight.{no_reads, with_pass}
use Rattle.pass_steps.specs.RuleModel.ViewSteps.{reader_seat}
use Rattle.pass_steps.specs.StoreRelation.Steps.{with_reader}
use Rattle.pass_steps.specs.Passes.{state_in}
use Rattle.pass_readers.specs.Readers.{reader_in}
use Rattle.std.specs.Prelude.{[]}
use Rattle.pass_readers.proofs.lend.split_off.Given as given

abbrev pub ghosts-split_as : given.ghosts-split_as
ghosts-split_as a = record {
  left = λ v. with_pass v a._number (with_reader (state_in v a._number));
  right = λ v. reader_seat (reader_in v a._number) [] no_reads;
}
