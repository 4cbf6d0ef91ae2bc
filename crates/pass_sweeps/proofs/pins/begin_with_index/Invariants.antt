use Rattle.std.specs.Prelude.{◌≤◌, length, Some}
use Rattle.epoch_reclaim.specs.Pinned.{begun}
use Rattle.pass_steps.specs.RuleModel.PinSteps.{with_sweeper}
use Rattle.pass_steps.specs.Passes.{pin_in, state_in}
use Rattle.pass_sweeps.specs.Sweeping.{index_in, with_sweep}
use Rattle.pass_sweeps.proofs.pins.begin_with_index.Given as given

abbrev pub ghosts-begin_as : given.ghosts-begin_as
ghosts-begin_as a = record {
  next = λ n v. with_sweeper v a.pass.now.number (with_sweep (pin_in v a.pass.now.number) (Some (begun n)))
      (record (index_in v) { sweeper = Some a.pass.now.number });
  told = λ n v. length (state_in v a.pass.now.number).seen ≤ n;
}
