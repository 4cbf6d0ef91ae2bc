use Rattle.pass_steps.specs.RuleModel.Sight.{with_pass}
use Rattle.pass_steps.specs.StoreRelation.Steps.{refreshed}
use Rattle.pass_steps.specs.Passes.{pin_in, state_in}
use Rattle.pass_sweeps.specs.SweepLaws.{TellsPublished}
use Rattle.pass_sweeps.proofs.seen.see_published.Given as given

abbrev pub ghosts-see_as : given.ghosts-see_as
ghosts-see_as a = record {
  next = λ commits v. with_pass v a.pass.now.number (refreshed (state_in v a.pass.now.number) commits);
  told = λ n commits v. TellsPublished a.store.now.accounts.config (state_in v a.pass.now.number)
      (pin_in v a.pass.now.number) n commits;
}
