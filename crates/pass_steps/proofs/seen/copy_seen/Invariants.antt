use Rattle.store_rule.specs.RuleModel.Sight.{no_sight}
use Rattle.pass_steps.specs.Passes.{state_in}
use Rattle.pass_steps.proofs.seen.copy_seen.Given as given

abbrev pub ghosts-cut_as : given.ghosts-cut_as
ghosts-cut_as a = record { left = λ v. v; right = λ v. record no_sight { told = (state_in v a._about.now).seen } }
