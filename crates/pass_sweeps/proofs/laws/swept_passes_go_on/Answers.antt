use Rattle.pass_sweeps.proofs.GoingLemmas.{account_goes_on, idle_goes_on, open_goes_on}
use Rattle.pass_sweeps.proofs.laws.swept_passes_go_on.Goals as goal

pub returns-clause-account : goal.returns-clause-account
returns-clause-account c = account_goes_on

pub returns-clause-idle : goal.returns-clause-idle
returns-clause-idle c = idle_goes_on

pub returns-clause-opened : goal.returns-clause-opened
returns-clause-opened c = open_goes_on
