use Rattle.run_model.proofs.ShortLemmas.{texts_tell}
use Rattle.run_model.proofs.laws.texts_tell_runs.Goals as goal

pub returns : goal.returns
returns c = texts_tell
