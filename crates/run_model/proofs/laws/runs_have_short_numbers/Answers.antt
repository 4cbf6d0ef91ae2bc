use Rattle.run_model.proofs.ShortLemmas.{short_outputs}
use Rattle.run_model.proofs.laws.runs_have_short_numbers.Goals as goal

pub returns : goal.returns
returns c = short_outputs
