use Rattle.kept_program.proofs.RecoveryLemmas.{read_back}
use Rattle.kept_program.proofs.laws.stops_are_read_back.Goals as goal

pub returns : goal.returns
returns c = read_back
