use Rattle.teseo_program.proofs.EndLemmas.{room_ends_well}
use Rattle.teseo_program.proofs.LawLemmas.{end_well}
use Rattle.teseo_program.proofs.laws.accepted_runs_end_well.Goals as goal

pub returns-clause-ends : goal.returns-clause-ends
returns-clause-ends c = end_well

pub returns-clause-room : goal.returns-clause-room
returns-clause-room c = room_ends_well
