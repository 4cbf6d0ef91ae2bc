use Rattle.pass_room.proofs.LawLemmas.{account_has_room, idle_has_room, open_has_room}
use Rattle.pass_room.proofs.laws.passes_go_on_with_room.Goals as goal

pub returns-clause-account : goal.returns-clause-account
returns-clause-account c = account_has_room

pub returns-clause-idle : goal.returns-clause-idle
returns-clause-idle c = idle_has_room

pub returns-clause-opened : goal.returns-clause-opened
returns-clause-opened c = open_has_room
