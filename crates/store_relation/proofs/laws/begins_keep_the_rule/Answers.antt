use Rattle.store_relation.proofs.EndLemmas.{new_shared}
use Rattle.store_relation.proofs.LoadLemmas.{loaded_shared}
use Rattle.store_relation.proofs.CommitLemmas.{rooms}
use Rattle.store_relation.proofs.StepLemmas.{begins}
use Rattle.store_relation.proofs.laws.begins_keep_the_rule.Goals as goal

pub returns-clause-new : goal.returns-clause-new
returns-clause-new c = new_shared

pub returns-clause-room : goal.returns-clause-room
returns-clause-room c = λ z word pass j rows clock s. rooms s

pub returns-clause-begin : goal.returns-clause-begin
returns-clause-begin c = λ z word pass j rows clock s. begins s

pub returns-clause-load : goal.returns-clause-load
returns-clause-load c = loaded_shared
