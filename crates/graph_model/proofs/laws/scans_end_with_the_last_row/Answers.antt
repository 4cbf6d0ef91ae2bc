use Rattle.graph_model.proofs.AccountLemmas.{done_is_whole, portions_are_rows}
use Rattle.graph_model.proofs.ScanLemmas.{takes_its_turns, next_is_behind}
use Rattle.graph_model.proofs.laws.scans_end_with_the_last_row.Goals as goal

pub returns-clause-done : goal.returns-clause-done
returns-clause-done c = done_is_whole

pub returns-clause-portions : goal.returns-clause-portions
returns-clause-portions c = portions_are_rows

pub returns-clause-turns : goal.returns-clause-turns
returns-clause-turns c = takes_its_turns

pub returns-clause-next : goal.returns-clause-next
returns-clause-next c = next_is_behind
