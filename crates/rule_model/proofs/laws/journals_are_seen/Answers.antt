use Rattle.rule_model.proofs.TxnLemmas.{journal_is_seen, passes_meet}
use Rattle.rule_model.proofs.laws.journals_are_seen.Goals as goal

pub returns-clause-refresh : goal.returns-clause-refresh
returns-clause-refresh c = journal_is_seen

pub returns-clause-meet : goal.returns-clause-meet
returns-clause-meet c = passes_meet
