use Rattle.graph_model.proofs.AccountLemmas.{begin_keeps, write_keeps, read_keeps, commit_keeps, abort_keeps}
use Rattle.graph_model.proofs.laws.calls_keep_accounts_valid.Goals as goal

pub returns-clause-begin : goal.returns-clause-begin
returns-clause-begin c = λ answer old new valid legal did. begin_keeps old valid answer new legal did.1

pub returns-clause-write : goal.returns-clause-write
returns-clause-write c = λ start w result limit old new valid legal did. write_keeps old valid start did.0 w limit result new legal did.1

pub returns-clause-read : goal.returns-clause-read
returns-clause-read c = λ old new valid legal did. read_keeps old valid new legal did

pub returns-clause-end : goal.returns-clause-end
returns-clause-end c = λ stamp. (λ old new valid legal did. commit_keeps old valid stamp new legal did, λ old new valid legal did. abort_keeps old valid new legal did)
