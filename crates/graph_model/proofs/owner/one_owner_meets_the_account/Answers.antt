use Rattle.graph_model.proofs.OwnerLemmas.{begins_by, writes_by, reads_by, commits_by, aborts_by, serves_by}
use Rattle.graph_model.proofs.owner.one_owner_meets_the_account.Goals as goal

pub returns : goal.returns
returns c = record { begin = begins_by; write = writes_by; read = reads_by; commit = commits_by; abort = aborts_by; serve = serves_by }
