use Rattle.leaf_array.proofs.CountLemmas.{same-again}
use Rattle.leaf_array.proofs.window.reserve_for.Goals as goal

pub returns-in_err-records-clause-same : goal.returns-in_err-records-clause-same
returns-in_err-records-clause-same c = same-again c.args.segments.now

pub returns-in_err-room-clause-same : goal.returns-in_err-room-clause-same
returns-in_err-room-clause-same c = same-again c.args.segments.now
