use Rattle.leaf_array.proofs.CountLemmas.{same-again}
use Rattle.leaf_array.proofs.pairs.reserve_both.Goals as goal

pub returns-in_err-left_records-clause-left : goal.returns-in_err-left_records-clause-left
returns-in_err-left_records-clause-left c = same-again c.args.left.now

pub returns-in_err-left_records-clause-right : goal.returns-in_err-left_records-clause-right
returns-in_err-left_records-clause-right c = same-again c.args.right.now

pub returns-in_err-right_records-clause-left : goal.returns-in_err-right_records-clause-left
returns-in_err-right_records-clause-left c = same-again c.args.left.now

pub returns-in_err-right_records-clause-right : goal.returns-in_err-right_records-clause-right
returns-in_err-right_records-clause-right c = same-again c.args.right.now

pub returns-in_err-records-clause-left : goal.returns-in_err-records-clause-left
returns-in_err-records-clause-left c = same-again c.args.left.now

pub returns-in_err-records-clause-right : goal.returns-in_err-records-clause-right
returns-in_err-records-clause-right c = same-again c.args.right.now

pub returns-in_err-room-clause-left : goal.returns-in_err-room-clause-left
returns-in_err-room-clause-left c = same-again c.args.left.now

pub returns-in_err-room-clause-right : goal.returns-in_err-room-clause-right
returns-in_err-room-clause-right c = same-again c.args.right.now

pub returns-in_err-reserve-clause-right : goal.returns-in_err-reserve-clause-right
returns-in_err-reserve-clause-right c = same-again c.args.right.now
