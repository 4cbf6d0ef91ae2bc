use Rattle.leaf_array.proofs.CountLemmas.{first-reserved}
use Rattle.leaf_array.proofs.counting.+reserve.Goals as goal

pub returns-in_err-reserve_records-clause-same : goal.returns-in_err-reserve_records-clause-same
returns-in_err-reserve_records-clause-same t c = first-reserved _ _ _ _ c.in-Some.ensures.cases.0 c.in_err-reserve_records.ensures.kept
