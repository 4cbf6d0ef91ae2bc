use Rattle.store_model.proofs.FallLemmas.{stamps_fall}
use Rattle.store_model.proofs.StampPlaceLemmas.{stamp_place}
use Rattle.store_model.proofs.laws.stamps_follow_the_journal.Goals as goal

pub returns-clause-place : goal.returns-clause-place
returns-clause-place c = stamp_place

pub returns-clause-fall : goal.returns-clause-fall
returns-clause-fall c = stamps_fall
