use Rattle.epoch_reclaim.proofs.PinLemmas.{announces, begins_pinned, pins, ends_pinned, unpins}
use Rattle.epoch_reclaim.proofs.laws.passes_stay_pinned.Goals as goal

pub returns-clause-announces : goal.returns-clause-announces
returns-clause-announces c = announces

pub returns-clause-begins : goal.returns-clause-begins
returns-clause-begins c = begins_pinned

pub returns-clause-pins : goal.returns-clause-pins
returns-clause-pins c = pins

pub returns-clause-ends : goal.returns-clause-ends
returns-clause-ends c = ends_pinned

pub returns-clause-unpins : goal.returns-clause-unpins
returns-clause-unpins c = unpins
