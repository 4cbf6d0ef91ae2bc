use mathlib.Core.List.{IsPrefix}
use Rattle.std.proofs.Common.{subst}
use Rattle.rebalance_service.specs.StoreRelation.Passes.{PassState}
use Rattle.teseo_store.proofs.PropLemmas.{are_ends, are_idle}
use Rattle.teseo_store.proofs.store.GraphStore.close.Goals as goal

pub close-requires-clause-passes : goal.close-requires-clause-passes
close-requires-clause-passes c = are_idle c.args.self.shared c.args.self.passes.list.items c.args.self.idle

pub close-requires-clause-ends : goal.close-requires-clause-ends
close-requires-clause-ends c = are_ends c.args.self.shared c.args.self.passes.ends c.args.self.ends

pub returns-clause-legal : goal.returns-clause-legal
returns-clause-legal c = c.close.ensures.journal.closed.legal

pub returns-clause-seen : goal.returns-clause-seen
returns-clause-seen c =
    λ p pass at. subst (λ (state : PassState). IsPrefix state.seen c.close.result.journal)
    (c.close.ensures.journal.known p pass at) (c.close.ensures.journal.closed.seen p)
