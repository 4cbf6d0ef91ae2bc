use Rattle.std.proofs.Common.{subst}
use Rattle.leaf_index.specs.Index.{Index, IsRoute}
use Rattle.pass_moves.proofs.KeyLemmas.{crowded_at, eight_known}
use Rattle.pass_moves.proofs.room.is_crowded.Goals as goal

pub counts_in-counts-requires : goal.counts_in-counts-requires
counts_in-counts-requires c =
    let h = c.requires.knows in
    eight_known c.args.store.now.accounts.config c.args.pass.now.account.me.0 h.0 c.args.cells.now c.args.index.now h.1

pub returns-in-Split : goal.returns-in-Split
returns-in-Split c = λ leaf knows own is_true.
    let routed = subst (λ (x : Index). IsRoute c.args.key x.entries c.route-route.result) c.deref.ensures
    c.route-route.ensures in
    crowded_at c.args.store.now.accounts.config c.args.pass.now.account.me.0 c.args.cells.now c.args.index.now leaf knows
    c.requires.fit c.args.key own c.requires.below c.route-route.result routed
    c.counts_in-counts.result c.args.need c.counts_in-counts.ensures
    c.in-Split.ensures.0
