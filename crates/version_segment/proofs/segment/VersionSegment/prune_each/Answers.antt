use Rattle.std.proofs.Common.{◌-◌, suc, refl, arith}
use Rattle.row_table.proofs.UndoChain.ListLemmas.{grows_start, grows_chain, still_known}
use Rattle.row_table.proofs.ChangeLemmas.{spare_stays}
use Rattle.row_table.proofs.PruneLemmas.{pruned_start, skip_settled, next_below, next_named, pruned_next, pruned_all, pruned_went}
use Rattle.version_segment.proofs.segment.VersionSegment.prune_each.Goals as goal

pub rows-init : goal.rows-init
rows-init g c = (pruned_start _ _ c.self.inside.rows.fenced c.self.inside.rows.heads c.self.inside.chains c.self.invariant _ (rw c.segment.ensures at c.len-place.ensures.len), grows_start _)

pub prune_row-requires-clause-parts : goal.prune_row-requires-clause-parts
prune_row-requires-clause-parts g c = c.rows.invariant.0.parts

pub prune_row-requires-clause-place : goal.prune_row-requires-clause-place
prune_row-requires-clause-place g c =
    next_below (g.S.States.knowledge c.args.states.now).stamps c.args.horizon c.self.inside.rows.fenced c.self.inside.rows.heads c.self.inside.chains c.in-Some.changed c.rows.self-inside.rows.fenced c.rows.self-inside.rows.heads c.rows.self-inside.chains
    (skip_settled (g.S.States.knowledge c.args.states.now).stamps c.args.horizon c.self.inside.rows.fenced c.self.inside.rows.heads c.self.inside.chains c.rows.self-inside.rows.fenced c.rows.self-inside.rows.heads c.rows.self-inside.chains (c.rows.place - suc c.in-Some.changed) (suc c.in-Some.changed) c.rows.place (let below = rw c.in-Some.is at c.changed_before.ensures.below in omega (arith, below)) (rw c.in-Some.is at c.changed_before.ensures.between) c.rows.invariant.0)

pub prune_row-requires-clause-known : goal.prune_row-requires-clause-known
prune_row-requires-clause-known g c = still_known _ _ _ c.rows.invariant.1 c.requires.known

pub prune_row-requires-clause-named : goal.prune_row-requires-clause-named
prune_row-requires-clause-named g c =
    let named = rw (← c.self.view_is) at c.requires.named in
    next_named (g.S.States.knowledge c.args.states.now).stamps c.args.horizon c.self.inside.rows.fenced c.self.inside.rows.heads c.self.inside.chains c.in-Some.changed c.rows.self-inside.rows.fenced c.rows.self-inside.rows.heads c.rows.self-inside.chains
    (skip_settled (g.S.States.knowledge c.args.states.now).stamps c.args.horizon c.self.inside.rows.fenced c.self.inside.rows.heads c.self.inside.chains c.rows.self-inside.rows.fenced c.rows.self-inside.rows.heads c.rows.self-inside.chains (c.rows.place - suc c.in-Some.changed) (suc c.in-Some.changed) c.rows.place (let below = rw c.in-Some.is at c.changed_before.ensures.below in omega (arith, below)) (rw c.in-Some.is at c.changed_before.ensures.between) c.rows.invariant.0)
    (g.S.States.knowledge c.args.states.now).names (g.S.States.knowledge c.rows.states).names c.rows.invariant.1.names named

pub rows-preserved : goal.rows-preserved
rows-preserved g c = (
  pruned_next (g.S.States.knowledge c.args.states.now).stamps c.args.horizon c.self.inside.rows.fenced c.self.inside.rows.heads c.self.inside.chains c.in-Some.changed c.rows.self-inside.rows.fenced c.rows.self-inside.rows.heads c.rows.self-inside.chains
      (skip_settled (g.S.States.knowledge c.args.states.now).stamps c.args.horizon c.self.inside.rows.fenced c.self.inside.rows.heads c.self.inside.chains c.rows.self-inside.rows.fenced c.rows.self-inside.rows.heads c.rows.self-inside.chains (c.rows.place - suc c.in-Some.changed) (suc c.in-Some.changed) c.rows.place (let below = rw c.in-Some.is at c.changed_before.ensures.below in omega (arith, below)) (rw c.in-Some.is at c.changed_before.ensures.between) c.rows.invariant.0)
      c.prune_row.new.rows.fenced c.prune_row.new.rows.heads c.prune_row.new.chains (g.S.States.knowledge c.rows.states).stamps c.rows.invariant.1.stamps c.prune_row.ensures.pruned,
  grows_chain _ _ _ c.rows.invariant.1 c.prune_row.ensures.grows,
)

pub overflow_sub-result : goal.overflow_sub-result
overflow_sub-result g c = omega (arith, c.rows.invariant.0.room, c.spare-spare.ensures, c.spare.ensures)

pub invariant_of-self : goal.invariant_of-self
invariant_of-self g c = c.rows.invariant.0.parts

pub returns-clause-pruned : goal.returns-clause-pruned
returns-clause-pruned g c =
    rw (← c.self.view_is) (pruned_all (g.S.States.knowledge c.args.states.now).stamps c.args.horizon c.self.inside.rows.fenced c.self.inside.rows.heads c.self.inside.chains c.rows.self-inside.rows.fenced c.rows.self-inside.rows.heads c.rows.self-inside.chains
    0 refl (skip_settled (g.S.States.knowledge c.args.states.now).stamps c.args.horizon c.self.inside.rows.fenced c.self.inside.rows.heads c.self.inside.chains c.rows.self-inside.rows.fenced c.rows.self-inside.rows.heads c.rows.self-inside.chains c.rows.place 0 c.rows.place (omega arith) (rw c.in_default.is at c.changed_before.ensures.between) c.rows.invariant.0))

pub returns-clause-went : goal.returns-clause-went
returns-clause-went g c =
    rw (← c.self.view_is) (pruned_went (g.S.States.knowledge c.args.states.now).stamps c.args.horizon c.self.inside.rows.fenced c.self.inside.rows.heads c.self.inside.chains c.rows.self-inside.rows.fenced c.rows.self-inside.rows.heads c.rows.self-inside.chains
    0 refl (skip_settled (g.S.States.knowledge c.args.states.now).stamps c.args.horizon c.self.inside.rows.fenced c.self.inside.rows.heads c.self.inside.chains c.rows.self-inside.rows.fenced c.rows.self-inside.rows.heads c.rows.self-inside.chains c.rows.place 0 c.rows.place (omega arith) (rw c.in_default.is at c.changed_before.ensures.between) c.rows.invariant.0) c.spare.result c.spare.ensures c.spare-spare.result c.spare-spare.ensures)

pub returns-clause-grows : goal.returns-clause-grows
returns-clause-grows g c = c.rows.invariant.1

pub returns-clause-spare : goal.returns-clause-spare
returns-clause-spare g c = rw (← c.self.view_is) (spare_stays _ _ _ _ c.rows.invariant.0.room c.rows.invariant.0.spare)
