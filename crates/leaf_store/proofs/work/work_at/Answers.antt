use Rattle.std.proofs.Common.{refl, sym, ◌∙◌}
use Rattle.leaf_store.proofs.RoomLemmas.{stands_leaf}
use Rattle.leaf_store.proofs.WorkLemmas.{idle_done, neighbours_done, pair_work, window_work, windows_done}
use Rattle.leaf_store.proofs.work.work_at.Goals as goal

pub returns-in_default-clause-none : goal.returns-in_default-clause-none
returns-in_default-clause-none c = λ none. idle_done c.args.index.now c.args.leaves.now.items c.requires.tended.kept c.args.first (c.in_default.ensures.none refl)

pub sparse_at-requires : goal.sparse_at-requires
sparse_at-requires c =
    let at = c.in-Some.ensures.some in
    stands_leaf c.args.index.now c.args.leaves.now.items c.args.first.leaf c.requires.tended.kept (record { front = at.floor.front; entry = at.entry; back = at.floor.back; is = at.floor.is; number = sym c.in-Some.ensures.number ∙ at.range_is.leaf })

pub returns-in-Some-sparse_at-clause-some : goal.returns-in-Some-sparse_at-clause-some
returns-in-Some-sparse_at-clause-some c =
    window_work c.args.index.now c.args.leaves.now.items c.args.queue.now c.requires.tended c.in-Some.range c.args.first c.requires.first c.in-Windows.is c.in-Some.ensures.some c.in-Some.ensures.low c.in-Some.ensures.number c.in-Some-sparse_at.window c.in-Some-sparse_at.ensures.some

pub returns-in-None-clause-none : goal.returns-in-None-clause-none
returns-in-None-clause-none c = λ none. windows_done c.args.index.now c.args.leaves.now.items c.requires.tended.kept c.args.first c.in-Windows.is (c.in-None.ensures.none refl)

pub returns-in-Some-next_pair-clause-some : goal.returns-in-Some-next_pair-clause-some
returns-in-Some-next_pair-clause-some c =
    pair_work c.args.index.now c.args.leaves.now.items c.args.queue.now c.requires.tended c.in-Some.range c.args.first c.requires.first c.in-Neighbours.is c.in-Some.ensures.low c.in-Some-next_pair.pair c.in-Some-next_pair.ensures.some

pub returns-in-None-next_pair-clause-none : goal.returns-in-None-next_pair-clause-none
returns-in-None-next_pair-clause-none c = λ none.
    neighbours_done c.args.index.now c.args.leaves.now.items c.requires.tended.kept c.args.first c.in-Neighbours.is c.in-Some.range c.in-Some.ensures.some (c.in-None-next_pair.ensures.ahead refl) (c.in-None-next_pair.ensures.behind refl)
