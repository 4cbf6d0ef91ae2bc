use Rattle.std.proofs.Common.{◌<◌, length, sym, ◌∙◌, subst, refl, arith, inl}
use Rattle.leaf_queue.specs.declared.waiting.WaitStage.TheVariants.{Windows}
use Rattle.leaf_store.specs.Queued.{IsThickOrQueued}
use Rattle.leaf_store.proofs.RoomLemmas.{stands_leaf}
use Rattle.leaf_store.proofs.TendLemmas.{here_thin, still_thin}
use Rattle.leaf_store.proofs.WorkLemmas.{no_memory, not_live}
use Rattle.leaf_store.proofs.queue.queue_if_thin.Goals as goal

pub is_thick_at-requires : goal.is_thick_at-requires
is_thick_at-requires c =
    let at = c.in-Some-live_range.ensures.some in
    stands_leaf c.args.index.now c.args.leaves.now.items c.args.leaf c.requires.kept (record { front = at.floor.front; entry = at.entry; back = at.floor.back; is = at.floor.is; number = sym c.in-Some-live_range.ensures.number ∙ at.range_is.leaf })

pub enqueue-requires-clause-leaf : goal.enqueue-requires-clause-leaf
enqueue-requires-clause-leaf c =
    let at = c.in-Some-live_range.ensures.some in
    stands_leaf c.args.index.now c.args.leaves.now.items c.args.leaf c.requires.kept (record { front = at.floor.front; entry = at.entry; back = at.floor.back; is = at.floor.is; number = sym c.in-Some-live_range.ensures.number ∙ at.range_is.leaf })

pub returns-in_default-clause-here : goal.returns-in_default-clause-here
returns-in_default-clause-here c = inl (no_memory c.args.index.now c.args.leaves.now.items c.requires.kept c.args.leaf c.index.result.now c.index.ensures c.in_default.is)

pub returns-in_default-live_range-clause-here : goal.returns-in_default-live_range-clause-here
returns-in_default-live_range-clause-here c =
    inl (not_live c.args.index.now c.args.leaves.now.items c.requires.kept c.args.leaf c.index.result.now c.index.ensures c.in-Some.memory c.deref.result.now c.in-Some.is c.deref.ensures
    (record { stage = Windows; low = c.low-low.result; leaf = c.args.leaf }) _ refl c.low-low.ensures (c.in_default-live_range.ensures.none refl))

pub returns-then-not-is_thick_at-clause-here : goal.returns-then-not-is_thick_at-clause-here
returns-then-not-is_thick_at-clause-here c =
    let within : c.args.leaf < length c.args.queue.now = omega (arith, c.requires.within, c.requires.count) in
    subst (λ places. IsThickOrQueued c.args.index.now c.args.leaves.now.items places c.args.leaf) (sym c.enqueue.ensures) (here_thin c.args.index.now c.args.leaves.now.items c.args.queue.now c.args.leaf within)

pub returns-then-not-is_thick_at-clause-others : goal.returns-then-not-is_thick_at-clause-others
returns-then-not-is_thick_at-clause-others c = λ other is.
    let within : c.args.leaf < length c.args.queue.now = omega (arith, c.requires.within, c.requires.count) in
    subst (λ places. IsThickOrQueued c.args.index.now c.args.leaves.now.items places other) (sym c.enqueue.ensures) (still_thin c.args.index.now c.args.leaves.now.items c.args.queue.now c.args.leaf within other is)
