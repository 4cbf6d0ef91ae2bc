use Rattle.std.proofs.Common.{sym, ◌∙◌, arith}
use Rattle.leaf_store.proofs.PairLemmas.{last_apart, next_apart, pair_found}
use Rattle.leaf_store.proofs.RoomLemmas.{stands_leaf}
use Rattle.leaf_store.proofs.pair.pair_at.Goals as goal

pub returns-then-not-is_below-clause-none : goal.returns-then-not-is_below-clause-none
returns-then-not-is_below-clause-none c = λ none front entry back is range.
    last_apart c.args.index.now c.args.leaves.now.items c.requires.kept c.args.range front entry back is range (sym c.is_below.ensures ∙ c.if-not-is_below.true)

pub rows_at-requires : goal.rows_at-requires
rows_at-requires c =
    let r = c.requires.range in
    stands_leaf c.args.index.now c.args.leaves.now.items c.args.range.leaf c.requires.kept (record { front = r.front; entry = r.entry; back = r.back; is = r.is; number = r.range_is.leaf })

pub rows_at-requires-2 : goal.rows_at-requires-2
rows_at-requires-2 c =
    let at = c.leaf_at-next.ensures in
    stands_leaf c.args.index.now c.args.leaves.now.items c.leaf_at-next.result.leaf c.requires.kept (record { front = at.floor.front; entry = at.entry; back = at.floor.back; is = at.floor.is; number = at.range_is.leaf })

pub returns-then-rows-gt-MERGE_ROWS-clause-none : goal.returns-then-rows-gt-MERGE_ROWS-clause-none
returns-then-rows-gt-MERGE_ROWS-clause-none c = λ none front entry back is range.
    next_apart c.args.index.now c.args.leaves.now.items c.requires.kept c.args.range front entry back is range c.leaf_at-next.result (sym c.is_below.ensures ∙ c.if-not-is_below.false) c.leaf_at-next.ensures
    (omega (arith, c.rows_at.ensures.rows, c.rows_at-2.ensures.rows, c.if-rows-gt-MERGE_ROWS.true))

pub returns-clause-some : goal.returns-clause-some
returns-clause-some c =
    let r = c.requires.range in
    pair_found c.args.index.now c.args.leaves.now.items c.requires.kept c.args.range r.front r.entry r.back r.is r.range_is c.leaf_at-next.result (sym c.is_below.ensures ∙ c.if-not-is_below.false) c.leaf_at-next.ensures
    (omega (arith, c.rows_at.ensures.rows, c.rows_at-2.ensures.rows, c.if-rows-gt-MERGE_ROWS.false)) c.args.range.low
