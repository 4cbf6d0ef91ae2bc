use Rattle.leaf_table.proofs.LeafArray.CountLemmas.{same-again}
use Rattle.leaf_store.proofs.SplitLemmas.{always_err, back_again, can_halve, can_join, cut_first, cut_second, first_is, halved_is, joined_again, others_kept_on, split_is}
use Rattle.leaf_store.proofs.split.split_entry.Goals as goal

pub halve_range-requires-clause-within : goal.halve_range-requires-clause-within
halve_range-requires-clause-within c =
    can_halve c.args.index.now.entries c.args.left.now.segments c.requires.live c.split_key-key.result c.split_key-key.ensures c.requires.many c.cuts_of-cuts.result c.cuts_of-cuts.ensures.cuts

pub returns-in_err-halve_range-clause-same : goal.returns-in_err-halve_range-clause-same
returns-in_err-halve_range-clause-same c = always_err _ c.from_residual.result (same-again c.args.left.now.segments)

pub set_separators-requires : goal.set_separators-requires
set_separators-requires c =
    let mid = halved_is c.args.index.now.entries c.args.left.now.segments c.requires.live c.split_key-key.result c.split_key-key.ensures c.requires.many c.cuts_of-cuts.result c.cuts_of-cuts.ensures.cuts c.args.leaf c.halve_range.new.index.entries c.in_ok-halve_range.ensures.ok in
    cut_first c.args.index.now.entries c.args.left.now.segments c.requires.live c.split_key-key.result c.split_key-key.ensures c.requires.many c.cuts_of-cuts.result c.cuts_of-cuts.ensures.cuts c.args.leaf c.halve_range.new.index.entries mid
    c.split_leaf.new.left.segments c.split_leaf.new.right.segments c.in-Ok._key c.in-Ok.ensures.ok c.cuts_of.ensures.sound c.cuts_of.result c.cuts_of.ensures.cuts

pub set_separators-requires-in-Ok : goal.set_separators-requires-in-Ok
set_separators-requires-in-Ok c =
    let mid = halved_is c.args.index.now.entries c.args.left.now.segments c.requires.live c.split_key-key.result c.split_key-key.ensures c.requires.many c.cuts_of-cuts.result c.cuts_of-cuts.ensures.cuts c.args.leaf c.halve_range.new.index.entries c.in_ok-halve_range.ensures.ok in
    let next = first_is c.args.index.now.entries c.args.left.now.segments c.requires.live c.split_key-key.result c.split_key-key.ensures c.requires.many c.cuts_of-cuts.result c.cuts_of-cuts.ensures.cuts c.args.leaf c.halve_range.new.index.entries mid
    c.split_leaf.new.left.segments c.split_leaf.new.right.segments c.in-Ok._key c.in-Ok.ensures.ok c.cuts_of.ensures.sound c.cuts_of.result c.cuts_of.ensures.cuts c.set_separators.new.self.entries c.set_separators.ensures.entries in
    cut_second c.args.index.now.entries c.args.left.now.segments c.requires.live c.split_key-key.result c.split_key-key.ensures c.requires.many c.cuts_of-cuts.result c.cuts_of-cuts.ensures.cuts c.args.leaf c.halve_range.new.index.entries mid
    c.split_leaf.new.left.segments c.split_leaf.new.right.segments c.in-Ok._key c.in-Ok.ensures.ok c.cuts_of.ensures.sound c.cuts_of.result c.cuts_of.ensures.cuts c.set_separators.new.self.entries next
    c.cuts_of-in-Ok.ensures.sound c.cuts_of-in-Ok.result c.cuts_of-in-Ok.ensures.cuts

pub returns-in-Ok-clause-ok : goal.returns-in-Ok-clause-ok
returns-in-Ok-clause-ok c = λ live.
    let mid = halved_is c.args.index.now.entries c.args.left.now.segments live c.split_key-key.result c.split_key-key.ensures c.requires.many c.cuts_of-cuts.result c.cuts_of-cuts.ensures.cuts c.args.leaf c.halve_range.new.index.entries c.in_ok-halve_range.ensures.ok in
    let next = first_is c.args.index.now.entries c.args.left.now.segments live c.split_key-key.result c.split_key-key.ensures c.requires.many c.cuts_of-cuts.result c.cuts_of-cuts.ensures.cuts c.args.leaf c.halve_range.new.index.entries mid
    c.split_leaf.new.left.segments c.split_leaf.new.right.segments c.in-Ok._key c.in-Ok.ensures.ok c.cuts_of.ensures.sound c.cuts_of.result c.cuts_of.ensures.cuts c.set_separators.new.self.entries c.set_separators.ensures.entries in
    split_is c.args.index.now.entries c.args.left.now.segments live c.split_key-key.result c.split_key-key.ensures c.requires.many c.cuts_of-cuts.result c.cuts_of-cuts.ensures.cuts c.args.leaf c.halve_range.new.index.entries mid
    c.split_leaf.new.left.segments c.split_leaf.new.right.segments c.in-Ok._key c.in-Ok.ensures.ok c.cuts_of.ensures.sound c.cuts_of.result c.cuts_of.ensures.cuts c.set_separators.new.self.entries next
    c.cuts_of-in-Ok.ensures.sound c.cuts_of-in-Ok.result c.cuts_of-in-Ok.ensures.cuts c.set_separators-in-Ok.new.self.entries c.set_separators-in-Ok.ensures.entries

pub join_range-requires : goal.join_range-requires
join_range-requires c =
    let mid = halved_is c.args.index.now.entries c.args.left.now.segments c.requires.live c.split_key-key.result c.split_key-key.ensures c.requires.many c.cuts_of-cuts.result c.cuts_of-cuts.ensures.cuts c.args.leaf c.halve_range.new.index.entries c.in_ok-halve_range.ensures.ok in
    can_join c.args.index.now.entries c.args.left.now.segments c.requires.live c.split_key-key.result c.split_key-key.ensures c.requires.many c.cuts_of-cuts.result c.cuts_of-cuts.ensures.cuts c.args.leaf c.halve_range.new.index.entries mid

pub returns-in-Err-clause-err : goal.returns-in-Err-clause-err
returns-in-Err-clause-err c =
    let mid = halved_is c.args.index.now.entries c.args.left.now.segments c.requires.live c.split_key-key.result c.split_key-key.ensures c.requires.many c.cuts_of-cuts.result c.cuts_of-cuts.ensures.cuts c.args.leaf c.halve_range.new.index.entries c.in_ok-halve_range.ensures.ok in
    back_again c.args.index.now c.join_range.new.index (others_kept_on c.args.index.now c.halve_range.new.index c.join_range.new.index c.halve_range.ensures.others c.join_range.ensures.others)
    (joined_again c.args.index.now.entries c.args.left.now.segments c.requires.live c.split_key-key.result c.split_key-key.ensures c.requires.many c.cuts_of-cuts.result c.cuts_of-cuts.ensures.cuts c.args.leaf c.halve_range.new.index.entries c.join_range.new.index.entries mid c.join_range.ensures.entries)
