use Rattle.std.proofs.Common.{◌≡◌, length, min, subst, arith}
use Rattle.leaf_store.specs.Fill.{IsFilling}
use Rattle.leaf_store.proofs.FillEndLemmas.{behind_of, first_cuts, first_filling, first_of, front_length, front_of, in_two}
use Rattle.leaf_store.proofs.fill.fill_first.Goals as goal

pub set_separators-requires : goal.set_separators-requires
set_separators-requires c =
    let rows = c.requires.first.0 in
    let is = c.requires.first.1 in
    first_cuts rows (front_of rows) (behind_of rows) c.args.index.now c.args.index.now c.args.leaves.now.items c.args.leaves.now.items c.args.memory c.cuts_of.result (first_of rows is.order) (in_two rows) c.requires.index c.requires.some
    is.leaf.settled is.leaf.leaf (rw c.deref.ensures at c.cuts_of.ensures.sound) (rw c.deref.ensures at c.cuts_of.ensures.cuts)

pub returns-clause-laid : goal.returns-clause-laid
returns-clause-laid c = λ rows is.
    let count : length (front_of rows) ≡ min 208 (length rows) = omega (arith, front_length rows) in
    subst (λ n. IsFilling rows n c.set_separators.new.self c.put_leaf.new.table.items) count
    (first_filling rows (front_of rows) (behind_of rows) c.args.index.now c.set_separators.new.self c.args.leaves.now.items c.put_leaf.new.table.items c.args.memory c.cuts_of.result (first_of rows is.order) (in_two rows) c.requires.index c.requires.some
    is.leaf.settled is.leaf.leaf (rw c.deref.ensures at c.cuts_of.ensures.sound) (rw c.deref.ensures at c.cuts_of.ensures.cuts) c.set_separators.ensures.entries c.set_separators.ensures.others c.is_index.ensures.index c.put_leaf.ensures
    (front_length rows))
