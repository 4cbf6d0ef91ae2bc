use Rattle.std.proofs.Common.{◌≡◌, ◌∙◌, sym, ap, subst}
use Rattle.leaf_index.specs.Index.{Index}
use Rattle.leaf_store.proofs.RangeLemmas.{add_here, cut_again, first_cut, index_restored, narrowed_is, restored, still_taken, two_entries}
use Rattle.leaf_store.proofs.range.halve_range.Goals as goal

pub set_separators-requires : goal.set_separators-requires
set_separators-requires c = first_cut c.args.low c.args.cuts c.args.key c.args.index.now.entries c.requires.within

pub add_leaf-requires-clause-taken : goal.add_leaf-requires-clause-taken
add_leaf-requires-clause-taken c =
    still_taken c.args.low c.args.cuts c.args.key c.args.index.now c.set_separators.new.self c.args.leaf c.requires.within c.set_separators.ensures.others
    (narrowed_is c.args.low c.args.cuts c.args.key c.args.index.now.entries c.requires.within c.set_separators.new.self.entries c.set_separators.ensures.entries) c.requires.taken

pub add_leaf-requires-clause-place : goal.add_leaf-requires-clause-place
add_leaf-requires-clause-place c =
    add_here c.args.low c.args.cuts c.args.key c.args.index.now.entries c.requires.within c.set_separators.new.self.entries
    (narrowed_is c.args.low c.args.cuts c.args.key c.args.index.now.entries c.requires.within c.set_separators.new.self.entries c.set_separators.ensures.entries)

pub returns-in-Ok-clause-ok : goal.returns-in-Ok-clause-ok
returns-in-Ok-clause-ok c = λ can.
    two_entries c.args.low c.args.cuts c.args.key c.args.index.now.entries can c.set_separators.new.self.entries c.add_leaf.new.self.entries c.args.leaf
    (narrowed_is c.args.low c.args.cuts c.args.key c.args.index.now.entries can c.set_separators.new.self.entries c.set_separators.ensures.entries) c.in-Ok.ensures.ok

pub set_separators-requires-in-Err : goal.set_separators-requires-in-Err
set_separators-requires-in-Err c =
    cut_again c.args.low c.args.cuts c.args.key c.args.index.now.entries c.requires.within c.add_leaf.new.self.entries
    (ap (λ (i : Index). i.entries) c.in-Err.ensures.err ∙ narrowed_is c.args.low c.args.cuts c.args.key c.args.index.now.entries c.requires.within c.set_separators.new.self.entries c.set_separators.ensures.entries)

pub returns-in-Err-clause-err : goal.returns-in-Err-clause-err
returns-in-Err-clause-err c =
    let narrow = narrowed_is c.args.low c.args.cuts c.args.key c.args.index.now.entries c.requires.within c.set_separators.new.self.entries c.set_separators.ensures.entries in
    let same = c.in-Err.ensures.err in
    let others : c.add_leaf.new.self ≡ record c.args.index.now { entries = c.add_leaf.new.self.entries } =
    subst (λ (i : Index). i ≡ record c.args.index.now { entries = i.entries }) (sym same) c.set_separators.ensures.others in
    index_restored c.args.index.now c.add_leaf.new.self c.set_separators-in-Err.new.self others c.set_separators-in-Err.ensures.others
    (restored c.args.low c.args.cuts c.args.key c.args.index.now.entries c.requires.within c.add_leaf.new.self.entries c.set_separators-in-Err.new.self.entries (ap (λ (i : Index). i.entries) same ∙ narrow) c.set_separators-in-Err.ensures.entries)
