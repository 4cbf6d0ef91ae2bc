use Rattle.graph_model.specs.Rows.{first_key}
use Rattle.pass_merges.proofs.IndexLemmas.{dropped_entries, dropped_taken, joined_is, joined_taken, may_cut, may_drop}
use Rattle.pass_merges.proofs.pair.join_entries.Goals as goal

pub drop_leaf-requires : goal.drop_leaf-requires
drop_leaf-requires c = may_drop c.args.pair c.args.cut c.args.cuts c.args.index.now c.requires

pub set_separators-requires : goal.set_separators-requires
set_separators-requires c =
    let mid = c.drop_leaf.new.self in
    may_cut c.args.pair c.args.cut c.args.cuts c.args.index.now c.requires first_key mid.entries
    (dropped_entries c.args.pair c.args.cut c.args.cuts c.args.index.now c.requires mid.entries
    c.drop_leaf.ensures.entries)

pub returns-clause-joined : goal.returns-clause-joined
returns-clause-joined c = λ may.
    let mid = c.drop_leaf.new.self in
    let is = dropped_entries c.args.pair c.args.cut c.args.cuts c.args.index.now may mid.entries
    c.drop_leaf.ensures.entries in
    joined_is c.args.pair c.args.cut c.args.cuts c.args.index.now may first_key mid c.set_separators.new.self
    c.drop_leaf.ensures.others is c.set_separators.ensures.entries c.set_separators.ensures.others

pub returns-clause-taken : goal.returns-clause-taken
returns-clause-taken c =
    let mid = c.drop_leaf.new.self in
    let is = dropped_entries c.args.pair c.args.cut c.args.cuts c.args.index.now c.requires mid.entries
    c.drop_leaf.ensures.entries in
    joined_taken c.args.pair c.args.cut c.args.cuts c.args.index.now c.requires first_key mid c.set_separators.new.self
    c.drop_leaf.ensures.others is c.set_separators.ensures.entries c.set_separators.ensures.others
    (dropped_taken c.args.pair c.args.cut c.args.cuts c.args.index.now c.requires mid c.drop_leaf.ensures.taken)
