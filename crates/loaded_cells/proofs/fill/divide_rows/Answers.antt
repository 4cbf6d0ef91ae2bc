use Rattle.std.proofs.Common.{◌∙◌, ap}
use Rattle.leaf_index.specs.Index.{Index}
use Rattle.rule_model.proofs.LeafStore.FillEndLemmas.{is_filled, rising_sorted, rising_within}
use Rattle.loaded_cells.proofs.fill.divide_rows.Goals as goal

pub fill_first-first-requires-clause-sorted : goal.fill_first-first-requires-clause-sorted
fill_first-first-requires-clause-sorted c = rising_sorted c.args.rows.now c.requires.rising

pub fill_first-first-requires-clause-within : goal.fill_first-first-requires-clause-within
fill_first-first-requires-clause-within c = rising_within c.args.rows.now c.requires.rising

pub fill_rest-requires-clause-sorted : goal.fill_rest-requires-clause-sorted
fill_rest-requires-clause-sorted c = rising_sorted c.args.rows.now c.requires.rising

pub fill_rest-requires-clause-within : goal.fill_rest-requires-clause-within
fill_rest-requires-clause-within c = rising_within c.args.rows.now c.requires.rising

pub returns-clause-ok : goal.returns-clause-ok
returns-clause-ok c =
    let divided = c.in_ok-fill_rest.ensures.ok in
    let limit = c.in_ok-fill_rest.ensures.limit ∙ c.fill_first-first.ensures.limit
    ∙ ap (λ (i : Index). i.leaves) c.in_ok-index.ensures in
    let is = is_filled c.args.leaves c.args.rows.now c.fill_rest.new.index divided.table divided.filling limit in
    record {
      table = divided.table;
      same = divided.same;
      kept = is.kept;
      filled = is.are;
      only = divided.only;
      filling = divided.filling;
    }
