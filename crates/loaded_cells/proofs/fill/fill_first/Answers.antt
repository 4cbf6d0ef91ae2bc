use Rattle.loaded_cells.proofs.DividedLemmas.{can_first, divided_first}
use Rattle.loaded_cells.proofs.fill.fill_first.Goals as goal

pub set_separators-requires : goal.set_separators-requires
set_separators-requires c =
    can_first c.args.rows.now c.args.index.now c.args.ranges.now.items c.split.result.0 c.cuts_of.result
    c.requires.sorted c.requires.within c.requires.index c.requires.some c.requires.idle c.split.ensures.low
    c.split.ensures.cut c.split.ensures.front c.cuts_of.ensures

pub returns-clause-ok : goal.returns-clause-ok
returns-clause-ok c =
    divided_first c.args.rows.now c.args.index.now c.args.ranges.now.items c.split.result.0 c.cuts_of.result
    c.requires.sorted c.requires.within c.requires.index c.requires.some c.requires.idle c.split.ensures.low
    c.split.ensures.cut c.split.ensures.front c.cuts_of.ensures c.set_separators.new.self c.put_range.new.ranges.items
    c.set_separators.ensures.entries c.set_separators.ensures.others c.is_index.ensures.index c.put_range.ensures
