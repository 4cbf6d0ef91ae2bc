use Rattle.std.proofs.Common.{◌∙◌, ◌++◌, ap}
use Rattle.loaded_cells.proofs.WordLemmas.{fewer_zeros}
use Rattle.loaded_cells.proofs.words.push_tail.Goals as goal

pub returns : goal.returns
returns c = c.in_ok-extend_from_slice.ensures.items ∙ ap (λ l. c.args.words.now.items ++ l) (fewer_zeros 96 c.args.count c.requires)
