use Rattle.std.proofs.Common.{◌≡◌, take}
use Rattle.loaded_cells.specs.Numbered.{loaded_words}
use Rattle.loaded_cells.specs.Ranges.{loaded_segments}
use Rattle.loaded_cells.proofs.words.lay_words.Given as goal

abbrev pub invariant-leaves : goal.invariant-leaves
invariant-leaves l = l.words.items ≡ loaded_words l.config (loaded_segments (take l.number l.leaves))
