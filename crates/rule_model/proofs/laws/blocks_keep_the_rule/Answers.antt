use Rattle.rule_model.proofs.BlockStepLemmas.{holder_loads, cell_is_unpacked, word_is_stored, cell_is_packed}
use Rattle.rule_model.proofs.laws.blocks_keep_the_rule.Goals as goal

pub returns-clause-load : goal.returns-clause-load
returns-clause-load c = holder_loads

pub returns-clause-unpack : goal.returns-clause-unpack
returns-clause-unpack c = cell_is_unpacked

pub returns-clause-word : goal.returns-clause-word
returns-clause-word c = word_is_stored

pub returns-clause-pack : goal.returns-clause-pack
returns-clause-pack c = cell_is_packed
