use Rattle.version_segment.proofs.LawLemmas.{key_changed, keys_pruned, rows_shared}
use Rattle.version_segment.proofs.laws.changes_are_by_key.Goals as goal

pub returns-clause-changed : goal.returns-clause-changed
returns-clause-changed c = key_changed

pub returns-clause-pruned : goal.returns-clause-pruned
returns-clause-pruned c = keys_pruned

pub returns-clause-shared : goal.returns-clause-shared
returns-clause-shared c = rows_shared
