use Rattle.undo_chain.proofs.VersionLemmas.{front_is_pruned, stamp_is_stamp, push_is_write, pop_is_undo}
use Rattle.undo_chain.proofs.laws.lists_are_versions.Goals as goal

pub returns : goal.returns
returns c = record { write = push_is_write; undo = pop_is_undo; prune = front_is_pruned; stamp = stamp_is_stamp }
