use Rattle.shared_store.proofs.SeatLemmas.{no_cells}
use Rattle.shared_store.proofs.ends.let_go.Goals as goal

pub give_up-requires : goal.give_up-requires
give_up-requires c = no_cells c.args.store c.args.passes.list.items c.requires
