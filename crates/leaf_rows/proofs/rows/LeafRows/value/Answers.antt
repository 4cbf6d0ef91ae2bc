use Rattle.std.proofs.Common.{◌∙◌, ap}
use Rattle.graph_model.specs.Transactions.{stamp_in}
use Rattle.store_model.specs.Stamped.{read_stamped}
use Rattle.leaf_store.specs.Leaves.{versions_of}
use Rattle.leaf_rows.proofs.KnownLemmas.{read_unstamped}
use Rattle.leaf_rows.proofs.rows.LeafRows.value.Goals as goal

pub returns : goal.returns
returns c =
    let r = c.args.reader.now in
    let none = c.is_unstamped.ensures in
    (rw (c.known.ensures, c.snapshot.ensures.start, c.snapshot.ensures.own) at c.value.ensures.value)
    ∙ ap (read_stamped (stamp_in r.manager.now.journal) r.start r.by) c.row.ensures
    ∙ read_unstamped _ _ _ (versions_of c.args.self.now c.args.key) (record { pairs = none.pairs c.args.key; touches = none.touches c.args.key })
