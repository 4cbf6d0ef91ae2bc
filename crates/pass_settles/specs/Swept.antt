-- Whose records have no stamp.
use Rattle.graph_model.specs.declared.journal.TxnName.{TxnName}
use Rattle.txn_manager.specs.declared.config.Config.{Config}

-- a name that no transaction of the store has
abbrev pub nobody : Config → TxnName
nobody z = record { job = z.passes; number = 0 }
