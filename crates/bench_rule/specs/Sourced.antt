-- What stores are made of.
use Rattle.std.specs.Prelude.{◌≡◌, false}
use Rattle.cases_store.specs.LoadedCells.Numbered.{AreRowsOf}
use Rattle.txn_manager.specs.Config.{too_large}
use Rattle.bench_rule.specs.declared.source.Source.{Source}

-- a store may be made so, and the rows are those of the load, in rising order of their keys
pub record IsSource (source : Source) : Type 0 where
  pub sized : too_large source.config ≡ false
  pub rows : AreRowsOf source.config source.load source.rows.items
