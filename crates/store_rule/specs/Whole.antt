-- What comes out of a store, with the rows of its cells.
use Rattle.std.specs.Prelude.{List}
use Rattle.txn_manager.specs.declared.config.Config.{Config}
use Rattle.loaded_cells.specs.RuleModel.LastSteps.{IsLastStore}
use Rattle.store_rule.specs.Closing.{IsContent}
use Rattle.store_rule.specs.declared.close.Content.{Content}
use Rattle.store_rule.specs.declared.store.Pass.{Pass}

-- the view that knows all knows the rows of its cells, and the index that these lie under
pub record IsWholeContent (z : Config) (list : List Pass) (content : Content) : Type 0 where
  pub content_is : IsContent z list content
  pub store : IsLastStore z content_is.sight content_is.state
