-- Which stores are too large.
use Rattle.std.specs.Prelude.{Bool, ◌==◌, ◌||◌, nat_lt}
use Rattle.graph_model.specs.declared.limits.TheConstants.{MAX_LEAVES, MAX_PASSES}
use Rattle.txn_manager.specs.declared.config.Config.{Config}

-- No store is made so: it would have no leaf, no pass or no transaction, or more leaves or passes than
-- there may be.
abbrev pub too_large : Config → Bool
too_large config =
    (config.leaves == 0) || nat_lt MAX_LEAVES config.leaves
    || (config.passes == 0) || nat_lt MAX_PASSES config.passes
    || (config.txns_per_pass == 0)
