-- How an engine is made.
use Rattle.std.specs.Prelude.{ℕ}
use Rattle.graph_model.specs.declared.limits.TheConstants.{MAX_BEGINS, MAX_LEAVES}
use Rattle.graph_model.specs.declared.write.Kind.TheVariants.{Undirected}
use Rattle.txn_manager.specs.declared.config.Config.{Config}

-- an engine of so many passes
abbrev pub bench_config : ℕ → Config
bench_config passes = record { kind = Undirected; leaves = MAX_LEAVES; passes = passes; txns_per_pass = MAX_BEGINS }
