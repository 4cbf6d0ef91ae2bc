-- What a run by threads is given, and why there is none.
use Rattle.std.specs.Prelude.{◌≡◌, ℕ, ◌+◌, ◌*◌, ◌≤◌, List, length, slice_get, Some}
use Rattle.std.specs.List.{AllByRecursion}
use Rattle.graph_model.specs.declared.limits.TheConstants.{SPLIT_ROWS}
use Rattle.graph_model.specs.declared.load.LoadRefusal.{LoadRefusal}
use Rattle.graph_model.specs.declared.load.LoadRefusal.TheVariants as refusals
use Rattle.graph_model.specs.declared.write.Kind.{Kind}
use Rattle.graph_model.specs.declared.write.Write.{Write}
use Rattle.graph_model.specs.Graph.{empty_graph}
use Rattle.graph_model.specs.Inserted.{inserted}
use Rattle.graph_model.specs.Loading.{IsAdd}
use Rattle.graph_model.specs.Refused.{AllAllowed, IsWithinLimits}
use Rattle.run_model.specs.declared.command.Command.{Command}
use Rattle.run_model.specs.Inputs.{Inputs, AreInputs}
use Rattle.run_model.specs.Commands.{begun_by}
use Rattle.txn_manager.specs.declared.config.Config.{Config}

abbrev pub inputs_on : Config → List Write → List (List Command) → Inputs
inputs_on config load scripts = record { kind = config.kind; load = load; scripts = scripts }

-- adds that the empty graph allows
pub record IsLoadable (kind : Kind) (load : List Write) : Type 0 where
  pub adds : AllByRecursion IsAdd load
  pub allowed : AllAllowed kind empty_graph load
  pub within : AllByRecursion IsWithinLimits load

-- Scripts with a load, for a store with a pass for each script and one for the load, and maybe more, by which kernels
-- read. Each pass may begin all transactions of its script.
pub record CanRun (inputs : Inputs) (config : Config) : Type 0 where
  pub inputs_are : AreInputs inputs
  pub load : IsLoadable inputs.kind inputs.load
  pub kind : config.kind ≡ inputs.kind
  pub passes : length inputs.scripts + 1 ≤ config.passes
  pub begins : (k : ℕ) (cs : List Command)
      → slice_get inputs.scripts k ≡ Some cs → begun_by 0 cs ≤ config.txns_per_pass

-- why nothing ran or came out: the rows of the load may fill all leaves, or memory is wanted
abbrev pub IsStopped : Config → List Write → LoadRefusal → Type 0
IsStopped config load (refusals.Full leaves) =
    (leaves ≡ config.leaves) × (SPLIT_ROWS * config.leaves ≤ inserted config.kind load)
IsStopped config load refusals.NoMemory = Unit {0}
