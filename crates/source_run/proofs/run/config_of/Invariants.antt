-- none of the scripts so far begins more, and one of them begins as many, unless it is one
use Rattle.std.proofs.Common.{◌≡◌, ℕ, ◌<◌, ◌≤◌, ◌⊎◌, List}
use Rattle.std.specs.Prelude.{slice_get, Some}
use Rattle.graph_model.specs.declared.limits.TheConstants.{MAX_BEGINS}
use Rattle.run_model.specs.declared.command.Command.{Command}
use Rattle.run_model.specs.Commands.{begun_by}
use Rattle.source_run.specs.Running.{Begins}
use Rattle.source_run.proofs.run.config_of.Given as goal

abbrev pub invariant-scripts : goal.invariant-scripts
invariant-scripts l = ((k : ℕ) (commands : List Command) → k < l.script-index → slice_get l.scripts k ≡ Some commands → begun_by 0 commands ≤ l.most)
    × (0 < l.most) × (l.most ≤ MAX_BEGINS) × ((l.most ≡ 1) ⊎ Begins l.scripts l.most)
