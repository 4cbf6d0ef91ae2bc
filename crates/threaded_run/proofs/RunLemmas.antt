-- What a run on a store leaves once the store is closed.
use Rattle.std.proofs.Common.{◌≡◌, List, length, sym, subst}
use Rattle.graph_model.specs.declared.journal.Commit.{Commit}
use Rattle.run_model.specs.declared.command.Command.{Command}
use Rattle.run_model.specs.Inputs.{Inputs}
use Rattle.run_model.specs.Run.{IsRun}
use Rattle.thread_runner.specs.JobRunner.Progress.{Progress}
use Rattle.txn_manager.specs.declared.config.Config.{Config}
use Rattle.rebalance_service.specs.StoreRuleDeclared.store.Store.{Store}
use Rattle.rebalance_service.specs.SharedStoreDeclared.pass.Pass.{Pass}
use Rattle.rebalance_service.specs.SharedStore.Ends.{HasClosed}
use Rattle.rebalance_service.specs.SharedStore.Loading.{AreLoaded}
use Rattle.shared_runs.specs.Closing.{ClosedStoresLeaveRuns, HaveRunOn, LeavesRun, OthersMadeNothing, outputs_with}
use Rattle.threaded_run.specs.Running.{CanRun}
use Rattle.threaded_run.specs.Seats.{CanRunOn}

pub left_run : ClosedStoresLeaveRuns → (inputs : Inputs) (config : Config) (store : Store) (first last : List Pass) (scripts : List (List Command)) (jobs : List Progress) (journal : List Commit)
    → CanRun inputs config → scripts ≡ inputs.scripts → store.accounts.config ≡ config → AreLoaded inputs.load store first
    → ((given : Inputs) → CanRunOn given store first scripts → HaveRunOn given store.accounts.config last jobs) → OthersMadeNothing (length scripts) store.accounts.config last
    → HasClosed store.accounts.config last journal
    → IsRun inputs config.leaves (outputs_with journal jobs) × LeavesRun inputs config.leaves (outputs_with journal jobs)
left_run leave_runs inputs config store first last scripts jobs journal can same is loaded ran others closed =
    let on : CanRunOn inputs store first scripts = record { can = subst (CanRun inputs) (sym is) can; scripts_are = same; loaded = loaded } in
    let none = subst (λ xs. OthersMadeNothing (length xs) store.accounts.config last) same others in
    let both = leave_runs inputs store.accounts.config last jobs journal can.inputs_are (ran inputs on) none closed in
    subst (λ (z : Config). IsRun inputs z.leaves (outputs_with journal jobs) × LeavesRun inputs z.leaves (outputs_with journal jobs)) is both
