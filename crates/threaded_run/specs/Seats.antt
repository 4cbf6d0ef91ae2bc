-- Passes that are lent to workers, each beside the job of its script.
use Rattle.std.specs.Prelude.{◌≡◌, ℕ, ◌+◌, List, [], ◌∷◌, ◌++◌, length}
use mathlib.Core.List.{IsPrefix}
use Rattle.graph_model.specs.declared.journal.Commit.{Commit}
use Rattle.graph_model.specs.Account.{Account}
use Rattle.graph_model.specs.AccountSteps.{ReadsBy}
use Rattle.run_model.specs.declared.command.Command.{Command}
use Rattle.thread_runner.specs.JobRunner.Progress.{Progress, new_progress}
use Rattle.rebalance_service.specs.StoreRuleDeclared.store.Store.{Store}
use Rattle.rebalance_service.specs.SharedStoreDeclared.pass.Pass.{Pass}
use Rattle.rebalance_service.specs.SharedStore.Passes.{IsIdle, account_of}
use Rattle.run_model.specs.Inputs.{Inputs}
use Rattle.rebalance_service.specs.SharedStore.Loading.{AreLoaded}
use Rattle.threaded_run.specs.Running.{CanRun}

-- what `run_passes` is given: scripts that can run, on the passes of a store that has the load
pub record CanRunOn (inputs : Inputs) (store : Store) (list : List Pass) (scripts : List (List Command)) : Type 0 where
  pub can : CanRun inputs store.accounts.config
  pub scripts_are : scripts ≡ inputs.scripts
  pub loaded : AreLoaded inputs.load store list

-- the same of the passes of the load and of the scripts alone, behind which the others stand
pub record CanRunBefore (inputs : Inputs) (store : Store) (list others : List Pass) (scripts : List (List Command))
    : Type 0 where
  pub can : CanRunOn inputs store (list ++ others) scripts
  pub count : length list ≡ length scripts + 1

-- none has a transaction, and they are numbered from here on
abbrev pub AreIdleFrom : Store → ℕ → List Pass → Type 0
AreIdleFrom store number [] = Unit {0}
AreIdleFrom store number (pass ∷ passes) =
    IsIdle store pass × (pass.seats.number ≡ number) × AreIdleFrom store (number + 1) passes

-- a pass that is as it was, but that it has seen so much at least
pub record HasMet (store : Store) (seen : List Commit) (old new : Pass) : Type 0 where
  pub idle : IsIdle store new
  pub reads : ReadsBy (account_of store old) (account_of store new)
  pub met : IsPrefix seen (account_of store new).seen

-- a job of a script with its pass, which has met pass 0
pub record IsSeated (store : Store) (seen : List Commit) (number : ℕ) (script : List Command) (pass : Pass)
    (job : Progress) (lent : Pass) : Type 0 where
  pub job_is : job ≡ new_progress number script
  pub met : HasMet store seen pass lent

-- one for each script, numbered in their order
abbrev pub AreSeated : Store → List Commit → ℕ → List (List Command) → List Pass → List (Progress × Pass) → Type 0
AreSeated store seen number [] [] [] = Unit {0}
AreSeated store seen number [] [] (x ∷ xs) = ⊥
AreSeated store seen number [] (pass ∷ passes) xs = ⊥
AreSeated store seen number (script ∷ scripts) [] xs = ⊥
AreSeated store seen number (script ∷ scripts) (pass ∷ passes) [] = ⊥
AreSeated store seen number (script ∷ scripts) (pass ∷ passes) (x ∷ xs) =
    IsSeated store seen number script pass x.0 x.1 × AreSeated store seen (number + 1) scripts passes xs
