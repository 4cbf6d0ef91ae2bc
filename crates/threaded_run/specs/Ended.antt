-- What the seats of scripts have left once all have run.
use Rattle.std.specs.Prelude.{◌≡◌, ℕ, ◌+◌, false, List, [], ◌∷◌, map}
use Rattle.run_model.specs.declared.command.Command.{Command}
use Rattle.run_model.specs.Inputs.{Inputs}
use Rattle.side_runs.specs.ByAccount.{HasRunBy}
use Rattle.thread_runner.specs.LineRunner.Phases.{file_of}
use Rattle.thread_runner.specs.JobRunner.Progress.{Progress, has_given_up}
use Rattle.rebalance_service.specs.StoreRuleDeclared.store.Store.{Store}
use Rattle.rebalance_service.specs.SharedStoreDeclared.pass.Pass.{Pass}
use Rattle.rebalance_service.specs.SharedStore.Passes.{IsIdle, account_of}

-- the job with its pass, which has no transaction; where memory was never wanted the script has run
pub record HasEnded (inputs : Inputs) (store : Store) (number : ℕ) (script : List Command) (job : Progress)
    (pass : Pass) : Type 0 where
  pub idle : IsIdle store pass
  pub number_is : pass.seats.number ≡ number
  pub ran : has_given_up job.phase ≡ false
      → HasRunBy inputs.kind inputs.load number script job.answers (map file_of job.tables) (account_of store pass)

-- one for each script, numbered in their order
abbrev pub HaveEnded : Inputs → Store → ℕ → List (List Command) → List (Progress × Pass) → Type 0
HaveEnded inputs store number [] [] = Unit {0}
HaveEnded inputs store number [] (y ∷ ys) = ⊥
HaveEnded inputs store number (script ∷ scripts) [] = ⊥
HaveEnded inputs store number (script ∷ scripts) (y ∷ ys) =
    HasEnded inputs store number script y.0 y.1 × HaveEnded inputs store (number + 1) scripts ys
