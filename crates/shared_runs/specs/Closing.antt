-- Scripts that ran on the passes of a shared store, and the store that was closed behind them.
use Rattle.std.specs.Prelude.{◌≡◌, ℕ, ◌+◌, ◌<◌, ◌≤◌, List, [], length, map, slice_get, Some}
use Rattle.graph_model.specs.declared.journal.Commit.{Commit}
use Rattle.graph_model.specs.declared.write.Write.{Write}
use Rattle.graph_model.specs.Account.{Account}
use Rattle.run_model.specs.declared.answer.Answer.{Answer}
use Rattle.run_model.specs.declared.command.Command.{Command}
use Rattle.run_model.specs.Inputs.{Inputs, AreInputs, Outputs}
use Rattle.run_model.specs.Run.{load_stamp, IsRun}
use Rattle.side_runs.specs.ByAccount.{HasRunBy}
use Rattle.side_runs.specs.SideBySide.{made_by_load, HaveRunBy, HasMade}
use Rattle.job_runner.specs.LineRunner.Phases.{file_of}
use Rattle.job_runner.specs.Progress.{Progress}
use Rattle.txn_manager.specs.declared.config.Config.{Config}
use Rattle.shared_store.specs.StoreRelation.Passes.{account_of}
use Rattle.shared_store.specs.PassSteps.Passes.{state_of}
use Rattle.shared_store.specs.declared.pass.Pass.{Pass}
use Rattle.shared_store.specs.Ends.{HasClosed}

-- ---- what runs

-- the journal, the reports and the kernel files
abbrev pub outputs_with : List Commit → List Progress → Outputs
outputs_with journal jobs = record {
  journal = journal;
  reports = map (λ job. job.answers) jobs;
  files = map (λ job. map file_of job.tables) jobs;
}

-- what the pass of this number knows of itself
abbrev pub account_in : Config → ℕ → Pass → Account
account_in z p pass = account_of z p (state_of pass.seats)

-- a pass has made the load and has seen its commit
pub record HasLoaded (load : List Write) (account : Account) : Type 0 where
  pub made : account.made ≡ made_by_load load
  pub seen : load_stamp load ≤ length account.seen

-- the script of this place ran on the pass behind it
pub record HasRunOn (inputs : Inputs) (z : Config) (list : List Pass) (k : ℕ) (cs : List Command) (job : Progress)
    : Type 0 where
  pub pass : Pass
  pub there : slice_get list (k + 1) ≡ Some pass
  pub ran : HasRunBy inputs.kind inputs.load (k + 1) cs job.answers (map file_of job.tables)
      (account_in z (k + 1) pass)

-- all scripts did, and pass 0 has the load
pub record HaveRunOn (inputs : Inputs) (z : Config) (list : List Pass) (jobs : List Progress) : Type 0 where
  pub kind : z.kind ≡ inputs.kind
  pub passes : length inputs.scripts + 1 ≤ z.passes
  pub count : length jobs ≡ length inputs.scripts
  pub loader : Pass
  pub first : slice_get list 0 ≡ Some loader
  pub loaded : HasLoaded inputs.load (account_in z 0 loader)
  pub ran : (k : ℕ) (cs : List Command) (job : Progress) → slice_get inputs.scripts k ≡ Some cs
      → slice_get jobs k ≡ Some job → HasRunOn inputs z list k cs job

-- the pass of this number has made nothing
pub record HasMadeNothing (z : Config) (list : List Pass) (p : ℕ) : Type 0 where
  pub pass : Pass
  pub there : slice_get list p ≡ Some pass
  pub made : (account_in z p pass).made ≡ []

-- nor has any pass behind those of so many scripts
abbrev pub OthersMadeNothing : ℕ → Config → List Pass → Type 0
OthersMadeNothing scripts z list = (p : ℕ) → scripts < p → p < z.passes → HasMadeNothing z list p

-- ---- what is left

-- Accounts of all passes by which the scripts ran side by side: each pass has begun the transactions of its script, and
-- has made in each what its lines were answered that they wrote
pub record LeavesRun (inputs : Inputs) (leaves : ℕ) (outputs : Outputs) : Type 0 where
  pub passes : ℕ → Account
  pub ran : HaveRunBy inputs leaves passes outputs
  pub made : (k : ℕ) (cs : List Command) (report : List Answer)
      → slice_get inputs.scripts k ≡ Some cs → slice_get outputs.reports k ≡ Some report
      → HasMade (passes (k + 1)) cs report

-- a closed store leaves a run
abbrev pub ClosedStoresLeaveRuns : Type 0
ClosedStoresLeaveRuns =
    (inputs : Inputs) (z : Config) (list : List Pass) (jobs : List Progress) (journal : List Commit)
    → AreInputs inputs → HaveRunOn inputs z list jobs → OthersMadeNothing (length inputs.scripts) z list
    → HasClosed z list journal
    → IsRun inputs z.leaves (outputs_with journal jobs) × LeavesRun inputs z.leaves (outputs_with journal jobs)
