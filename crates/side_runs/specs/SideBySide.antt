-- What a store of many passes shows when it is closed, beside the scripts that ran on it.
use Rattle.std.specs.Prelude.{◌≡◌, ℕ, zero, suc, ◌+◌, ◌*◌, ◌<◌, ◌≤◌, ◌⊎◌, true, List, [], ◌∷◌, ◌++◌, length, slice_get, Contains, Some, unwrap_or}
use Rattle.std.specs.List.{AllByRecursion, flat_map}
use Rattle.graph_model.specs.declared.limits.TheConstants.{SPLIT_ROWS}
use Rattle.graph_model.specs.declared.write.Kind.{Kind}
use Rattle.graph_model.specs.declared.write.Write.{Write}
use Rattle.graph_model.specs.declared.journal.Commit.{Commit}
use Rattle.graph_model.specs.Account.{Account, Sighting}
use Rattle.graph_model.specs.Conflict.{meets}
use Rattle.graph_model.specs.Inserted.{inserted}
use Rattle.graph_model.specs.Legal.{IsLegal}
use Rattle.run_model.specs.declared.command.Command.{Command}
use Rattle.run_model.specs.declared.answer.Answer.{Answer}
use Rattle.run_model.specs.declared.answer.Answer.TheVariants as answers
use Rattle.run_model.specs.Inputs.{Inputs, AreInputs, File, Outputs}
use Rattle.run_model.specs.AnsweredLines.{answered_lines, own_writes}
use Rattle.run_model.specs.Commands.{begun_by}
use Rattle.run_model.specs.Run.{load_stamp, IsRun}
use Rattle.side_runs.specs.ByAccount.{HasRunBy}

-- the writes of the transaction of this number; they are numbered from 1
abbrev pub made_at : List (List Write) → ℕ → List Write
made_at made zero = []
made_at made (suc place) = unwrap_or (slice_get made place) []

-- the lists of writes of a pass that has made a load, if there is any
abbrev pub made_by_load : List Write → List (List Write)
made_by_load [] = []
made_by_load (w ∷ ws) = (w ∷ ws) ∷ []

-- the transaction that was met made a clashing write, and its commit, if it has one, is later than the start
pub record IsMatched (kind : Kind) (passes : ℕ → Account) (journal : List Commit) (x : Sighting) : Type 0 where
  pub made : meets kind x.write (made_at (passes x.by.job).made x.by.number) ≡ true
  pub behind : (i : ℕ) (c : Commit) → slice_get journal i ≡ Some c → c.by ≡ x.by → x.start < c.stamp

abbrev pub sum_below : (ℕ → ℕ) → ℕ → ℕ
sum_below f zero = 0
sum_below f (suc n) = sum_below f n + f n

-- the rows that a pass may have inserted
abbrev pub inserted_by_pass : Kind → Account → ℕ
inserted_by_pass kind account = inserted kind (flat_map (λ ws. ws) account.made)

-- a script was answered the commit's stamp
abbrev pub WasAnswered : List (List Answer) → Commit → Type 0
WasAnswered reports c = (k : ℕ) × (report : List Answer) × (slice_get reports k ≡ Some report)
    × Contains report (answers.Committed (Some c.stamp))

-- Scripts that ran side by side, script k on pass k, and pass 0 for the load: by the accounts that the passes
-- were left with, and the journal of all
pub record HaveRunBy (inputs : Inputs) (leaves : ℕ) (passes : ℕ → Account) (outputs : Outputs) : Type 0 where
  pub reported : length outputs.reports ≡ length inputs.scripts
  pub filed : length outputs.files ≡ length inputs.scripts
  pub ran : (k : ℕ) (cs : List Command) (report : List Answer) (files : List File)
      → slice_get inputs.scripts k ≡ Some cs → slice_get outputs.reports k ≡ Some report
      → slice_get outputs.files k ≡ Some files
      → HasRunBy inputs.kind inputs.load (k + 1) cs report files (passes (k + 1))
  -- pass 0 made the load, and the passes behind those of the scripts made nothing
  pub loader : (passes 0).made ≡ made_by_load inputs.load
  pub outside : (p : ℕ) → length inputs.scripts < p → (passes p).made ≡ []
  -- the journal of all is legal, is seen by each pass up to some commit, and has the load, if that wrote something
  pub legal : IsLegal inputs.kind outputs.journal
  pub seen : (p : ℕ) → (rest : List Commit) × (outputs.journal ≡ (passes p).seen ++ rest)
  pub loaded : load_stamp inputs.load ≤ length outputs.journal
  -- each commit has what its pass made, and is of pass 0 or was answered to its pass
  pub made : (i : ℕ) (c : Commit) → slice_get outputs.journal i ≡ Some c
      → made_at (passes c.by.job).made c.by.number ≡ c.writes
  pub answered : (i : ℕ) (c : Commit)
      → slice_get outputs.journal i ≡ Some c → (c.by.job ≡ 0) ⊎ Contains (passes c.by.job).stamps c.stamp
  -- each transaction that was met is one, and a pass was answered `Full` only where the leaves may be full
  pub matched : (p : ℕ) → AllByRecursion (IsMatched inputs.kind passes outputs.journal) (passes p).sighted
  pub filled : (p : ℕ) → (passes p).filled ≡ true
      → SPLIT_ROWS * leaves ≤ sum_below (λ q. inserted_by_pass inputs.kind (passes q)) (length inputs.scripts + 1)

-- what scripts give that ran side by side is a run
abbrev pub RunsSideBySideAreRuns : Type 0
RunsSideBySideAreRuns = (inputs : Inputs) (leaves : ℕ) (passes : ℕ → Account) (outputs : Outputs)
    → AreInputs inputs → HaveRunBy inputs leaves passes outputs → IsRun inputs leaves outputs

-- a pass has begun all transactions of its script, and has made in each what its lines were answered that they wrote
pub record HasMade (account : Account) (cs : List Command) (report : List Answer) : Type 0 where
  pub begun : account.begun ≡ begun_by 0 cs
  pub count : length account.made ≡ account.begun
  pub made : (n : ℕ) → n < account.begun
      → slice_get account.made n ≡ Some (own_writes (suc n) (answered_lines cs report))

-- each pass has that ran beside the others
abbrev pub RunsSideBySideAreMade : Type 0
RunsSideBySideAreMade = (inputs : Inputs) (leaves : ℕ) (passes : ℕ → Account) (outputs : Outputs)
    → AreInputs inputs → HaveRunBy inputs leaves passes outputs
    → (k : ℕ) (cs : List Command) (report : List Answer)
    → slice_get inputs.scripts k ≡ Some cs → slice_get outputs.reports k ≡ Some report
    → HasMade (passes (k + 1)) cs report
