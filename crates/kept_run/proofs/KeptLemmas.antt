-- A run whose commits are kept on a graph of the kind that is asked for, and why it came to no end.
use Rattle.std.proofs.Common.{◌≡◌, ℕ, ◌+◌, ◌≤◌, List, [], ◌∷◌, ◌++◌, length, refl, sym, ◌∙◌, subst, arith}
use Rattle.graph_model.specs.declared.write.Kind.{Kind}
use Rattle.graph_model.specs.declared.write.Write.{Write}
use Rattle.graph_model.specs.declared.journal.Commit.{Commit}
use Rattle.graph_model.specs.declared.load.LoadRefusal.{LoadRefusal}
use Rattle.graph_model.specs.declared.load.LoadRefusal.TheVariants as loads
use Rattle.graphalytics_io.specs.declared.edges.Edge.{Edge}
use Rattle.graph_model.specs.OwnerCalls.{Core}
use Rattle.run_model.specs.Inputs.{Inputs, AreInputs}
use Rattle.run_model.specs.Jobs.{first_state, load_journal}
use Rattle.run_model.specs.UnderWay.{IsUnderWay}
use Rattle.run_model.proofs.SteppedLemmas.{first_is}
use Rattle.run_keeper.specs.JobRunner.Progress.{Progress}
use Rattle.run_keeper.specs.JobRunner.Runs.{AreNew}
use Rattle.journal_disk.specs.Disk.{DiskState}
use Rattle.run_keeper.specs.JournalFileDeclared.file.JournalFile.{JournalFile}
use Rattle.run_keeper.specs.declared.keeper.KeepRefusal.{KeepRefusal}
use Rattle.run_keeper.specs.declared.keeper.KeepRefusal.TheVariants as keeps
use Rattle.run_keeper.specs.Keeping.{IsKept, AreAcknowledged, acknowledged_on, KeepsSoFar, StopsSoFar}
use Rattle.run_keeper.specs.Refusals.{Stops}
use Rattle.run_keeper.proofs.KeptLemmas.{acknowledged_longer}
use Rattle.teseo_program.specs.Running.{IsRefusedLoad}
use Rattle.kept_run.specs.Refusals.{of_load, of_keep, IsRefusedKept}

module _ {D : Type 0} (moment : D → ℕ) (may_leave : D → List ℕ → Type 0) (left_since : D → ℕ → List ℕ → Type 0) (state : D → DiskState) (kind : Kind) (old : JournalFile) (before : D) where
  -- of a file with no commit none is lost, and the run has its load
  pub nothing_lost : (inputs : Inputs) (leaves : ℕ) (schedule : List ℕ) → AreInputs inputs → inputs.kind ≡ kind → IsKept moment may_leave left_since state kind [] old before
      → KeepsSoFar (acknowledged_on moment may_leave left_since before) inputs leaves schedule old.count
  nothing_lost inputs leaves schedule given same kept =
      let first : IsUnderWay inputs leaves (first_state inputs) = first_is inputs leaves given in
      let acknowledged : AreAcknowledged moment may_leave left_since kind (load_journal inputs.load) 0 before =
      acknowledged_longer moment may_leave left_since kind [] (load_journal inputs.load) 0 before (omega arith) kept.acknowledged in
      record {
        journal = load_journal inputs.load;
        so_far = record { turns = 0; state = first_state inputs; reached = refl; shown = refl; legal = first.transactions.legal; loaded = first.loaded };
        one_more = short inputs.load;
        kept = subst (λ k. AreAcknowledged moment may_leave left_since k (load_journal inputs.load) old.count before) (sym same)
            (subst (λ n. AreAcknowledged moment may_leave left_since kind (load_journal inputs.load) n before) (sym kept.settled.count) acknowledged);
      }
    where
      short : (load : List Write) → length (load_journal load) ≤ old.count + 1
      short [] = omega arith
      short (w ∷ ws) = omega arith

  -- the graph of the engine is of the kind that is asked for
  module _ (engine_kind : Kind) (same : engine_kind ≡ kind) (loaded journal : List Commit) (new : JournalFile) (now : D) where
    -- all commits are kept that the engine's journal has in the end
    pub kept_of_kind : ((commits rest : List Commit) → loaded ≡ commits ++ rest → IsKept moment may_leave left_since state engine_kind commits old before
        → IsKept moment may_leave left_since state engine_kind journal new now)
        → IsKept moment may_leave left_since state kind [] old before → (left : List Commit) → left ≡ journal → IsKept moment may_leave left_since state kind left new now
    kept_of_kind keeps before_kept left is =
        subst (λ commits. IsKept moment may_leave left_since state kind commits new now) (sym is)
        (subst (λ k. IsKept moment may_leave left_since state k journal new now) same
        (keeps [] loaded refl (subst (λ k. IsKept moment may_leave left_since state k [] old before) (sym same) before_kept)))

  -- and what was acknowledged stays so where one isn't kept
  pub still_of_kind : (inputs : Inputs) (engine : Core) (jobs : List Progress) (leaves : ℕ) (schedule listed : List ℕ) (after : List Commit) (new : JournalFile) (now : D) → inputs.kind ≡ kind → engine.leaves ≡ leaves → listed ≡ schedule → AreNew inputs engine jobs
      → ((given : Inputs) (commits rest : List Commit) → AreNew given engine jobs → engine.journal ≡ commits ++ rest → IsKept moment may_leave left_since state engine.kind commits old before
      → StopsSoFar (acknowledged_on moment may_leave left_since now) given engine.leaves listed new.count after)
      → IsKept moment may_leave left_since state kind [] old before → KeepsSoFar (acknowledged_on moment may_leave left_since now) inputs leaves schedule new.count
  still_of_kind inputs engine jobs leaves schedule listed after new now same leaves_are listed_is are still before_kept =
      let stops = still inputs [] engine.journal are refl (subst (λ k. IsKept moment may_leave left_since state k [] old before) (sym (are.kind ∙ same)) before_kept) in
      subst (λ s. KeepsSoFar (acknowledged_on moment may_leave left_since now) inputs leaves s new.count) listed_is
      (subst (λ l. KeepsSoFar (acknowledged_on moment may_leave left_since now) inputs l listed new.count) leaves_are stops.0)

-- a load that is refused calls no disk
pub load_refused : (kind : Kind) (leaves : ℕ) (ids : List ℕ) (edges : List Edge) (d : DiskState) (refusal : LoadRefusal) → IsRefusedLoad kind leaves ids edges refusal → IsRefusedKept kind leaves ids edges d d (of_load refusal)
load_refused kind leaves ids edges d (loads.Full full) refused = (refused, refl)
load_refused kind leaves ids edges d loads.NoMemory refused = refl

-- a commit isn't kept where the disk fails, or memory is wanted
pub keep_refused : (kind : Kind) (leaves : ℕ) (ids : List ℕ) (edges : List Edge) (old new : DiskState) (refusal : KeepRefusal) → Stops old new refusal → IsRefusedKept kind leaves ids edges old new (of_keep refusal)
keep_refused kind leaves ids edges old new keeps.DiskFault stops = stops
keep_refused kind leaves ids edges old new keeps.NoMemory stops = stops
