-- A run whose commits are kept ends as its outputs are written, or as its preparation stopped.
use Rattle.std.proofs.Common.{◌≡◌, ℕ, ◌*◌, ◌≤◌, List, [], length, refl, sym, ◌∙◌, ap, subst, arith, true, false, inl, inr}
use Rattle.std.specs.Prelude.{Bool, ◌⊎◌, None, Some}
use Rattle.graph_model.specs.declared.limits.TheConstants.{MAX_SOURCE_BYTES, SPLIT_ROWS}
use Rattle.graph_model.specs.declared.write.Kind.{Kind}
use Rattle.graph_model.specs.declared.journal.Commit.{Commit}
use Rattle.graph_model.specs.declared.load.LoadRefusal.TheVariants as loads
use Rattle.graph_model.specs.Inserted.{inserted}
use Rattle.graphalytics_io.specs.Load.{load_of}
use Rattle.desk_io.specs.Files.{Files, Rose}
use Rattle.desk_io.specs.Sources.{AreRead}
use Rattle.journal_disk.specs.Disk.{DiskState, FaultsStand, FaultsRise}
use Rattle.kept_run.specs.RunKeeper.Keeping.{IsJournalSoFar, KeepsSoFar}
use Rattle.kept_run.specs.declared.refusal.KeptRefusal.{KeptRefusal}
use Rattle.kept_run.specs.declared.refusal.KeptRefusal.TheVariants as stops
use Rattle.kept_run.specs.Refusals.{IsRefusedKept}
use Rattle.command_words.specs.Words.{RunRequest}
use Rattle.kept_run.specs.SourceRun.Requests.{source_names, report_names, kind_of}
use Rattle.kept_run.specs.SourceRunDeclared.ran.Ran.{Ran}
use Rattle.kept_run.specs.SourceRunDeclared.ran.Ran.TheVariants.{Stepped, Shared}
use Rattle.kept_run.specs.SourceRunDeclared.ran.RunResult.{RunResult}
use Rattle.kept_run.specs.SourceRun.Input.{Meaning, texts_of, IsAccepted, inputs_of}
use Rattle.kept_run.specs.SourceRun.Leaves.{leaves_for, most_rows}
use Rattle.kept_run.specs.SourceRun.Running.{run_outputs, journal_of, IsRunAs, IsLeftOf, HasCounts, IsRefusedLoad}
use Rattle.kept_run.specs.TeseoProgramDeclared.left.Left.{Left}
use Rattle.kept_run.specs.TeseoProgramDeclared.outcome.Outcome.{Outcome}
use Rattle.kept_run.specs.TeseoProgramDeclared.outcome.Outcome.TheVariants as ends
use Rattle.kept_run.specs.TeseoProgramDeclared.prepare.Prepared.{Prepared}
use Rattle.kept_run.specs.TeseoProgram.Outcomes.{said_text, shows_full, left_of, OnlySays, IsLeft, IsRunOutcome}
use Rattle.kept_run.specs.TeseoProgram.Prepared.{IsUnprepared, AreAccepted, IsMadeOf, IsPreparedOf, Writes, IsWritten}
use Rattle.kept_run.specs.TeseoProgram.Sinks.{sinks_of, summary_line}
use Rattle.kept_run.proofs.TeseoProgram.OutcomeLemmas.{written_ends, unprepared_ends}
use Rattle.kept_run.proofs.TeseoProgram.PreparedLemmas.{made_from, stopped_load, load_unprepared, prepared_of}
use Rattle.kept_program.specs.declared.outcome.KeptOutcome.{KeptOutcome}
use Rattle.kept_program.specs.declared.outcome.KeptOutcome.TheVariants.{Of, NotMade, NotKept, NotAJournal, NotRecovered}
use Rattle.kept_program.specs.Outcomes.{stop_text, blamed_by, outcome_of_stop, KeepsSome, HasStopped, Keeps, IsKeptRun, KeptRunEnds}
use Rattle.kept_program.specs.Prepared.{IsKeptMade, IsKeptPrepared, IsKeptStop, IsUnkept}

module _ (acknowledged : Kind → List Commit → ℕ → Type 0) (request : RunRequest) where
  -- ---- outputs that are written

  written_keeps : (journal : List Commit) (p : Prepared) (outcome : Outcome) (first old before : Files) (disk disk' : DiskState) → Writes p.is_full p.outputs outcome old before
      → acknowledged (kind_of request) journal (length journal) → Keeps acknowledged request first journal disk disk' outcome
  written_keeps journal p ends.Done first old before disk disk' writes all_kept = all_kept
  written_keeps journal p ends.Full first old before disk disk' writes all_kept = all_kept
  written_keeps journal p (ends.NotWritten stop) first old before disk disk' writes all_kept = all_kept
  written_keeps journal p ends.LoadFull first old before disk disk' writes all_kept = absurd writes
  written_keeps journal p ends.BadWords first old before disk disk' writes all_kept = absurd writes
  written_keeps journal p (ends.NotRead stop) first old before disk disk' writes all_kept = absurd writes
  written_keeps journal p (ends.NotAccepted place fault) first old before disk disk' writes all_kept = absurd writes
  written_keeps journal p ends.NoMemory first old before disk disk' writes all_kept = absurd writes

  -- what was prepared of a run whose commits are kept is written
  pub kept_ends : (name : List ℕ) (old : Files) (p : Prepared) → IsKeptPrepared acknowledged request old p → (outcome : Outcome) (kept new : Files) (left left' : Left) (disk disk' : DiskState)
      → kept ≡ old → IsWritten p outcome kept new → IsLeft outcome p.left left left' → FaultsStand disk disk' → KeptRunEnds acknowledged name (Of outcome) request old new left left' disk disk'
  unfolding written_ends
  kept_ends name old p is outcome kept new left left' disk disk' same written left_is stand = record {
    run_ends = written_ends request old p is.prepared outcome kept new left left' same written left_is;
    stand = stand;
    keeps = written_keeps is.prepared.run.journal p outcome old kept written.before disk disk' written.writes is.all_kept;
  }

  -- ---- nothing that is written

  unprepared_keeps : (journal : List Commit) (outcome : Outcome) (old before : Files) (disk disk' : DiskState) → IsUnprepared request old before outcome
      → HasStopped acknowledged request old disk disk' → Keeps acknowledged request old journal disk disk' outcome
  unprepared_keeps journal ends.Done old before disk disk' stopped has = absurd stopped
  unprepared_keeps journal ends.Full old before disk disk' stopped has = absurd stopped
  unprepared_keeps journal (ends.NotWritten stop) old before disk disk' stopped has = absurd stopped
  unprepared_keeps journal ends.LoadFull old before disk disk' stopped has = has
  unprepared_keeps journal ends.BadWords old before disk disk' stopped has = has
  unprepared_keeps journal (ends.NotRead stop) old before disk disk' stopped has = has
  unprepared_keeps journal (ends.NotAccepted place fault) old before disk disk' stopped has = has
  unprepared_keeps journal ends.NoMemory old before disk disk' stopped has = has

  -- nothing was prepared of a run whose commits are kept
  pub unkept_ends : (name source : List ℕ) (old before new : Files) (left : Left) (disk disk' : DiskState) (outcome : KeptOutcome) → IsUnkept acknowledged request old before disk disk' outcome
      → source ≡ blamed_by (source_names request) outcome → OnlySays (stop_text source name outcome) before new → KeptRunEnds acknowledged name outcome request old new left left disk disk'
  unkept_ends name source old before new left disk disk' (Of outcome) stopped is says =
      let run_ends : IsRunOutcome outcome request old new left left = unprepared_ends request old outcome before new left source stopped.0 is says in
      record {
        run_ends = run_ends;
        stand = stopped.1;
        keeps = unprepared_keeps run_ends.made.run.journal outcome old before disk disk' stopped.0 stopped.2;
      }
  unkept_ends name source old before new left disk disk' NotMade (m, accepted, same, rose) is says =
      (record { m = m; accepted = accepted; rose = rose; says = subst (λ files. OnlySays (stop_text source name NotMade) files new) same says }, refl)
  unkept_ends name source old before new left disk disk' NotKept (m, accepted, same, rose, some) is says =
      (record { m = m; accepted = accepted; rose = rose; says = subst (λ files. OnlySays (stop_text source name NotKept) files new) same says }, refl, some)
  unkept_ends name source old before new left disk disk' NotAJournal stopped is says = stopped
  unkept_ends name source old before new left disk disk' NotRecovered stopped is says = stopped

  -- ---- what was made

  -- sources that weren't read or accepted are found before the file is made
  pub unread : (old new : Files) (disk : DiskState) (outcome : Outcome) → IsUnprepared request old new outcome → IsUnkept acknowledged request old new disk disk (Of outcome)
  unread old new disk outcome stopped = (stopped, refl, inl refl)

  -- the file wasn't made
  pub unmade : (old new : Files) (disk disk' : DiskState) (m : Meaning) → AreAccepted request old m → new ≡ old → FaultsRise disk disk' → IsUnkept acknowledged request old new disk disk' NotMade
  unmade old new disk disk' m accepted same rose = (m, accepted, same, rose)

  -- what was made of what the sources stand for is prepared
  pub kept_prepared : (files : Files) (m : Meaning) (p : Prepared) → AreAccepted request files m → IsKeptMade acknowledged request m p → IsKeptPrepared acknowledged request files p
  unfolding prepared_of
  kept_prepared files m p (sources, read, accepted) is =
      record { prepared = prepared_of request files sources m p read accepted is.made; all_kept = is.all_kept }

  -- the file was made, and then the run stopped
  pub stopped_behind : (old new : Files) (m : Meaning) (disk made disk' : DiskState) (refusal : KeptRefusal) (outcome : KeptOutcome) → outcome ≡ outcome_of_stop refusal → AreAccepted request old m → new ≡ old
      → FaultsStand disk made → IsKeptStop request m made disk' refusal → KeepsSome acknowledged request m → IsUnkept acknowledged request old new disk disk' outcome
  stopped_behind old new m disk made disk' (stops.Full full) outcome is accepted same stand (heavy, stands) some =
      let (sources, read, meant) = accepted in
      subst (IsUnkept acknowledged request old new disk disk') (sym is) ((((sources, read, m, meant, heavy), same), stands ∙ stand, inr (m, accepted, some)))
  stopped_behind old new m disk made disk' stops.NoMemory outcome is accepted same stand stands some =
      subst (IsUnkept acknowledged request old new disk disk') (sym is) (same, stands ∙ stand, inr (m, accepted, some))
  stopped_behind old new m disk made disk' stops.DiskFault outcome is accepted same stand rose some =
      subst (IsUnkept acknowledged request old new disk disk') (sym is) (m, accepted, same, subst (λ n. Rose n disk'.faults) stand rose, some)

-- ---- what the run left

module _ (request : RunRequest) (m : Meaning) (kind : Kind) (leaves : ℕ) (is : kind ≡ kind_of request) (leaves_are : leaves ≡ leaves_for request.leaves (most_rows (inputs_of kind m))) where
  -- the texts are of a run by turns, whose commits are kept
  pub kept_made : (acknowledged : Kind → List Commit → ℕ → Type 0) (p : Prepared) (r : RunResult) (commits : ℕ) → request.threads ≡ None → request.is_serial ≡ false
      → IsRunAs false (inputs_of kind m) leaves (run_outputs r) → IsLeftOf None false (inputs_of kind m) leaves m.schedule (run_outputs r) r.ran → HasCounts kind (journal_of r.ran) r.totals → commits ≡ length (journal_of r.ran)
      → p.outputs ≡ sinks_of request.journal (report_names request) (run_outputs r) → p.summary ≡ summary_line commits r.totals → shows_full (run_outputs r) ≡ p.is_full → p.left ≡ left_of r.ran
      → acknowledged kind (journal_of r.ran) (length (journal_of r.ran)) → IsKeptMade acknowledged request m p
  unfolding made_from
  kept_made acknowledged p r commits by_turns plain run left counts counted outputs summary full left_is all_kept = record {
    made = made_from request m p r kind leaves commits is leaves_are
        (subst (λ b. IsRunAs b (inputs_of kind m) leaves (run_outputs r)) (sym plain) run)
        (subst (λ n. IsLeftOf n request.is_serial (inputs_of kind m) leaves m.schedule (run_outputs r) r.ran) (sym by_turns)
        (subst (λ b. IsLeftOf None b (inputs_of kind m) leaves m.schedule (run_outputs r) r.ran) (sym plain) left))
        counts counted outputs summary full left_is;
    all_kept = subst (λ k. acknowledged k (journal_of r.ran) (length (journal_of r.ran))) is all_kept;
  }

  -- the run came to no end
  pub kept_stop : (disk disk' : DiskState) (refusal : KeptRefusal) → IsRefusedKept kind leaves m.ids m.edges disk disk' refusal → IsKeptStop request m disk disk' refusal
  kept_stop disk disk' (stops.Full full) (heavy, stand) = (stopped_load request m kind leaves (loads.Full full) is leaves_are heavy, stand)
  kept_stop disk disk' stops.NoMemory stand = stand
  kept_stop disk disk' stops.DiskFault rose = rose

  -- what is kept of the run is kept of what was asked for
  pub kept_some : (acknowledged : Kind → List Commit → ℕ → Type 0) (count : ℕ) → KeepsSoFar acknowledged (inputs_of kind m) leaves m.schedule count → KeepsSome acknowledged request m
  kept_some acknowledged count keeps = (
    count,
    subst (λ k. KeepsSoFar acknowledged (inputs_of k m) (leaves_for request.leaves (most_rows (inputs_of k m))) m.schedule count) is
        (subst (λ n. KeepsSoFar acknowledged (inputs_of kind m) n m.schedule count) leaves_are keeps),
  )

  -- all is kept of a run that was over when memory was wanted for its texts
  pub kept_whole : (acknowledged : Kind → List Commit → ℕ → Type 0) (r : RunResult) → IsRunAs false (inputs_of kind m) leaves (run_outputs r) → IsLeftOf None false (inputs_of kind m) leaves m.schedule (run_outputs r) r.ran
      → acknowledged kind (journal_of r.ran) (length (journal_of r.ran)) → KeepsSome acknowledged request m
  kept_whole acknowledged r run left all_kept = kept_some acknowledged (length (journal_of r.ran)) (record {
    journal = journal_of r.ran;
    so_far = by_turns r.ran left;
    one_more = omega arith;
    kept = all_kept;
  })
    where
      by_turns : (ran : Ran) → IsLeftOf None false (inputs_of kind m) leaves m.schedule (run_outputs r) ran → IsJournalSoFar (inputs_of kind m) leaves m.schedule (journal_of r.ran)
      by_turns (Stepped ran) is_left =
          record { turns = is_left.stepped.turns; state = is_left.stepped.last; reached = is_left.stepped.reached; shown = sym is_left.stepped.journal; legal = run.legal; loaded = run.loaded }
      by_turns (Shared ran) is_left = absurd is_left
