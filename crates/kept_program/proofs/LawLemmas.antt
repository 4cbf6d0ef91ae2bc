-- Calls that are accepted, and of which no call of the desk or of the disk fails, end well.
use Rattle.std.proofs.Common.{◌≡◌, ℕ, ◌*◌, ◌<◌, ◌⊎◌, inl, inr, ⊎_elim, List, refl, sym, ◌∙◌, ap, subst}
use Rattle.std.specs.Prelude.{Option, Some, None}
use Rattle.graph_model.specs.declared.limits.TheConstants.{MAX_LEAVES, SPLIT_ROWS}
use Rattle.graph_model.specs.declared.write.Kind.{Kind}
use Rattle.graph_model.specs.declared.journal.Commit.{Commit}
use Rattle.desk_io.specs.Files.{Files, Rose}
use Rattle.journal_disk.specs.Disk.{DiskState}
use Rattle.command_words.specs.declared.refusal.WordsRefusal.{WordsRefusal}
use Rattle.command_words.specs.declared.refusal.WordsRefusal.TheVariants as word_refusals
use Rattle.command_words.specs.Words.{RunRequest, MakeRequest, RecoverRequest, Request, run, make, recover, IsTaken}
use Rattle.command_words.specs.Views.{RefusesWords}
use Rattle.command_words.proofs.WordLemmas.{taken_once}
use Rattle.kept_run.specs.SourceRun.Requests.{kind_of}
use Rattle.kept_run.specs.SourceRun.Input.{Meaning, texts_of, IsAccepted, inputs_of}
use Rattle.kept_run.specs.SourceRun.Leaves.{most_rows}
use Rattle.kept_run.specs.TeseoProgramDeclared.left.Left.{Left}
use Rattle.kept_run.specs.TeseoProgramDeclared.outcome.Outcome.{Outcome}
use Rattle.kept_run.specs.TeseoProgramDeclared.outcome.Outcome.TheVariants as ends
use Rattle.kept_run.specs.TeseoProgram.Outcomes.{status_of, outcome_of_words, IsRunOutcome, IsMakeOutcome}
use Rattle.kept_run.specs.TeseoProgram.Laws.{AreTold, Stands, HasNoFault}
use Rattle.kept_run.proofs.TeseoProgram.LawLemmas.{end_well, graphs_made, stands_still}
use Rattle.kept_run.proofs.TeseoProgram.EndLemmas.{room_ends_well}
use Rattle.kept_run.proofs.TeseoProgram.NamedLemmas.{faulty_named, long_named}
use Rattle.desk_io.specs.declared.sources.ReadStop.TheVariants as stops
use Rattle.kept_run.specs.RunKeeper.Keeping.{acknowledged_on}
use Rattle.kept_program.specs.declared.outcome.KeptOutcome.{KeptOutcome}
use Rattle.kept_program.specs.declared.outcome.KeptOutcome.TheVariants.{Of, NotMade, NotKept, NotAJournal, NotRecovered}
use Rattle.kept_program.specs.Outcomes.{kept_status, RunEnds, RecoverEnds, IsRecovery, Ends, IsEnd, IsUntaken}
use Rattle.kept_program.specs.Laws.{IsFaultlessEnd, AcceptedCallsEndWell, CallsWithRoomEndWell, CallsMakeGraphs, FaultySourcesAreTold, LongSourcesAreTold, FilesAreRecovered}

-- ---- words that are taken

refused_status : (words : List (List ℕ)) (request : Request) → IsTaken words request → (refusal : WordsRefusal) → RefusesWords words refusal → status_of (outcome_of_words refusal) ≡ 3
refused_status words request taken word_refusals.BadWords never = absurd (never (request, taken))
refused_status words request taken word_refusals.NoMemory never = refl

-- the call ends as what the words ask for, or memory for the words is wanted
module _ {D : Type 0} (moment : D → ℕ) (may_leave : D → List ℕ → Type 0) (left_since : D → ℕ → List ℕ → Type 0) (request : Request) (outcome : KeptOutcome) (old new : Files)
    (is : IsFaultlessEnd moment may_leave left_since request outcome old new) where
  pub asked_ends : (kept_status outcome ≡ 3) ⊎ Ends (acknowledged_on moment may_leave left_since is.now) outcome request old new is.left is.left' is.disk is.disk'
  asked_ends = ⊎_elim
      (λ untaken. inl (ap kept_status untaken.outcome_is ∙ refused_status is.words request is.taken untaken.refusal untaken.refused))
      (λ taken. inr (subst (λ asked. Ends (acknowledged_on moment may_leave left_since is.now) outcome asked old new is.left is.left' is.disk is.disk')
      (taken_once is.words taken.0 request taken.1 is.taken) taken.2))
      is.is_end

-- ---- runs

module _ (acknowledged : Kind → List Commit → ℕ → Type 0) (request : RunRequest) (old new : Files) (left left' : Left) (disk disk' : DiskState) (stands : Stands disk.faults disk'.faults) where
  -- a run without a fault of the disk ends as one whose commits aren't kept
  plain_end : (keep : Option (List ℕ)) (outcome : KeptOutcome) → RunEnds acknowledged keep outcome request old new left left' disk disk'
      → (plain : Outcome) × (outcome ≡ Of plain) × IsRunOutcome plain request old new left left'
  plain_end None (Of outcome) is = (outcome, refl, is.0)
  plain_end None NotMade is = absurd is.0
  plain_end None NotKept is = absurd is.0
  plain_end None NotAJournal is = absurd is.0
  plain_end None NotRecovered is = absurd is.0
  plain_end (Some name) (Of outcome) is = (outcome, refl, is.run_ends)
  plain_end (Some name) NotMade is = absurd (stands_still disk.faults disk'.faults stands is.0.rose)
  plain_end (Some name) NotKept is = absurd (stands_still disk.faults disk'.faults stands is.0.rose)
  plain_end (Some name) NotAJournal is = absurd is
  plain_end (Some name) NotRecovered is = absurd is

module _ {D : Type 0} (moment : D → ℕ) (may_leave : D → List ℕ → Type 0) (left_since : D → ℕ → List ℕ → Type 0) where
  pub calls_end_well : AcceptedCallsEndWell moment may_leave left_since
  calls_end_well outcome request sources m old new told accepted is = ⊎_elim
      (λ three. inr (inr three))
      (λ asked.
      (let (plain, same, ends) = plain_end (acknowledged_on moment may_leave left_since is.now) request old new is.left is.left' is.disk is.disk' is.stands request.keep outcome asked in
      subst (λ o. (kept_status o ≡ 0) ⊎ ((kept_status o ≡ 6) ⊎ (kept_status o ≡ 3))) (sym same)
      (⊎_elim (λ done. inl (ap status_of done)) (λ rest. inr rest) (end_well plain request sources m old new told accepted is.no_fault is.left is.left' ends))))
      (asked_ends moment may_leave left_since (run request) outcome old new is)

  pub roomy_calls_end_well : CallsWithRoomEndWell moment may_leave left_since
  roomy_calls_end_well outcome request sources m old new unstated told accepted few is = ⊎_elim
      (λ three. inr three)
      (λ asked.
      (let (plain, same, ends) = plain_end (acknowledged_on moment may_leave left_since is.now) request old new is.left is.left' is.disk is.disk' is.stands request.keep outcome asked in
      subst (λ o. (kept_status o ≡ 0) ⊎ (kept_status o ≡ 3)) (sym same)
      (room_ends_well plain request sources m old new unstated told accepted few is.no_fault is.left is.left' ends)))
      (asked_ends moment may_leave left_since (run request) outcome old new is)

  -- ---- sources that are refused

  pub faulty_told : FaultySourcesAreTold moment may_leave left_since
  faulty_told outcome request sources place fault old new told refused is = ⊎_elim
      (λ three. inr three)
      (λ asked.
      (let (plain, same, ended) = plain_end (acknowledged_on moment may_leave left_since is.now) request old new is.left is.left' is.disk is.disk' is.stands request.keep outcome asked in
      subst (λ o. (o ≡ Of (ends.NotAccepted place fault)) ⊎ (kept_status o ≡ 3)) (sym same)
      (⊎_elim (λ named. inl (ap Of named)) (λ three. inr three) (faulty_named plain request sources place fault old new told refused is.no_fault.reads is.left is.left' ended))))
      (asked_ends moment may_leave left_since (run request) outcome old new is)

  pub long_told : LongSourcesAreTold moment may_leave left_since
  long_told outcome request place before name bytes old new told there is_long is = ⊎_elim
      (λ three. inr three)
      (λ asked.
      (let (plain, same, ended) = plain_end (acknowledged_on moment may_leave left_since is.now) request old new is.left is.left' is.disk is.disk' is.stands request.keep outcome asked in
      subst (λ o. (o ≡ Of (ends.NotRead (stops.TooLong place))) ⊎ (kept_status o ≡ 3)) (sym same)
      (⊎_elim (λ named. inl (ap Of named)) (λ three. inr three) (long_named plain request place before name bytes old new told there is_long is.no_fault.reads is.left is.left' ended))))
      (asked_ends moment may_leave left_since (run request) outcome old new is)

  -- ---- graphs

  made_well : (outcome : KeptOutcome) (request : MakeRequest) (old new : Files) (left left' : Left) (disk disk' : DiskState) (acknowledged : Kind → List Commit → ℕ → Type 0) → HasNoFault old new
      → Ends acknowledged outcome (make request) old new left left' disk disk' → (kept_status outcome ≡ 0) ⊎ (kept_status outcome ≡ 3)
  made_well (Of outcome) request old new left left' disk disk' acknowledged no_fault is =
      ⊎_elim (λ done. inl (ap status_of done)) (λ three. inr three) (graphs_made outcome request old new no_fault is.0)
  made_well NotMade request old new left left' disk disk' acknowledged no_fault is = absurd is.0
  made_well NotKept request old new left left' disk disk' acknowledged no_fault is = absurd is.0
  made_well NotAJournal request old new left left' disk disk' acknowledged no_fault is = absurd is.0
  made_well NotRecovered request old new left left' disk disk' acknowledged no_fault is = absurd is.0

  pub calls_make_graphs : CallsMakeGraphs moment may_leave left_since
  calls_make_graphs outcome request old new is = ⊎_elim
      (λ three. inr three)
      (λ asked. made_well outcome request old new is.left is.left' is.disk is.disk' (acknowledged_on moment may_leave left_since is.now) is.no_fault asked)
      (asked_ends moment may_leave left_since (make request) outcome old new is)

  -- ---- journal files

  -- a text that is written without a fault is written whole
  recovery_done : (outcome : Outcome) (request : RecoverRequest) (old new : Files) (disk : DiskState) → HasNoFault old new → IsRecovery outcome request old new disk → status_of outcome ≡ 0
  recovery_done ends.Done request old new disk no_fault is = refl
  recovery_done ends.Full request old new disk no_fault is = let no = is.writes.0 in cc
  recovery_done ends.LoadFull request old new disk no_fault is = absurd is.writes
  recovery_done ends.BadWords request old new disk no_fault is = absurd is.writes
  recovery_done (ends.NotRead stop) request old new disk no_fault is = absurd is.writes
  recovery_done (ends.NotAccepted place fault) request old new disk no_fault is = absurd is.writes
  recovery_done ends.NoMemory request old new disk no_fault is = absurd is.writes
  recovery_done (ends.NotWritten stop) request old new disk no_fault is =
      let kept : new.write_faults ≡ is.before.write_faults = ap (λ f. f.write_faults) is.says.rest in
      absurd (stands_still old.write_faults new.write_faults no_fault.writes (subst (Rose old.write_faults) (sym kept) is.writes.2.rose))

  recovered_well : (outcome : KeptOutcome) (request : RecoverRequest) (old new : Files) (disk disk' : DiskState) → HasNoFault old new → Stands disk.faults disk'.faults → RecoverEnds outcome request old new disk disk'
      → (kept_status outcome ≡ 0) ⊎ ((kept_status outcome ≡ 1) ⊎ (kept_status outcome ≡ 3))
  recovered_well (Of outcome) request old new disk disk' no_fault stands is =
      ⊎_elim (λ written. inl (recovery_done outcome request old new disk no_fault written)) (λ wants. inr (inr (ap status_of wants.0))) is.0
  recovered_well NotAJournal request old new disk disk' no_fault stands is = inr (inl refl)
  recovered_well NotRecovered request old new disk disk' no_fault stands is = absurd (stands_still disk.faults disk'.faults stands is.0)
  recovered_well NotMade request old new disk disk' no_fault stands is = absurd is
  recovered_well NotKept request old new disk disk' no_fault stands is = absurd is

  pub files_recovered : FilesAreRecovered moment may_leave left_since
  files_recovered outcome request old new is = ⊎_elim
      (λ three. inr (inr three))
      (λ asked. recovered_well outcome request old new is.disk is.disk' is.no_fault is.stands asked.0)
      (asked_ends moment may_leave left_since (recover request) outcome old new is)
