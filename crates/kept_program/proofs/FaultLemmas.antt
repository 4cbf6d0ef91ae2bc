-- What a status tells of the calls that failed, and of what was created.
use Rattle.std.proofs.Common.{◌≡◌, ℕ, ◌≤◌, ◌⊎◌, inl, inr, ⊎_elim, List, [], ◌∷◌, refl, sym, ◌∙◌, ap, subst, arith}
use Rattle.std.specs.Prelude.{false, Option, Some, None}
use Rattle.graph_model.specs.declared.write.Kind.{Kind}
use Rattle.graph_model.specs.declared.journal.Commit.{Commit}
use Rattle.desk_io.specs.Files.{Files, Rose}
use Rattle.desk_io.specs.Outputs.{NamedText, WritesAll, FailsAtPlace}
use Rattle.desk_io.specs.declared.sources.ReadStop.TheVariants as reads
use Rattle.journal_disk.specs.Disk.{DiskState, FaultsStand, FaultsRise}
use Rattle.command_words.specs.declared.refusal.WordsRefusal.{WordsRefusal}
use Rattle.command_words.specs.declared.refusal.WordsRefusal.TheVariants as word_refusals
use Rattle.command_words.specs.Words.{RunRequest, MakeRequest, RecoverRequest, Request, run, make, recover, IsTaken}
use Rattle.command_words.specs.Views.{RefusesWords}
use Rattle.kept_run.specs.TeseoProgramDeclared.left.Left.{Left}
use Rattle.kept_run.specs.TeseoProgramDeclared.outcome.Outcome.{Outcome}
use Rattle.kept_run.specs.TeseoProgramDeclared.outcome.Outcome.TheVariants.{Done, Full, LoadFull, BadWords, NotRead, NotAccepted, NoMemory, NotWritten}
use Rattle.kept_run.specs.TeseoProgram.Outcomes.{status_of, outcome_of_words, OnlySays, IsRunOutcome, IsMakeOutcome}
use Rattle.kept_run.specs.TeseoProgram.Prepared.{Writes}
use Rattle.kept_program.specs.declared.outcome.KeptOutcome.{KeptOutcome}
use Rattle.kept_program.specs.declared.outcome.KeptOutcome.TheVariants.{Of, NotMade, NotKept, NotAJournal, NotRecovered}
use Rattle.kept_program.specs.Outcomes.{kept_status, RunEnds, RecoverEnds, IsRecovery, Ends, IsEnd, TellsFaults, CreatesNothing}
use Rattle.kept_run.specs.RunKeeper.Keeping.{acknowledged_on}
use Rattle.kept_program.specs.Laws.{TellsBadWords, BadWordsAreTold}

-- ---- statuses differ

apart_0_4 : ◌≡◌ {A = ℕ} 0 4 → ⊥
apart_0_4 e = omega (arith, e)

apart_0_5 : ◌≡◌ {A = ℕ} 0 5 → ⊥
apart_0_5 e = omega (arith, e)

apart_6_4 : ◌≡◌ {A = ℕ} 6 4 → ⊥
apart_6_4 e = omega (arith, e)

apart_6_5 : ◌≡◌ {A = ℕ} 6 5 → ⊥
apart_6_5 e = omega (arith, e)

apart_1_4 : ◌≡◌ {A = ℕ} 1 4 → ⊥
apart_1_4 e = omega (arith, e)

apart_1_5 : ◌≡◌ {A = ℕ} 1 5 → ⊥
apart_1_5 e = omega (arith, e)

apart_2_4 : ◌≡◌ {A = ℕ} 2 4 → ⊥
apart_2_4 e = omega (arith, e)

apart_2_5 : ◌≡◌ {A = ℕ} 2 5 → ⊥
apart_2_5 e = omega (arith, e)

apart_3_4 : ◌≡◌ {A = ℕ} 3 4 → ⊥
apart_3_4 e = omega (arith, e)

apart_3_5 : ◌≡◌ {A = ℕ} 3 5 → ⊥
apart_3_5 e = omega (arith, e)

apart_5_4 : ◌≡◌ {A = ℕ} 5 4 → ⊥
apart_5_4 e = omega (arith, e)

apart_4_5 : ◌≡◌ {A = ℕ} 4 5 → ⊥
apart_4_5 e = omega (arith, e)

apart_0_2 : ◌≡◌ {A = ℕ} 0 2 → ⊥
apart_0_2 e = omega (arith, e)

apart_6_2 : ◌≡◌ {A = ℕ} 6 2 → ⊥
apart_6_2 e = omega (arith, e)

apart_1_2 : ◌≡◌ {A = ℕ} 1 2 → ⊥
apart_1_2 e = omega (arith, e)

apart_3_2 : ◌≡◌ {A = ℕ} 3 2 → ⊥
apart_3_2 e = omega (arith, e)

apart_4_2 : ◌≡◌ {A = ℕ} 4 2 → ⊥
apart_4_2 e = omega (arith, e)

apart_5_2 : ◌≡◌ {A = ℕ} 5 2 → ⊥
apart_5_2 e = omega (arith, e)

five_above : 5 ≤ 4 → ⊥
five_above le = omega (arith, le)

-- ---- the desk

-- what a status tells of the desk alone
record DeskTells (status : ℕ) (old new : Files) : Type 0 where
  read_failed : status ≡ 4 → Rose old.read_faults new.read_faults
  write_failed : status ≡ 5 → Rose old.write_faults new.write_faults
  reads_stand : (status ≡ 4 → ⊥) → new.read_faults ≡ old.read_faults
  writes_stand : (status ≡ 5 → ⊥) → new.write_faults ≡ old.write_faults
  created : 1 ≤ status → status ≤ 4 → CreatesNothing old new

-- nothing failed
quiet : (status : ℕ) (old new : Files) → (status ≡ 4 → ⊥) → (status ≡ 5 → ⊥) → new.read_faults ≡ old.read_faults → new.write_faults ≡ old.write_faults → (1 ≤ status → status ≤ 4 → CreatesNothing old new) → DeskTells status old new
quiet status old new no_four no_five reads writes created = record {
  read_failed = λ e. absurd (no_four e);
  write_failed = λ e. absurd (no_five e);
  reads_stand = λ _. reads;
  writes_stand = λ _. writes;
  created = created;
}

-- nothing happened
still : (status : ℕ) (old new : Files) → (status ≡ 4 → ⊥) → (status ≡ 5 → ⊥) → new ≡ old → DeskTells status old new
still status old new no_four no_five same =
    quiet status old new no_four no_five (ap (λ f. f.read_faults) same) (ap (λ f. f.write_faults) same)
    (λ _ _. record { holds = ap (λ f. f.holds) same; written = ap (λ f. f.written) same })

-- all was written
whole : (status : ℕ) (outputs : List NamedText) (old new : Files) → (status ≡ 4 → ⊥) → (status ≡ 5 → ⊥) → (1 ≤ status → status ≤ 4 → ⊥) → WritesAll outputs old new → DeskTells status old new
whole status outputs old new no_four no_five out writes = quiet status old new no_four no_five writes.others.read_faults writes.write_faults (λ one four. absurd (out one four))

-- an output wasn't
unwritten : (outputs : List NamedText) (place : ℕ) (old new : Files) → FailsAtPlace outputs place old new → DeskTells 5 old new
unwritten outputs place old new fails = record {
  read_failed = λ e. absurd (apart_5_4 e);
  write_failed = λ _. fails.2.rose;
  reads_stand = λ _. fails.2.others.read_faults;
  writes_stand = λ no. absurd (no refl);
  created = λ one four. absurd (five_above four);
}

-- what is said at the end changes none of it
says_last : (status : ℕ) (text : List ℕ) (old before new : Files) → OnlySays text before new → DeskTells status old before → DeskTells status old new
says_last status text old before new says tells =
    let rest : new ≡ record before { said = new.said } = says.rest in
    record {
      read_failed = λ e. subst (Rose old.read_faults) (sym (ap (λ f. f.read_faults) rest)) (tells.read_failed e);
      write_failed = λ e. subst (Rose old.write_faults) (sym (ap (λ f. f.write_faults) rest)) (tells.write_failed e);
      reads_stand = λ no. ap (λ f. f.read_faults) rest ∙ tells.reads_stand no;
      writes_stand = λ no. ap (λ f. f.write_faults) rest ∙ tells.writes_stand no;
      created = λ one four. (let made = tells.created one four in record { holds = ap (λ f. f.holds) rest ∙ made.holds; written = ap (λ f. f.written) rest ∙ made.written });
    }

said_only : (status : ℕ) (text : List ℕ) (old new : Files) → (status ≡ 4 → ⊥) → (status ≡ 5 → ⊥) → OnlySays text old new → DeskTells status old new
said_only status text old new no_four no_five says = says_last status text old old new says (still status old old no_four no_five refl)

run_tells : (outcome : Outcome) (request : RunRequest) (old new : Files) (left left' : Left) → IsRunOutcome outcome request old new left left' → DeskTells (status_of outcome) old new
run_tells Done request old new left left' is = says_last 0 _ old is.before new is.says (whole 0 _ old is.before apart_0_4 apart_0_5 (λ one four. omega (arith, one)) is.cause.writes)
run_tells Full request old new left left' is = says_last 6 _ old is.before new is.says (whole 6 _ old is.before apart_6_4 apart_6_5 (λ one four. omega (arith, four)) is.cause.writes)
run_tells LoadFull request old new left left' is = says_last 6 _ old is.before new is.says (still 6 old is.before apart_6_4 apart_6_5 is.cause.1)
run_tells BadWords request old new left left' is = absurd is.cause
run_tells (NotRead (reads.Fault place)) request old new left left' is =
    let fails = is.cause.2 in
    let rest = fails.rest in
    says_last 4 _ old is.before new is.says (record {
      read_failed = λ _. fails.rose;
      write_failed = λ e. absurd (apart_4_5 e);
      reads_stand = λ no. absurd (no refl);
      writes_stand = λ _. ap (λ f. f.write_faults) rest;
      created = λ _ _. record { holds = ap (λ f. f.holds) rest; written = ap (λ f. f.written) rest };
    })
run_tells (NotRead (reads.TooLong place)) request old new left left' is = says_last 1 _ old is.before new is.says (still 1 old is.before apart_1_4 apart_1_5 is.cause.3)
run_tells (NotRead reads.NoMemory) request old new left left' is = says_last 3 _ old is.before new is.says (still 3 old is.before apart_3_4 apart_3_5 is.cause)
run_tells (NotAccepted place fault) request old new left left' is = says_last 1 _ old is.before new is.says (still 1 old is.before apart_1_4 apart_1_5 is.cause.1)
run_tells NoMemory request old new left left' is = says_last 3 _ old is.before new is.says (still 3 old is.before apart_3_4 apart_3_5 is.cause)
run_tells (NotWritten stop) request old new left left' is = says_last 5 _ old is.before new is.says (unwritten _ stop.place old is.before is.cause.1)

make_tells : (outcome : Outcome) (request : MakeRequest) (old new : Files) → IsMakeOutcome outcome request old new → DeskTells (status_of outcome) old new
make_tells Done request old new is = says_last 0 _ old is.before new is.says (whole 0 _ old is.before apart_0_4 apart_0_5 (λ one four. omega (arith, one)) is.cause)
make_tells Full request old new is = absurd is.cause
make_tells LoadFull request old new is = absurd is.cause
make_tells BadWords request old new is = absurd is.cause
make_tells (NotRead stop) request old new is = absurd is.cause
make_tells (NotAccepted place fault) request old new is = absurd is.cause
make_tells NoMemory request old new is = says_last 3 _ old is.before new is.says (still 3 old is.before apart_3_4 apart_3_5 is.cause)
make_tells (NotWritten stop) request old new is = says_last 5 _ old is.before new is.says (unwritten _ stop.place old is.before is.cause)

recovery_tells : (outcome : Outcome) (request : RecoverRequest) (old new : Files) (disk : DiskState) → IsRecovery outcome request old new disk → DeskTells (status_of outcome) old new
recovery_tells Done request old new disk is = says_last 0 _ old is.before new is.says (whole 0 _ old is.before apart_0_4 apart_0_5 (λ one four. omega (arith, one)) is.writes.1)
recovery_tells Full request old new disk is = let no = is.writes.0 in cc
recovery_tells LoadFull request old new disk is = absurd is.writes
recovery_tells BadWords request old new disk is = absurd is.writes
recovery_tells (NotRead stop) request old new disk is = absurd is.writes
recovery_tells (NotAccepted place fault) request old new disk is = absurd is.writes
recovery_tells NoMemory request old new disk is = absurd is.writes
recovery_tells (NotWritten stop) request old new disk is = says_last 5 _ old is.before new is.says (unwritten _ stop.place old is.before is.writes)

-- ---- the desk and the disk

-- what a status tells, and what was created
abbrev Tells : ℕ → Files → Files → DiskState → DiskState → Type 0
Tells status old new disk disk' = TellsFaults status old new disk disk' × (1 ≤ status → status ≤ 4 → CreatesNothing old new)

-- no call of the disk failed
disk_still : (status : ℕ) (old new : Files) (disk disk' : DiskState) → DeskTells status old new → FaultsStand disk disk' → Tells status old new disk disk'
disk_still status old new disk disk' tells stands = (
  record {
    read_failed = λ e. inl (tells.read_failed e);
    write_failed = λ e. inl (tells.write_failed e);
    reads_stand = tells.reads_stand;
    writes_stand = tells.writes_stand;
    disk_stands = λ _ _. stands;
  },
  tells.created,
)

-- one failed while the journal file was written
file_unwritten : (text : List ℕ) (old new : Files) (disk disk' : DiskState) → OnlySays text old new → FaultsRise disk disk' → Tells 5 old new disk disk'
file_unwritten text old new disk disk' says rose =
    let rest = says.rest in (
      record {
        read_failed = λ e. absurd (apart_5_4 e);
        write_failed = λ _. inr rose;
        reads_stand = λ _. ap (λ f. f.read_faults) rest;
        writes_stand = λ _. ap (λ f. f.write_faults) rest;
        disk_stands = λ _ no. absurd (no refl);
      },
      λ one four. absurd (five_above four),
    )

-- or while it was read
file_unread : (text : List ℕ) (old new : Files) (disk disk' : DiskState) → OnlySays text old new → FaultsRise disk disk' → Tells 4 old new disk disk'
file_unread text old new disk disk' says rose =
    let rest = says.rest in (
      record {
        read_failed = λ _. inr rose;
        write_failed = λ e. absurd (apart_4_5 e);
        reads_stand = λ _. ap (λ f. f.read_faults) rest;
        writes_stand = λ _. ap (λ f. f.write_faults) rest;
        disk_stands = λ no _. absurd (no refl);
      },
      λ _ _. record { holds = ap (λ f. f.holds) rest; written = ap (λ f. f.written) rest },
    )

same_faults : (disk disk' : DiskState) → disk' ≡ disk → FaultsStand disk disk'
same_faults disk disk' same = ap (λ d. d.faults) same

module _ (acknowledged : Kind → List Commit → ℕ → Type 0) (old new : Files) (left left' : Left) (disk disk' : DiskState) where
  run_end_tells : (keep : Option (List ℕ)) (outcome : KeptOutcome) (request : RunRequest) → RunEnds acknowledged keep outcome request old new left left' disk disk' → Tells (kept_status outcome) old new disk disk'
  run_end_tells None (Of outcome) request is = disk_still (status_of outcome) old new disk disk' (run_tells outcome request old new left left' is.0) (same_faults disk disk' is.1)
  run_end_tells None NotMade request is = absurd is.0
  run_end_tells None NotKept request is = absurd is.0
  run_end_tells None NotAJournal request is = absurd is.0
  run_end_tells None NotRecovered request is = absurd is.0
  run_end_tells (Some name) (Of outcome) request is = disk_still (status_of outcome) old new disk disk' (run_tells outcome request old new left left' is.run_ends) is.stand
  run_end_tells (Some name) NotMade request is = file_unwritten _ old new disk disk' is.0.says is.0.rose
  run_end_tells (Some name) NotKept request is = file_unwritten _ old new disk disk' is.0.says is.0.rose
  run_end_tells (Some name) NotAJournal request is = absurd is
  run_end_tells (Some name) NotRecovered request is = absurd is

  recover_tells : (outcome : KeptOutcome) (request : RecoverRequest) → RecoverEnds outcome request old new disk disk' → Tells (kept_status outcome) old new disk disk'
  recover_tells (Of outcome) request is = disk_still (status_of outcome) old new disk disk'
      (⊎_elim (λ written. recovery_tells outcome request old new disk written)
      (λ wants. subst (λ o. DeskTells (status_of o) old new) (sym wants.0) (said_only 3 _ old new apart_3_4 apart_3_5 wants.1)) is.0) is.1
  recover_tells NotAJournal request is = disk_still 1 old new disk disk' (said_only 1 _ old new apart_1_4 apart_1_5 is.1) is.0.1
  recover_tells NotRecovered request is = file_unread _ old new disk disk' is.1 is.0
  recover_tells NotMade request is = absurd is
  recover_tells NotKept request is = absurd is

  asked_tells : (outcome : KeptOutcome) (request : Request) → Ends acknowledged outcome request old new left left' disk disk' → Tells (kept_status outcome) old new disk disk'
  asked_tells outcome (run request) is = run_end_tells request.keep outcome request is
  asked_tells (Of outcome) (make request) is = disk_still (status_of outcome) old new disk disk' (make_tells outcome request old new is.0) (same_faults disk disk' is.2)
  asked_tells NotMade (make request) is = absurd is.0
  asked_tells NotKept (make request) is = absurd is.0
  asked_tells NotAJournal (make request) is = absurd is.0
  asked_tells NotRecovered (make request) is = absurd is.0
  asked_tells outcome (recover request) is = recover_tells outcome request is.0

  untaken_tells : (text : List ℕ) (refusal : WordsRefusal) → OnlySays text old new → FaultsStand disk disk' → Tells (status_of (outcome_of_words refusal)) old new disk disk'
  untaken_tells text word_refusals.BadWords says stands = disk_still 2 old new disk disk' (said_only 2 _ old new apart_2_4 apart_2_5 says) stands
  untaken_tells text word_refusals.NoMemory says stands = disk_still 3 old new disk disk' (said_only 3 _ old new apart_3_4 apart_3_5 says) stands

  -- a call's status tells what failed
  end_tells : (outcome : KeptOutcome) (words : List (List ℕ)) → IsEnd acknowledged outcome words old new left left' disk disk' → Tells (kept_status outcome) old new disk disk'
  end_tells outcome words is = ⊎_elim
      (λ untaken. subst (λ o. Tells (kept_status o) old new disk disk') (sym untaken.outcome_is) (untaken_tells _ untaken.refusal untaken.says (same_faults disk disk' untaken.same_disk)))
      (λ taken. asked_tells outcome taken.0 taken.2)
      is

  -- so does the number that is answered for it
  pub status_tells : (status : ℕ) (outcome : KeptOutcome) (words : List (List ℕ)) → status ≡ kept_status outcome → IsEnd acknowledged outcome words old new left left' disk disk' → Tells status old new disk disk'
  status_tells status outcome words same is = subst (λ s. Tells s old new disk disk') (sym same) (end_tells outcome words is)

  -- ---- bad words

  -- a call whose words are taken never says so
  run_words : (keep : Option (List ℕ)) (outcome : KeptOutcome) (request : RunRequest) → RunEnds acknowledged keep outcome request old new left left' disk disk' → kept_status outcome ≡ 2 → ⊥
  run_words keep (Of Done) request is e = apart_0_2 e
  run_words keep (Of Full) request is e = apart_6_2 e
  run_words keep (Of LoadFull) request is e = apart_6_2 e
  run_words None (Of BadWords) request is e = is.0.cause
  run_words (Some name) (Of BadWords) request is e = is.run_ends.cause
  run_words keep (Of (NotRead (reads.Fault place))) request is e = apart_4_2 e
  run_words keep (Of (NotRead (reads.TooLong place))) request is e = apart_1_2 e
  run_words keep (Of (NotRead reads.NoMemory)) request is e = apart_3_2 e
  run_words keep (Of (NotAccepted place fault)) request is e = apart_1_2 e
  run_words keep (Of NoMemory) request is e = apart_3_2 e
  run_words keep (Of (NotWritten stop)) request is e = apart_5_2 e
  run_words keep NotMade request is e = apart_5_2 e
  run_words keep NotKept request is e = apart_5_2 e
  run_words keep NotAJournal request is e = apart_1_2 e
  run_words keep NotRecovered request is e = apart_4_2 e

  make_words : (outcome : Outcome) (request : MakeRequest) → IsMakeOutcome outcome request old new → status_of outcome ≡ 2 → ⊥
  make_words Done request is e = apart_0_2 e
  make_words Full request is e = apart_6_2 e
  make_words LoadFull request is e = apart_6_2 e
  make_words BadWords request is e = is.cause
  make_words (NotRead stop) request is e = is.cause
  make_words (NotAccepted place fault) request is e = apart_1_2 e
  make_words NoMemory request is e = apart_3_2 e
  make_words (NotWritten stop) request is e = apart_5_2 e

  recovery_words : (outcome : Outcome) (request : RecoverRequest) → IsRecovery outcome request old new disk → status_of outcome ≡ 2 → ⊥
  recovery_words Done request is e = apart_0_2 e
  recovery_words Full request is e = apart_6_2 e
  recovery_words LoadFull request is e = apart_6_2 e
  recovery_words BadWords request is e = is.writes
  recovery_words (NotRead stop) request is e = is.writes
  recovery_words (NotAccepted place fault) request is e = apart_1_2 e
  recovery_words NoMemory request is e = apart_3_2 e
  recovery_words (NotWritten stop) request is e = apart_5_2 e

  recover_words : (outcome : KeptOutcome) (request : RecoverRequest) → RecoverEnds outcome request old new disk disk' → kept_status outcome ≡ 2 → ⊥
  recover_words (Of outcome) request is e = ⊎_elim
      (λ written. recovery_words outcome request written e)
      (λ wants. apart_3_2 (sym (ap status_of wants.0) ∙ e)) is.0
  recover_words NotMade request is e = apart_5_2 e
  recover_words NotKept request is e = apart_5_2 e
  recover_words NotAJournal request is e = apart_1_2 e
  recover_words NotRecovered request is e = apart_4_2 e

  asked_words : (outcome : KeptOutcome) (request : Request) → Ends acknowledged outcome request old new left left' disk disk' → kept_status outcome ≡ 2 → ⊥
  asked_words outcome (run request) is e = run_words request.keep outcome request is e
  asked_words (Of outcome) (make request) is e = make_words outcome request is.0 e
  asked_words NotMade (make request) is e = apart_5_2 e
  asked_words NotKept (make request) is e = apart_5_2 e
  asked_words NotAJournal (make request) is e = apart_1_2 e
  asked_words NotRecovered (make request) is e = apart_4_2 e
  asked_words outcome (recover request) is e = recover_words outcome request is.0 e

  refused_words : (words : List (List ℕ)) (refusal : WordsRefusal) → RefusesWords words refusal → status_of (outcome_of_words refusal) ≡ 2 → ((request : Request) × IsTaken words request) → ⊥
  refused_words words word_refusals.BadWords never e = never
  refused_words words word_refusals.NoMemory never e = λ _. apart_3_2 e

  told_words : (words : List (List ℕ)) (outcome : KeptOutcome) (refusal : WordsRefusal) → outcome ≡ Of (outcome_of_words refusal) → (outcome ≡ Of BadWords) ⊎ (kept_status outcome ≡ 3)
  told_words words outcome word_refusals.BadWords is = inl is
  told_words words outcome word_refusals.NoMemory is = inr (ap kept_status is)

  pub words_told : (outcome : KeptOutcome) (words : List (List ℕ)) → IsEnd acknowledged outcome words old new left left' disk disk' → TellsBadWords words outcome
  words_told outcome words is = record {
    untaken = λ never. ⊎_elim
        (λ untaken. told_words words outcome untaken.refusal untaken.outcome_is)
        (λ taken. absurd (never (taken.0, taken.1)))
        is;
    bad = λ e. ⊎_elim
        (λ untaken. refused_words words untaken.refusal untaken.refused (sym (ap kept_status untaken.outcome_is) ∙ e))
        (λ taken. absurd (asked_words outcome taken.0 taken.2 e))
        is;
  }

module _ {D : Type 0} (moment : D → ℕ) (may_leave : D → List ℕ → Type 0) (left_since : D → ℕ → List ℕ → Type 0) where
  pub bad_words_told : BadWordsAreTold moment may_leave left_since
  bad_words_told now outcome words old new left left' disk disk' is = words_told (acknowledged_on moment may_leave left_since now) old new left left' disk disk' outcome words is
